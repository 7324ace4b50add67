-- What is told of regions from place to place of a task's body: behind a place more is told, of what was bound behind it.
use Rattle.std.proofs.Common.{◌≡◌, ℕ, ◌<◌, ◌≤◌, List, [], ◌∷◌, ◌++◌, Bool, true, false, ◌⊎◌, inl, inr, ⊎_elim, Option, Some, None, refl, sym, ap, ◌∙◌, subst, arith}
use Rattle.std.specs.Prelude.{cond, ◌==◌}
use Rattle.std.proofs.lemmas.Bool.{ne_eqb}
use Rattle.std.proofs.lemmas.List.{append-nil, append_assoc}
use Rattle.std.proofs.lemmas.Option.{none-some}
use Rattle.regent_tree.proofs.Members.{Has, Has-append_cases}
use Rattle.regent_tree.specs.Scopes.{Scope, known_of_type, past, with_name}
use Rattle.regent_tree.specs.Syntax.{Arms, Block, Form, Initializer, Otherwise, Tree, a_statement, an_arm, assert_form, assign_form, both_initializer, by_field_initializer, call_form, do_form, either_initializer, else_block, equal_initializer, fill_form, for_in_form, for_to_form, if_form, image_initializer, no_arm, no_else, no_statement, plain_initializer, preimage_initializer, print_form, region_initializer, return_form, then_statement, var_form, while_form}
use Rattle.regent_tree.specs.StaticTypes.{Looking, type_said}
use Rattle.regent_tree.specs.Typing.{arithmetic_type, known_of_child, known_of_initializer, owned, scope_after, scope_after_arms, scope_after_block, scope_after_else, taken_from, type_of, var_type}
use Rattle.regent_tree.specs.declared.facts.Colour.{Colour}
use Rattle.regent_tree.specs.declared.facts.Known.{Known}
use Rattle.regent_tree.specs.declared.facts.Known.TheVariants.{Apart, Made, PartOf, Within}
use Rattle.regent_tree.specs.declared.facts.Term.TheVariants as place
use Rattle.regent_tree.specs.declared.types.NumberTerm.TheVariants as number
use Rattle.regent_tree.specs.declared.types.TypeTerm.{TypeTerm}
use Rattle.regent_tree.specs.declared.types.TypeTerm.TheVariants as term
use Rattle.regent_tree.specs.declared.typing.StaticType.{StaticType}
use Rattle.regent_tree.specs.declared.typing.StaticType.TheVariants.{Index as index_type, Integer as integer_type, Ispace as ispace_type, Nothing as no_type, Partition as partition_type, Pointer as pointer_type, Region as region_type, Truth as truth_type, Unknown as unknown_type}
use Rattle.code_laws.specs.Above.{cut_told, first_told, or_other, piece_told}

-- ---- the first fact that tells something

pub told_append : {A : Type 0} (f : Known → Option A) (ks more : List Known) → first_told f (ks ++ more) ≡ or_other (first_told f ks) (first_told f more)
told_append f [] more = refl
told_append {A = A} f (k ∷ ks) more = ap (or_other (f k)) (told_append f ks more) ∙ joined (f k) (first_told f ks)
  where
    joined : (a b : Option A) → or_other a (or_other b (first_told f more)) ≡ or_other (or_other a b) (first_told f more)
    joined (Some n) b = refl
    joined None b = refl

pub told_left : {A : Type 0} (f : Known → Option A) (ks more : List Known) (n : A) → first_told f ks ≡ Some n → first_told f (ks ++ more) ≡ Some n
told_left f ks more n e = told_append f ks more ∙ ap (λ o. or_other o (first_told f more)) e

pub told_right : {A : Type 0} (f : Known → Option A) (ks more : List Known) → first_told f ks ≡ None → first_told f (ks ++ more) ≡ first_told f more
told_right f ks more e = told_append f ks more ∙ ap (λ o. or_other o (first_told f more)) e

pub told_none : {A : Type 0} (f : Known → Option A) (ks : List Known) → ((k : Known) → Has ks k → f k ≡ None) → first_told f ks ≡ None
told_none f [] none = refl
told_none f (k ∷ ks) none = ap (λ o. or_other o (first_told f ks)) (none k (inl refl)) ∙ told_none f ks (λ d h. none d (inr h))

-- what all tell that tell something
pub told_only : (f : Known → Option ℕ) (ks : List Known) (n : ℕ) → ((k : Known) → Has ks k → (f k ≡ None) ⊎ (f k ≡ Some n)) → (k : Known) → Has ks k → f k ≡ Some n →
    first_told f ks ≡ Some n
told_only f [] n each k h e = absurd h
told_only f (d ∷ ks) n each k (inl same) e = ap (λ o. or_other o (first_told f ks)) (ap f same ∙ e)
told_only f (d ∷ ks) n each k (inr h) e = ⊎_elim
    (λ none. ap (λ o. or_other o (first_told f ks)) none ∙ told_only f ks n (λ c g. each c (inr g)) k h e)
    (λ some. ap (λ o. or_other o (first_told f ks)) some) (each d (inl refl))

-- ---- what is told behind a place

abbrev pub IsBehind : ℕ → Known → Type 0
IsBehind n (Within (place.Name a) b) = n ≤ a
IsBehind n (Within (place.Child p c) b) = ⊥
IsBehind n (Apart a b) = Unit {0}
IsBehind n (PartOf p r d) = n ≤ p
IsBehind n (Made s) = Unit {0}

pub behind_less : (n m : ℕ) (k : Known) → n ≤ m → IsBehind m k → IsBehind n k
behind_less n m (Within (place.Name a) b) l i = omega (arith, l, i)
behind_less n m (Within (place.Child p c) b) l i = i
behind_less n m (Apart a b) l i = tt
behind_less n m (PartOf p r d) l i = omega (arith, l, i)
behind_less n m (Made s) l i = tt

-- it tells nothing of what was bound before
pub cut_behind : (n i : ℕ) (k : Known) → i < n → IsBehind n k → cut_told i k ≡ None
cut_behind n i (Within (place.Name a) (place.Child p c)) l b = ap (λ d. cond d (Some p) None) (ne_eqb a i (λ e. omega (arith, l, b, e)))
cut_behind n i (Within (place.Name a) (place.Name c)) l b = refl
cut_behind n i (Within (place.Child p c) u) l b = absurd b
cut_behind n i (Apart a c) l b = refl
cut_behind n i (PartOf p r d) l b = refl
cut_behind n i (Made s) l b = refl

pub piece_untold : (n i : ℕ) (k : Known) → i < n → IsBehind n k → piece_told i k ≡ None
piece_untold n i (Within (place.Name a) (place.Child p c)) l b = ap (λ d. cond {A = Option (ℕ × Colour)} d (Some (p, c)) None) (ne_eqb a i (λ e. omega (arith, l, b, e)))
piece_untold n i (Within (place.Name a) (place.Name c)) l b = refl
piece_untold n i (Within (place.Child p c) u) l b = absurd b
piece_untold n i (Apart a c) l b = refl
piece_untold n i (PartOf p r d) l b = refl
piece_untold n i (Made s) l b = refl

-- where no partition is told, no part is
piece_unless : (i : ℕ) (k : Known) → cut_told i k ≡ None → piece_told i k ≡ None
piece_unless i (Within (place.Name a) (place.Child p c)) e = by (a == i) e
  where
    by : (b : Bool) → cond b (Some p) None ≡ None → cond {A = Option (ℕ × Colour)} b (Some (p, c)) None ≡ None
    by true e = absurd (none-some p (sym e))
    by false e = refl
piece_unless i (Within (place.Name a) (place.Name c)) e = refl
piece_unless i (Within (place.Child p c) u) e = refl
piece_unless i (Apart a c) e = refl
piece_unless i (PartOf p r d) e = refl
piece_unless i (Made s) e = refl

pub piece_none : (i : ℕ) (ks : List Known) → first_told (cut_told i) ks ≡ None → first_told (piece_told i) ks ≡ None
piece_none i [] e = refl
piece_none i (k ∷ ks) e = by (cut_told i k) refl (piece_none i ks) e
  where
    by : (o : Option ℕ) → cut_told i k ≡ o → (first_told (cut_told i) ks ≡ None → first_told (piece_told i) ks ≡ None) → or_other o (first_told (cut_told i) ks) ≡ None →
        first_told (piece_told i) (k ∷ ks) ≡ None
    by (Some n) same rest e = absurd (none-some n (sym e))
    by None same rest e = ap (λ o. or_other o (first_told (piece_told i) ks)) (piece_unless i k same) ∙ rest e

-- from one place to another
pub record Grows (s t : Scope) : Type 0 where
  pub more : List Known
  pub known : t.known ≡ s.known ++ more
  pub next : s.next ≤ t.next
  pub behind : (k : Known) → Has more k → IsBehind s.next k

-- up to the end of a body, of which all that is told is given
pub record ToldUpTo (total : List Known) (s : Scope) : Type 0 where
  pub more : List Known
  pub known : total ≡ s.known ++ more
  pub behind : (k : Known) → Has more k → IsBehind s.next k

pub all_told : (s : Scope) → ToldUpTo s.known s
all_told s = record { more = []; known = sym (append-nil s.known); behind = λ k h. absurd h }

pub told_before : (total : List Known) (s t : Scope) → Grows s t → ToldUpTo total t → ToldUpTo total s
told_before total s t a b = let l = a.next in record {
  more = a.more ++ b.more;
  known = b.known ∙ ap (λ ks. ks ++ b.more) a.known ∙ append_assoc s.known a.more b.more;
  behind = λ k h. ⊎_elim (λ g. a.behind k g) (λ g. behind_less s.next t.next k l (b.behind k g)) (Has-append_cases a.more b.more k h);
}

grows_none : (s t : Scope) → t.known ≡ s.known → s.next ≤ t.next → Grows s t
grows_none s t same less = record { more = []; known = same ∙ sym (append-nil s.known); next = less; behind = λ k h. absurd h }

grows_then : (s t u : Scope) → Grows s t → Grows t u → Grows s u
grows_then s t u a b = let p = a.next in let q = b.next in record {
  more = a.more ++ b.more;
  known = b.known ∙ ap (λ ks. ks ++ b.more) a.known ∙ append_assoc s.known a.more b.more;
  next = omega (arith, p, q);
  behind = λ k h. ⊎_elim (λ g. a.behind k g) (λ g. behind_less s.next t.next k p (b.behind k g)) (Has-append_cases a.more b.more k h);
}

-- a block that begins with the same facts
pub grows_past : (s first inner : Scope) → first.known ≡ s.known → s.next ≤ first.next → Grows first inner → Grows s (past s inner)
grows_past s first inner same less a = let l = a.next in record {
  more = a.more;
  known = a.known ∙ ap (λ ks. ks ++ a.more) same;
  next = omega (arith, l, less);
  behind = λ k h. behind_less s.next first.next k less (a.behind k h);
}

-- ---- variables

abbrev AllBehind : ℕ → List Known → Type 0
AllBehind n ks = (k : Known) → Has ks k → IsBehind n k

none_behind : (n : ℕ) → AllBehind n []
none_behind n k h = absurd h

one_behind : (n : ℕ) (k : Known) → IsBehind n k → AllBehind n (k ∷ [])
one_behind n k b d (inl e) = subst (IsBehind n) e b
one_behind n k b d (inr h) = absurd h

-- a partition's type has the number of its own
owned_behind : (n : ℕ) (t : StaticType) → AllBehind n (known_of_type (owned n t))
owned_behind n (partition_type d r p) = one_behind n (PartOf n r d) (omega arith)
owned_behind n (integer_type w) = none_behind n
owned_behind n truth_type = none_behind n
owned_behind n (index_type k) = none_behind n
owned_behind n (pointer_type k sp args rs) = none_behind n
owned_behind n (ispace_type k) = none_behind n
owned_behind n (region_type k sp args r) = none_behind n
owned_behind n no_type = none_behind n
owned_behind n unknown_type = none_behind n

said_behind : (tree : Tree) (look : Looking) (n : ℕ) (t : TypeTerm) → AllBehind n (known_of_type (type_said tree look n t))
said_behind tree look n (term.Number number.Int32) = none_behind n
said_behind tree look n (term.Number number.Int64) = none_behind n
said_behind tree look n (term.Number (number.Index k)) = none_behind n
said_behind tree look n term.Truth = none_behind n
said_behind tree look n (term.Pointer t) = none_behind n
said_behind tree look n (term.Ispace k) = none_behind n
said_behind tree look n (term.Region k s) = none_behind n
said_behind tree look n (term.Partition d r c) = one_behind n (PartOf n _ d) (omega arith)

type_behind : (tree : Tree) (s : Scope) (t : Option TypeTerm) (i : Option Initializer) → AllBehind s.next (known_of_type (var_type tree s t i))
type_behind tree s (Some t) i = said_behind tree _ s.next t
type_behind tree s None None = none_behind s.next
type_behind tree s None (Some (plain_initializer e)) = owned_behind s.next (type_of tree s e)
type_behind tree s None (Some (region_initializer e u)) = none_behind s.next
type_behind tree s None (Some (equal_initializer r e)) = one_behind s.next _ (omega arith)
type_behind tree s None (Some (by_field_initializer r f e)) = one_behind s.next _ (omega arith)
type_behind tree s None (Some (image_initializer a p r f)) = one_behind s.next _ (omega arith)
type_behind tree s None (Some (preimage_initializer a p r f)) = one_behind s.next _ (omega arith)
type_behind tree s None (Some (both_initializer p q)) = one_behind s.next _ (omega arith)
type_behind tree s None (Some (either_initializer p q)) = one_behind s.next _ (omega arith)

child_behind : (n : ℕ) (t : StaticType) → AllBehind n (known_of_child n t)
child_behind n (region_type k sp args (place.Child p c)) = one_behind n (Within (place.Name n) (place.Child p c)) (omega arith)
child_behind n (region_type k sp args (place.Name r)) = none_behind n
child_behind n (partition_type d r p) = none_behind n
child_behind n (integer_type w) = none_behind n
child_behind n truth_type = none_behind n
child_behind n (index_type k) = none_behind n
child_behind n (pointer_type k sp args rs) = none_behind n
child_behind n (ispace_type k) = none_behind n
child_behind n no_type = none_behind n
child_behind n unknown_type = none_behind n

start_behind : (tree : Tree) (s : Scope) (i : Option Initializer) → AllBehind s.next (known_of_initializer tree s s.next i)
start_behind tree s None = none_behind s.next
start_behind tree s (Some (plain_initializer e)) = child_behind s.next (type_of tree s e)
start_behind tree s (Some (region_initializer e u)) = one_behind s.next (Made s.next) tt
start_behind tree s (Some (equal_initializer r e)) = none_behind s.next
start_behind tree s (Some (by_field_initializer r f e)) = none_behind s.next
start_behind tree s (Some (image_initializer a p r f)) = none_behind s.next
start_behind tree s (Some (preimage_initializer a p r f)) = none_behind s.next
start_behind tree s (Some (both_initializer p q)) = none_behind s.next
start_behind tree s (Some (either_initializer p q)) = none_behind s.next

-- ---- statements

module _ (tree : Tree) where
  mutual
    pub form_grows : (s : Scope) (form : Form) → Grows s (scope_after tree s form)
    form_grows s (var_form n t i) = record {
      more = known_of_initializer tree s s.next i ++ known_of_type (var_type tree s t i);
      known = refl;
      next = omega arith;
      behind = λ k h. ⊎_elim (λ g. start_behind tree s i k g) (λ g. type_behind tree s t i k g)
          (Has-append_cases (known_of_initializer tree s s.next i) (known_of_type (var_type tree s t i)) k h);
    }
    form_grows s (if_form arms other) =
        grows_then s (scope_after_arms tree s arms) (scope_after_else tree (scope_after_arms tree s arms) other) (arms_grow s arms)
        (else_grows (scope_after_arms tree s arms) other)
    form_grows s (while_form test body) = grows_past s s (scope_after_block tree s body) refl (omega arith) (block_grows s body)
    form_grows s (for_in_form demanded n domain body) =
        let inner = with_name s n (taken_from (type_of tree s domain)) true in
        grows_past s inner (scope_after_block tree inner body) refl (omega arith) (block_grows inner body)
    form_grows s (for_to_form demanded n from to body) =
        let inner = with_name s n (arithmetic_type (type_of tree s from) (type_of tree s to)) true in
        grows_past s inner (scope_after_block tree inner body) refl (omega arith) (block_grows inner body)
    form_grows s (do_form body) = grows_past s s (scope_after_block tree s body) refl (omega arith) (block_grows s body)
    form_grows s (fill_form r fields x) = grows_none s s refl (omega arith)
    form_grows s (assert_form x) = grows_none s s refl (omega arith)
    form_grows s (print_form alias format args) = grows_none s s refl (omega arith)
    form_grows s (call_form t args) = grows_none s s refl (omega arith)
    form_grows s (assign_form n steps how x) = grows_none s s refl (omega arith)
    form_grows s (return_form x) = grows_none s s refl (omega arith)

    pub block_grows : (s : Scope) (b : Block) → Grows s (scope_after_block tree s b)
    block_grows s no_statement = grows_none s s refl (omega arith)
    block_grows s (then_statement (a_statement line form) rest) =
        grows_then s (scope_after tree s form) (scope_after_block tree (scope_after tree s form) rest) (form_grows s form) (block_grows (scope_after tree s form) rest)

    pub arms_grow : (s : Scope) (arms : Arms) → Grows s (scope_after_arms tree s arms)
    arms_grow s no_arm = grows_none s s refl (omega arith)
    arms_grow s (an_arm test body rest) =
        let behind = past s (scope_after_block tree s body) in
        grows_then s behind (scope_after_arms tree behind rest) (grows_past s s (scope_after_block tree s body) refl (omega arith) (block_grows s body))
        (arms_grow behind rest)

    pub else_grows : (s : Scope) (other : Otherwise) → Grows s (scope_after_else tree s other)
    else_grows s no_else = grows_none s s refl (omega arith)
    else_grows s (else_block body) = grows_past s s (scope_after_block tree s body) refl (omega arith) (block_grows s body)
