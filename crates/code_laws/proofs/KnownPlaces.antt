-- What is known from place to place of a task's body: behind a place nothing more is known but what is new there.
use Rattle.std.proofs.Common.{◌≡◌, Bool, List, [], ◌∷◌, ◌++◌, None, Some, false, true, refl, ap, sym, subst, ℕ, ◌≤◌, ◌∙◌, cond, arith, ◌⊎◌, inl, inr, ⊎_elim, Option}
use Rattle.std.proofs.lemmas.Bool.{eq-eqb, ne_eqb}
use Rattle.std.proofs.lemmas.List.{append-nil}
use Rattle.regent_tree.proofs.Members.{Contains-from_Has, Has, Has-append_cases, Has-append_left, Has-append_right, Has-from_Contains}
use Rattle.regent_tree.specs.Scopes.{Scope, knowing, known_of_type, past, with_name}
use Rattle.regent_tree.specs.Syntax.{Name, TaskTree, Tree}
use Rattle.regent_tree.specs.declared.facts.Colour.{Colour}
use Rattle.regent_tree.specs.declared.facts.Known.{Known}
use Rattle.regent_tree.specs.declared.facts.Known.TheVariants.{Apart, Made, PartOf, Within}
use Rattle.regent_tree.specs.declared.facts.Term.{Term}
use Rattle.regent_tree.specs.declared.facts.Term.TheVariants as place
use Rattle.regent_tree.specs.declared.typing.StaticType.{StaticType}
use Rattle.code_laws.specs.Above.{cut_told, first_told, or_other, piece_told, whole_told}
use Rattle.code_laws.proofs.Told.{IsBehind, cut_behind, piece_none, told_left, told_none, told_right}
use Rattle.check_laws.specs.SoundScopes.{Falls}
use Rattle.regent_tree.specs.declared.typing.Bound.{Bound}
use Rattle.regent_tree.specs.declared.typing.StaticType.TheVariants.{Partition as partition_type}
use Rattle.code_laws.proofs.LocalValues.{found_among}
use Rattle.code_laws.proofs.KnownHeads.{IsMadeHere, IsName, IsPair, IsPartHere, IsPiece, IsToldHere, KnowsFacts, number_in}

-- a fact that is told at a place is told behind it, where names that came have numbers of their own
told_behind : (s u : Scope) (more : List Known) → u.known ≡ s.known ++ more → s.next ≤ u.next → ((b : Bound) → Has u.names b → Has s.names b ⊎ (b.number ≡ s.next)) →
    (k : Known) → IsToldHere s k → IsToldHere u k
told_behind s u more known less names (Within a b) told = tt
told_behind s u more known less names (Apart a b) told = tt
told_behind s u more known less names (Made i) told = tt
told_behind s u more known less names (PartOf p r d) told =
    let low = told.low in record {
      low = omega (arith, low, less);
      one = λ b h e. ⊎_elim (λ old. told.one b old e) (λ new. absurd (omega (arith, low, new, e))) (names b h);
      told = ap (first_told (whole_told p)) known ∙ told_left (whole_told p) s.known more r told.told;
    }

-- so is what began as a part, and what was made
piece_behind : {task : TaskTree} {a b : Term} (s u : Scope) (more : List Known) → u.known ≡ s.known ++ more → s.next ≤ u.next → IsPiece task s a b → IsPiece task u a b
piece_behind s u more known less p = let low = p.low in record {
  own = p.own;
  cut = p.cut;
  colour = p.colour;
  is_lower = p.is_lower;
  is_upper = p.is_upper;
  high = p.high;
  low = omega (arith, low, less);
  told = ap (first_told (cut_told p.own)) known ∙ told_left (cut_told p.own) s.known more p.cut p.told;
  piece = ap (first_told (piece_told p.own)) known ∙ told_left (piece_told p.own) s.known more (p.cut, p.colour) p.piece;
}

made_behind : {task : TaskTree} (s u : Scope) (more : List Known) (i : ℕ) → u.known ≡ s.known ++ more → s.next ≤ u.next → ((k : Known) → Has more k → IsBehind s.next k) →
    IsMadeHere task s i → IsMadeHere task u i
made_behind s u more i known less behind made = let low = made.low in record {
  high = made.high;
  low = omega (arith, low, less);
  whole = ap (first_told (cut_told i)) known ∙ told_right (cut_told i) s.known more made.whole
      ∙ told_none (cut_told i) more (λ k h. cut_behind s.next i k low (behind k h));
}

-- nothing is told yet of the next number
cut_none : {tree : Tree} {task : TaskTree} {s : Scope} → KnowsFacts tree task s → first_told (cut_told s.next) s.known ≡ None
cut_none {tree = tree} {task = task} {s = s} h = told_none (cut_told s.next) s.known (λ k c. by k c)
  where
    by_name : (a : ℕ) (b : Term) → IsPair tree task (place.Name a) b ⊎ IsPiece task s (place.Name a) b → cut_told s.next (Within (place.Name a) b) ≡ None
    by_name a (place.Name c) p = refl
    by_name a (place.Child q c) (inl p) = absurd (subst IsName (sym p.is_upper) tt)
    by_name a (place.Child q c) (inr p) =
        let low = p.low in let same : a ≡ p.own = ap number_in p.is_lower in
        ap (λ d. cond d (Some q) None) (ne_eqb a s.next (λ e. omega (arith, low, same, e)))

    by : (k : Known) → Has s.known k → cut_told s.next k ≡ None
    by (Within (place.Name a) b) c = by_name a b (h.within (place.Name a) b (Contains-from_Has s.known (Within (place.Name a) b) c))
    by (Within (place.Child p f) b) c = refl
    by (Apart a b) c = refl
    by (PartOf p r d) c = refl
    by (Made i) c = refl

whole_none : {tree : Tree} {task : TaskTree} {s : Scope} → KnowsFacts tree task s → first_told (whole_told s.next) s.known ≡ None
whole_none {s = s} h = told_none (whole_told s.next) s.known (λ k c. by k c)
  where
    by : (k : Known) → Has s.known k → whole_told s.next k ≡ None
    by (PartOf p r d) c = let low = (h.parts (PartOf p r d) c).low in ap (λ d. cond d (Some r) None) (ne_eqb p s.next (λ e. omega (arith, low, e)))
    by (Within a b) c = refl
    by (Apart a b) c = refl
    by (Made i) c = refl

-- a fact that is new at a place
abbrev IsNew : TaskTree → Scope → ℕ → Known → Type 0
IsNew task u own (Within a b) = (a ≡ place.Name own) × IsPiece task u a b
IsNew task u own (Apart a b) = Unit {0}
IsNew task u own (PartOf p r d) = (p ≡ own) × IsPartHere u p r d
IsNew task u own (Made i) = IsMadeHere task u i

new_behind : (task : TaskTree) (u : Scope) (own : ℕ) (k : Known) → IsNew task u own k → IsBehind own k
new_behind task u own (Within a b) n = subst (λ a. IsBehind own (Within a b)) (sym n.0) (omega arith)
new_behind task u own (Apart a b) n = tt
new_behind task u own (PartOf p r d) n = let same = n.0 in omega (arith, same)
new_behind task u own (Made i) n = tt

-- a name that is new there: what its type tells is known
abbrev IsNext : Scope → ℕ → Bound → Type 0
IsNext u own b = (b.number ≡ own) × ((k : Known) → Has (known_of_type b.static_type) k → Has u.known k)

-- behind a place nothing more is known but what is new there
head_behind : (tree : Tree) (task : TaskTree) (s u : Scope) (more : List Known) → KnowsFacts tree task s → u.known ≡ s.known ++ more → s.next ≤ u.next →
    ((b : Bound) → Has u.names b → Has s.names b ⊎ IsNext u s.next b) → ((k : Known) → Has more k → IsNew task u s.next k) → KnowsFacts tree task u
head_behind tree task s u more h known less names new = record {
  within = λ a b c. ⊎_elim
      (λ old. ⊎_elim (λ p. inl p) (λ p. inr (piece_behind s u more known less p)) (h.within a b (Contains-from_Has s.known (Within a b) old)))
      (λ n. inr (new (Within a b) n).1) (cases (Within a b) (Has-from_Contains u.known (Within a b) c));
  made = λ i c. ⊎_elim
      (λ old. made_behind s u more i known less (λ k d. new_behind task u s.next k (new k d)) (h.made i (Contains-from_Has s.known (Made i) old)))
      (λ n. new (Made i) n) (cases (Made i) (Has-from_Contains u.known (Made i) c));
  parts = λ k c. ⊎_elim (λ old. told_behind s u more known less (λ b d. ⊎_elim (λ old. inl old) (λ own. inr own.0) (names b d)) k (h.parts k old)) (λ n. by_kind k (new k n)) (cases k c);
  cuts = λ b d k g. ⊎_elim (λ old. subst (λ ks. Has ks k) (sym known) (Has-append_left s.known more k (h.cuts b old k g))) (λ own. own.1 k g) (names b d);
  next = let l = h.next in omega (arith, l, less);
}
  where
    cases : (k : Known) → Has u.known k → Has s.known k ⊎ Has more k
    cases k c = Has-append_cases s.known more k (subst (λ ks. Has ks k) known c)

    by_kind : (k : Known) → IsNew task u s.next k → IsToldHere u k
    by_kind (Within a b) n = tt
    by_kind (Apart a b) n = tt
    by_kind (Made i) n = tt
    by_kind (PartOf p r d) n = n.1

-- behind a block the names are those before it
told_past : (s inner : Scope) → ((b : Bound) → Has s.names b → Has inner.names b) → (k : Known) → IsToldHere inner k → IsToldHere (past s inner) k
told_past s inner names (Within a b) told = tt
told_past s inner names (Apart a b) told = tt
told_past s inner names (Made i) told = tt
told_past s inner names (PartOf p r d) told = record { low = told.low; one = λ b h e. told.one b (names b h) e; told = told.told }

pub head_past : (tree : Tree) (task : TaskTree) (s inner : Scope) → ((b : Bound) → Has s.names b → Has inner.names b) → KnowsFacts tree task inner →
    KnowsFacts tree task (past s inner)
head_past tree task s inner names h = record {
  within = λ a b c. ⊎_elim (λ p. inl p) (λ p. inr (piece_past a b p)) (h.within a b c);
  made = λ i c. let d = h.made i c in record { high = d.high; low = d.low; whole = d.whole };
  parts = λ k c. told_past s inner names k (h.parts k c);
  cuts = λ b d k g. h.cuts b (names b d) k g;
  next = h.next;
}
  where
    piece_past : (a b : Term) → IsPiece task inner a b → IsPiece task (past s inner) a b
    piece_past a b p =
        record { own = p.own; cut = p.cut; colour = p.colour; is_lower = p.is_lower; is_upper = p.is_upper; high = p.high; low = p.low; told = p.told; piece = p.piece }

-- one more name has a number of its own
one_more : (s u : Scope) (n : Name) (t : StaticType) (by_loop : Bool) → ((k : Known) → Has (known_of_type t) k → Has u.known k) →
    (b : Bound) → Has (with_name s n t by_loop).names b → Has s.names b ⊎ IsNext u s.next b
one_more s u n t by_loop tells b (inl same) =
    inr (sym (ap (λ (c : Bound). c.number) same), λ k g. tells k (subst (λ (c : Bound). Has (known_of_type c.static_type) k) (sym same) g))
one_more s u n t by_loop tells b (inr h) = inl h

-- where the type of a new name tells nothing
nothing_told : (s u : Scope) (n : Name) (t : StaticType) (by_loop : Bool) → known_of_type t ≡ [] → (b : Bound) → Has (with_name s n t by_loop).names b →
    Has s.names b ⊎ IsNext u s.next b
nothing_told s u n t by_loop none = one_more s u n t by_loop (λ k g. absurd (subst (λ ks. Has ks k) none g))

pub head_looping : (tree : Tree) (task : TaskTree) (s : Scope) (n : Name) (t : StaticType) → known_of_type t ≡ [] → KnowsFacts tree task s → KnowsFacts tree task (with_name s n t true)
head_looping tree task s n t none h =
    head_behind tree task s (with_name s n t true) [] h (sym (append-nil s.known)) (omega (arith)) (nothing_told s (with_name s n t true) n t true none) (λ k a. absurd a)

-- one more name, with which nothing is known, or that a region was made
pub head_named : (tree : Tree) (task : TaskTree) (s : Scope) (n : Name) (t : StaticType) (more : List Known) → known_of_type t ≡ [] → KnowsFacts tree task s → more ≡ [] →
    KnowsFacts tree task (knowing (with_name s n t false) more)
head_named tree task s n t more own h none = head_behind tree task s (knowing (with_name s n t false) more) more h refl (omega (arith))
    (nothing_told s (knowing (with_name s n t false) more) n t false own)
    (λ k a. absurd (subst (λ ks. Has ks k) none a))

pub head_made : (tree : Tree) (task : TaskTree) (s : Scope) (n : Name) (t : StaticType) → known_of_type t ≡ [] → KnowsFacts tree task s →
    KnowsFacts tree task (knowing (with_name s n t false) (Made s.next ∷ []))
head_made tree task s n t none h = head_behind tree task s u (Made s.next ∷ []) h refl (omega (arith)) (nothing_told s u n t false none)
    (λ k a. ⊎_elim (λ same. subst (IsNew task u s.next) same own) (λ none. absurd none) a)
  where
    u : Scope
    u = knowing (with_name s n t false) (Made s.next ∷ [])

    own : IsMadeHere task u s.next
    own = record { high = h.next; low = omega (arith); whole = told_right (cut_told s.next) s.known (Made s.next ∷ []) (cut_none h) }

-- or one that begins as a part
pub head_piece : (tree : Tree) (task : TaskTree) (s : Scope) (n : Name) (t : StaticType) (p : ℕ) (c : Colour) → known_of_type t ≡ [] → KnowsFacts tree task s →
    KnowsFacts tree task (knowing (with_name s n t false) (Within (place.Name s.next) (place.Child p c) ∷ []))
head_piece tree task s n t p c none h = head_behind tree task s u more h refl (omega (arith)) (nothing_told s u n t false none)
    (λ k a. ⊎_elim (λ same. subst (IsNew task u s.next) same (refl, own)) (λ none. absurd none) a)
  where
    more : List Known
    more = Within (place.Name s.next) (place.Child p c) ∷ []

    u : Scope
    u = knowing (with_name s n t false) more

    own : IsPiece task u (place.Name s.next) (place.Child p c)
    own = record {
      own = s.next;
      cut = p;
      colour = c;
      is_lower = refl;
      is_upper = refl;
      high = h.next;
      low = omega (arith);
      told = told_right (cut_told s.next) s.known more (cut_none h) ∙ ap (λ d. or_other (cond d (Some p) None) None) (eq-eqb s.next s.next refl);
      piece = told_right (piece_told s.next) s.known more (piece_none s.next s.known (cut_none h))
          ∙ ap (λ d. or_other (cond {A = Option (ℕ × Colour)} d (Some (p, c)) None) None) (eq-eqb s.next s.next refl);
    }

-- or one of a partition, of which is known of which region it is
pub head_cut : (tree : Tree) (task : TaskTree) (s : Scope) (n : Name) (d : Bool) (r : ℕ) → Falls s.next s.names → KnowsFacts tree task s →
    KnowsFacts tree task (knowing (with_name s n (partition_type d r s.next) false) (PartOf s.next r d ∷ []))
head_cut tree task s n d r falls h = head_behind tree task s u (PartOf s.next r d ∷ []) h refl (omega (arith))
    (one_more s u n t false (λ k g. Has-append_right s.known (PartOf s.next r d ∷ []) k g))
    (λ k a. ⊎_elim (λ same. subst (IsNew task u s.next) same (refl, own)) (λ none. absurd none) a)
  where
    t : StaticType
    t = partition_type d r s.next

    u : Scope
    u = knowing (with_name s n t false) (PartOf s.next r d ∷ [])

    typed : (b : Bound) → Has u.names b → b.number ≡ s.next → b.static_type ≡ t
    typed b (inl same) e = sym (ap (λ (c : Bound). c.static_type) same)
    typed b (inr old) e = let less = (found_among s.next s.names b falls old).1 in absurd (omega (arith, less, e))

    own : IsPartHere u s.next r d
    own = record {
      low = omega (arith);
      one = typed;
      told = told_right (whole_told s.next) s.known (PartOf s.next r d ∷ []) (whole_none h)
          ∙ ap (λ d. or_other (cond d (Some r) None) None) (eq-eqb s.next s.next refl);
    }
