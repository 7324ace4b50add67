-- What an accepted program has: the task that runs first, the numbers that are given to it, its limits, and bodies
-- that are short.
use Rattle.regent_tree.specs.declared.types.NumberTerm.TheVariants as number
use Rattle.code_rules.proofs.Bodies.{bodies_are_short}
use Rattle.regent_tree.specs.declared.types.TypeTerm.TheVariants as term
use Rattle.std.proofs.lemmas.Option.{get_or_from_slice_get, slice_get_within}
use Rattle.lane_kernels.specs.declared.numbers.Width.{Width}
use Rattle.regent_tree.specs.declared.program.Clause.{Clause}
use Rattle.regent_tree.specs.declared.typing.Bound.{Bound}
use Rattle.regent_tree.specs.declared.typing.StaticType.{StaticType}
use Rattle.regent_tree.specs.declared.types.TypeTerm.{TypeTerm}
use Rattle.regent_tree.specs.declared.types.Param.{Param}
use Rattle.code_rules.specs.Programs.{task_code}
use Rattle.code_rules.specs.Instructions.{place_of_task, tasks_of}
use Rattle.code_laws.proofs.Openings.{types_cons, types_in}
use Rattle.regent_tree.specs.Typing.{width_of_type}
use Rattle.code_rules.specs.Needs.{needs_of_clauses}
use Rattle.regent_tree.specs.Lookup.{is_task, has_task}
use Rattle.regent_tree.specs.Meaning.{inputs_of}
use Rattle.check_rules.specs.rules.Entries.{is_integer_term}
use Rattle.regent_tree.specs.Scopes.{bound_params}
use Rattle.regent_tree.specs.Values.{a_number}
use Rattle.regent_tree.specs.StaticTypes.{Looking, task_named, type_said}
use Rattle.regent_tree.specs.Limits.{KeepsLimit, Part, parts_of_items, parts_of_item, WithinLimits}
use Rattle.regent_tree.specs.Syntax.{ItemForm, ItemTree, Name, TaskTree, Tree, alias_item, import_item, space_item, start_item, task_item}
use Rattle.code_laws.specs.Standing.{AreTaken, IsOf, of_integer}
use Rattle.code_laws.specs.Simple.{IsInteger, an_integer}
use Rattle.lane_kernels.specs.Numbers.{FitsWidth}
use Rattle.regent_tree.proofs.Members.{Has}
use Rattle.scalar_form.specs.ScalarForm.{is_empty}
use Rattle.code_laws.specs.ScalarPrograms.{AreInputs}
use Rattle.code_laws.proofs.Typing.{AreKept, kept_left, kept_right, no_way_back}
use Rattle.std.proofs.Common.{◌≡◌, Bool, List, [], ◌∷◌, ◌++◌, Some, false, true, refl, ap, sym, subst, ℕ, suc, ◌+◌, ◌∙◌, inl, inr, not, ℤ, map, cond, arith, ◌<◌, ◌^◌}
use Rattle.std.specs.Prelude.{bytes_eq, length, slice_get, ◌||◌, All}
use Rattle.std.specs.List.{list_all}
use Rattle.std.proofs.lemmas.Bool.{and_parts}
use Rattle.std.proofs.lemmas.Slice.Eq.{bytes_eq-Decides}

-- ---- the entry task

-- the items of a list are such
pub all_of : (p : ItemTree → Bool) (items : Tree) → list_all p items ≡ true → (i : ItemTree) → Has items i → p i ≡ true
all_of p [] e i h = absurd h
all_of p (j ∷ items) e i (inl same) = subst (λ k. p k ≡ true) same (and_parts (p j) (list_all p items) e).0
all_of p (j ∷ items) e i (inr h) = all_of p items (and_parts (p j) (list_all p items) e).1 i h

-- a task that is there
pub record IsFound (tree : Tree) (n : Name) : Type 0 where
  pub stands : (item : ItemTree) × Has tree item × (item.form ≡ task_item (task_named tree n))
  pub at : slice_get (tasks_of tree) (place_of_task tree n) ≡ Some (task_named tree n)
  pub name : (task_named tree n).name ≡ n

module _ (n : Name) where
  later : (i : ItemTree) (items : Tree) → task_named (i ∷ items) n ≡ task_named items n → tasks_of (i ∷ items) ≡ tasks_of items →
      place_of_task (i ∷ items) n ≡ place_of_task items n → IsFound items n → IsFound (i ∷ items) n
  later i items same tasks place f = record {
    stands = (f.stands.0, inr f.stands.1, f.stands.2 ∙ ap task_item (sym same));
    at = ap (λ ts. slice_get ts (place_of_task (i ∷ items) n)) tasks ∙ ap (slice_get (tasks_of items)) place ∙ f.at ∙ ap Some (sym same);
    name = ap (λ (t : TaskTree). t.name) same ∙ f.name;
  }

  chosen : (line : ℕ) (t : TaskTree) (items : Tree) (b : Bool) → bytes_eq t.name n ≡ b →
      (is_task n (task_item t) || has_task items n) ≡ true → (has_task items n ≡ true → IsFound items n) →
      IsFound (record { line = line; form = task_item t } ∷ items) n
  chosen line t items true q e more = record {
    stands = (record { line = line; form = task_item t }, inl refl, ap (λ b. task_item (cond b t (task_named items n))) (sym q));
    at = ap (λ b. slice_get (t ∷ tasks_of items) (cond (not b) (1 + place_of_task items n) 0)) q
        ∙ ap (λ b. Some (cond b t (task_named items n))) (sym q);
    name = ap (λ b. (cond b t (task_named items n)).name) q ∙ (bytes_eq-Decides t.name n).0 q;
  }
  chosen line t items false q e more =
      let f = more (sym (ap (λ b. b || has_task items n) q) ∙ e) in
      let named : task_named (record { line = line; form = task_item t } ∷ items) n ≡ task_named items n =
      ap (λ b. cond b t (task_named items n)) q in
      let next : 1 + place_of_task items n ≡ suc (place_of_task items n) = omega (arith) in record {
        stands = (f.stands.0, inr f.stands.1, f.stands.2 ∙ ap task_item (sym named));
        at = ap (λ b. slice_get (t ∷ tasks_of items) (cond (not b) (1 + place_of_task items n) 0)) q
            ∙ ap (slice_get (t ∷ tasks_of items)) next ∙ f.at ∙ ap Some (sym named);
        name = ap (λ (u : TaskTree). u.name) named ∙ f.name;
      }

  by_form : (line : ℕ) (form : ItemForm) (items : Tree) → (is_task n form || has_task items n) ≡ true →
      (has_task items n ≡ true → IsFound items n) → IsFound (record { line = line; form = form } ∷ items) n
  by_form line import_item items e more = later (record { line = line; form = import_item }) items refl refl refl (more e)
  by_form line (alias_item m) items e more = later (record { line = line; form = alias_item m }) items refl refl refl (more e)
  by_form line (space_item s) items e more = later (record { line = line; form = space_item s }) items refl refl refl (more e)
  by_form line (start_item m) items e more = later (record { line = line; form = start_item m }) items refl refl refl (more e)
  by_form line (task_item t) items e more = chosen line t items (bytes_eq t.name n) refl e more

  pub found : (tree : Tree) → has_task tree n ≡ true → IsFound tree n
  found [] e = absurd (no_way_back e)
  found (i ∷ items) e = by_form i.line i.form items e (found items)

-- ---- types of parameters

abbrev pub AllIntegers : List StaticType → Type 0
AllIntegers [] = Unit {0}
AllIntegers (t ∷ ts) = IsInteger t × AllIntegers ts

abbrev pub AreIntegers : List Bound → Type 0
AreIntegers [] = Unit {0}
AreIntegers (b ∷ bs) = IsInteger b.static_type × AreIntegers bs

integers_behind : (bs : List Bound) (b : Bound) → AreIntegers bs → IsInteger b.static_type → AreIntegers (bs ++ b ∷ [])
integers_behind [] b a i = (i, tt)
integers_behind (c ∷ bs) b a i = (a.0, integers_behind bs b a.1 i)

types_behind : (ts : List StaticType) (t : StaticType) → AllIntegers ts → IsInteger t → AllIntegers (ts ++ t ∷ [])
types_behind [] t a i = (i, tt)
types_behind (u ∷ ts) t a i = (a.0, types_behind ts t a.1 i)

integer_said : (tree : Tree) (look : Looking) (own : ℕ) (t : TypeTerm) → is_integer_term t ≡ true → IsInteger (type_said tree look own t)
integer_said tree look own (term.Number number.Int32) e = an_integer _
integer_said tree look own (term.Number number.Int64) e = an_integer _
integer_said tree look own (term.Number (number.Index k)) e = absurd (no_way_back e)
integer_said tree look own term.Truth e = absurd (no_way_back e)
integer_said tree look own (term.Pointer p) e = absurd (no_way_back e)
integer_said tree look own (term.Ispace k) e = absurd (no_way_back e)
integer_said tree look own (term.Region k u) e = absurd (no_way_back e)
integer_said tree look own (term.Partition d r c) e = absurd (no_way_back e)

pub params_integers : (tree : Tree) (all : List Param) (i : ℕ) (ps : List Param) → list_all (λ (p : Param). is_integer_term p.term) ps ≡ true →
    AreIntegers (bound_params tree all i ps)
params_integers tree all i [] e = tt
params_integers tree all i (p ∷ ps) e =
    let both = and_parts (is_integer_term p.term) (list_all (λ (p : Param). is_integer_term p.term) ps) e in
    integers_behind (bound_params tree all (suc i) ps) _ (params_integers tree all (suc i) ps both.1)
    (integer_said tree _ _ p.term both.0)

pub types_integers : (bs : List Bound) → AreIntegers bs → AllIntegers (types_in bs)
types_integers [] a = tt
types_integers (b ∷ bs) a = subst AllIntegers (sym (types_cons b bs)) (types_behind (types_in bs) b.static_type (types_integers bs a.1) a.0)

one_taken : (t : StaticType) (z : ℤ) → IsInteger t → FitsWidth (width_of_type t) z → IsOf t (a_number (width_of_type t) z)
one_taken _ z (an_integer w) f = of_integer w z f

pub inputs_taken : (ts : List StaticType) (zs : List ℤ) → AllIntegers ts → AreInputs (map width_of_type ts) zs → AreTaken IsOf ts (inputs_of ts zs)
inputs_taken [] [] a i = tt
inputs_taken [] (z ∷ zs) a i = absurd i
inputs_taken (t ∷ ts) [] a i = absurd i
inputs_taken (t ∷ ts) (z ∷ zs) a i = (one_taken t z a.0 i.0, inputs_taken ts zs a.1 i.1)

pub inputs_count : (ws : List Width) (zs : List ℤ) → AreInputs ws zs → length zs ≡ length ws
inputs_count [] [] i = refl
inputs_count [] (z ∷ zs) i = absurd i
inputs_count (w ∷ ws) [] i = absurd i
inputs_count (w ∷ ws) (z ∷ zs) i = ap suc (inputs_count ws zs i.1)

-- ---- limits

pub kept_all : (ps : List Part) → All KeepsLimit ps → AreKept ps
kept_all [] a p h = absurd h
kept_all (q ∷ ps) a p (inl same) = subst KeepsLimit same (a 0 q (omega (arith)))
kept_all (q ∷ ps) a p (inr h) = kept_all ps (λ k d l. a (suc k) d (omega (arith, l))) p h

pub kept_item : (items : Tree) → AreKept (parts_of_items items) → (i : ItemTree) → Has items i → AreKept (parts_of_item i.form)
kept_item [] k i h = absurd h
kept_item (j ∷ items) k i (inl same) =
    subst (λ (x : ItemTree). AreKept (parts_of_item x.form)) same (kept_left (parts_of_item j.form) (parts_of_items items) k)
kept_item (j ∷ items) k i (inr h) = kept_item items (kept_right (parts_of_item j.form) (parts_of_items items) k) i h

-- ---- tasks

pub no_clauses : (tree : Tree) (t : TaskTree) → is_empty t.clauses ≡ true → (task_code tree t).needs ≡ []
no_clauses tree t e = by_clauses t.clauses e
  where
    by_clauses : (cs : List Clause) → is_empty cs ≡ true → needs_of_clauses tree t cs ≡ []
    by_clauses [] e = refl
    by_clauses (c ∷ cs) e = absurd (no_way_back e)

-- the body of a task that is there is short
pub short_body : (tree : Tree) (k : ℕ) (t : TaskTree) → WithinLimits tree → slice_get (tasks_of tree) k ≡ Some t →
    length (task_code tree t).body < 2 ^ 32
short_body tree k t within at =
    subst (λ u. length (task_code tree u).body < 2 ^ 32) (get_or_from_slice_get (tasks_of tree) k t t at)
    (bodies_are_short tree within k t (slice_get_within (tasks_of tree) k t at))
