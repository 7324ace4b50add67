-- Where a program is accepted each task may be looked at by the rules: what is known where it begins is what its clauses
-- tell, and nothing is told of its body.
use Rattle.std.proofs.Common.{◌≡◌, ◌⊎◌, inl, inr, ⊎_elim, ℕ, suc, ◌+◌, ◌<◌, ◌≤◌, Option, List, [], ◌∷◌, ◌++◌, map, Bool, true, false, ◌&&◌, ◌||◌, cond, Some, refl, sym, ap, ◌∙◌, subst, arith}
use Rattle.std.specs.Prelude.{bytes_eq, length, nat_lt, slice_get}
use Rattle.std.specs.List.{list_any}
use Rattle.std.proofs.lemmas.Bool.{and_parts, lt-ltb, not-false, or_left, or_parts, or_right}
use Rattle.std.proofs.Math.Bool.{or-false}
use Rattle.regent_tree.specs.Lookup.{is_bound}
use Rattle.regent_tree.specs.Scopes.{bound_params, known_of_clause, known_of_clauses, known_of_params, known_of_type, scope_of}
use Rattle.regent_tree.specs.StaticTypes.{Looking, among_params, place_in, type_said}
use Rattle.regent_tree.specs.Syntax.{ItemTree, Name, TaskTree, Tree, task_item}
use Rattle.regent_tree.specs.declared.facts.Known.{Known}
use Rattle.regent_tree.specs.declared.facts.Known.TheVariants.{Within, Apart}
use Rattle.regent_tree.specs.declared.facts.Term.{Term}
use Rattle.regent_tree.specs.declared.facts.Term.TheVariants as term
use Rattle.regent_tree.specs.declared.program.Clause.{Clause}
use Rattle.regent_tree.specs.declared.program.Clause.TheVariants as clause
use Rattle.regent_tree.specs.declared.types.NumberTerm.TheVariants as number
use Rattle.regent_tree.specs.declared.types.Param.{Param}
use Rattle.regent_tree.specs.declared.types.TypeTerm.{TypeTerm}
use Rattle.regent_tree.specs.declared.types.TypeTerm.TheVariants as typed
use Rattle.regent_tree.specs.declared.typing.Bound.{Bound}
use Rattle.regent_tree.specs.declared.typing.StaticType.{StaticType}
use Rattle.regent_tree.specs.declared.typing.StaticType.TheVariants.{Integer as integer_type, Truth as truth_type, Index as index_type, Pointer as pointer_type, Ispace as ispace_type, Region as region_type, Partition as partition_type, Nothing as no_type, Unknown as unknown_type}
use Rattle.regent_tree.proofs.Members.{Contains-from_Has, Has, Has-append_cases, Has-map}
use Rattle.check_rules.specs.Breaches.{breaches}
use Rattle.check_rules.specs.rules.Clauses.{is_no_region, misdeclares}
use Rattle.check_rules.specs.scopes.Sound.{StandsIn}
use Rattle.check_rules.specs.types.Declarations.{params_bound}
use Rattle.check_rules.specs.types.Lookup.{names_a}
use Rattle.check_rules.specs.types.Sorts.{is_region}
use Rattle.check_laws.specs.MeantVisits.{meant_of_item}
use Rattle.check_laws.proofs.Bodies.{IsToldNone}
use Rattle.check_laws.proofs.Places.{places_are_without_breach}
use Rattle.code_rules.specs.Instructions.{tasks_of}
use Rattle.code_rules.specs.Programs.{task_code}
use Rattle.code_laws.proofs.KnownHeads.{head_begins, IsPair, IsPiece, KnowsFacts}
use Rattle.code_laws.proofs.LocalNames.{first_below}
use Rattle.code_laws.proofs.LocalTells.{params_tell as parts_tell}
use Rattle.code_laws.proofs.LocalTrees.{task_stands}
use Rattle.fit_rules.specs.Shapes.{Among, Each}
use Rattle.fit_rules.specs.Marks.{apart, Fact, in_slot, lies}
use Rattle.sound_code.specs.Ways.{none_begun, Tops, by_rules, opening_facts, told_by}
use Rattle.sound_code.proofs.Declaring.{has_among}
use Rattle.sound_code.proofs.Grounds.{HasSaid, IsPlaced, IsTold, Kept, OfType, tells_apart, tells_part, tells_within}
use Rattle.sound_code.proofs.Told.{ToldBlock}
use Rattle.expression_laws.proofs.Calls.{flat_has}

-- ---- parameters

-- a name of the bindings, or of the one behind
bound_or_last : (bs : List Bound) (b : Bound) (n : Name) → is_bound (bs ++ b ∷ []) n ≡ true → (is_bound bs n ≡ true) ⊎ (bytes_eq b.name n ≡ true)
bound_or_last [] b n e = inr (sym (or-false (bytes_eq b.name n)) ∙ e)
bound_or_last (c ∷ bs) b n e = chosen (bytes_eq c.name n) (bound_or_last bs b n) e
  where
    chosen : (d : Bool) → (is_bound (bs ++ b ∷ []) n ≡ true → (is_bound bs n ≡ true) ⊎ (bytes_eq b.name n ≡ true)) →
        (d || is_bound (bs ++ b ∷ []) n) ≡ true → ((d || is_bound bs n) ≡ true) ⊎ (bytes_eq b.name n ≡ true)
    chosen true more e = inl refl
    chosen false more e = more e

-- a name that is bound among parameters is one of them
bound_there : (tree : Tree) (all : List Param) (i : ℕ) (ps : List Param) (n : Name) → is_bound (bound_params tree all i ps) n ≡ true →
    list_any (λ (p : Param). bytes_eq p.name n) ps ≡ true
bound_there tree all i [] n e = e
bound_there tree all i (p ∷ ps) n e =
    ⊎_elim (λ h. or_right (bytes_eq p.name n) _ (bound_there tree all (suc i) ps n h))
    (λ h. or_left (bytes_eq p.name n) _ h) (bound_or_last (bound_params tree all (suc i) ps) _ n e)

type_placed : (params i : ℕ) (tree : Tree) (look : Looking) (t : TypeTerm) → OfType params i (type_said tree look i t)
type_placed params i tree look (typed.Number number.Int32) = tt
type_placed params i tree look (typed.Number number.Int64) = tt
type_placed params i tree look (typed.Number (number.Index k)) = tt
type_placed params i tree look typed.Truth = tt
type_placed params i tree look (typed.Pointer p) = tt
type_placed params i tree look (typed.Ispace k) = tt
type_placed params i tree look (typed.Region k u) = λ l. refl
type_placed params i tree look (typed.Partition d r c) = tt

placed_behind : (params : ℕ) (bs : List Bound) (b : Bound) → Each (IsPlaced params) bs → IsPlaced params b → Each (IsPlaced params) (bs ++ b ∷ [])
placed_behind params [] b a h = (h, tt)
placed_behind params (c ∷ bs) b a h = (a.0, placed_behind params bs b a.1 h)

params_placed : (params : ℕ) (tree : Tree) (all : List Param) (i : ℕ) (ps : List Param) → Each (IsPlaced params) (bound_params tree all i ps)
params_placed params tree all i [] = tt
params_placed params tree all i (p ∷ ps) = placed_behind params (bound_params tree all (suc i) ps) _ (params_placed params tree all (suc i) ps)
    (type_placed params i tree (among_params all) p.term)

-- regions of parameters are behind none
type_said_low : (params i : ℕ) (known : List Known) (tree : Tree) (look : Looking) (t : TypeTerm) → i < params → HasSaid params known (type_said tree look i t)
type_said_low params i known tree look (typed.Number number.Int32) l = tt
type_said_low params i known tree look (typed.Number number.Int64) l = tt
type_said_low params i known tree look (typed.Number (number.Index k)) l = tt
type_said_low params i known tree look typed.Truth l = tt
type_said_low params i known tree look (typed.Pointer p) l = tt
type_said_low params i known tree look (typed.Ispace k) l = tt
type_said_low params i known tree look (typed.Region k u) l = λ high. absurd (omega (arith, l, high))
type_said_low params i known tree look (typed.Partition d r c) l = tt

params_said : (params : ℕ) (known : List Known) (tree : Tree) (all : List Param) (i : ℕ) (ps : List Param) → i + length ps ≤ params → (b : Bound) →
    Has (bound_params tree all i ps) b → HasSaid params known b.static_type
params_said params known tree all i [] l b h = absurd h
params_said params known tree all i (p ∷ ps) l b h = ⊎_elim (params_said params known tree all (suc i) ps (omega (arith, l)) b)
    (λ a. ⊎_elim (λ e. subst (λ (c : Bound). HasSaid params known c.static_type) e (type_said_low params i known tree (among_params all) p.term (omega (arith, l))))
    (λ none. absurd none) a) (Has-append_cases (bound_params tree all (suc i) ps) _ b h)

abbrev IsNameTerm : Term → Type 0
IsNameTerm (term.Name i) = Unit {0}
IsNameTerm (term.Child p c) = ⊥

-- ---- what is known

type_tells : (params : ℕ) (up : ℕ → Option (ℕ × ℕ)) (ks : List Fact) (t : StaticType) (k : Known) → Has (known_of_type t) k → IsTold params up ks k
type_tells params up ks (partition_type d r p) k (inl e) = subst (IsTold params up ks) e (tells_part p r d)
type_tells params up ks (partition_type d r p) k (inr h) = absurd h
type_tells params up ks (integer_type w) k h = absurd h
type_tells params up ks truth_type k h = absurd h
type_tells params up ks (index_type c) k h = absurd h
type_tells params up ks (pointer_type c sp args rs) k h = absurd h
type_tells params up ks (ispace_type c) k h = absurd h
type_tells params up ks (region_type c sp args r) k h = absurd h
type_tells params up ks no_type k h = absurd h
type_tells params up ks unknown_type k h = absurd h

params_tell : (params : ℕ) (up : ℕ → Option (ℕ × ℕ)) (ks : List Fact) (bs : List Bound) (k : Known) → Has (known_of_params bs) k → IsTold params up ks k
params_tell params up ks [] k h = absurd h
params_tell params up ks (b ∷ bs) k h = ⊎_elim (params_tell params up ks bs k) (type_tells params up ks b.static_type k)
    (Has-append_cases (known_of_params bs) (known_of_type b.static_type) k h)

module _ (tree : Tree) (t : TaskTree) (h : IsToldNone tree t) (tops : Tops) where
  abbrev up : ℕ → Option (ℕ × ℕ)
  up = tops t

  abbrev params : ℕ
  params = length t.params

  abbrev ks : List Fact
  ks = opening_facts (by_rules none_begun t) tree t

  -- a name of a clause is a parameter
  param_low : (n : Name) → is_no_region (params_bound tree t.params) n ≡ false → place_in t.params n < params
  param_low n e =
      let named = and_parts _ _ (not-false (names_a is_region (params_bound tree t.params) n) e) in
      first_below (λ (p : Param). bytes_eq p.name n) t.params
      (bound_there tree t.params 0 t.params n (subst (λ bs. is_bound bs n ≡ true) h.sound_task.params named.0))

  names_low : (a b : Name) → (is_no_region (params_bound tree t.params) a || is_no_region (params_bound tree t.params) b) ≡ false →
      (place_in t.params a < params) × (place_in t.params b < params)
  names_low a b e =
      let parts = or_parts (is_no_region (params_bound tree t.params) a) (is_no_region (params_bound tree t.params) b) e in
      (param_low a parts.0, param_low b parts.1)

  -- the fact of two parameters that a constraint tells
  told_fact : (i j : ℕ) (f : Fact) → i < params → j < params → Has (cond (nat_lt i params && nat_lt j params) (f ∷ []) []) f
  told_fact i j f li lj = subst (λ y. Has (cond y (f ∷ []) []) f)
      (sym (ap (λ y. y && nat_lt j params) (lt-ltb i params li) ∙ lt-ltb j params lj)) (inl refl)

  fact_among : (k : Known) (f : Fact) → Has (scope_of tree t).known k → Has (told_by params k) f → Among ks f
  fact_among k f a b = has_among ks f (flat_has (told_by params) (scope_of tree t).known k f a b)

  -- what one clause tells
  clause_tells : (c : Clause) → misdeclares tree (params_bound tree t.params) c ≡ false → (k : Known) → Has (known_of_clause t.params c) k →
      Has (scope_of tree t).known k → IsTold params up ks k
  clause_tells (clause.Within a b) e k (inl same) there =
      let low = names_low a b e in
      let i = place_in t.params a in
      let j = place_in t.params b in
      let f = lies (in_slot i) (in_slot j) in
      subst (IsTold params up ks) same (tells_within i j low.0 low.1 (fact_among (Within (term.Name i) (term.Name j)) f
      (subst (Has (scope_of tree t).known) (sym same) there) (told_fact i j f low.0 low.1)))
  clause_tells (clause.Within a b) e k (inr i) there = absurd i
  clause_tells (clause.Apart a b) e k (inl same) there =
      let low = names_low a b e in
      let i = place_in t.params a in
      let j = place_in t.params b in
      let f = apart (in_slot i) (in_slot j) in
      subst (IsTold params up ks) same (tells_apart i j low.0 low.1 (fact_among (Apart (term.Name i) (term.Name j)) f
      (subst (Has (scope_of tree t).known) (sym same) there) (told_fact i j f low.0 low.1)))
  clause_tells (clause.Apart a b) e k (inr i) there = absurd i
  clause_tells (clause.Grants grants places) e k i there = absurd i

  clauses_tell : (cs : List Clause) → list_any (misdeclares tree (params_bound tree t.params)) cs ≡ false → (k : Known) → Has (known_of_clauses t.params cs) k →
      Has (scope_of tree t).known k → IsTold params up ks k
  clauses_tell [] e k i there = absurd i
  clauses_tell (c ∷ cs) e k i there =
      let parts = or_parts (misdeclares tree (params_bound tree t.params) c) _ e in
      ⊎_elim (λ a. clause_tells c parts.0 k a there) (λ a. clauses_tell cs parts.1 k a there)
      (Has-append_cases (known_of_clause t.params c) (known_of_clauses t.params cs) k i)

  -- what is known where the body begins
  begun : (k : Known) → Has (scope_of tree t).known k → IsTold params up ks k
  begun k i = ⊎_elim (params_tell params up ks (scope_of tree t).names k) (λ c. clauses_tell t.clauses h.sound_task.clauses k c i)
      (Has-append_cases (known_of_params (scope_of tree t).names) (known_of_clauses t.params t.clauses) k i)

  opening_head : KnowsFacts tree t (scope_of tree t)
  opening_head = head_begins tree t h.sound_task (parts_tell tree t h.scope.numbers)

  pub begins_kept : ((i : ℕ) (k : ℕ × ℕ) → up i ≡ Some k → k.1 ≤ i) → Kept (task_code tree t) tops t tree params (scope_of tree t)
  begins_kept falls = record {
    sound = h.sound;
    sound_task = h.sound_task;
    needs = refl;
    many = refl;
    known = begun;
    begins = λ i p c a. ⊎_elim (λ (q : IsPair tree t (term.Name i) (term.Child p c)). absurd (subst IsNameTerm (sym q.is_upper) tt))
        (λ (q : IsPiece t (scope_of tree t) (term.Name i) (term.Child p c)). let high = q.high in let low = q.low in absurd (omega (arith, high, low)))
        (opening_head.within (term.Name i) (term.Child p c) (Contains-from_Has (scope_of tree t).known _ a));
    said = λ b a. params_said params (scope_of tree t).known tree t.params 0 t.params (omega arith) b a;
    falls = falls;
    begun = begun;
    next = omega arith;
    placed = params_placed params tree t.params 0 t.params;
    head = opening_head;
  }

-- ---- bodies

pub stands_in : (tree : Tree) (k : ℕ) (t : TaskTree) → slice_get (tasks_of tree) k ≡ Some t → StandsIn tree t
stands_in tree k t at =
    let s = task_stands tree k t at in
    Contains-from_Has (map (λ (i : ItemTree). i.form) tree) (task_item t)
    (subst (Has (map (λ (i : ItemTree). i.form) tree)) s.2 (Has-map (λ (i : ItemTree). i.form) tree s.0 s.1))

pub body_without_breach : (tree : Tree) → breaches tree ≡ [] → (k : ℕ) (t : TaskTree) → slice_get (tasks_of tree) k ≡ Some t →
    ToldBlock (by_rules none_begun t) tree (scope_of tree t) t.body
body_without_breach tree none k t at v h =
    let s = task_stands tree k t at in
    places_are_without_breach tree v none (Contains-from_Has _ v
    (flat_has (λ (i : ItemTree). meant_of_item tree i.form) tree s.0 v s.1 (subst (λ form. Has (meant_of_item tree form) v) (sym s.2) h)))
