-- The steps of an access: each field that is read is covered, and each element is a region or pointer as
-- its type says.
use Rattle.check_rules.proofs.Untold.{rule_none}
use Rattle.plain_values.proofs.Plain.{option_or_parts}
use Rattle.std.proofs.Common.{List, [], ◌∷◌, ◌++◌, Bool, None, Some, false, true, refl, ap, sym, ℕ, ℤ, zero, suc, pos, negsuc, ◌≡◌, ◌∙◌, ◌&&◌, not, inl, inr, get_or, map, cond}
use Rattle.std.proofs.lemmas.Bool.{and_parts, or_parts, not-false}
use Rattle.std.specs.List.{list_all}
use Rattle.std.specs.Prelude.{length, nat_lt}
use Rattle.plain_values.specs.Points.{has}
use Rattle.regent_tree.specs.Accesses.{aimed_in, aimed_through, read_field, take_child, take_element, take_field, take_point}
use Rattle.regent_tree.specs.Cover.{is_covered}
use Rattle.regent_tree.specs.Lookup.{has_field}
use Rattle.regent_tree.specs.Running.{Here, State, fault, given}
use Rattle.regent_tree.specs.Scopes.{bound_as}
use Rattle.regent_tree.specs.StaticTypes.{Reach, among_args, field_place, field_term, field_type, space_at}
use Rattle.regent_tree.specs.Store.{Touch}
use Rattle.regent_tree.specs.Syntax.{Expression, Name, TaskTree}
use Rattle.regent_tree.specs.Typing.{child_type, colour_of, has_wild, reaches_of, type_of_element, type_of_field}
use Rattle.regent_tree.specs.Values.{Partition, Region, Target, Value, a_pointer, a_region, no_region, null_target, point_target}
use Rattle.regent_tree.specs.declared.facts.Term.{Term}
use Rattle.regent_tree.specs.declared.facts.Term.TheVariants as term
use Rattle.regent_tree.specs.declared.outcome.FaultKind.TheVariants.{BadColor, OutOfRegion}
use Rattle.regent_tree.specs.declared.rights.Access.{Access}
use Rattle.regent_tree.specs.declared.rights.Access.TheVariants.{Read}
use Rattle.regent_tree.specs.declared.rights.Wanted.{Wanted}
use Rattle.regent_tree.specs.declared.types.Kind.{Kind}
use Rattle.regent_tree.specs.declared.typing.StaticType.{StaticType}
use Rattle.regent_tree.specs.declared.typing.StaticType.TheVariants.{Index as index_type, Integer as integer_type, Ispace as ispace_type, Nothing as no_type, Partition as partition_type, Pointer as pointer_type, Region as region_type, Truth as truth_type, Unknown as unknown_type}
use Rattle.regent_tree.proofs.Members.{Contains-from_Has, Has, Has-append_cases, Has-from_Contains, Has-map}
use Rattle.check_rules.specs.types.Declarations.{is_no_field_type}
use Rattle.check_rules.specs.first.FirstInExpressions.{first_of_reading, first_of_standing, first_of_taking}
use Rattle.check_rules.specs.rules.Names.{is_unknown_field}
use Rattle.check_rules.specs.rules.Pointers.{takes_of_wild}
use Rattle.check_rules.specs.rules.Privileges.{lacks, may_do, regions_named, rights_declared, wanted_of_step, wanting}
use Rattle.check_rules.specs.first.Rules.{first_in}
use Rattle.check_rules.specs.rules.Standing.{standing_in_step}
use Rattle.check_rules.specs.types.Params.{term_at}
use Rattle.check_rules.specs.types.TypedForms.{Taking, element_of, field_of}
use Rattle.check_rules.specs.types.Sorts.{is_region}
use Rattle.check_rules.specs.scopes.Sound.{IsSound, IsSoundTask}
use Rattle.check_rules.specs.rules.Types.{is_ill_typed_step}
use Rattle.check_rules.specs.declared.rule.Rule.TheVariants as rule
use Rattle.check_laws.specs.SoundScopes.{IsKnown, IsSoundScope}
use Rattle.check_laws.proofs.Parts.{contrary}
use Rattle.expression_laws.specs.Kinds.{ArgumentsInScope, AreArguments, GoInto, IsOfType, IsWellScoped, is_partition_of, is_pointer, is_region_of, is_space}
use Rattle.fact_laws.specs.Regions.{IsColour, Interpretation, StandsFor, child_at}
use Rattle.expression_laws.specs.Sound.{AreCovered, Instance, IsSoundPlace, IsSoundState, KeepsSound}
use Rattle.expression_laws.specs.Needs.{mode_of}
use Rattle.expression_laws.proofs.Covers.{may_covers}
use Rattle.expression_laws.proofs.Names.{field_args, kept_is, reached}
use Rattle.expression_laws.proofs.Operators.{chosen}

-- ---- lists

pub all_has : {A : Type 0} (p : A → Bool) (xs : List A) (y : A) → list_all p xs ≡ true → Has xs y → p y ≡ true
all_has p [] y e h = absurd h
all_has p (x ∷ xs) y e (inl is) = ap p (sym is) ∙ (and_parts (p x) _ e).0
all_has p (x ∷ xs) y e (inr h) = all_has p xs y (and_parts (p x) _ e).1 h

-- ---- what a pointer aims at

-- a pointer that hits goes into a region that a term of its type stands for
pub record IsAimed (m : Interpretation) (terms : List Reach) (r : Region) : Type 0 where
  pub term : Term
  pub named : Has (regions_named terms) term
  pub stands : StandsFor m term r

pub goes_into : (m : Interpretation) (terms : List Reach) (rs : List Region) (i n : ℕ) → GoInto m terms rs → has_wild terms ≡ false →
    has (get_or rs i no_region).points n ≡ true → IsAimed m terms (get_or rs i no_region)
goes_into m terms [] i n go w e = absurd cc
goes_into m [] (r ∷ rs) i n go w e = absurd go
goes_into m (None ∷ terms) (r ∷ rs) i n go w e = absurd cc
goes_into m (Some t ∷ terms) (r ∷ rs) zero n go w e = record { term = t; named = inl refl; stands = go.0 }
goes_into m (Some t ∷ terms) (r ∷ rs) (suc i) n go w e =
    let later = goes_into m terms rs i n go.1 w e in
    record { term = later.term; named = inr later.named; stands = later.stands }

-- ---- a place in a running task

module _ (task : TaskTree) (args : List Value) (roots : ℕ) (m : Interpretation) (h : Here) (sound : IsSound h.tree) (sound_task : IsSoundTask h.tree task)
    (scope : IsSoundScope h.scope) (well_scoped : IsWellScoped h.scope) (place : IsSoundPlace (record { tree = h.tree; calls = h.calls; task = task; args = args; roots = roots }) m h.scope) where
  abbrev x : Instance
  x = record { tree = h.tree; calls = h.calls; task = task; args = args; roots = roots }

  pub one_covered : (touches : List Touch) (t : Touch) → AreCovered x touches → is_covered h.tree roots task args t ≡ true → AreCovered x (touches ++ t ∷ [])
  one_covered touches t are is y c = elim (Has-append_cases touches (t ∷ []) y (Has-from_Contains (touches ++ t ∷ []) y c)) [
    | inl g ↦ are y (Contains-from_Has touches y g)
    | inr g ↦ elim g [ inl e ↦ ap (is_covered h.tree roots task args) (sym e) ∙ is | inr k ↦ absurd k ]
  ]

  -- what a step wants isn't lacking
  pub wanted_granted : (ws : List Wanted) (w : Wanted) → lacks h.tree task h.scope ws ≡ false → Has ws w →
      may_do (rights_declared h.tree task) h.scope.known w ≡ true
  wanted_granted ws w e g = all_has (may_do (rights_declared h.tree task) h.scope.known) ws w (not-false _ e) g

  -- where a field of a pointer is used without a breach, the use of what the pointer hits is covered
  pub use_covered : (a : Access) (k : Kind) (sp : ℕ) (types terms : List Reach) (f : Name) (rs : List Region) (i n : ℕ) →
      has_field h.tree sp f ≡ true → has_wild terms ≡ false →
      lacks h.tree task h.scope (wanted_of_step h.tree a (field_of (pointer_type k sp types terms) f)) ≡ false →
      GoInto m terms rs → has (get_or rs i no_region).points n ≡ true →
      is_covered h.tree roots task args (record { root = (get_or rs i no_region).root; field = field_place h.tree sp f; point = n; access = mode_of a }) ≡ true
  use_covered a k sp types terms f rs i n there wild lacking go e =
      let into = goes_into m terms rs i n go wild e in
      let ws = map (wanting (field_place h.tree sp f) a) (regions_named terms) in
      let all : lacks h.tree task h.scope ws ≡ false =
      sym (λ j. lacks h.tree task h.scope (cond (there j && not (wild j)) ws [])) ∙ lacking in
      let may = wanted_granted ws (wanting (field_place h.tree sp f) a into.term) all (Has-map (wanting (field_place h.tree sp f) a) (regions_named terms) into.term into.named) in
      may_covers x m h.scope sound_task place (wanting (field_place h.tree sp f) a into.term) (get_or rs i no_region)
      (get_or rs i no_region).root n into.stands (refl, e) may

  pub taking_parts : (taking : Taking) → first_of_taking h.tree taking ≡ None →
      (is_unknown_field h.tree taking ≡ false) × (is_ill_typed_step taking ≡ false) × (takes_of_wild taking ≡ false)
  taking_parts taking e =
      let a = option_or_parts _ _ e in
      let b = option_or_parts _ _ a.1 in
      let c = option_or_parts _ _ b.1 in
      (rule_none (is_unknown_field h.tree taking) rule.Name a.0, rule_none (is_ill_typed_step taking) rule.Type b.0, rule_none (takes_of_wild taking) rule.Pointer (option_or_parts _ _ c.1).0)

  pub taking_stands : (taking : Taking) → first_of_taking h.tree taking ≡ None → first_in (first_of_standing []) (standing_in_step taking) ≡ None
  taking_stands taking e =
      let a = option_or_parts _ _ e in
      let b = option_or_parts _ _ a.1 in
      (option_or_parts _ _ b.1).0

  -- a field of a field space that has it is declared with a type of values
  pub field_said : (sp : ℕ) (f : Name) → has_field h.tree sp f ≡ true → is_no_field_type (field_term h.tree sp (field_place h.tree sp f)) ≡ false
  field_said sp f there = (or_parts (is_no_field_type (term_at (space_at h.tree sp).fields (field_place h.tree sp f))) _ (sound.fields sp f there)).0

  -- reading a field of a pointer
  read_is : (k : Kind) (sp : ℕ) (types terms : List Reach) (f : Name) (t : Target) (rs : List Region) (u : State) →
      has_field h.tree sp f ≡ true → has_wild terms ≡ false →
      lacks h.tree task h.scope (wanted_of_step h.tree Read (field_of (pointer_type k sp types terms) f)) ≡ false →
      AreArguments h.scope types → GoInto m terms rs → IsSoundState x m h.scope u →
      KeepsSound x m h.scope (IsOfType m (field_type h.tree sp types f)) (read_field h (pointer_type k sp types terms) f (aimed_through rs t) u)
  read_is k sp types terms f null_target rs u there wild lacking are go st = record { covered = st.covered; depth = λ e. absurd cc }
  read_is k sp types terms f (point_target n zero) rs u there wild lacking are go st = record { covered = st.covered; depth = λ e. absurd cc }
  read_is k sp types terms f (point_target n (suc i)) rs u there wild lacking are go st = hit (has (get_or rs i no_region).points n) refl
    where
      hit : (b : Bool) → has (get_or rs i no_region).points n ≡ b →
          KeepsSound x m h.scope (IsOfType m (field_type h.tree sp types f)) (read_field h (pointer_type k sp types terms) f (aimed_in b (get_or rs i no_region) n) u)
      hit true e = (
        record {
          names = st.names;
          counted = st.counted;
          rooted = st.rooted;
          grown = st.grown;
          covered = one_covered u.touches _ st.covered (use_covered Read k sp types terms f rs i n there wild lacking go e);
        },
        kept_is m h.tree (among_args (space_at h.tree sp).params types) (field_term h.tree sp (field_place h.tree sp f)) _ _ (field_said sp f there)
            (reached m h.scope u.names well_scoped st.names (reaches_of (field_type h.tree sp types f))
            (field_args h.scope h.tree sp types f (field_said sp f there) are).1),
      )
      hit false e = record { covered = st.covered; depth = λ e. absurd cc }

  pub field_is : (t : StaticType) (f : Name) (v : Value) (u : State) → first_of_taking h.tree (field_of t f) ≡ None →
      first_of_reading h.tree task h.scope (field_of t f) ≡ None → IsKnown h.scope t → ArgumentsInScope h.scope t → IsOfType m t v → IsSoundState x m h.scope u →
      KeepsSound x m h.scope (IsOfType m (type_of_field h.tree t f)) (take_field h t f v u)
  field_is (pointer_type k sp types terms) f v u e r known are (is_pointer {t = t} {rs = rs} go) st =
      let parts = taking_parts (field_of (pointer_type k sp types terms) f) e in
      read_is k sp types terms f t rs u (not-false _ parts.0) parts.2 (rule_none _ rule.Read r) are go st
  field_is (partition_type d r p) f v u e q known are (is_partition_of same) st = (st, is_space)
  field_is (integer_type w) f v u e r known are is st = absurd (contrary (taking_parts (field_of (integer_type w) f) e).1)
  field_is truth_type f v u e r known are is st = absurd (contrary (taking_parts (field_of truth_type f) e).1)
  field_is (index_type k) f v u e r known are is st = absurd (contrary (taking_parts (field_of (index_type k) f) e).1)
  field_is (ispace_type k) f v u e r known are is st = absurd (contrary (taking_parts (field_of (ispace_type k) f) e).1)
  field_is (region_type k sp types t) f v u e r known are is st = absurd (contrary (taking_parts (field_of (region_type k sp types t) f) e).1)
  field_is no_type f v u e r known are is st = absurd (contrary (taking_parts (field_of no_type f) e).1)
  field_is unknown_type f v u e r known are is st = absurd (contrary known.known)

  pub field_args_in : (t : StaticType) (f : Name) → first_of_taking h.tree (field_of t f) ≡ None → ArgumentsInScope h.scope t → ArgumentsInScope h.scope (type_of_field h.tree t f)
  field_args_in (pointer_type k sp types terms) f e are =
      (field_args h.scope h.tree sp types f (field_said sp f (not-false _ (taking_parts (field_of (pointer_type k sp types terms) f) e).0)) are).0
  field_args_in (partition_type d r p) f e are = tt
  field_args_in (integer_type w) f e are = tt
  field_args_in truth_type f e are = tt
  field_args_in (index_type k) f e are = tt
  field_args_in (ispace_type k) f e are = tt
  field_args_in (region_type k sp types t) f e are = tt
  field_args_in no_type f e are = tt
  field_args_in unknown_type f e are = tt

  -- ---- elements

  child_is : (b : StaticType) (t : Term) (r : Region) → is_region b ≡ true → StandsFor m t r → IsOfType m (child_type b t) (a_region r)
  child_is (region_type k sp types q) t r e stands = is_region_of stands
  child_is (pointer_type k sp types terms) t r e stands = absurd cc
  child_is (partition_type d q p) t r e stands = absurd cc
  child_is (integer_type w) t r e stands = absurd cc
  child_is truth_type t r e stands = absurd cc
  child_is (index_type k) t r e stands = absurd cc
  child_is (ispace_type k) t r e stands = absurd cc
  child_is no_type t r e stands = absurd cc
  child_is unknown_type t r e stands = absurd cc

  point_is : (k : Kind) (sp : ℕ) (types : List Reach) (t : Term) (r : Region) (z : ℤ) (u : State) → StandsFor m t r → IsSoundState x m h.scope u →
      KeepsSound x m h.scope (IsOfType m (pointer_type k sp types (Some t ∷ []))) (take_point h r z u)
  point_is k sp types t r (pos n) u stands st =
      chosen x m h.scope (IsOfType m (pointer_type k sp types (Some t ∷ []))) (has r.points n) (given (a_pointer (point_target n 1) (r ∷ []))) (fault h OutOfRegion) u
      (st, is_pointer (stands, tt)) (record { covered = st.covered; depth = λ e. absurd cc })
  point_is k sp types t r (negsuc n) u stands st = record { covered = st.covered; depth = λ e. absurd cc }

  child_of_is : (parent p : ℕ) (q : Partition) (e : Expression) (z : ℤ) (u : State) → is_region (bound_as h.scope.names parent).static_type ≡ true →
      IsColour m (colour_of h.scope e) z → m.partition p ≡ q → IsSoundState x m h.scope u →
      KeepsSound x m h.scope (IsOfType m (child_type (bound_as h.scope.names parent).static_type (term.Child p (colour_of h.scope e)))) (take_child h q z u)
  child_of_is parent p q e (pos c) u placed colour same st =
      chosen x m h.scope _ (nat_lt c (length q.sets)) (given (a_region (record { root = q.root; points = get_or q.sets c [] }))) (fault h BadColor) u (
        st,
        child_is (bound_as h.scope.names parent).static_type (term.Child p (colour_of h.scope e)) _ placed
            (record { number = pos c; is_colour = colour; is_child = ap (λ y. child_at y (pos c)) same }),
      ) (record { covered = st.covered; depth = λ e. absurd cc })
  child_of_is parent p q e (negsuc c) u placed colour same st = record { covered = st.covered; depth = λ e. absurd cc }

  pub element_is : (t k : StaticType) (e : Expression) (z : ℤ) (v : Value) (u : State) → first_of_taking h.tree (element_of t k) ≡ None →
      IsKnown h.scope t → IsColour m (colour_of h.scope e) z → IsOfType m t v → IsSoundState x m h.scope u →
      KeepsSound x m h.scope (IsOfType m (type_of_element h.scope t e)) (take_element h z v u)
  element_is (region_type j sp types t) k e z v u none known colour (is_region_of {r = r} stands) st = point_is j sp types t r z u stands st
  element_is (partition_type d r p) k e z v u none known colour (is_partition_of {q = q} same) st = child_of_is r p q e z u known.placed.0 colour same st
  element_is (integer_type w) k e z v u none known colour is st = absurd (contrary (taking_parts (element_of (integer_type w) k) none).1)
  element_is truth_type k e z v u none known colour is st = absurd (contrary (taking_parts (element_of truth_type k) none).1)
  element_is (index_type j) k e z v u none known colour is st = absurd (contrary (taking_parts (element_of (index_type j) k) none).1)
  element_is (pointer_type j sp types terms) k e z v u none known colour is st = absurd (contrary (taking_parts (element_of (pointer_type j sp types terms) k) none).1)
  element_is (ispace_type j) k e z v u none known colour is st = absurd (contrary (taking_parts (element_of (ispace_type j) k) none).1)
  element_is no_type k e z v u none known colour is st = absurd (contrary (taking_parts (element_of no_type k) none).1)
  element_is unknown_type k e z v u none known colour is st = absurd (contrary known.known)

  child_args : (b : StaticType) (t : Term) → ArgumentsInScope h.scope b → ArgumentsInScope h.scope (child_type b t)
  child_args (region_type k sp types q) t are = are
  child_args (pointer_type k sp types terms) t are = tt
  child_args (partition_type d q p) t are = tt
  child_args (integer_type w) t are = tt
  child_args truth_type t are = tt
  child_args (index_type k) t are = tt
  child_args (ispace_type k) t are = tt
  child_args no_type t are = tt
  child_args unknown_type t are = tt

  pub element_args : (t : StaticType) (e : Expression) → ArgumentsInScope h.scope t → ArgumentsInScope h.scope (type_of_element h.scope t e)
  element_args (region_type k sp types t) e are = are
  element_args (partition_type d r p) e are = child_args (bound_as h.scope.names r).static_type (term.Child p (colour_of h.scope e)) (well_scoped r).args
  element_args (integer_type w) e are = tt
  element_args truth_type e are = tt
  element_args (index_type k) e are = tt
  element_args (pointer_type k sp types terms) e are = tt
  element_args (ispace_type k) e are = tt
  element_args no_type e are = tt
  element_args unknown_type e are = tt
