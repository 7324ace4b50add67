-- The heads of statements, and variables, of which no breach is told, are typed.
use Rattle.std.proofs.Common.{inr, ⊎_elim, ◌≡◌, Bool, [], ◌∷◌, ◌++◌, None, Option, Some, false, true, ap, sym, subst, ℕ, ◌∙◌, refl, cond}
use Rattle.std.proofs.lemmas.Bool.{or_parts}
use Rattle.plain_values.proofs.Plain.{option_or_parts}
use Rattle.regent_tree.specs.Limits.{parts_of_expression}
use Rattle.regent_tree.specs.Scopes.{Scope, known_of_type, in_scope}
use Rattle.regent_tree.specs.Syntax.{Expression, Initializer, Name, TaskTree, Tree, plain_initializer, var_form}
use Rattle.regent_tree.specs.Accesses.{space_in}
use Rattle.regent_tree.specs.Typing.{known_of_child, owned, reaches_of, result_type, scope_after, type_of, var_type, is_pointer}
use Rattle.regent_tree.specs.declared.types.TypeTerm.{TypeTerm}
use Rattle.regent_tree.specs.declared.typing.StaticType.{StaticType}
use Rattle.regent_tree.specs.declared.facts.Term.TheVariants as place
use Rattle.regent_tree.specs.declared.types.NumberTerm.TheVariants as number
use Rattle.regent_tree.specs.declared.types.TypeTerm.TheVariants as term
use Rattle.check_laws.proofs.Blocks.{head_known}
use Rattle.check_laws.proofs.Variables.{parts_of_form as told_of_form}
use Rattle.check_laws.specs.SoundScopes.{IsSoundScope, Falls}
use Rattle.check_rules.specs.first.FirstInExpressions.{first_in_expression, first_in_type}
use Rattle.check_rules.specs.first.FirstInStatements.{first_of_form}
use Rattle.check_rules.specs.rules.Standing.{Spot, stands, integer_spot, space_spot, truth_spot}
use Rattle.check_rules.specs.rules.Types.{may_stand}
use Rattle.check_rules.specs.scopes.Sound.{IsSound, IsSoundTask}
use Rattle.check_rules.specs.scopes.Variables.{declared_type, members_of}
use Rattle.check_rules.specs.types.KnownTypes.{known_type}
use Rattle.code_rules.specs.Slots.{Where, typed}
use Rattle.code_laws.specs.WrittenForms.{is_written_expression}
use Rattle.code_laws.specs.Handing.{forms_by}
use Rattle.code_laws.specs.Simple.{IsSimple, IsInteger, IsSpace, IsTruth}
use Rattle.code_laws.specs.Steps.{Forms}
use Rattle.code_laws.specs.Typed.{IsTyped, IsTypedForm, IsKeepable}
use Rattle.code_laws.proofs.Wider.{begun_so}
use Rattle.code_laws.proofs.KnownHeads.{IsReady, KnowsFacts}
use Rattle.code_laws.proofs.KnownPlaces.{head_named}
use Rattle.code_laws.proofs.LocalPoints.{IsWell}
use Rattle.code_laws.proofs.LocalNames.{IsKept, IsLocalTree, kept_value}
use Rattle.code_laws.proofs.Typing.{AreKept, no_way, no_way_back}
use Rattle.code_laws.proofs.LocalValues.{IsValue, among_there, owned_value, simple_keepable, value_pointer, value_simple, value_tells, goals_aims, goals_among, value_integer, value_space, value_truth}
use Rattle.code_laws.specs.Pointers.{AreThere, IsPointer, a_pointer_type, AreNames}
use Rattle.code_laws.proofs.LocalElements.{points_by_form}
use Rattle.code_laws.proofs.LocalArguments.{IsArgument, well_of}
use Rattle.check_rules.specs.types.Declarations.{is_no_result_type}
use Rattle.code_laws.proofs.LocalExpressions.{local_any}
use Rattle.code_laws.proofs.LocalNulls.{IsVariable, begins_alone, type_flawless, variable_said}
use Rattle.code_laws.proofs.LocalTaken.{IsCollection, collected_apart, collected_integer, collected_spaced, collected_truth, collects_partition, collects_region}
use Rattle.code_laws.proofs.LocalParts.{is_pointing}
use Rattle.regent_tree.specs.StaticTypes.{Looking, type_said}
use Rattle.check_rules.specs.types.Sorts.{is_collection}
use Rattle.check_rules.specs.rules.Partitions.{is_difference}
use Rattle.check_rules.specs.first.Rules.{first_in}

-- ---- a name's pointer, or an element

value_keepable : (forms : Forms) (b : Bool) (w : Where) (e : Expression) (t : StaticType) → typed w e ≡ t → Falls w.scope.next w.scope.names → IsTyped forms w e →
    (is_pointer (typed w e) ≡ true → is_pointing e ≡ true) → IsValue b w.scope.names t → IsKeepable b w e
value_keepable forms b w e t same falls fine h (value_simple _ a) = simple_keepable b w e (subst IsSimple (sym same) a)
value_keepable forms false w e _ same falls fine h (value_pointer k sp args i q r) = absurd (no_way_back q)
value_keepable forms true w e _ same falls fine h (value_pointer k sp args i q r) =
    inr (
      subst IsPointer (sym same) (a_pointer_type k sp args i (goals_aims w.scope.names sp i r)),
      points_by_form forms w e falls
          (subst (λ t. AreNames (reaches_of t) → AreThere w.scope.names (space_in t) (reaches_of t)) (sym same)
          (λ n. among_there w.scope.next w.scope.names sp i falls (goals_among w.scope.names sp i n r))) fine (h (ap is_pointer same)),
    )

-- ---- regions and partitions

pub owned_collected : (n : ℕ) (t : StaticType) → IsCollection t → IsCollection (owned n t)
owned_collected n _ (collects_region k sp args r) = collects_region k sp args (place.Name n)
owned_collected n _ (collects_partition d r p) = collects_partition d r n

-- a written type with which a variable begins by itself
alone_said : (tree : Tree) (look : Looking) (own : ℕ) (t : TypeTerm) → is_collection (type_said tree look own t) ≡ false → begins_alone t ≡ true
alone_said tree look own (term.Number number.Int32) e = refl
alone_said tree look own (term.Number number.Int64) e = refl
alone_said tree look own (term.Number (number.Index k)) e = refl
alone_said tree look own term.Truth e = refl
alone_said tree look own (term.Pointer p) e = refl
alone_said tree look own (term.Ispace k) e = absurd (no_way e)
alone_said tree look own (term.Region k u) e = absurd (no_way e)
alone_said tree look own (term.Partition d r c) e = absurd (no_way e)

module _ (tree : Tree) (task : TaskTree) (sound : IsSound tree) (sound_task : IsSoundTask tree task)
    (local : IsLocalTree tree) (params : ℕ) (result : is_no_result_type task.result ≡ false) where
  abbrev pub forms : Forms
  forms = forms_by true true tree task

  abbrev Ready : Scope → Type 0
  Ready s = IsReady tree task s

  -- a place of the body, on a line
  abbrev pub at : Scope → ℕ → Where
  at s line = record { tree = tree; scope = s; result = result_type tree task.result; params = params; line = line }

  -- the head of a statement, told in a scope
  pub headed : (s : Scope) (line : ℕ) (e : Expression) → is_written_expression e ≡ true → AreKept (parts_of_expression e) →
      (scope : IsSoundScope s) (ready : Ready s) → first_in_expression tree task s e ≡ None →
      IsArgument task (at s line) sound sound_task local scope ready.names ready.head e
  headed s line e lo k scope ready told = local_any task (at s line) sound sound_task local scope ready.names ready.head e lo k told

  -- one that is no region and no partition
  pub valued : (s : Scope) (line : ℕ) (e : Expression) → is_written_expression e ≡ true → AreKept (parts_of_expression e) →
      (scope : IsSoundScope s) (ready : Ready s) → first_in_expression tree task s e ≡ None → (IsCollection (type_of tree s e) → ⊥) →
      IsWell task (at s line) sound sound_task local scope ready.names ready.head e
  valued s line e lo k scope ready told none =
      well_of task (at s line) sound sound_task local scope ready.names ready.head e (headed s line e lo k scope ready told) none

  -- what stands somewhere, by the meaning's type
  pub stands_as : (s : Scope) (e : Expression) (p : Spot) → IsSoundScope s → first_in_expression tree task s e ≡ None →
      may_stand s.known (stands (known_type tree s e) p) ≡ true → may_stand s.known (stands (type_of tree s e) p) ≡ true
  stands_as s e p scope told may = subst (λ t. may_stand s.known (stands t p) ≡ true) (head_known tree task sound s scope e told).1 may

  -- a truth, an integer or an index space at the head of one
  pub truth_head : (s : Scope) (line : ℕ) (y : Expression) → is_written_expression y ≡ true → AreKept (parts_of_expression y) → IsSoundScope s →
      Ready s → first_in_expression tree task s y ≡ None → may_stand s.known (stands (known_type tree s y) truth_spot) ≡ true →
      IsTruth (type_of tree s y) × IsTyped forms (at s line) y
  truth_head s line y lo k scope names told may =
      let is = stands_as s y truth_spot scope told may in
      let a = valued s line y lo k scope names told (λ c. collected_truth (type_of tree s y) c is) in
      (value_truth true s.names (type_of tree s y) a.value is, a.is)

  pub integer_head : (s : Scope) (line : ℕ) (y : Expression) → is_written_expression y ≡ true → AreKept (parts_of_expression y) → IsSoundScope s →
      Ready s → first_in_expression tree task s y ≡ None → may_stand s.known (stands (known_type tree s y) integer_spot) ≡ true →
      IsInteger (type_of tree s y) × IsTyped forms (at s line) y
  integer_head s line y lo k scope names told may =
      let is = stands_as s y integer_spot scope told may in
      let a = valued s line y lo k scope names told (λ c. collected_integer (type_of tree s y) c is) in
      (value_integer true s.names (type_of tree s y) a.value is, a.is)

  pub space_head : (s : Scope) (line : ℕ) (y : Expression) → is_written_expression y ≡ true → AreKept (parts_of_expression y) → IsSoundScope s →
      Ready s → first_in_expression tree task s y ≡ None → may_stand s.known (stands (known_type tree s y) space_spot) ≡ true →
      IsSpace (type_of tree s y) × IsTyped forms (at s line) y
  space_head s line y lo k scope names told may =
      let is = stands_as s y space_spot scope told may in
      let a = valued s line y lo k scope names told (λ c. collected_spaced (type_of tree s y) c is) in
      (value_space true s.names (type_of tree s y) a.value is, a.is)

  -- ---- variables

  -- a variable, and what its name stands for
  abbrev pub VarTyped : Scope → ℕ → Name → Option TypeTerm → Option Initializer → Type 0
  VarTyped s line n t i = IsTypedForm forms (at s line) (var_form n t i) × IsKept true s.names s.next (var_type tree s t i)
      × KnowsFacts tree task (scope_after tree s (var_form n t i))

  -- with an expression that has a value
  pub well_local : (s : Scope) (line : ℕ) (n : Name) (y : Expression) → (scope : IsSoundScope s) (names : Ready s) →
      IsWell task (at s line) sound sound_task local scope names.names names.head y → VarTyped s line n None (Some (plain_initializer y))
  well_local s line n y scope names a =
      let from = type_of tree s y in
      let begun = value_keepable forms true (at s line) y from refl scope.numbers a.is a.points a.value in
      let none = value_tells true s.names s.next from a.value in (
        begun_so true (at s line) y (IsKeepable true (at s line) y × IsTyped forms (at s line) y) _ (begun, a.is),
        subst (IsKept true s.names s.next) (sym (owned_value true s.names s.next from a.value)) (kept_value from a.value),
        head_named tree task s n (owned s.next from) (known_of_child s.next from ++ known_of_type (owned s.next from)) none.1 names.head.facts
            (ap (λ ks. ks ++ known_of_type (owned s.next from)) none.0 ∙ none.1),
      )

  -- the heads of an initializer
  abbrev pub Heads : Scope → Bool → Expression → Type 0
  Heads s b y = first_in (first_in_expression tree task s) (cond b (members_of y) (y ∷ [])) ≡ None

  -- what is no difference is told whole
  pub whole_told : (s : Scope) (y : Expression) (b : Bool) → is_difference s.names y ≡ b → (b ≡ true → ⊥) → Heads s (is_difference s.names y) y →
      first_in_expression tree task s y ≡ None
  whole_told s y true same none heads = absurd (none refl)
  whole_told s y false same none heads = (option_or_parts (first_in_expression tree task s y) _ (subst (λ b. Heads s b y) same heads)).0

  -- one of a written type that begins by itself
  pub unset_local : (s : Scope) (line : ℕ) (n : Name) (t : TypeTerm) → IsSoundScope s → Ready s → first_of_form tree task s (var_form n (Some t) None) ≡ None →
      VarTyped s line n (Some t) None
  unset_local s line n t scope names e =
      let parts = told_of_form tree task s sound scope (var_form n (Some t) None) e in
      let none = (option_or_parts (first_in_type tree s.names t) _ parts.0).0 in
      let wanted = var_type tree s (Some t) None in
      let apart = subst (λ u. is_collection u ≡ false) (type_flawless tree s scope names.names t none) (or_parts (is_collection (declared_type tree s t)) false parts.5).0 in
      ⊎_elim
      (λ (is : IsVariable tree s scope names.names t wanted).
      let tells = (value_tells true s.names s.next wanted is.value).2 in
      (is.itself (alone_said tree (in_scope s) s.next t apart), kept_value wanted is.value, head_named tree task s n wanted (known_of_type wanted) tells names.head.facts tells))
      (λ c. absurd (collected_apart wanted c apart)) (variable_said tree s scope names.names t none)
