-- Assignments of which no breach is told are typed.
use Rattle.std.proofs.Common.{◌≡◌, [], None, false, true, ap, subst, sym, ℕ, ◌∙◌, not, ◌||◌, inl, refl}
use Rattle.std.specs.Prelude.{cond, length, nat_lt}
use Rattle.std.proofs.lemmas.Bool.{not-false, or_parts}
use Rattle.plain_values.proofs.Plain.{option_or_parts}
use Rattle.lane_kernels.specs.declared.numbers.Op.{Op}
use Rattle.regent_tree.specs.Accesses.{space_in}
use Rattle.regent_tree.specs.Limits.{parts_of_expression}
use Rattle.regent_tree.specs.Lookup.{is_bound}
use Rattle.regent_tree.specs.Scopes.{Scope, bound_to}
use Rattle.regent_tree.specs.StaticTypes.{field_place, field_term}
use Rattle.regent_tree.specs.Syntax.{Expression, Name, TaskTree, Tree, access_expr, assign_form, at_step, field_step, no_step}
use Rattle.regent_tree.specs.Typing.{type_of, type_of_element, type_of_field}
use Rattle.regent_tree.specs.declared.rights.Access.{Access}
use Rattle.regent_tree.specs.declared.rights.Access.TheVariants as access
use Rattle.regent_tree.specs.declared.statement.How.TheVariants as how
use Rattle.regent_tree.specs.declared.typing.StaticType.TheVariants.{Ispace as ispace_type, Partition as partition_type, Unknown as unknown_type}
use Rattle.regent_tree.specs.declared.types.Kind.TheVariants.{Int1d}
use Rattle.check_laws.proofs.Variables.{target_of_form, parts_of_form as told_of_form}
use Rattle.check_laws.specs.SoundScopes.{IsSoundScope}
use Rattle.check_rules.specs.declared.rule.Rule.TheVariants as rule
use Rattle.check_rules.proofs.Untold.{rule_none}
use Rattle.check_rules.specs.first.FirstInExpressions.{first_in_expression, first_in_target, first_of_step, first_of_taking}
use Rattle.check_rules.specs.first.FirstInStatements.{first_of_form}
use Rattle.check_rules.specs.first.Rules.{rule_if}
use Rattle.check_rules.specs.rules.Privileges.{lacks, wanted_of_step}
use Rattle.check_rules.specs.rules.Standing.{integer_spot, stands, typed_spot}
use Rattle.check_rules.specs.rules.Statements.{spot_of_target}
use Rattle.check_rules.specs.rules.Targets.{is_fixed, is_no_integer, is_no_target, mistargets}
use Rattle.check_rules.specs.rules.Types.{may_stand}
use Rattle.check_rules.specs.scopes.Sound.{IsSound, IsSoundTask}
use Rattle.check_rules.specs.types.KnownTypes.{known_type, known_type_after_step}
use Rattle.check_rules.specs.types.Params.{type_unless}
use Rattle.check_rules.specs.types.Sorts.{is_collection, is_integer, is_space, may_be}
use Rattle.check_rules.specs.types.TypedForms.{element_of, field_of}
use Rattle.code_rules.specs.Slots.{Where}
use Rattle.code_laws.specs.WrittenForms.{is_written_expression, is_written_form}
use Rattle.code_laws.specs.Handing.{forms_by}
use Rattle.code_laws.specs.Simple.{IsPartition, a_partition_type}
use Rattle.code_laws.specs.Steps.{Forms}
use Rattle.code_laws.specs.Typed.{GoesThrough, IsTyped, IsTypedForm, MayTouch, element_field, IsBehind, IsFieldOf, MayGo, field_behind}
use Rattle.code_laws.proofs.KnownHeads.{IsReady}
use Rattle.code_laws.proofs.LocalPoints.{at_point, behind_name, gone, is_behind, touched}
use Rattle.code_laws.proofs.LocalValues.{value_assigned, IsValue}
use Rattle.code_laws.specs.Pointers.{CountsAs}
use Rattle.code_laws.proofs.Privileges.{mode_in}
use Rattle.code_laws.proofs.LocalFields.{IsHeld, held_assigned, held_integer, collected_held}
use Rattle.code_laws.proofs.LocalNames.{kept_integer, IsLocalTree, named_kept, IsKept, kept_partition, kept_region, kept_value}
use Rattle.code_laws.proofs.LocalPlaces.{named_place, taking_told}
use Rattle.code_laws.proofs.LocalParts.{and_then}
use Rattle.code_laws.proofs.TypedStatements.{first_stands, told_later, told_privileges}
use Rattle.code_laws.proofs.Typing.{AreKept, no_way}
use Rattle.code_laws.proofs.Wider.{assigned}
use Rattle.regent_tree.specs.declared.typing.StaticType.{StaticType}
use Rattle.check_rules.specs.types.Declarations.{is_no_result_type}
use Rattle.code_laws.proofs.LocalVariables.{at, headed, integer_head, stands_as, valued}
use Rattle.code_laws.proofs.LocalTaken.{collected_value}
use Rattle.code_laws.proofs.LocalArguments.{placed}

module _ (tree : Tree) (task : TaskTree) (sound : IsSound tree) (sound_task : IsSoundTask tree task)
    (local : IsLocalTree tree) (params : ℕ) (result : is_no_result_type task.result ≡ false) where
  abbrev forms : Forms
  forms = forms_by true true tree task

  abbrev Ready : Scope → Type 0
  Ready s = IsReady tree task s

  abbrev here : Scope → ℕ → Where
  here s line = at tree task sound sound_task local params result s line

  -- what is no region and no partition is a value
  changed_value : (s : Scope) (i : ℕ) (u : StaticType) → IsKept true s.names i u → is_collection u ≡ false → IsValue true s.names u
  changed_value s i u (kept_value _ a) e = a
  changed_value s i _ (kept_region k sp args) e = absurd (no_way e)
  changed_value s i _ (kept_partition d r q a) e = absurd (no_way e)

  pub set_local : (s : Scope) (line : ℕ) (n : Name) (y : Expression) → is_written_form (assign_form n no_step how.Set y) ≡ true → AreKept (parts_of_expression y) →
      IsSoundScope s → Ready s → first_of_form tree task s (assign_form n no_step how.Set y) ≡ None →
      IsTypedForm forms (here s line) (assign_form n no_step how.Set y)
  set_local s line n y lo k scope names e =
      let form = assign_form n no_step how.Set y in
      let parts = told_of_form tree task s sound scope form e in
      let told = (option_or_parts (first_in_expression tree task s y) _ parts.2).0 in
      let target = option_or_parts (rule_if (not (is_bound s.names n)) rule.Name) _ (target_of_form tree task s sound scope form e) in
      let there = not-false (is_bound s.names n) (rule_none (not (is_bound s.names n)) rule.Name target.0) in
      let u = (bound_to s.names n).static_type in
      let i = (bound_to s.names n).number in
      let spot = ap (λ b. typed_spot (cond b unknown_type u)) (told_later tree task s form e).0 in
      let fit = stands_as tree task sound sound_task local params result s y (typed_spot u) scope told (subst (λ p. may_stand s.known (stands (known_type tree s y) p) ≡ true) spot
      (first_stands s.known (stands (known_type tree s y) (spot_of_target (mistargets task s.names n no_step how.Set u) how.Set u)) [] parts.4).0) in
      let free = and_then (is_bound s.names n) (is_fixed task (bound_to s.names n)) there
      (or_parts (is_no_target task s.names n no_step u) (is_no_integer how.Set u) (told_later tree task s form e).0).0 in
      let kinds = or_parts ((bound_to s.names n).by_loop || nat_lt (bound_to s.names n).number (length task.params)) (is_collection u) free in
      let loop = (or_parts (bound_to s.names n).by_loop (nat_lt (bound_to s.names n).number (length task.params)) kinds.0).0 in
      let value = changed_value s i u (named_kept true s.names n names.names there) kinds.1 in
      let a = valued tree task sound sound_task local params result s line y lo k scope names told
      (λ c. collected_value true s.names s.known (type_of tree s y) u c value fit) in
      (value_assigned true s.names s.known (type_of tree s y) u a.value value (inl refl) kinds.1 fit, a.is, there, loop)

  pub reduce_local : (s : Scope) (line : ℕ) (n : Name) (o : Op) (y : Expression) → is_written_expression y ≡ true → AreKept (parts_of_expression y) →
      IsSoundScope s → Ready s → first_of_form tree task s (assign_form n no_step (how.Reduce o) y) ≡ None →
      IsTypedForm forms (here s line) (assign_form n no_step (how.Reduce o) y)
  reduce_local s line n o y lo k scope names e =
      let form = assign_form n no_step (how.Reduce o) y in
      let parts = told_of_form tree task s sound scope form e in
      let told = (option_or_parts (first_in_expression tree task s y) _ parts.2).0 in
      let target = option_or_parts (rule_if (not (is_bound s.names n)) rule.Name) _ (target_of_form tree task s sound scope form e) in
      let there = not-false (is_bound s.names n) (rule_none (not (is_bound s.names n)) rule.Name target.0) in
      let u = (bound_to s.names n).static_type in
      let whole = or_parts (is_no_target task s.names n no_step u) (not (may_be is_integer u)) (told_later tree task s form e).0 in
      let free = and_then (is_bound s.names n) (is_fixed task (bound_to s.names n)) there whole.0 in
      let kinds = or_parts ((bound_to s.names n).by_loop || nat_lt (bound_to s.names n).number (length task.params)) (is_collection u) free in
      let a = integer_head tree task sound sound_task local params result s line y lo k scope names told (first_stands s.known (stands (known_type tree s y) integer_spot) [] parts.4).0 in (
        a.0,
        kept_integer true s.names (bound_to s.names n).number u (named_kept true s.names n names.names there)
            (not-false (may_be is_integer u) whole.1),
        a.1,
        there,
        (or_parts (bound_to s.names n).by_loop (nat_lt (bound_to s.names n).number (length task.params)) kinds.0).0,
      )

  -- a target at a point of a region: its parts are typed, and its type is known
  record IsTarget (s : Scope) (line : ℕ) (n : Name) (e : Expression) (f : Name) : Type 0 where
    index : IsTyped forms (here s line) e
    number : CountsAs true (type_of tree s e)
    through : GoesThrough (here s line) n e
    field : IsFieldOf true (here s line) n f (element_field (here s line) n e f)
    held : IsHeld true (field_term tree (space_in (bound_to s.names n).static_type) (field_place tree (space_in (bound_to s.names n).static_type) f))
        (element_field (here s line) n e f)
    known : known_type tree s (access_expr n (at_step e (field_step f no_step))) ≡ element_field (here s line) n e f
    may : (a : Access) → lacks tree task s (wanted_of_step tree a (field_of (known_type_after_step tree (element_of (bound_to s.names n).static_type (known_type tree s e)) (type_of_element s (bound_to s.names n).static_type e)) f)) ≡ false →
        MayTouch forms (here s line) n (field_place tree (space_in (bound_to s.names n).static_type) f) (mode_in a)

  target_local : (s : Scope) (line : ℕ) (n : Name) (e : Expression) (f : Name) → is_written_expression e ≡ true → AreKept (parts_of_expression e) →
      IsSoundScope s → Ready s → first_in_target tree task s n (at_step e (field_step f no_step)) ≡ None → IsTarget s line n e f
  target_local s line n e f lo k scope names none =
      let w = here s line in
      let t = (bound_to s.names n).static_type in
      let told = option_or_parts (rule_if (not (is_bound s.names n)) rule.Name) _ none in
      let there = not-false (is_bound s.names n) (rule_none (not (is_bound s.names n)) rule.Name told.0) in
      let index = option_or_parts (first_in_expression tree task s e) _ told.1 in
      let taking = element_of t (known_type tree s e) in
      let step = option_or_parts (first_of_step tree task s taking) _ index.1 in
      let first = (option_or_parts (first_of_taking tree taking) _ step.0).0 in
      let a = placed task w sound sound_task local scope names.names names.head t e
      (headed tree task sound sound_task local params result s line e lo k scope names index.0) index.0 first in
      let p = at_point task w sound sound_task local scope names.names names.head n e f there index.0 a first step.1 in
      let is = named_place w sound local n e f scope there p.place in record {
        index = a.well.is;
        number = p.number;
        through = is.0;
        field = is.1;
        held = p.place.held;
        known = ap (λ q. known_type_after_step tree (field_of q f) (type_of_field tree q f)) p.element ∙ p.place.known;
        may = λ a lacking. touched task w sound sound_task local scope names.names names.head n e f a there p lacking;
      }

  pub set_field_local : (s : Scope) (line : ℕ) (n : Name) (e : Expression) (f : Name) (y : Expression) → is_written_expression e ≡ true → is_written_expression y ≡ true →
      AreKept (parts_of_expression e) → AreKept (parts_of_expression y) → IsSoundScope s → Ready s →
      first_of_form tree task s (assign_form n (at_step e (field_step f no_step)) how.Set y) ≡ None →
      IsTypedForm forms (here s line) (assign_form n (at_step e (field_step f no_step)) how.Set y)
  set_field_local s line n e f y lo_e lo k_e k scope names none =
      let steps = at_step e (field_step f no_step) in
      let form = assign_form n steps how.Set y in
      let parts = told_of_form tree task s sound scope form none in
      let told = (option_or_parts (first_in_expression tree task s y) _ parts.2).0 in
      let target = target_local s line n e f lo_e k_e scope names (target_of_form tree task s sound scope form none) in
      let u = known_type tree s (access_expr n steps) in
      let spot = ap (λ b. typed_spot (cond b unknown_type u)) (told_later tree task s form none).0 ∙ ap typed_spot target.known in
      let fit = stands_as tree task sound sound_task local params result s y (typed_spot (element_field (here s line) n e f)) scope told (subst (λ p. may_stand s.known (stands (known_type tree s y) p) ≡ true) spot
      (first_stands s.known (stands (known_type tree s y) (spot_of_target (mistargets task s.names n steps how.Set u) how.Set u)) [] parts.4).0) in
      let a = valued tree task sound sound_task local params result s line y lo k scope names told
      (λ c. collected_held true s.known (type_of tree s y) _ (element_field (here s line) n e f) c target.held fit) in (
        held_assigned true s.names s.known (type_of tree s y) _ (element_field (here s line) n e f) a.value target.held fit,
        a.is,
        target.index,
        target.number,
        target.through,
        target.field,
        target.may access.Write (told_privileges tree task s form none).0,
      )

  pub reduce_field_local : (s : Scope) (line : ℕ) (n : Name) (e : Expression) (f : Name) (o : Op) (y : Expression) → is_written_expression e ≡ true →
      is_written_expression y ≡ true → AreKept (parts_of_expression e) → AreKept (parts_of_expression y) → IsSoundScope s → Ready s →
      first_of_form tree task s (assign_form n (at_step e (field_step f no_step)) (how.Reduce o) y) ≡ None →
      IsTypedForm forms (here s line) (assign_form n (at_step e (field_step f no_step)) (how.Reduce o) y)
  reduce_field_local s line n e f o y lo_e lo k_e k scope names none =
      let steps = at_step e (field_step f no_step) in
      let form = assign_form n steps (how.Reduce o) y in
      let parts = told_of_form tree task s sound scope form none in
      let told = (option_or_parts (first_in_expression tree task s y) _ parts.2).0 in
      let target = target_local s line n e f lo_e k_e scope names (target_of_form tree task s sound scope form none) in
      let u = known_type tree s (access_expr n steps) in
      let whole = subst (λ v. may_be is_integer v ≡ true) target.known
      (not-false (may_be is_integer u) (or_parts (is_no_target task s.names n steps u) (not (may_be is_integer u)) (told_later tree task s form none).0).1) in
      let a = integer_head tree task sound sound_task local params result s line y lo k scope names told (first_stands s.known (stands (known_type tree s y) integer_spot) [] parts.4).0 in (
        a.0,
        held_integer true _ (element_field (here s line) n e f) target.held whole,
        a.1,
        target.index,
        target.number,
        target.through,
        target.field,
        target.may (access.Reduce o) (told_privileges tree task s form none).1,
      )

  -- a target that a name's pointer goes to
  record IsTargetBehind (s : Scope) (line : ℕ) (n f : Name) : Type 0 where
    keeps : true ≡ true
    behind : IsBehind (here s line) n f (field_behind (here s line) n f)
    held : IsHeld true (field_term tree (space_in (bound_to s.names n).static_type) (field_place tree (space_in (bound_to s.names n).static_type) f))
        (field_behind (here s line) n f)
    known : known_type tree s (access_expr n (field_step f no_step)) ≡ field_behind (here s line) n f
    may : (a : Access) → lacks tree task s (wanted_of_step tree a (field_of (bound_to s.names n).static_type f)) ≡ false → MayGo forms (here s line) n f (mode_in a)

  -- the colours of a partition are no target
  colours_told : (s : Scope) (n f : Name) (t : StaticType) → IsPartition t → first_of_taking tree (field_of t f) ≡ None →
      is_space (known_type_after_step tree (field_of t f) (type_of_field tree t f)) ≡ true
  colours_told s n f _ (a_partition_type d r p) e =
      ap (λ b. is_space (type_unless (false || b || false || false) (ispace_type Int1d))) (taking_told tree (field_of (partition_type d r p) f) e).0

  target_behind : (s : Scope) (line : ℕ) (n f : Name) → IsSoundScope s → Ready s → first_in_target tree task s n (field_step f no_step) ≡ None →
      is_space (known_type tree s (access_expr n (field_step f no_step))) ≡ false → IsTargetBehind s line n f
  target_behind s line n f scope names none other =
      let w = here s line in
      let told = option_or_parts (rule_if (not (is_bound s.names n)) rule.Name) _ none in
      let there = not-false (is_bound s.names n) (rule_none (not (is_bound s.names n)) rule.Name told.0) in
      let p = behind_name task w sound sound_task local scope names.names names.head n f there
      (λ cut. no_way (sym (colours_told s n f (bound_to s.names n).static_type cut told.1) ∙ other)) told.1 in record {
        keeps = p.keeps;
        behind = is_behind task w sound sound_task local scope names.names names.head n f there p;
        held = p.held;
        known = p.known;
        may = λ a lacking. gone task w sound sound_task local scope names.names names.head n f a p lacking;
      }

  pub set_behind_local : (s : Scope) (line : ℕ) (n f : Name) (y : Expression) → is_written_expression y ≡ true → AreKept (parts_of_expression y) →
      IsSoundScope s → Ready s → first_of_form tree task s (assign_form n (field_step f no_step) how.Set y) ≡ None →
      IsTypedForm forms (here s line) (assign_form n (field_step f no_step) how.Set y)
  set_behind_local s line n f y lo k scope names none =
      let steps = field_step f no_step in
      let form = assign_form n steps how.Set y in
      let parts = told_of_form tree task s sound scope form none in
      let told = (option_or_parts (first_in_expression tree task s y) _ parts.2).0 in
      let out = field_behind (here s line) n f in
      let u = known_type tree s (access_expr n steps) in
      let target = target_behind s line n f scope names (target_of_form tree task s sound scope form none)
      (or_parts (is_no_target task s.names n steps u) _ (told_later tree task s form none).0).0 in
      let spot = ap (λ b. typed_spot (cond b unknown_type u)) (told_later tree task s form none).0 ∙ ap typed_spot target.known in
      let fit = stands_as tree task sound sound_task local params result s y (typed_spot out) scope told (subst (λ p. may_stand s.known (stands (known_type tree s y) p) ≡ true) spot
      (first_stands s.known (stands (known_type tree s y) (spot_of_target (mistargets task s.names n steps how.Set u) how.Set u)) [] parts.4).0) in
      let a = valued tree task sound sound_task local params result s line y lo k scope names told
      (λ c. collected_held true s.known (type_of tree s y) _ out c target.held fit) in (
        target.keeps,
        assigned true (type_of tree s y) out (held_assigned true s.names s.known (type_of tree s y) _ out a.value target.held fit),
        a.is,
        target.behind,
        target.may access.Write (told_privileges tree task s form none).0,
      )

  pub reduce_behind_local : (s : Scope) (line : ℕ) (n f : Name) (o : Op) (y : Expression) → is_written_expression y ≡ true → AreKept (parts_of_expression y) →
      IsSoundScope s → Ready s → first_of_form tree task s (assign_form n (field_step f no_step) (how.Reduce o) y) ≡ None →
      IsTypedForm forms (here s line) (assign_form n (field_step f no_step) (how.Reduce o) y)
  reduce_behind_local s line n f o y lo k scope names none =
      let steps = field_step f no_step in
      let form = assign_form n steps (how.Reduce o) y in
      let parts = told_of_form tree task s sound scope form none in
      let told = (option_or_parts (first_in_expression tree task s y) _ parts.2).0 in
      let out = field_behind (here s line) n f in
      let u = known_type tree s (access_expr n steps) in
      let target = target_behind s line n f scope names (target_of_form tree task s sound scope form none)
      (or_parts (is_no_target task s.names n steps u) _ (told_later tree task s form none).0).0 in
      let whole = subst (λ v. may_be is_integer v ≡ true) target.known
      (not-false (may_be is_integer u) (or_parts (is_no_target task s.names n steps u) (not (may_be is_integer u)) (told_later tree task s form none).0).1) in
      let a = integer_head tree task sound sound_task local params result s line y lo k scope names told (first_stands s.known (stands (known_type tree s y) integer_spot) [] parts.4).0 in (
        target.keeps,
        a.0,
        held_integer true _ out target.held whole,
        a.1,
        target.behind,
        target.may (access.Reduce o) (told_privileges tree task s form none).1,
      )
