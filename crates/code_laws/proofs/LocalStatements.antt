-- Statements without blocks, of which no breach is told, are typed.
use Rattle.std.proofs.Common.{◌≡◌, List, [], ◌∷◌, None, Option, Some, false, true, ap, subst, ℕ, ◌∙◌, not, refl}
use Rattle.std.specs.Prelude.{flat_map, length, map}
use Rattle.std.specs.List.{list_all, list_any}
use Rattle.std.proofs.lemmas.Bool.{and_parts, not-false, or_parts}
use Rattle.plain_values.proofs.Plain.{option_or_parts}
use Rattle.regent_tree.proofs.Members.{Has-append_left}
use Rattle.regent_tree.specs.Accesses.{args_in, space_in}
use Rattle.regent_tree.specs.Limits.{parts_of_expression, parts_of_expressions, parts_of_value}
use Rattle.regent_tree.specs.Lookup.{is_bound, type_named}
use Rattle.regent_tree.specs.Scopes.{Scope, bound_to}
use Rattle.regent_tree.specs.StaticTypes.{field_place, field_type}
use Rattle.regent_tree.specs.Syntax.{Expression, Expressions, Name, TaskTree, Tree, call_form, fill_form, print_form, return_form}
use Rattle.regent_tree.specs.Typing.{type_of}
use Rattle.regent_tree.specs.declared.rights.Access.TheVariants as access
use Rattle.regent_tree.specs.declared.typing.StaticType.{StaticType}
use Rattle.check_laws.proofs.Blocks.{head_known}
use Rattle.check_laws.proofs.Variables.{parts_of_form as told_of_form}
use Rattle.check_laws.specs.SoundScopes.{IsSoundScope}
use Rattle.check_rules.specs.first.FirstInExpressions.{first_in_expression, first_of_call}
use Rattle.check_rules.specs.first.FirstInStatements.{first_of_form}
use Rattle.check_rules.specs.rules.Formats.{is_count, numbers_in}
use Rattle.check_rules.specs.rules.Names.{is_unknown_region_field}
use Rattle.check_rules.specs.rules.Privileges.{may_do, rights_declared, wanted_of_region, wanting}
use Rattle.check_rules.specs.rules.Standing.{stands, typed_spot}
use Rattle.check_rules.specs.rules.Statements.{known_result}
use Rattle.check_rules.specs.rules.Types.{is_ill_typed_at_place, may_stand}
use Rattle.check_rules.specs.scopes.Sound.{IsSound, IsSoundTask}
use Rattle.check_rules.specs.types.Declarations.{known_field, is_no_result_type}
use Rattle.check_rules.specs.types.Fitting.{fits}
use Rattle.check_rules.specs.types.KnownTypes.{known_type, known_types}
use Rattle.check_rules.specs.types.Lookup.{names_a, region_has}
use Rattle.check_rules.specs.types.Sorts.{is_region, may_be}
use Rattle.check_rules.specs.types.TypedForms.{calling}
use Rattle.code_rules.specs.Slots.{Where}
use Rattle.code_laws.specs.WrittenForms.{are_written_expressions, is_written_form}
use Rattle.code_laws.specs.Handing.{forms_by}
use Rattle.code_laws.specs.Simple.{IsRegion, term_in}
use Rattle.code_laws.specs.Steps.{Forms}
use Rattle.code_laws.specs.Typed.{AreFilled, IsTypedForm, MayFill}
use Rattle.expression_laws.proofs.Steps.{all_has}
use Rattle.code_laws.proofs.KnownHeads.{IsReady, KnowsHead, kept_may}
use Rattle.code_laws.proofs.LocalParts.{all_behind, none_given, region_wants}
use Rattle.code_laws.proofs.LocalExpressions.{local_call, local_numbers}
use Rattle.code_laws.proofs.LocalFields.{held_field, held_fills, collected_held}
use Rattle.code_laws.proofs.LocalNames.{IsKept, IsLocalTree, named_kept}
use Rattle.code_laws.proofs.LocalPlaces.{field_is, region_is, spaced_name, IsRegionField}
use Rattle.code_laws.proofs.TypedStatements.{count_types, counted, first_stands, listed_told, result_fits, told_later, told_names, told_privileges, result_collected}
use Rattle.code_laws.proofs.Typing.{AreKept, no_way_back}
use Rattle.code_laws.proofs.LocalValues.{IsValue}
use Rattle.code_laws.proofs.LocalVariables.{at, stands_as, valued}

module _ (tree : Tree) (task : TaskTree) (sound : IsSound tree) (sound_task : IsSoundTask tree task)
    (local : IsLocalTree tree) (params : ℕ) (result : is_no_result_type task.result ≡ false) where
  abbrev forms : Forms
  forms = forms_by true true tree task

  abbrev Ready : Scope → Type 0
  Ready s = IsReady tree task s

  abbrev here : Scope → ℕ → Where
  here s line = at tree task sound sound_task local params result s line

  -- ---- fields

  -- one of them, and what fits it
  record IsFitted (s : Scope) (r f : Name) (from : StaticType) : Type 0 where
    field : IsRegionField tree (type_named s.names r) f
    fit : fits s.known from (field_type tree (space_in (type_named s.names r)) (args_in (type_named s.names r)) f) ≡ true

  fitted : (s : Scope) (r : Name) (from known : StaticType) → known ≡ from → is_bound s.names r ≡ true → IsSoundScope s → Ready s →
      may_be is_region (type_named s.names r) ≡ true → (f : Name) → is_unknown_region_field tree s.names r f ≡ false →
      may_stand s.known (stands known (typed_spot (known_field tree (type_named s.names r) f))) ≡ true → IsFitted s r f from
  fitted s r from known same there scope names region f unknown stood =
      let t = type_named s.names r in
      let has = not-false (region_has tree t f) (or_parts (not (names_a is_region s.names r)) (not (region_has tree t f)) unknown).1 in
      let d = field_is tree sound local s.names names.names (bound_to s.names r).number t f
      (spaced_name tree s.next s.names r scope.numbers there names.head.spaced) (named_kept true s.names r names.names there) region has in record {
        field = d;
        fit = subst (λ u. fits s.known u (field_type tree (space_in t) (args_in t) f) ≡ true) same
            (subst (λ u. fits s.known known u ≡ true) d.known stood);
      }

  filled_with : (s : Scope) (line : ℕ) (r : Name) (from known : StaticType) → known ≡ from → is_bound s.names r ≡ true → IsSoundScope s → Ready s →
      may_be is_region (type_named s.names r) ≡ true → IsValue true s.names from → (fs : List Name) →
      list_any (is_unknown_region_field tree s.names r) fs ≡ false →
      list_any (is_ill_typed_at_place s.known) (map (λ f. stands known (typed_spot (known_field tree (type_named s.names r) f))) fs) ≡ false →
      AreFilled true (here s line) r from fs
  filled_with s line r from known same there scope names region value [] unknown ill = tt
  filled_with s line r from known same there scope names region value (f ∷ fs) unknown ill =
      let t = type_named s.names r in
      let a = or_parts (is_unknown_region_field tree s.names r f) _ unknown in
      let stood = first_stands s.known (stands known (typed_spot (known_field tree t f)))
      (map (λ g. stands known (typed_spot (known_field tree t g))) fs) ill in
      let x = fitted s r from known same there scope names region f a.0 stood.0 in (
        held_fills true s.names s.known from _ (field_type tree (space_in t) (args_in t) f) value x.field.held x.fit,
        held_field true (here s line) r f (field_type tree (space_in t) (args_in t) f) there x.field.region x.field.field x.field.held,
        filled_with s line r from known same there scope names region value fs a.1 stood.1,
      )

  -- each field that is filled may be written
  may_fill : (s : Scope) (line : ℕ) (r : Name) → IsKept true s.names (bound_to s.names r).number (type_named s.names r) → IsRegion (type_named s.names r) → KnowsHead tree task s →
      (fs : List Name) → list_any (is_unknown_region_field tree s.names r) fs ≡ false →
      list_all (may_do (rights_declared tree task) s.known) (flat_map (wanted_of_region tree access.Write (type_named s.names r)) fs) ≡ true →
      MayFill forms (here s line) r fs
  may_fill s line r kept is head [] unknown allowed = tt
  may_fill s line r kept is head (f ∷ fs) unknown allowed =
      let u = type_named s.names r in
      let a = or_parts (is_unknown_region_field tree s.names r f) _ unknown in
      let has = not-false (region_has tree u f) (or_parts (not (names_a is_region s.names r)) (not (region_has tree u f)) a.0).1 in
      let want = region_wants tree access.Write u f is has in
      let first = all_has (may_do (rights_declared tree task) s.known) (flat_map (wanted_of_region tree access.Write u) (f ∷ fs))
      (wanting (field_place tree (space_in u) f) access.Write (term_in u)) allowed
      (Has-append_left (wanted_of_region tree access.Write u f) (flat_map (wanted_of_region tree access.Write u) fs) _ want) in
      let rest = all_behind (may_do (rights_declared tree task) s.known) (wanted_of_region tree access.Write u f) (flat_map (wanted_of_region tree access.Write u) fs) allowed in (
        kept_may tree task s sound_task head s.names (bound_to s.names r).number u kept is (field_place tree (space_in u) f) access.Write first,
        may_fill s line r kept is head fs a.1 rest,
      )

  pub fill_local : (s : Scope) (line : ℕ) (r : Name) (fields : List Name) (y : Expression) → is_written_form (fill_form r fields y) ≡ true → AreKept (parts_of_expression y) →
      IsSoundScope s → Ready s → first_of_form tree task s (fill_form r fields y) ≡ None → IsTypedForm forms (here s line) (fill_form r fields y)
  fill_local s line r [] y lo k scope names e = absurd (no_way_back lo)
  fill_local s line r (f ∷ fs) y lo k scope names e =
      let fields = f ∷ fs in
      let form = fill_form r fields y in
      let t = type_named s.names r in
      let u = known_type tree s y in
      let parts = told_of_form tree task s sound scope form e in
      let told = (option_or_parts (first_in_expression tree task s y) _ parts.2).0 in
      let alike = (head_known tree task sound s scope y told).1 in
      let named = or_parts (not (names_a is_region s.names r)) (list_any (is_unknown_region_field tree s.names r) fields) (told_names tree task s form e).0 in
      let region = and_parts (is_bound s.names r) (may_be is_region t) (not-false (names_a is_region s.names r) named.0) in
      let kept = named_kept true s.names r names.names region.0 in
      let is = region_is tree sound local s.names names.names (bound_to s.names r).number t kept region.1 in
      let stood = first_stands s.known (stands u (typed_spot (known_field tree t f))) (map (λ g. stands u (typed_spot (known_field tree t g))) fs) parts.4 in
      let x = fitted s r (type_of tree s y) u alike region.0 scope names region.1 f
      (or_parts (is_unknown_region_field tree s.names r f) (list_any (is_unknown_region_field tree s.names r) fs) named.1).0 stood.0 in
      let a = valued tree task sound sound_task local params result s line y lo k scope names told
      (λ c. collected_held true s.known (type_of tree s y) _ (field_type tree (space_in t) (args_in t) f) c x.field.held x.fit) in (
        a.is,
        region.0,
        is,
        filled_with s line r (type_of tree s y) u alike region.0 scope names region.1 a.value fields named.1 parts.4,
        may_fill s line r kept is names.head fields named.1 (not-false _ (told_privileges tree task s form e).0),
      )

  -- ---- calls, prints, results and tests

  pub call_local : (s : Scope) (line : ℕ) (n : Name) (args : Expressions) → are_written_expressions args ≡ true → AreKept (parts_of_expressions args) →
      IsSoundScope s → Ready s → first_of_form tree task s (call_form n args) ≡ None → IsTypedForm forms (here s line) (call_form n args)
  call_local s line n args lo k scope names e =
      let told = listed_told tree task s args (told_of_form tree task s sound scope (call_form n args) e).2 in
      let call = (option_or_parts (first_of_call tree task s (calling n (known_types tree s args))) _ (told_names tree task s (call_form n args) e).1).0 in
      let p = local_call task (here s line) sound sound_task local scope names.names names.head n args lo k told call in
      (refl, p.callable, p.passed)

  pub print_local : (s : Scope) (line : ℕ) (alias : Option Name) (format : List ℕ) (args : Expressions) → are_written_expressions args ≡ true →
      AreKept (parts_of_expressions args) → IsSoundScope s → Ready s →
      first_of_form tree task s (print_form alias format args) ≡ None → IsTypedForm forms (here s line) (print_form alias format args)
  print_local s line alias format args lo k scope names e =
      let form = print_form alias format args in
      let told = listed_told tree task s args (told_of_form tree task s sound scope form e).2 in
      let types = known_types tree s args in
      let whole = or_parts (not (is_count (length types) (numbers_in format))) _ (told_later tree task s form e).1 in
      let many = counted (length types) (numbers_in format) (not-false (is_count (length types) (numbers_in format)) whole.0) in
      (local_numbers task (here s line) sound sound_task local scope names.names names.head args lo k told whole.1, many ∙ ap Some (count_types tree s args))

  pub return_local : (s : Scope) (line : ℕ) (y : Option Expression) → is_written_form (return_form y) ≡ true → AreKept (parts_of_value y) → IsSoundScope s →
      Ready s → first_of_form tree task s (return_form y) ≡ None → IsTypedForm forms (here s line) (return_form y)
  return_local s line None lo k scope names e = λ c given. none_given tree task.result (told_later tree task s (return_form None) e).2 given
  return_local s line (Some y) lo k scope names e =
      let form = return_form (Some y) in
      let parts = told_of_form tree task s sound scope form e in
      let told = (option_or_parts (first_in_expression tree task s y) _ parts.2).0 in
      let fit = stands_as tree task sound sound_task local params result s y (typed_spot (known_result tree task.result)) scope told
      (first_stands s.known (stands (known_type tree s y) (typed_spot (known_result tree task.result))) [] parts.4).0 in
      let given = (told_later tree task s form e).2 in
      let a = valued tree task sound sound_task local params result s line y lo k scope names told
      (λ c. result_collected s.known tree task.result (type_of tree s y) result given c fit) in
      (result_fits true s.names tree s.known task.result (type_of tree s y) result given a.value fit, a.is)
