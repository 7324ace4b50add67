-- Bodies over scalars of which no breach is told are typed.
use Rattle.code_laws.specs.Programs.{scalar_forms}
use Rattle.code_laws.proofs.Values.{not_true, scalar_simple}
use Rattle.regent_tree.specs.declared.statement.How.TheVariants as how
use Rattle.check_rules.specs.declared.rule.Rule.TheVariants as rule
use Rattle.check_laws.proofs.Parts.{unless_false}
use Rattle.regent_tree.specs.declared.typing.StaticType.{StaticType}
use Rattle.regent_tree.specs.declared.typing.StaticType.TheVariants.{Integer as integer_type, Truth as truth_type, Unknown as unknown_type}
use Rattle.regent_tree.specs.declared.types.NumberTerm.TheVariants as number
use Rattle.regent_tree.specs.declared.types.TypeTerm.TheVariants as term
use Rattle.lane_kernels.specs.declared.numbers.Width.TheVariants.{W32, W64}
use Rattle.regent_tree.specs.declared.types.TypeTerm.{TypeTerm}
use Rattle.lane_kernels.specs.declared.numbers.Op.{Op}
use Rattle.check_laws.specs.SoundScopes.{IsSoundScope}
use Rattle.regent_tree.specs.Lookup.{is_bound, type_named}
use Rattle.check_rules.specs.rules.Targets.{is_no_target, mistargets}
use Rattle.check_rules.specs.types.Parts.{tests_of}
use Rattle.check_rules.proofs.Untold.{rule_none}
use Rattle.regent_tree.specs.Limits.{node, parts_of_arms, parts_of_block, parts_of_expression, parts_of_expressions, parts_of_form, parts_of_otherwise, parts_of_type, parts_of_value}
use Rattle.check_rules.specs.rules.Types.{may_stand, is_ill_typed_at_place}
use Rattle.check_rules.specs.types.KnownTypes.{known_type, known_types}
use Rattle.check_rules.specs.types.Sorts.{is_integer, may_be}
use Rattle.check_rules.specs.rules.Formats.{is_count, numbers_in}
use Rattle.check_rules.specs.types.Fitting.{fits}
use Rattle.check_rules.specs.first.FirstInExpressions.{first_in_expression}
use Rattle.check_rules.specs.first.FirstInStatements.{first_in_arms, first_in_block, first_in_else, first_of_form, first_within}
use Rattle.check_rules.specs.first.Rules.{first_in, rule_if}
use Rattle.check_rules.specs.scopes.Variables.{declared_type, is_flawed_initializer, known_initializer}
use Rattle.check_laws.proofs.Blocks.{count_scope, head_known}
use Rattle.check_laws.proofs.Variables.{begun_sound, target_of_form, parts_of_form as told_of_form}
use Rattle.code_laws.proofs.Names.{arms_names, else_names}
use Rattle.check_laws.proofs.Onward.{arm_next, block_next, else_next}
use Rattle.regent_tree.specs.Typing.{arithmetic_type, result_type, scope_after, scope_after_arms, scope_after_block, type_of, var_type, owned}
use Rattle.scalar_form.specs.ScalarForm.{are_scalar_arms, are_scalar_expressions, is_scalar_block, is_scalar_else, is_scalar_expression, is_scalar_form, is_scalar_term, is_scalar_value}
use Rattle.check_rules.specs.rules.Statements.{all_stand, known_result, spot_of_target}
use Rattle.code_rules.specs.Slots.{Where}
use Rattle.check_rules.specs.rules.Standing.{Spot, integer_spot, stands, truth_spot, typed_spot}
use Rattle.regent_tree.specs.Scopes.{Scope, past, with_name, bound_to, in_scope}
use Rattle.check_rules.specs.scopes.Sound.{IsSound}
use Rattle.regent_tree.specs.Syntax.{Arms, Block, Expression, Expressions, Form, Initializer, Name, Otherwise, TaskTree, Tree, both_initializer, by_field_initializer, either_initializer, equal_initializer, image_initializer, plain_initializer, preimage_initializer, region_initializer, a_statement, an_arm, assert_form, assign_form, at_step, call_form, do_form, else_block, field_step, fill_form, for_in_form, for_to_form, if_form, no_arm, no_else, no_statement, no_step, print_form, return_form, then_statement, var_form, while_form, access_expr, call_expr, cast_expr, chain_expr, convert_expr, is_null_expr, null_expr, number_expr, prefix_expr, space_expr, truth_expr}
use Rattle.code_laws.specs.Simple.{IsInteger, IsScalar, IsTruth, AreAlike, IsSimple, scalar_integer, scalar_truth}
use Rattle.code_laws.specs.Typed.{AreTypedArms, IsTyped, IsTypedBlock, IsTypedElse, IsTypedForm}
use Rattle.std.proofs.Common.{◌≡◌, List, [], ◌∷◌, ◌++◌, None, Option, Some, false, true, ap, sym, subst, ℕ, ◌∙◌, not}
use Rattle.std.specs.Prelude.{length, cond}
use Rattle.std.specs.List.{list_any}
use Rattle.std.proofs.lemmas.Bool.{and_parts, not-false, or_parts}
use Rattle.plain_values.proofs.Plain.{option_or_parts}
use Rattle.code_laws.proofs.Typing.{AllScalar, AreKept, kept_behind, kept_left, kept_right, no_way, no_way_back}
use Rattle.code_laws.proofs.ScalarExpressions.{IsScalarWell, as_integer, as_truth, fitting, named_scalar, numbers_well, well}
use Rattle.code_laws.proofs.TypedStatements.{HasNoPartition, count_types, counted, first_stands, initial_told, listed_told, result_fits, sum_scalar, told_later}
use Rattle.code_laws.proofs.LocalTypes.{owned_simple, simple_fitting, simple_no_partition, term_scalar}
use Rattle.code_laws.proofs.LocalValues.{value_simple}
use Rattle.check_rules.specs.types.Declarations.{is_no_result_type}
use Rattle.regent_tree.specs.StaticTypes.{type_said}
use Rattle.regent_tree.specs.declared.typing.Bound.{Bound}

-- no name is a partition
no_partitions : (bs : List Bound) → AllScalar bs → (y : Expression) → HasNoPartition bs y
no_partitions bs names (chain_expr (access_expr p no_step) rest) = λ h.
    simple_no_partition (type_named bs p) (scalar_simple (type_named bs p) (named_scalar bs p names h))
no_partitions bs names (chain_expr (access_expr p (field_step _ _)) rest) = tt
no_partitions bs names (chain_expr (access_expr p (at_step _ _)) rest) = tt
no_partitions bs names (chain_expr (number_expr _ _) rest) = tt
no_partitions bs names (chain_expr (truth_expr _) rest) = tt
no_partitions bs names (chain_expr (chain_expr _ _) rest) = tt
no_partitions bs names (chain_expr (prefix_expr _ _) rest) = tt
no_partitions bs names (chain_expr (call_expr _ _) rest) = tt
no_partitions bs names (chain_expr (convert_expr _ _) rest) = tt
no_partitions bs names (chain_expr (is_null_expr _) rest) = tt
no_partitions bs names (chain_expr (null_expr _) rest) = tt
no_partitions bs names (chain_expr (cast_expr _ _) rest) = tt
no_partitions bs names (chain_expr (space_expr _ _) rest) = tt
no_partitions bs names (access_expr _ _) = tt
no_partitions bs names (number_expr _ _) = tt
no_partitions bs names (truth_expr _) = tt
no_partitions bs names (prefix_expr _ _) = tt
no_partitions bs names (call_expr _ _) = tt
no_partitions bs names (convert_expr _ _) = tt
no_partitions bs names (is_null_expr _) = tt
no_partitions bs names (null_expr _) = tt
no_partitions bs names (cast_expr _ _) = tt
no_partitions bs names (space_expr _ _) = tt

owned_scalar : (n : ℕ) (t : StaticType) → IsScalar t → IsScalar (owned n t)
owned_scalar n _ (scalar_integer w) = scalar_integer w
owned_scalar n _ scalar_truth = scalar_truth

-- a declared type and what fits it
declared_fits : (tree : Tree) (s : Scope) (t : TypeTerm) (from : StaticType) → is_scalar_term t ≡ true → IsSimple from →
    fits s.known from (declared_type tree s t) ≡ true → AreAlike from (type_said tree (in_scope s) s.next t)
declared_fits tree s (term.Number number.Int32) from sc scalar e = simple_fitting s.known from (integer_type W32) scalar (scalar_integer W32) e
declared_fits tree s (term.Number number.Int64) from sc scalar e = simple_fitting s.known from (integer_type W64) scalar (scalar_integer W64) e
declared_fits tree s (term.Number (number.Index k)) from sc scalar e = absurd (no_way_back sc)
declared_fits tree s term.Truth from sc scalar e = simple_fitting s.known from truth_type scalar scalar_truth e
declared_fits tree s (term.Pointer p) from sc scalar e = absurd (no_way_back sc)
declared_fits tree s (term.Ispace k) from sc scalar e = absurd (no_way_back sc)
declared_fits tree s (term.Region k u) from sc scalar e = absurd (no_way_back sc)
declared_fits tree s (term.Partition d r c) from sc scalar e = absurd (no_way_back sc)

module _ (tree : Tree) (task : TaskTree) (sound : IsSound tree) (params : ℕ) (result : is_no_result_type task.result ≡ false) where
  -- a place of the body, on a line
  abbrev pub at : Scope → ℕ → Where
  at s line = record { tree = tree; scope = s; result = result_type tree task.result; params = params; line = line }

  -- the head of a statement, told in a scope
  headed : (s : Scope) (line : ℕ) (e : Expression) → is_scalar_expression e ≡ true → AreKept (parts_of_expression e) →
      (scope : IsSoundScope s) (names : AllScalar s.names) → first_in_expression tree task s e ≡ None → IsScalarWell task (at s line) sound scope names e
  headed s line e sc k scope names told = well task (at s line) sound scope names e sc k told

  -- what stands somewhere, by the meaning's type
  stands_as : (s : Scope) (e : Expression) (p : Spot) → IsSoundScope s → first_in_expression tree task s e ≡ None →
      may_stand s.known (stands (known_type tree s e) p) ≡ true → may_stand s.known (stands (type_of tree s e) p) ≡ true
  stands_as s e p scope told may = subst (λ t. may_stand s.known (stands t p) ≡ true) (head_known tree task sound s scope e told).1 may

  -- ---- statements without blocks

  var_typed : (s : Scope) (line : ℕ) (n : Name) (t : Option TypeTerm) (i : Option Initializer) → is_scalar_form (var_form n t i) ≡ true →
      AreKept (parts_of_form (var_form n t i)) → IsSoundScope s → AllScalar s.names → first_of_form tree task s (var_form n t i) ≡ None →
      IsTypedForm scalar_forms (at s line) (var_form n t i) × IsScalar (var_type tree s t i)
  var_typed s line n None None sc k scope names e = absurd (no_way (told_of_form tree task s sound scope (var_form n None None) e).1)
  var_typed s line n None (Some (plain_initializer y)) sc k scope names e =
      let told = initial_told tree task s y (no_partitions s.names names y) (told_of_form tree task s sound scope (var_form n None (Some (plain_initializer y))) e).2 in
      let a = headed s line y sc k scope names told in
      ((scalar_simple _ a.scalar, a.is), owned_scalar s.next (type_of tree s y) a.scalar)
  var_typed s line n (Some t) None sc k scope names e =
      let q = term_scalar t (and_parts (is_scalar_term t) true sc).0 tree (in_scope s) s.next in (q, q)
  var_typed s line n (Some t) (Some (plain_initializer y)) sc k scope names e =
      let form = var_form n (Some t) (Some (plain_initializer y)) in
      let both = and_parts (is_scalar_term t) (is_scalar_expression y) sc in
      let parts = told_of_form tree task s sound scope form e in
      let told = initial_told tree task s y (no_partitions s.names names y) parts.2 in
      let a = headed s line y both.1 (kept_right (parts_of_type (Some t)) (parts_of_expression y) k) scope names told in
      let from = type_of tree s y in
      let begun : known_initializer tree s (plain_initializer y) ≡ from =
      unless_false (is_flawed_initializer tree s (plain_initializer y)) (owned s.next from)
      (begun_sound tree task s sound scope n (Some t) (plain_initializer y) e).0 ∙ owned_simple s.next from (scalar_simple from a.scalar) in
      let fit = (first_stands s.known (stands (known_initializer tree s (plain_initializer y)) (typed_spot (declared_type tree s t))) [] parts.4).0 in
      let alike = declared_fits tree s t from both.0 (scalar_simple from a.scalar) (ap (λ u. fits s.known u (declared_type tree s t)) (sym begun) ∙ fit) in
      ((alike, a.is), term_scalar t both.0 tree (in_scope s) s.next)
  var_typed s line n None (Some (region_initializer _ _)) sc k scope names e = absurd (no_way_back sc)
  var_typed s line n None (Some (equal_initializer _ _)) sc k scope names e = absurd (no_way_back sc)
  var_typed s line n None (Some (by_field_initializer _ _ _)) sc k scope names e = absurd (no_way_back sc)
  var_typed s line n None (Some (image_initializer _ _ _ _)) sc k scope names e = absurd (no_way_back sc)
  var_typed s line n None (Some (preimage_initializer _ _ _ _)) sc k scope names e = absurd (no_way_back sc)
  var_typed s line n None (Some (both_initializer _ _)) sc k scope names e = absurd (no_way_back sc)
  var_typed s line n None (Some (either_initializer _ _)) sc k scope names e = absurd (no_way_back sc)
  var_typed s line n (Some t) (Some (region_initializer _ _)) sc k scope names e = absurd (no_way_back (and_parts (is_scalar_term t) false sc).1)
  var_typed s line n (Some t) (Some (equal_initializer _ _)) sc k scope names e = absurd (no_way_back (and_parts (is_scalar_term t) false sc).1)
  var_typed s line n (Some t) (Some (by_field_initializer _ _ _)) sc k scope names e = absurd (no_way_back (and_parts (is_scalar_term t) false sc).1)
  var_typed s line n (Some t) (Some (image_initializer _ _ _ _)) sc k scope names e = absurd (no_way_back (and_parts (is_scalar_term t) false sc).1)
  var_typed s line n (Some t) (Some (preimage_initializer _ _ _ _)) sc k scope names e = absurd (no_way_back (and_parts (is_scalar_term t) false sc).1)
  var_typed s line n (Some t) (Some (both_initializer _ _)) sc k scope names e = absurd (no_way_back (and_parts (is_scalar_term t) false sc).1)
  var_typed s line n (Some t) (Some (either_initializer _ _)) sc k scope names e = absurd (no_way_back (and_parts (is_scalar_term t) false sc).1)

  set_typed : (s : Scope) (line : ℕ) (n : Name) (y : Expression) → is_scalar_expression y ≡ true → AreKept (parts_of_expression y) →
      IsSoundScope s → AllScalar s.names → first_of_form tree task s (assign_form n no_step how.Set y) ≡ None →
      IsTypedForm scalar_forms (at s line) (assign_form n no_step how.Set y)
  set_typed s line n y sc k scope names e =
      let form = assign_form n no_step how.Set y in
      let parts = told_of_form tree task s sound scope form e in
      let told = (option_or_parts (first_in_expression tree task s y) _ parts.2).0 in
      let a = headed s line y sc k scope names told in
      let target = option_or_parts (rule_if (not (is_bound s.names n)) rule.Name) _ (target_of_form tree task s sound scope form e) in
      let bound = not-false (is_bound s.names n) (rule_none (not (is_bound s.names n)) rule.Name target.0) in
      let u = (bound_to s.names n).static_type in
      let spot = ap (λ b. typed_spot (cond b unknown_type u)) (told_later tree task s form e).0 in
      let fit = stands_as s y (typed_spot u) scope told (subst (λ p. may_stand s.known (stands (known_type tree s y) p) ≡ true) spot
      (first_stands s.known (stands (known_type tree s y) (spot_of_target (mistargets task s.names n no_step how.Set u) how.Set u)) [] parts.4).0) in
      (fitting s.known (type_of tree s y) u a.scalar (named_scalar s.names n names bound) fit, a.is, bound, tt)

  reduce_typed : (s : Scope) (line : ℕ) (n : Name) (o : Op) (y : Expression) → is_scalar_expression y ≡ true → AreKept (parts_of_expression y) →
      IsSoundScope s → AllScalar s.names → first_of_form tree task s (assign_form n no_step (how.Reduce o) y) ≡ None →
      IsTypedForm scalar_forms (at s line) (assign_form n no_step (how.Reduce o) y)
  reduce_typed s line n o y sc k scope names e =
      let form = assign_form n no_step (how.Reduce o) y in
      let parts = told_of_form tree task s sound scope form e in
      let told = (option_or_parts (first_in_expression tree task s y) _ parts.2).0 in
      let a = headed s line y sc k scope names told in
      let target = option_or_parts (rule_if (not (is_bound s.names n)) rule.Name) _ (target_of_form tree task s sound scope form e) in
      let bound = not-false (is_bound s.names n) (rule_none (not (is_bound s.names n)) rule.Name target.0) in
      let u = (bound_to s.names n).static_type in
      let both = or_parts (is_no_target task s.names n no_step u) (not (may_be is_integer u)) (told_later tree task s form e).0 in
      let whole = not-false (may_be is_integer u) both.1 in
      let may = stands_as s y integer_spot scope told (first_stands s.known (stands (known_type tree s y) integer_spot) [] parts.4).0 in (
        as_integer (type_of tree s y) a.scalar may,
        as_integer u (named_scalar s.names n names bound) whole,
        a.is,
        bound,
        tt,
      )

  print_typed : (s : Scope) (line : ℕ) (alias : Option Name) (format : List ℕ) (args : Expressions) → are_scalar_expressions args ≡ true →
      AreKept (parts_of_expressions args) → IsSoundScope s → AllScalar s.names →
      first_of_form tree task s (print_form alias format args) ≡ None → IsTypedForm scalar_forms (at s line) (print_form alias format args)
  print_typed s line alias format args sc k scope names e =
      let form = print_form alias format args in
      let told = listed_told tree task s args (told_of_form tree task s sound scope form e).2 in
      let types = known_types tree s args in
      let whole = or_parts (not (is_count (length types) (numbers_in format))) _ (told_later tree task s form e).1 in
      let many = counted (length types) (numbers_in format) (not-false (is_count (length types) (numbers_in format)) whole.0) in (
        numbers_well task (at s line) sound scope names args sc k told whole.1,
        many ∙ ap Some (count_types tree s args),
      )

  return_typed : (s : Scope) (line : ℕ) (y : Option Expression) → is_scalar_value y ≡ true → AreKept (parts_of_value y) → IsSoundScope s →
      AllScalar s.names → first_of_form tree task s (return_form y) ≡ None → IsTypedForm scalar_forms (at s line) (return_form y)
  return_typed s line None sc k scope names e = λ c. absurd (not_true c)
  return_typed s line (Some y) sc k scope names e =
      let form = return_form (Some y) in
      let parts = told_of_form tree task s sound scope form e in
      let told = (option_or_parts (first_in_expression tree task s y) _ parts.2).0 in
      let a = headed s line y sc k scope names told in
      let fit = stands_as s y (typed_spot (known_result tree task.result)) scope told
      (first_stands s.known (stands (known_type tree s y) (typed_spot (known_result tree task.result))) [] parts.4).0 in
      (result_fits false s.names tree s.known task.result (type_of tree s y) result (told_later tree task s form e).2 (value_simple _ (scalar_simple _ a.scalar)) fit, a.is)

  test_typed : (s : Scope) (line : ℕ) (y : Expression) → is_scalar_expression y ≡ true → AreKept (parts_of_expression y) → IsSoundScope s →
      AllScalar s.names → first_in_expression tree task s y ≡ None → may_stand s.known (stands (known_type tree s y) truth_spot) ≡ true →
      IsTruth (type_of tree s y) × IsTyped scalar_forms (at s line) y
  test_typed s line y sc k scope names told may =
      let a = headed s line y sc k scope names told in
      (as_truth (type_of tree s y) a.scalar (stands_as s y truth_spot scope told may), a.is)

  bound_typed : (s : Scope) (line : ℕ) (y : Expression) → is_scalar_expression y ≡ true → AreKept (parts_of_expression y) → IsSoundScope s →
      AllScalar s.names → first_in_expression tree task s y ≡ None → may_stand s.known (stands (known_type tree s y) integer_spot) ≡ true →
      IsInteger (type_of tree s y) × IsTyped scalar_forms (at s line) y
  bound_typed s line y sc k scope names told may =
      let a = headed s line y sc k scope names told in
      (as_integer (type_of tree s y) a.scalar (stands_as s y integer_spot scope told may), a.is)

  -- ---- statements

  mutual
    pub form_typed : (s : Scope) (line : ℕ) (form : Form) → is_scalar_form form ≡ true → AreKept (parts_of_form form) → IsSoundScope s →
        AllScalar s.names → first_of_form tree task s form ≡ None → first_within tree task s form ≡ None →
        IsTypedForm scalar_forms (at s line) form × AllScalar (scope_after tree s form).names
    form_typed s line (var_form n t i) sc k scope names e w =
        let v = var_typed s line n t i sc k scope names e in (v.0, (v.1, names))
    form_typed s line (assign_form n no_step how.Set y) sc k scope names e w = (set_typed s line n y sc k scope names e, names)
    form_typed s line (assign_form n no_step (how.Reduce o) y) sc k scope names e w = (reduce_typed s line n o y sc k scope names e, names)
    form_typed s line (assign_form n (field_step _ _) h y) sc k scope names e w = absurd (no_way_back sc)
    form_typed s line (assign_form n (at_step _ _) h y) sc k scope names e w = absurd (no_way_back sc)
    form_typed s line (print_form alias format args) sc k scope names e w = (print_typed s line alias format args sc k scope names e, names)
    form_typed s line (return_form y) sc k scope names e w = (return_typed s line y sc k scope names e, names)
    form_typed s line (assert_form y) sc k scope names e w =
        let parts = told_of_form tree task s sound scope (assert_form y) e in
        let told = (option_or_parts (first_in_expression tree task s y) _ parts.2).0 in
        (test_typed s line y sc k scope names told (first_stands s.known (stands (known_type tree s y) truth_spot) [] parts.4).0, names)
    form_typed s line (do_form body) sc k scope names e w = (block_typed s line body sc k scope names w, names)
    form_typed s line (while_form test body) sc k scope names e w =
        let both = and_parts (is_scalar_expression test) (is_scalar_block body) sc in
        let parts = told_of_form tree task s sound scope (while_form test body) e in
        let told = (option_or_parts (first_in_expression tree task s test) _ parts.2).0 in
        let t = test_typed s line test both.0 (kept_left (parts_of_expression test) (parts_of_block body) k) scope names told
        (first_stands s.known (stands (known_type tree s test) truth_spot) [] parts.4).0 in
        ((t.0, t.1, block_typed s line body both.1 (kept_right (parts_of_expression test) (parts_of_block body) k) scope names w), names)
    form_typed s line (for_to_form demanded n from to body) sc k scope names e w =
        let one = and_parts (is_scalar_expression from) _ sc in
        let two = and_parts (is_scalar_expression to) (is_scalar_block body) one.1 in
        let k2 = kept_right (parts_of_expression from) (parts_of_expression to ++ parts_of_block body) k in
        let parts = told_of_form tree task s sound scope (for_to_form demanded n from to body) e in
        let first = option_or_parts (first_in_expression tree task s from) _ parts.2 in
        let second = option_or_parts (first_in_expression tree task s to) _ first.1 in
        let standing = first_stands s.known (stands (known_type tree s from) integer_spot) (stands (known_type tree s to) integer_spot ∷ []) parts.4 in
        let a = bound_typed s line from one.0 (kept_left (parts_of_expression from) (parts_of_expression to ++ parts_of_block body) k) scope names first.0 standing.0 in
        let b = bound_typed s line to two.0 (kept_left (parts_of_expression to) (parts_of_block body) k2) scope names second.0
        (first_stands s.known (stands (known_type tree s to) integer_spot) [] standing.1).0 in
        let inner = count_scope tree task sound s demanded n from to body scope e in
        let ty = arithmetic_type (type_of tree s from) (type_of tree s to) in
        let s1 = with_name s n ty true in
        let block = block_typed s1 line body two.1 (kept_right (parts_of_expression to) (parts_of_block body) k2)
        (subst IsSoundScope inner.0 inner.1) (sum_scalar (type_of tree s from) (type_of tree s to) a.0 b.0, names)
        (subst (λ u. first_in_block tree task u body ≡ None) inner.0 w) in
        ((a.0, b.0, a.1, b.1, block), names)
    form_typed s line (if_form arms other) sc k scope names e w =
        let both = and_parts (are_scalar_arms arms) (is_scalar_else other) sc in
        let parts = told_of_form tree task s sound scope (if_form arms other) e in
        let next = else_next tree task sound s arms other scope w in
        let a = arms_typed s s line arms both.0 (kept_left (parts_of_arms arms) (parts_of_otherwise other) k) scope names scope names next.0 parts.2 parts.4 in
        let o = else_typed (scope_after_arms tree s arms) line other both.1 (kept_right (parts_of_arms arms) (parts_of_otherwise other) k)
        next.1 a.1 next.2 in
        ((a.0, o), subst AllScalar (sym (else_names tree (scope_after_arms tree s arms) other ∙ arms_names tree s arms)) names)
    form_typed s line (for_in_form demanded n domain body) sc k scope names e w = absurd (no_way_back sc)
    form_typed s line (fill_form r fields y) sc k scope names e w = absurd (no_way_back sc)
    form_typed s line (call_form t args) sc k scope names e w = absurd (no_way_back sc)

    arms_typed : (own s : Scope) (line : ℕ) (arms : Arms) → are_scalar_arms arms ≡ true → AreKept (parts_of_arms arms) → IsSoundScope own →
        AllScalar own.names → IsSoundScope s → AllScalar s.names → first_in_arms tree task s arms ≡ None →
        first_in (first_in_expression tree task own) (tests_of arms) ≡ None →
        list_any (is_ill_typed_at_place own.known) (all_stand tree own truth_spot (tests_of arms)) ≡ false →
        AreTypedArms scalar_forms (at own line) (at s line) arms × AllScalar (scope_after_arms tree s arms).names
    arms_typed own s line no_arm sc k oscope onames scope names e heads standing = (tt, names)
    arms_typed own s line (an_arm test body rest) sc k oscope onames scope names e heads standing =
        let one = and_parts (is_scalar_expression test) _ sc in
        let two = and_parts (is_scalar_block body) (are_scalar_arms rest) one.1 in
        let k2 = kept_right (parts_of_expression test) (parts_of_block body ++ parts_of_arms rest) k in
        let tests = option_or_parts (first_in_expression tree task own test) _ heads in
        let stood = first_stands own.known (stands (known_type tree own test) truth_spot) (all_stand tree own truth_spot (tests_of rest)) standing in
        let next = arm_next tree task sound s test body rest scope e in
        let t = test_typed own line test one.0 (kept_left (parts_of_expression test) (parts_of_block body ++ parts_of_arms rest) k) oscope onames tests.0 stood.0 in
        let b = block_typed s line body two.0 (kept_left (parts_of_block body) (parts_of_arms rest) k2) scope names next.0 in
        let r = arms_typed own (past s (scope_after_block tree s body)) line rest two.1 (kept_right (parts_of_block body) (parts_of_arms rest) k2)
        oscope onames next.1 names next.2 tests.1 stood.1 in
        ((t.0, t.1, b, r.0), r.1)

    else_typed : (s : Scope) (line : ℕ) (other : Otherwise) → is_scalar_else other ≡ true → AreKept (parts_of_otherwise other) → IsSoundScope s →
        AllScalar s.names → first_in_else tree task s other ≡ None → IsTypedElse scalar_forms (at s line) other
    else_typed s line no_else sc k scope names e = tt
    else_typed s line (else_block body) sc k scope names e = block_typed s line body sc k scope names e

    pub block_typed : (s : Scope) (line : ℕ) (body : Block) → is_scalar_block body ≡ true → AreKept (parts_of_block body) → IsSoundScope s →
        AllScalar s.names → first_in_block tree task s body ≡ None → IsTypedBlock scalar_forms (at s line) body
    block_typed s line no_statement sc k scope names e = tt
    block_typed s line (then_statement (a_statement at_line form) rest) sc k scope names e =
        let both = and_parts (is_scalar_form form) (is_scalar_block rest) sc in
        let k2 = kept_behind node (parts_of_form form ++ parts_of_block rest) k in
        let next = block_next tree task sound s at_line form rest scope e in
        let f = form_typed s at_line form both.0 (kept_left (parts_of_form form) (parts_of_block rest) k2) scope names next.0 next.1 in
        (f.0, block_typed (scope_after tree s form) line rest both.1 (kept_right (parts_of_form form) (parts_of_block rest) k2) next.2 f.1 next.3)
