-- The first rule that a statement breaches in its own parts, form by form, in the order of the checker.
use Rattle.std.specs.List.{list_any}
use Rattle.std.specs.Option.{option_or}
use Rattle.std.specs.Prelude.{Bool, List, Option, [], false, flat_map, map, not, true, ℕ, ◌||◌, ◌∷◌}
use Rattle.regent_tree.specs.Lookup.{type_named}
use Rattle.regent_tree.specs.Scopes.{Scope}
use Rattle.regent_tree.specs.Syntax.{Expression, Expressions, Form, Name, TaskTree, Tree, do_form, for_in_form, for_to_form, if_form, while_form}
use Rattle.regent_tree.specs.declared.rights.Access.TheVariants.{Write}
use Rattle.regent_tree.specs.Typing.{taken_from}
use Rattle.regent_tree.specs.declared.typing.Bound.{Bound}
use Rattle.check_rules.specs.types.Declarations.{known_field}
use Rattle.check_rules.specs.first.FirstInExpressions.{first_in_args, first_in_expression, first_of_call, first_of_standing}
use Rattle.check_rules.specs.rules.Formats.{misprints}
use Rattle.check_rules.specs.types.KnownTypes.{known_type, known_types}
use Rattle.check_rules.specs.types.Lookup.{names_a}
use Rattle.check_rules.specs.rules.Names.{is_unknown_region_field, misses_alias}
use Rattle.check_rules.specs.rules.Privileges.{lacks, wanted_of_region}
use Rattle.check_rules.specs.first.Rules.{first_in, first_of, rule_if}
use Rattle.check_rules.specs.types.TypedForms.{calling}
use Rattle.check_rules.specs.types.Sorts.{is_region, is_space, may_be}
use Rattle.check_rules.specs.rules.Standing.{domain_spot, integer_spot, stands, truth_spot, typed_spot, value_spot}
use Rattle.check_rules.specs.declared.rule.Rule.{Rule}
use Rattle.check_rules.specs.declared.rule.Rule.TheVariants as rule
use Rattle.check_rules.specs.scopes.Variables.{counted_type}
use Rattle.check_forms.specs.declared.heads.LoopHead.{LoopHead}

-- the test of a `while` or an `assert`
abbrev pub first_of_test : Tree → TaskTree → Scope → Expression → Option Rule
first_of_test tree task s e = first_of (first_in_expression tree task s e
    ∷ first_of_standing [] (stands (known_type tree s e) truth_spot)
    ∷ [])

-- the tests of an `if`
abbrev pub first_of_tests : Tree → TaskTree → Scope → List Expression → Option Rule
first_of_tests tree task s es = first_of (first_in (first_in_expression tree task s) es
    ∷ first_in (first_of_standing []) (map (λ t. stands t truth_spot) (map (known_type tree s) es))
    ∷ [])

-- the head of a loop over a region or an index space
abbrev pub first_of_domain : Tree → TaskTree → Scope → Expression → Option Rule
first_of_domain tree task s e = first_of (first_in_expression tree task s e
    ∷ first_of_standing [] (stands (known_type tree s e) domain_spot)
    ∷ [])

-- the head of a loop between two bounds
abbrev pub first_of_bounds : Tree → TaskTree → Scope → Expression → Expression → Option Rule
first_of_bounds tree task s from to = first_of (first_in_expression tree task s from
    ∷ first_in_expression tree task s to
    ∷ first_of_standing [] (stands (known_type tree s from) integer_spot)
    ∷ first_of_standing [] (stands (known_type tree s to) integer_spot)
    ∷ [])

-- ---- what the head of a loop says

abbrev pub head_over : Tree → Scope → Bool → Expression → LoopHead
head_over tree s demanded e = record {
  demanded = demanded;
  taken = taken_from (known_type tree s e);
  over_space = may_be is_space (known_type tree s e);
}

abbrev pub head_between : Tree → Scope → Bool → Expression → Expression → LoopHead
head_between tree s demanded from to = record {
  demanded = demanded;
  taken = counted_type (known_type tree s from) (known_type tree s to);
  over_space = false;
}

-- ---- statements without blocks

-- the region and the fields of a `fill`
abbrev pub first_of_filled : Tree → List Bound → Name → List Name → Option Rule
first_of_filled tree names r fields =
    rule_if (not (names_a is_region names r) || list_any (is_unknown_region_field tree names r) fields) rule.Name

abbrev pub first_of_fill : Tree → TaskTree → Scope → Name → List Name → Expression → Option Rule
first_of_fill tree task s r fields e = let t = type_named s.names r in
    first_of (first_in_expression tree task s e
    ∷ first_of_filled tree s.names r fields
    ∷ first_in (first_of_standing s.known)
    (map (λ f. stands (known_type tree s e) (typed_spot (known_field tree t f))) fields)
    ∷ rule_if (lacks tree task s (flat_map (wanted_of_region tree Write t) fields)) rule.Write
    ∷ [])

abbrev pub first_of_print : Tree → TaskTree → Scope → Option Name → List ℕ → Expressions → Option Rule
first_of_print tree task s alias format args = let types = known_types tree s args in
    first_of (first_in_args tree task s args
    ∷ rule_if (misses_alias tree alias) rule.Name
    ∷ first_in (first_of_standing []) (map (λ t. stands t value_spot) types)
    ∷ rule_if (misprints format types) rule.Format
    ∷ [])

-- a call that stands alone
abbrev pub first_of_call_alone : Tree → TaskTree → Scope → Name → Expressions → Option Rule
first_of_call_alone tree task s n args = option_or (first_in_args tree task s args)
    (first_of_call tree task s (calling n (known_types tree s args)))

-- blocks stand in the statement
abbrev pub has_block : Form → Bool
has_block (if_form arms other) = true
has_block (while_form test body) = true
has_block (for_in_form demanded n domain body) = true
has_block (for_to_form demanded n from to body) = true
has_block (do_form body) = true
has_block form = false
