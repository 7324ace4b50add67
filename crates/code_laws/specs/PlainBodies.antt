-- Bodies in which no pointer and no partition is kept, and indices and index spaces change hands in no way but as what a variable
-- begins with: told by the types of what stands there.
use Rattle.std.specs.Prelude.{Bool, true, false, List, Some, None, ◌&&◌, ◌||◌}
use Rattle.std.specs.List.{list_all}
use Rattle.regent_tree.specs.Accesses.{args_in, space_in}
use Rattle.regent_tree.specs.StaticTypes.{field_type}
use Rattle.regent_tree.specs.Syntax.{Arms, Block, Expression, Expressions, Form, Links, Name, Otherwise, a_link, a_statement, access_expr, an_arm, an_expr, assert_form, assign_form, at_step, call_expr, call_form, chain_expr, convert_expr, do_form, else_block, field_step, fill_form, for_in_form, for_to_form, if_form, no_arm, no_else, no_expr, no_link, no_statement, no_step, number_expr, plain_initializer, prefix_expr, print_form, region_initializer, return_form, space_expr, then_statement, truth_expr, var_form, while_form}
use Rattle.regent_tree.specs.Typing.{arithmetic_type, taken_from}
use Rattle.regent_tree.specs.declared.statement.How.TheVariants as how
use Rattle.regent_tree.specs.declared.types.Param.{Param}
use Rattle.regent_tree.specs.declared.types.TypeTerm.{TypeTerm}
use Rattle.regent_tree.specs.declared.types.TypeTerm.TheVariants as term
use Rattle.regent_tree.specs.declared.typing.StaticType.{StaticType}
use Rattle.regent_tree.specs.declared.typing.StaticType.TheVariants.{Index as index_type, Integer as integer_type, Ispace as ispace_type, Truth as truth_type}
use Rattle.code_rules.specs.Slots.{Where, bound, typed}
use Rattle.code_rules.specs.Statements.{after_arm, after_arms, after_form, looping, on_line}
use Rattle.code_laws.specs.Typed.{element_field}
use Rattle.scalar_form.specs.ScalarForm.{is_scalar_number, is_scalar_term}

-- ---- types

abbrev pub is_scalar_type : StaticType → Bool
is_scalar_type (integer_type w) = true
is_scalar_type truth_type = true
is_scalar_type t = false

-- also an index, or an index space
abbrev pub is_plain_type : StaticType → Bool
is_plain_type (index_type k) = true
is_plain_type (ispace_type k) = true
is_plain_type t = is_scalar_type t

-- a number, truth or region is taken
abbrev pub is_plain_term : TypeTerm → Bool
is_plain_term (term.Region k u) = true
is_plain_term t = is_scalar_term t

abbrev pub are_plain_params : List Param → Bool
are_plain_params ps = list_all (λ (p : Param). is_plain_term p.term) ps

-- ---- expressions

abbrev pub stands_alone : Expression → Bool
stands_alone (access_expr n no_step) = true
stands_alone e = false

abbrev mutual
  pub is_plain : Where → Expression → Bool
  is_plain w (number_expr z v) = true
  is_plain w (truth_expr b) = true
  is_plain w (chain_expr first rest) = is_plain w first && are_plain_links w rest
  is_plain w (prefix_expr signs e) = is_plain w e && is_scalar_type (typed w e)
  is_plain w (access_expr n no_step) = is_plain_type (bound w n).static_type
  is_plain w (access_expr n (at_step e (field_step f no_step))) = is_plain w e && is_scalar_type (element_field w n e f)
  is_plain w (call_expr task args) = are_plain_args w args
  is_plain w (convert_expr t e) = is_scalar_number t && is_plain w e
  is_plain w (space_expr k e) = is_plain w e
  is_plain w e = false

  pub are_plain_links : Where → Links → Bool
  are_plain_links w no_link = true
  are_plain_links w (a_link o e rest) = is_plain w e && are_plain_links w rest

  -- an argument is a name, of a region too, or such an expression
  pub are_plain_args : Where → Expressions → Bool
  are_plain_args w no_expr = true
  are_plain_args w (an_expr e es) = (stands_alone e || is_plain w e) && are_plain_args w es

abbrev pub are_plain : Where → Expressions → Bool
are_plain w no_expr = true
are_plain w (an_expr e es) = is_plain w e && are_plain w es

-- ---- statements

-- fields of numbers and truths
abbrev pub are_scalar_fields : Where → Name → List Name → Bool
are_scalar_fields w r fields =
    list_all (λ f. is_scalar_type (field_type w.tree (space_in (bound w r).static_type) (args_in (bound w r).static_type) f)) fields

abbrev mutual
  pub is_plain_form : Where → Form → Bool
  is_plain_form w (var_form n None (Some (plain_initializer e))) = is_plain w e
  is_plain_form w (var_form n None (Some (region_initializer e u))) = is_plain w e
  is_plain_form w (var_form n (Some t) (Some (plain_initializer e))) = is_scalar_term t && is_plain w e
  is_plain_form w (var_form n (Some t) None) = is_scalar_term t
  is_plain_form w (if_form arms other) = are_plain_arms w w arms && is_plain_else (after_arms w arms) other
  is_plain_form w (while_form test body) = is_plain w test && is_plain_block w body
  is_plain_form w (do_form body) = is_plain_block w body
  is_plain_form w (assert_form e) = is_plain w e
  is_plain_form w (print_form alias format args) = are_plain w args
  is_plain_form w (return_form None) = true
  is_plain_form w (return_form (Some e)) = is_plain w e
  is_plain_form w (for_to_form demanded n from to body) = is_plain w from
      && (is_plain w to && is_plain_block (looping w n (arithmetic_type (typed w from) (typed w to))) body)
  is_plain_form w (for_in_form demanded n domain body) =
      is_plain w domain && is_plain_block (looping w n (taken_from (typed w domain))) body
  is_plain_form w (assign_form n no_step how.Set e) = is_scalar_type (bound w n).static_type && is_plain w e
  is_plain_form w (assign_form n no_step (how.Reduce o) e) = is_plain w e
  is_plain_form w (assign_form n (at_step e (field_step f no_step)) h y) =
      is_scalar_type (element_field w n e f) && (is_plain w e && is_plain w y)
  is_plain_form w (call_form task args) = are_plain_args w args
  is_plain_form w (fill_form r fields e) = are_scalar_fields w r fields && is_plain w e
  is_plain_form w form = false

  -- tests stand in the scope of the `if` itself
  pub are_plain_arms : Where → Where → Arms → Bool
  are_plain_arms own w no_arm = true
  are_plain_arms own w (an_arm test body rest) =
      is_plain own test && (is_plain_block w body && are_plain_arms own (after_arm w body) rest)

  pub is_plain_else : Where → Otherwise → Bool
  is_plain_else w no_else = true
  is_plain_else w (else_block body) = is_plain_block w body

  pub is_plain_block : Where → Block → Bool
  is_plain_block w no_statement = true
  is_plain_block w (then_statement (a_statement line form) rest) =
      is_plain_form (on_line w line) form && is_plain_block (after_form w form) rest
