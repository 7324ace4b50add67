-- What is asked of a task inside the proof: each name that is read has a number, a truth, an index, an index space or a pointer, which goes
-- into few regions. Regions stand where elements are taken of them, where they are handed over or gone through; partitions where
-- their colours are had, where they or their parts are handed over or gone through, where variables begin as parts, or others are made of them.
use Rattle.std.specs.Prelude.{Bool, true, false, not, List, [], ◌∷◌, ◌&&◌, ◌||◌, length, nat_le, Some, None}
use Rattle.std.specs.List.{list_all}
use Rattle.regent_tree.specs.StaticTypes.{task_named}
use Rattle.regent_tree.specs.Syntax.{cast_expr, is_null_expr, null_expr, a_link, a_statement, access_expr, an_arm, an_expr, Arms, assert_form, assign_form, at_step, both_initializer, by_field_initializer, either_initializer, equal_initializer, image_initializer, preimage_initializer, Block, call_expr, call_form, chain_expr, convert_expr, do_form, else_block, Expression, Expressions, field_step, fill_form, for_in_form, for_to_form, Form, if_form, Links, no_arm, no_else, no_expr, no_link, no_statement, no_step, number_expr, Otherwise, plain_initializer, prefix_expr, print_form, region_initializer, return_form, space_expr, TaskTree, then_statement, Tree, truth_expr, var_form, while_form}
use Rattle.regent_tree.specs.Typing.{param_types, arithmetic_type, taken_from, var_type}
use Rattle.regent_tree.specs.declared.typing.StaticType.{StaticType}
use Rattle.regent_tree.specs.declared.typing.StaticType.TheVariants.{Integer as integer_type, Truth as truth_type, Index as index_type, Pointer as pointer_type, Ispace as ispace_type}
use Rattle.check_rules.specs.types.Sorts.{is_partition, is_region}
use Rattle.code_rules.specs.Instructions.{tasks_of}
use Rattle.code_rules.specs.Programs.{place_of}
use Rattle.code_rules.specs.Slots.{bound, typed, Where}
use Rattle.code_rules.specs.Statements.{after_arm, after_arms, after_form, looping, on_line}

-- a number, a truth, an index, an index space, or a pointer; where that is asked (`few`), its type names at most four regions,
-- which is the limit of a text
abbrev pub is_value : Bool → StaticType → Bool
is_value few (integer_type w) = true
is_value few truth_type = true
is_value few (index_type k) = true
is_value few (ispace_type k) = true
is_value few (pointer_type k sp args rs) = not few || nat_le (length rs) 4
is_value few t = false

-- ---- expressions

-- a region's name that stands alone
abbrev pub names_region : Where → Expression → Bool
names_region w (access_expr n no_step) = is_region (bound w n).static_type
names_region w e = false

abbrev mutual
  -- each name in it has such a value, but for regions of which elements are taken
  pub is_whole_expression : Bool → Where → Expression → Bool
  is_whole_expression few w (number_expr z v) = true
  is_whole_expression few w (truth_expr b) = true
  is_whole_expression few w (chain_expr first rest) = is_whole_expression few w first && are_whole_links few w rest
  is_whole_expression few w (prefix_expr signs e) = is_whole_expression few w e
  is_whole_expression few w (access_expr n no_step) = is_value few (bound w n).static_type
  is_whole_expression few w (access_expr n (field_step f rest)) = true
  is_whole_expression few w (access_expr n (at_step e no_step)) = is_region (bound w n).static_type && is_whole_expression few w e
  is_whole_expression few w (access_expr n (at_step e (field_step f rest))) = is_whole_expression few w e
  is_whole_expression few w (access_expr n (at_step e (at_step i rest))) = is_whole_expression few w e && is_whole_expression few w i
  is_whole_expression few w (call_expr task args) = are_whole_arguments few w (param_types w.tree (task_named w.tree task)) args
  is_whole_expression few w (convert_expr t e) = is_whole_expression few w e
  is_whole_expression few w (space_expr k e) = is_whole_expression few w e
  is_whole_expression few w (is_null_expr e) = is_whole_expression few w e
  is_whole_expression few w (null_expr t) = true
  is_whole_expression few w (cast_expr t e) = is_value few (typed w (cast_expr t e)) && is_whole_expression few w e

  pub are_whole_links : Bool → Where → Links → Bool
  are_whole_links few w no_link = true
  are_whole_links few w (a_link o e rest) = is_whole_expression few w e && are_whole_links few w rest

  -- what is given for each of parameters of these types: a region's name, a part of a name's partition, or such an expression, and
  -- for a partition what is one
  pub are_whole_arguments : Bool → Where → List StaticType → Expressions → Bool
  are_whole_arguments few w [] no_expr = true
  are_whole_arguments few w (p ∷ ps) (an_expr e es) =
      (is_partition p || ((is_region p || is_value few p) && (names_region w e || (takes_part few w e || is_whole_expression few w e))))
      && are_whole_arguments few w ps es
  are_whole_arguments few w ps es = false

  -- a part of a name's partition
  pub takes_part : Bool → Where → Expression → Bool
  takes_part few w (access_expr n (at_step e no_step)) = is_partition (bound w n).static_type && is_whole_expression few w e
  takes_part few w e = false

abbrev pub are_whole_expressions : Bool → Where → Expressions → Bool
are_whole_expressions few w no_expr = true
are_whole_expressions few w (an_expr e es) = is_whole_expression few w e && are_whole_expressions few w es

-- what a loop goes over
abbrev pub is_whole_domain : Bool → Where → Expression → Bool
is_whole_domain few w e = names_region w e || (takes_part few w e || is_whole_expression few w e)

-- ---- statements

abbrev mutual
  pub is_whole_form : Bool → Where → Form → Bool
  is_whole_form few w (var_form n None (Some (plain_initializer e))) =
      is_partition (typed w e)
      || (takes_part few w e || (is_value few (var_type w.tree w.scope None (Some (plain_initializer e))) && is_whole_expression few w e))
  is_whole_form few w (var_form n (Some t) (Some (plain_initializer e))) =
      is_partition (typed w e)
      || (takes_part few w e || (is_value few (var_type w.tree w.scope (Some t) (Some (plain_initializer e))) && is_whole_expression few w e))
  is_whole_form few w (var_form n t (Some (region_initializer e u))) = is_whole_expression few w e
  is_whole_form few w (var_form n t (Some (equal_initializer r e))) = is_whole_expression few w e
  is_whole_form few w (var_form n t (Some (by_field_initializer r f e))) = is_whole_expression few w e
  is_whole_form few w (var_form n t (Some (image_initializer s p r f))) = true
  is_whole_form few w (var_form n t (Some (preimage_initializer s p r f))) = true
  is_whole_form few w (var_form n t (Some (both_initializer p q))) = true
  is_whole_form few w (var_form n t (Some (either_initializer p q))) = true
  is_whole_form few w (var_form n t None) = is_value few (var_type w.tree w.scope t None)
  is_whole_form few w (if_form arms other) = are_whole_arms few w w arms && is_whole_else few (after_arms w arms) other
  is_whole_form few w (while_form test body) = is_whole_expression few w test && is_whole_block few w body
  is_whole_form few w (for_in_form demanded n domain body) =
      is_whole_domain few w domain && is_whole_block few (looping w n (taken_from (typed w domain))) body
  is_whole_form few w (for_to_form demanded n from to body) = is_whole_expression few w from
      && (is_whole_expression few w to && is_whole_block few (looping w n (arithmetic_type (typed w from) (typed w to))) body)
  is_whole_form few w (do_form body) = is_whole_block few w body
  is_whole_form few w (fill_form r fields e) = is_whole_expression few w e
  is_whole_form few w (assert_form e) = is_whole_expression few w e
  is_whole_form few w (print_form alias format args) = are_whole_expressions few w args
  is_whole_form few w (call_form task args) = are_whole_arguments few w (param_types w.tree (task_named w.tree task)) args
  is_whole_form few w (assign_form n no_step h e) = is_value few (bound w n).static_type && is_whole_expression few w e
  is_whole_form few w (assign_form n (field_step f rest) h y) = is_whole_expression few w y
  is_whole_form few w (assign_form n (at_step e (field_step f rest)) h y) = is_whole_expression few w e && is_whole_expression few w y
  is_whole_form few w (assign_form n (at_step e (at_step i rest)) h y) =
      (is_whole_expression few w e && is_whole_expression few w i) && is_whole_expression few w y
  is_whole_form few w (return_form None) = true
  is_whole_form few w (return_form (Some e)) = is_whole_expression few w e
  is_whole_form few w form = false

  pub is_whole_block : Bool → Where → Block → Bool
  is_whole_block few w no_statement = true
  is_whole_block few w (then_statement (a_statement line form) rest) =
      is_whole_form few (on_line w line) form && is_whole_block few (after_form w form) rest

  pub are_whole_arms : Bool → Where → Where → Arms → Bool
  are_whole_arms few own w no_arm = true
  are_whole_arms few own w (an_arm test body rest) =
      is_whole_expression few own test && (is_whole_block few w body && are_whole_arms few own (after_arm w body) rest)

  pub is_whole_else : Bool → Where → Otherwise → Bool
  is_whole_else few w no_else = true
  is_whole_else few w (else_block body) = is_whole_block few w body

abbrev pub is_whole_task : Bool → Tree → TaskTree → Bool
is_whole_task few tree t = is_whole_block few (place_of tree t) t.body

abbrev pub is_whole_program : Bool → Tree → Bool
is_whole_program few tree = list_all (is_whole_task few tree) (tasks_of tree)
