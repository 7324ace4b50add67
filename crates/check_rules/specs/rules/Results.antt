-- Rule 17, Return: a task returns a value and declares no result, or returns none and declares one;
-- the result that it declares is neither a number nor a truth.
use Rattle.std.specs.Prelude.{Bool, None, Some, false, is_none, is_some}
use Rattle.regent_tree.specs.Syntax.{Form, ItemForm, TaskTree, return_form, task_item}
use Rattle.check_rules.specs.types.Declarations.{is_no_result_type}

abbrev pub misreturns : TaskTree → Form → Bool
misreturns t (return_form (Some e)) = is_none t.result
misreturns t (return_form None) = is_some t.result
misreturns t form = false

abbrev pub misdeclares_result : ItemForm → Bool
misdeclares_result (task_item t) = is_no_result_type t.result
misdeclares_result form = false
