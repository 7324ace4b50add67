-- Each statement keeps what fits.
use Rattle.std.specs.List.{All}
use Rattle.std.specs.Prelude.{List, None, ◌≡◌}
use Rattle.regent_tree.specs.Execution.{exec}
use Rattle.regent_tree.specs.Laws.{Shape}
use Rattle.regent_tree.specs.Limits.{KeepsLimit, parts_of_form}
use Rattle.regent_tree.specs.Running.{Here, State}
use Rattle.regent_tree.specs.Syntax.{Form, TaskTree}
use Rattle.regent_tree.specs.Typing.{scope_after}
use Rattle.check_rules.specs.first.FirstInStatements.{first_of_form, first_within}
use Rattle.expression_laws.specs.WrittenStatements.{IsWrittenForm}
use Rattle.state_laws.specs.Going.{GoesOnFit, IsPlaceOfRun}
use Rattle.value_laws.specs.Keeping.{StateFits}

-- From each state that fits, a statement of which no breach is told goes on in one that fits, with the names
-- after it; or it returns a value that fits the result type, or it faults, and the store fits.
abbrev pub FormFits : TaskTree → Form → Type 0
FormFits task form = (roots : List Shape) (h : Here) → IsPlaceOfRun task roots h →
    first_of_form h.tree task h.scope form ≡ None → first_within h.tree task h.scope form ≡ None → IsWrittenForm form →
    All KeepsLimit (parts_of_form form) →
    (u : State) → StateFits h.tree roots h.scope.names u →
    GoesOnFit h.tree roots (scope_after h.tree h.scope form).names h.result (exec h form u)

abbrev pub StatementsFit : Type 0
StatementsFit = (task : TaskTree) (form : Form) → FormFits task form
