-- Where calls answer alike, runs are alike.
use Rattle.regent_tree.specs.Execution.{exec_block}
use Rattle.regent_tree.specs.Running.{Calls, Here, State}
use Rattle.regent_tree.specs.Syntax.{Block}
use Rattle.regent_tree.specs.declared.outcome.FaultKind.{FaultKind}
use Rattle.alike_runs.specs.Alike.{AreAlike, IsAlike}

abbrev pub RunsAlike : Type 0
RunsAlike = (other : FaultKind) (h : Here) (calls : Calls) → AreAlike other h.calls calls → (b : Block) (s : State) →
    IsAlike other (exec_block h b s) (exec_block (record h { calls = calls }) b s)
