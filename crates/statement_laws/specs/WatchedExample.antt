-- A program whose main task makes a region and hands it to a task that reads and reduces it: accepted with the
-- privileges for both, and refused with one that covers neither.
use Rattle.std.specs.Prelude.{List, None, Option, Some, [], ◌++◌, ◌∷◌, ◌≡◌}
use Rattle.lane_kernels.specs.declared.numbers.Op.TheVariants.{Sum}
use Rattle.regent_tree.specs.Execution.{Going}
use Rattle.regent_tree.specs.Running.{Called, Result, broke, fails, gives}
use Rattle.regent_tree.specs.Syntax.{Tree}
use Rattle.regent_tree.specs.declared.outcome.FaultKind.{FaultKind}
use Rattle.regent_tree.specs.declared.outcome.FaultKind.TheVariants.{AssertFailed}
use Rattle.regent_tree.specs.declared.program.Grant.{Grant}
use Rattle.regent_tree.specs.declared.program.Grant.TheVariants.{Reads, Reduces, Writes}
use Rattle.check_rules.specs.Breaches.{breaches}
use Rattle.statement_laws.specs.Watching.{own_run, watched_run}
use Rattle.expression_laws.specs.WrittenStatements.{AreWrittenTasks}
use Rattle.worked_examples.specs.Touches.{sum_of_two, task_with}
use Rattle.worked_examples.specs.Words.{call, fields, get, grants, int, item, line, new_region, space, space_of, task, var_from}

abbrev pub calling_tree : List Grant → Tree
calling_tree granted = task_with (grants granted (fields "r" ("x" ∷ []) ∷ []) ∷ []) sum_of_two
    ++ item 4 (task "main" [] [] (line 5 (var_from "s" (new_region (space (int 2)) (space_of "f" [])))
    ∷ line 6 (call "t" (get "s" ∷ []))
    ∷ [])) ∷ []

-- the kind of the fault that a run ended with, where it did
abbrev pub fault_of : Result Going → Option FaultKind
fault_of (gives g u) = None
fault_of (fails f u) = Some f.kind

-- an alarm: a fault that neither program has
abbrev pub alarm : Called
alarm = broke (record { kind = AssertFailed; line = 0 }) []

-- The premises of the law on programs hold of the first, and its run with this alarm ends without a fault. The second
-- is refused, and its watched run is another than its own: it ends with the alarm.
pub record WatchedExampleHolds : Type 0 where
  pub accepted : breaches (calling_tree (Reads ∷ Reduces Sum ∷ [])) ≡ []
  pub written : AreWrittenTasks (calling_tree (Reads ∷ Reduces Sum ∷ []))
  pub quiet : fault_of (watched_run alarm (calling_tree (Reads ∷ Reduces Sum ∷ [])) [] 10) ≡ None
  pub told : fault_of (watched_run alarm (calling_tree (Writes ∷ [])) [] 10) ≡ Some AssertFailed
  pub own : fault_of (own_run (calling_tree (Writes ∷ [])) [] 10) ≡ None
