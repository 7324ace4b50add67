-- Where operations stand.
use Rattle.std.specs.Prelude.{ℕ, List, Bool, false, true}
use Rattle.std.specs.List.{list_all}
use Rattle.plain_values.specs.Points.{points}
use Rattle.std.specs.Prelude.{filter, length, map}
use Rattle.region_tree.specs.declared.tree.OpNumber.{OpNumber}
use Rattle.dependence_graph.specs.Knots.{is_ready, knot_at, number}
use Rattle.dependence_graph.specs.declared.stage.Stage.{Stage as Knotted}
use Rattle.dependence_graph.specs.declared.stage.Stage.TheVariants as knot
use Rattle.board_terms.specs.declared.operation.Activity.{Activity}
use Rattle.board_terms.specs.declared.operation.Activity.TheVariants as activity
use Rattle.board_terms.specs.declared.operation.Wait.{Wait}
use Rattle.board_terms.specs.declared.operation.Wait.TheVariants as wait
use Rattle.board_terms.specs.States.{State, operation_at}

pub data Stage : Type 0 where
  waiting : Stage
  filling : Stage
  out : Stage
  parked : Stage
  closing : Stage
  ended : Stage
  failed : Stage
  dropped : Stage

-- one that waits for its beginning hasn't begun, be it that its claim was taken back
abbrev pub by_wait : Wait → Stage
by_wait wait.Beginning = waiting
by_wait _ = parked

abbrev pub by_activity : Activity → Stage
by_activity (activity.Filling claim fill) = filling
by_activity (activity.Out claim before) = out
by_activity _ = closing

abbrev pub stage_of : Knotted → Wait → Activity → Stage
stage_of knot.Waiting w st = waiting
stage_of knot.Begun w st = by_activity st
stage_of knot.Parked w st = by_wait w
stage_of knot.Stopped w st = closing
stage_of knot.Done w st = ended
stage_of knot.Failed w st = failed
stage_of knot.Dropped w st = dropped

abbrev pub stage_at : State → ℕ → Stage
stage_at s k = stage_of (knot_at s.waits.knots k).stage (operation_at s k).wait (operation_at s k).activity

-- ---- what is told of an operation

-- it waits, and what it waits for is there
abbrev pub may_be_claimed : State → ℕ → Bool
may_be_claimed s k = is_ready s.waits.knots k

abbrev pub is_in_progress : Stage → Bool
is_in_progress filling = true
is_in_progress out = true
is_in_progress parked = true
is_in_progress closing = true
is_in_progress _ = false

abbrev pub is_over : Stage → Bool
is_over ended = true
is_over failed = true
is_over dropped = true
is_over _ = false

abbrev pub is_good : Stage → Bool
is_good ended = true
is_good _ = false

abbrev pub is_closing : Stage → Bool
is_closing closing = true
is_closing _ = false

-- ---- and of a board

abbrev pub all_in_progress : State → List OpNumber
all_in_progress s =
    map number (filter (λ k. is_in_progress (stage_at s k)) (points (length s.operations)))

-- none is left that isn't over
abbrev pub has_finished : State → Bool
has_finished s = list_all (λ k. is_over (stage_at s k)) (points (length s.operations))
