use Rattle.std.proofs.Common.{◌≡◌, ◌+◌, ◌*◌}
use Rattle.std.specs.Vec.Iter.{into_iter_items}
use Rattle.machine_terms.specs.Orders.{call_all, run_segments, runs}
use Rattle.plain_run.proofs.Resuming.{RunsOn}
use Rattle.plain_run.proofs.order.+run.Given as goal

abbrev pub decreases-runs : goal.decreases-runs
decreases-runs l = 8 * l.levels

abbrev pub decreases-run_segments : goal.decreases-run_segments
decreases-run_segments l = 8 * l.below + 6

abbrev pub decreases-next_segment : goal.decreases-next_segment
decreases-next_segment l = 8 * l.below + 5

abbrev pub decreases-resume : goal.decreases-resume
decreases-resume l = 8 * l.below + 4

abbrev pub decreases-call_all : goal.decreases-call_all
decreases-call_all l = 8 * l.below + 3

abbrev pub decreases-call_task : goal.decreases-call_task
decreases-call_task l = 8 * l.below + 2

abbrev pub decreases-run_child : goal.decreases-run_child
decreases-run_child l = 8 * l.below + 1

abbrev pub invariant-run_segments-loop-left : goal.invariant-run_segments-loop-left
invariant-run_segments-loop-left l =
    RunsOn l.code l.turns (runs l.code l.turns l.below) l.left l.holder l.answers
    (run_segments l.code l.turns (runs l.code l.turns l.below) l.count l.fn.holder.instance)

abbrev pub decreases-run_segments-loop-left : goal.decreases-run_segments-loop-left
decreases-run_segments-loop-left l = l.left

abbrev pub invariant-call_all-loop-call : goal.invariant-call_all-loop-call
invariant-call_all-loop-call l =
    call_all l.code l.turns (runs l.code l.turns l.below) (into_iter_items l.call-iterator) l.instance
    ≡ call_all l.code l.turns (runs l.code l.turns l.below) l.fn.calls l.fn.instance
