-- What follows when an operation's own work has ended: it is over when its children are, and so on up its callers.
use Rattle.std.specs.Prelude.{ℕ, zero, suc, List, [], ◌∷◌, Bool, false, true, ◌&&◌, cond, length}
use Rattle.std.specs.List.{list_all}
use Rattle.region_tree.specs.declared.tree.OpNumber.{OpNumber}
use Rattle.region_tree.specs.declared.tree.RootId.{RootId}
use Rattle.logical_map.specs.Maps.{LogicalMap, closed}
use Rattle.dependence_graph.specs.Graphs.{ended}
use Rattle.dependence_graph.specs.Knots.{knot_at}
use Rattle.dependence_graph.specs.declared.stage.How.{How}
use Rattle.dependence_graph.specs.declared.stage.How.TheVariants.{Done, Failed}
use Rattle.dependence_graph.specs.declared.stage.Stage.{Stage as Knotted}
use Rattle.dependence_graph.specs.declared.stage.Stage.TheVariants as knot
use Rattle.board_terms.specs.declared.operation.Ending.TheVariants.{Value}
use Rattle.board_terms.specs.declared.operation.Activity.{Activity}
use Rattle.board_terms.specs.declared.operation.Activity.TheVariants.{Closing}
use Rattle.board_terms.specs.Stages.{is_closing, is_good, is_over, stage_at}
use Rattle.board_terms.specs.States.{State, operation_at}

abbrev pub all_over : State → List OpNumber → Bool
all_over s ops = list_all (λ (o : OpNumber). is_over (stage_at s o.0)) ops

abbrev pub all_good : State → List OpNumber → Bool
all_good s ops = list_all (λ (o : OpNumber). is_good (stage_at s o.0)) ops

-- its own work has ended, and all of its children are over
abbrev pub may_close : State → ℕ → Bool
may_close s k = is_closing (stage_at s k) && all_over s (operation_at s k).children

-- it has ended where it came to its end and all of its children have ended, and else it has failed; one that was
-- stopped has failed
abbrev pub came_to_end : Activity → Bool
came_to_end (Closing (Value v)) = true
came_to_end _ = false

abbrev pub not_stopped : Knotted → Bool
not_stopped knot.Stopped = false
not_stopped _ = true

abbrev pub how_closed : State → ℕ → How
how_closed s k = cond
    (not_stopped (knot_at s.waits.knots k).stage
    && (came_to_end (operation_at s k).activity && all_good s (operation_at s k).children))
    Done Failed

-- its own roots are closed, but for main's
abbrev pub closed_all : List RootId → LogicalMap → LogicalMap
closed_all [] map = map
closed_all (r ∷ rs) map = closed_all rs (closed r.0 map)

abbrev pub map_behind : State → ℕ → LogicalMap
map_behind s zero = s.map
map_behind s (suc k) = closed_all (operation_at s (suc k)).frame.own s.map

abbrev pub over : State → ℕ → State
over s k = record s { waits = ended s.waits k (how_closed s k); map = map_behind s k }

-- what is then done with the caller; nobody has called main
abbrev pub up_from : ℕ → (State → ℕ → State) → State → State
up_from zero close s = s
up_from (suc k) close s = close s (operation_at s (suc k)).parent.0

-- an operation that may close is over, and then maybe its caller, and so on, so many of them at most
abbrev pub closed_up : ℕ → State → ℕ → State
closed_up zero s k = s
closed_up (suc n) s k = cond (may_close s k) (up_from k (closed_up n) (over s k)) s

-- no chain of callers is longer than there are operations
abbrev pub followed : State → ℕ → State
followed s k = closed_up (length s.operations) s k
