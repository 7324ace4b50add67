-- What a segment that is given back makes of the operation that it was run for.
use Rattle.std.specs.Prelude.{◌≡◌, ◌<◌, ℕ, List, [], length}
use Rattle.region_tree.specs.declared.tree.OpNumber.{OpNumber}
use Rattle.dependence_graph.specs.Entries.{Knot}
use Rattle.dependence_graph.specs.Knots.{knot_at}
use Rattle.machine_terms.specs.declared.outcome.After.{After}
use Rattle.board_terms.specs.declared.operation.Activity.TheVariants.{Closing}
use Rattle.board_terms.specs.declared.operation.Ending.{Ending}
use Rattle.board_terms.specs.declared.operation.Operation.{Operation}
use Rattle.board_terms.specs.declared.operation.Wait.{Wait}
use Rattle.board_terms.specs.Gives.{also_said, behind_segment}

-- this is told too
abbrev pub also_told : Operation → List ℕ → Operation
also_told o text = record o { said = also_said (length o.children) text o.said }

-- its own work has ended, and it holds no part
abbrev pub ended_with : Operation → After → Ending → Operation
ended_with o a e = record (behind_segment o a) { parts = []; activity = Closing e }

-- it waits
abbrev pub parked_with : Operation → After → Wait → Operation
parked_with o a w = record (behind_segment o a) { wait = w }

-- an operation that was issued by another one
abbrev pub IsIssuedBy : List Knot → ℕ → OpNumber → Type 0
IsIssuedBy ks k c = (c.0 < length ks) × ((knot_at ks c.0).parent.0 ≡ k)
