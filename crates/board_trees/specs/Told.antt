-- What the graph's lists tell of the tree.
use Rattle.std.specs.Prelude.{◌≡◌, ◌∷◌, ◌&&◌, ℕ, All, List, [], Bool, true}
use Rattle.std.specs.List.{list_any}
use Rattle.region_tree.specs.Requirements.{Requirement, interfere}
use Rattle.region_tree.specs.declared.tree.OpNumber.{OpNumber}
use Rattle.region_tree.specs.declared.tree.RootId.{RootId}
use Rattle.dependence_graph.specs.Entries.{Knot}
use Rattle.dependence_graph.specs.Knots.{all_done, has_failed, some_failed, stage_at}
use Rattle.task_code.specs.declared.job.Job.{Job}
use Rattle.board_rules.specs.Boards.{Operation, settle}
use Rattle.regent_boards.specs.RegentMachine.{regent_ground}
use Rattle.code_boards.specs.Laws.{machine_of}
use Rattle.code_boards.specs.Views.{spaces_of}
use Rattle.board_terms.specs.States.{State}
use Rattle.board_trees.specs.Shows.{Shows}
use Rattle.board_trees.specs.Waits.{Sibling, WaitsFor, all_clear, has_ended}

-- one of these that interferes has failed
abbrev pub some_bad : List Knot → List Requirement → List Sibling → Bool
some_bad knots Q xs = list_any (λ (x : Sibling). has_failed (stage_at knots x.op) && interfere x.needs Q) xs

-- where two interfere, the later one has ended only if the earlier one has, and has failed if the earlier one has
abbrev pub IsBehind : List Knot → Sibling → Sibling → Type 0
IsBehind knots x y = interfere x.needs y.needs ≡ true →
    (has_ended knots y.op ≡ true → has_ended knots x.op ≡ true)
    × (has_failed (stage_at knots x.op) ≡ true → has_failed (stage_at knots y.op) ≡ true)

-- each is behind those before it
abbrev pub AreOrdered : List Knot → List Sibling → Type 0
AreOrdered knots [] = Unit {0}
AreOrdered knots (x ∷ xs) = All (IsBehind knots x) xs × AreOrdered knots xs

pub record WaitsTell (knots : List Knot) (Q : List Requirement) (xs : List Sibling) (on : List OpNumber) : Type 0 where
  pub ready : all_done knots on ≡ all_clear knots Q xs
  pub failed : some_failed knots on ≡ some_bad knots Q xs

-- what the graph waits for among siblings in order tells whether what interferes has ended, and whether some of it has failed
abbrev pub WaitsAreTold : Type 0
WaitsAreTold = (knots : List Knot) (Q : List Requirement) (xs : List Sibling) (on : List OpNumber) → AreOrdered knots xs → WaitsFor knots Q xs on → WaitsTell knots Q xs on

-- what shows is settled: settling it again, as each step on the way to an operation does, changes nothing
abbrev pub ShownIsSettled : Type 0
ShownIsSettled = (job : Job) (s : State) (who : ℕ → ℕ) (ways : List (List ℕ)) (way : List ℕ) (k : ℕ) (earlier : List Sibling) (above : List RootId)
    (n : Operation (regent_ground (spaces_of job.code))) → Shows job s who ways way k earlier above n →
    (makings : ℕ) → settle (regent_ground (spaces_of job.code)) (machine_of job makings) n ≡ n
