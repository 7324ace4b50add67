-- Parts that go back leave maps that are one again.
use Rattle.std.specs.Prelude.{◌≡◌, ◌<◌, ℕ, All, List, length, map, true}
use Rattle.region_tree.specs.declared.piece.Part.{Part}
use Rattle.region_tree.specs.declared.tree.RootId.{RootId}
use Rattle.logical_map.specs.Maps.{LogicalMap, is_live}
use Rattle.task_code.specs.declared.job.Job.{Job}
use Rattle.board_rules.specs.Processes.{Map, run_all}
use Rattle.board_rules.specs.Running.{Element, puts}
use Rattle.regent_boards.specs.RegentMachine.{regent_ground}
use Rattle.segment_renaming.specs.Renaming.{part_to}
use Rattle.code_boards.specs.Laws.{machine_of}
use Rattle.code_boards.specs.Views.{parts_in, spaces_of}
use Rattle.board_terms.specs.declared.extent.Extent.{Extent}
use Rattle.board_terms.specs.Gives.{with_parts}
use Rattle.board_trees.specs.Frames.{HasEachOnce, HasFitting, IsHeld}
use Rattle.board_trees.specs.Names.{AreMade, IsNaming, named}
use Rattle.board_trees.specs.Shows.{HoldsMap}

-- What the roots that are there hold is on the map.
abbrev pub MapShows : (job : Job) → LogicalMap → List Extent → (ℕ → ℕ) → Map (regent_ground (spaces_of job.code)) → Type 0
MapShows job live extents who m = (root : ℕ) → is_live live root ≡ true → HoldsMap job live extents who m root

-- Parts of the table and the elements that they are in the tree go back: what is written is written, and what is reduced
-- is folded, on both.
abbrev pub PartsShow : Type 0
PartsShow = (job : Job) (extents : List Extent) (who : ℕ → ℕ) (makings : ℕ) (live : LogicalMap) (m : Map (regent_ground (spaces_of job.code))) (roots : List RootId)
    (ps : List (Element (regent_ground (spaces_of job.code)))) (qs : List Part) →
    AreMade (length extents) who makings → All (λ (r : RootId). r.0 < length extents) roots → MapShows job live extents who m →
    ((name : ℕ → ℕ) → IsNaming extents who roots name → parts_in job.code ps ≡ map (part_to (named name)) qs) →
    All (IsHeld job.code) ps → All HasFitting qs → All HasEachOnce qs →
    MapShows job (with_parts qs live) extents who (run_all (regent_ground (spaces_of job.code)) (puts (regent_ground (spaces_of job.code)) (machine_of job makings) ps) m)
