-- The laws of boards in progress, over the segments of a code.
use Rattle.std.proofs.Common.{◌≡◌, List, option_map, refl, ℕ}
use Rattle.board_rules.specs.ByNumber.{Renamable}
use Rattle.board_rules.specs.Journals.{Job as BoardJob}
use Rattle.board_rules.specs.Renaming.{Renames, Roots}
use Rattle.board_rules.specs.Running.{Laws, Machine}
use Rattle.code_boards.specs.Laws.{machine_of, main_of}
use Rattle.code_boards.specs.Views.{board_segment, spaces_of}
use Rattle.code_boards.proofs.Ends.{main_names_no_root}
use Rattle.code_boards.proofs.Views.{board_keeps, board_runs_renamed}
use Rattle.progress_boards.specs.Laws.{JobsFilled, JobsHeldApart, JobsInProgressApart, JobsIssuedNeeded, JobsSomeReady}
use Rattle.progress_laws.specs.Progress.{NeedsAreRenamed}
use Rattle.progress_laws.proofs.ByNumber.{filled_by_number, held_by_number, in_progress_by_number, issued_by_number, ready_by_number}
use Rattle.regent_boards.specs.Frames.{Spaces}
use Rattle.regent_boards.specs.Laws.{IsMain, by_maker, to_makers}
use Rattle.regent_boards.specs.RegentMachine.{base, name_of, regent_ground, regent_roots}
use Rattle.regent_boards.specs.RootRenaming.{root_to}
use Rattle.regent_boards.proofs.ByNumber.{can_rename, names_differ}
use Rattle.regent_boards.proofs.NeedLaws.{regent_laws}
use Rattle.regent_boards.proofs.NeedRenaming.{mode_to}
use Rattle.regent_boards.proofs.RootRenaming.{held_to, to_same}
use Rattle.task_code.specs.declared.code.TaskCode.{TaskCode}
use Rattle.task_code.specs.declared.job.Job.{Job}

module _ (job : Job) where
  abbrev spaces : Spaces
  spaces = spaces_of job.code

  abbrev R : Roots base
  R = regent_roots spaces

  abbrev K : Machine (regent_ground spaces)
  K = by_maker spaces (board_segment job.code job.turns)

  abbrev to : (ℕ → List ℕ) → (ℕ → ℕ) → Renames base R R
  to = to_makers spaces (board_segment job.code job.turns)

  needs_are_renamed : NeedsAreRenamed base R R to
  needs_are_renamed maker making differ N l =
      let name : ℕ → ℕ = λ n. name_of (maker n) (making n) in
      let one : (n m : ℕ) → name n ≡ name m → n ≡ m = names_differ maker making differ in
      λ i. option_map (λ m. held_to spaces name one l.root l.field m i) (mode_to (root_to name) (to_same spaces name one) l.root l.field l.point N i)

  abbrev IsStart : BoardJob (regent_ground spaces) → Type 0
  IsStart = IsMain spaces (board_segment job.code job.turns)

  laws : Laws (regent_ground spaces) K
  laws = regent_laws spaces (board_segment job.code job.turns) (board_keeps job.code job.turns)

  can : (j : BoardJob (regent_ground spaces)) → IsStart j → (twin : BoardJob (regent_ground spaces)) × Renamable base R R (machine_of job) K to j twin
  can = can_rename spaces (board_segment job.code job.turns) (board_keeps job.code job.turns) (board_runs_renamed job.code job.turns)

  is_start : (t : TaskCode) → IsStart (main_of job t)
  is_start t = record { frame = main_names_no_root job t; needs = refl; map = λ l. refl }

pub jobs_in_progress_apart : JobsInProgressApart
jobs_in_progress_apart job t = in_progress_by_number base (R job) (R job) (machine_of job) (K job) (to job) (IsStart job) (laws job) (can job) (needs_are_renamed job) (main_of job t) (is_start job t)

pub jobs_issued_needed : JobsIssuedNeeded
jobs_issued_needed job t = issued_by_number base (R job) (R job) (machine_of job) (K job) (to job) (IsStart job) (laws job) (can job) (needs_are_renamed job) (main_of job t) (is_start job t)

pub jobs_held_apart : JobsHeldApart
jobs_held_apart job t = held_by_number base (R job) (R job) (machine_of job) (K job) (to job) (IsStart job) (laws job) (can job) (needs_are_renamed job) (main_of job t) (is_start job t)

pub jobs_filled_from_map : JobsFilled
jobs_filled_from_map job t = filled_by_number base (R job) (R job) (machine_of job) (K job) (to job) (IsStart job) (laws job) (can job) (main_of job t) (is_start job t)

pub jobs_some_ready : JobsSomeReady
jobs_some_ready job t = ready_by_number base (R job) (R job) (machine_of job) (K job) (to job) (IsStart job) (laws job) (can job) (main_of job t) (is_start job t)
