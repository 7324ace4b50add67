-- The job of an accepted whole program is of sound code, its first frame fits, and it may start.
use Rattle.std.proofs.Common.{◌≡◌, ℕ, ◌<◌, ◌^◌, ℤ, List, true, refl, sym, ap, ◌∙◌}
use Rattle.std.specs.Prelude.{◌≢◌, length, nat_le, ◌==◌, ◌&&◌}
use Rattle.std.proofs.lemmas.Bool.{eq-eqb, le-leb}
use Rattle.regent_tree.specs.StaticTypes.{entry_name, task_named}
use Rattle.regent_tree.specs.Syntax.{TaskTree, Tree}
use Rattle.task_code.specs.declared.code.TaskCode.{TaskCode}
use Rattle.machine_terms.specs.declared.outcome.Yield.TheVariants as yield
use Rattle.machine_terms.specs.Jobs.{may_start}
use Rattle.machine_terms.specs.Segments.{segment}
use Rattle.board_terms.specs.declared.operation.Activity.TheVariants as activity
use Rattle.board_terms.specs.declared.operation.Ending.TheVariants as ending
use Rattle.board_terms.specs.States.{operation_at}
use Rattle.code_laws.specs.Handing.{forms_by}
use Rattle.code_laws.specs.Programs.{IsTypedRun, job_of}
use Rattle.code_laws.proofs.LocalRuns.{local_run}
use Rattle.code_laws.proofs.Openings.{least_slots}
use Rattle.fit_rules.specs.Fits.{Program}
use Rattle.fit_boards.specs.Steps.{FirstFits, IsSoundJob}
use Rattle.fit_boards.proofs.Journals.{boards_fit, boards_keep_declared, no_board_breaks, none_is_broken}
use Rattle.sound_code.specs.Programs.{ProgramRunsSoundly, entry_code, first_world}
use Rattle.sound_code.proofs.Rules.{whole_programs_are_sound}
use Rattle.sound_boards.specs.Boards.{BoardsKeepAll, NoOperationIsBroken, NoSegmentBreaks, OfAllBoards, OfEachOut}
use Rattle.sound_boards.specs.Boards.{WholeBoardsKeepAll}
use Rattle.code_laws.specs.AcceptedPrograms.{IsProgramRun}

module _ (tree : Tree) (inputs : List ℤ) (p : IsProgramRun tree inputs) where
  abbrev runs : ProgramRunsSoundly tree inputs
  runs = whole_programs_are_sound tree inputs p

  abbrev g : Program
  g = runs.tasks.program

  abbrev entry : TaskTree
  entry = task_named tree (entry_name tree)

  abbrev first_task : TaskCode
  first_task = entry_code tree

  typed : IsTypedRun (forms_by true true tree entry) tree inputs
  typed = local_run tree inputs p

  job_sound : (turns : ℕ) → turns < 2 ^ 64 → IsSoundJob g (job_of tree inputs turns)
  job_sound turns few = record { sound = runs.tasks.all; code = sym runs.tasks.code; turns = few }

  first_fits : (turns : ℕ) → turns < 2 ^ 64 → FirstFits g (job_of tree inputs turns) first_task
  first_fits turns few = record {
    world = first_world inputs;
    there = typed.start;
    needs = typed.needs;
    none = λ r. refl;
    fits = runs.first turns few;
  }

  -- there are as many inputs as parameters, and a slot for each
  starts : (turns : ℕ) → may_start (job_of tree inputs turns) first_task ≡ true
  starts turns =
      let many = length entry.params in
      let slots = first_task.slots in
      ap (λ ns. (length ns == 0) && (length inputs == many) && nat_le many slots) typed.needs
      ∙ ap (λ b. b && nat_le many slots) (eq-eqb (length inputs) many typed.count)
      ∙ le-leb many slots (least_slots many first_task.body)

  keep_all : BoardsKeepAll tree inputs
  keep_all = record {
    program = g;
    code = runs.tasks.code;
    of_tree = runs.tasks.of_tree;
    sound = runs.tasks.all;
    fits = λ turns few. boards_fit g (job_of tree inputs turns) first_task (job_sound turns few) (first_fits turns few);
    declared = λ turns few.
        boards_keep_declared g (job_of tree inputs turns) first_task (job_sound turns few) (first_fits turns few);
  }

  segments_unbroken : OfEachOut tree inputs (λ log s k b. (segment b).ends ≢ yield.MachineFault)
  segments_unbroken turns few =
      no_board_breaks g (job_of tree inputs turns) first_task (job_sound turns few) (first_fits turns few)

  operations_unbroken : OfAllBoards tree inputs (λ s. (k : ℕ) →
      (operation_at s k).activity ≢ activity.Closing ending.Broken)
  operations_unbroken turns few =
      none_is_broken g (job_of tree inputs turns) first_task (job_sound turns few) (first_fits turns few) (starts turns)

pub whole_boards_keep_all : WholeBoardsKeepAll
whole_boards_keep_all = keep_all

pub no_segment_breaks : NoSegmentBreaks
no_segment_breaks = segments_unbroken

pub no_operation_is_broken : NoOperationIsBroken
no_operation_is_broken = operations_unbroken
