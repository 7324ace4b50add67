-- Accepted programs as the reader gives them, and the law of them.
use Rattle.std.specs.Prelude.{◌≡◌, ◌<◌, ◌^◌, ◌&&◌, Bool, ℕ, ℤ, true, List, []}
use Rattle.std.specs.List.{list_all}
use Rattle.regent_tree.specs.Limits.{WithinLimits}
use Rattle.regent_tree.specs.Meaning.{meaning}
use Rattle.regent_tree.specs.Syntax.{ItemForm, ItemTree, TaskTree, Tree, task_item}
use Rattle.regent_tree.specs.declared.outcome.Ending.{Ending}
use Rattle.regent_tree.specs.declared.outcome.Ending.TheVariants.{Broken, Faulted, Finished}
use Rattle.code_rules.specs.Programs.{code_of, place_of}
use Rattle.run_report.specs.Dumps.{fits_spaces}
use Rattle.check_rules.specs.Acceptance.{input_widths}
use Rattle.check_rules.specs.Breaches.{breaches}
use Rattle.expression_laws.specs.WrittenStatements.{AreWrittenTasks}
use Rattle.code_laws.specs.Programs.{RunsAsMeant}
use Rattle.code_laws.specs.ScalarPrograms.{AreInputs}
use Rattle.code_laws.specs.PlainBodies.{are_plain_params, is_plain_block}

-- an accepted program, of which the tree is as the reader gives it, and numbers that fit its inputs
pub record IsProgramRun (tree : Tree) (inputs : List ℤ) : Type 0 where
  pub within : WithinLimits tree
  pub accepted : breaches tree ≡ []
  pub written : AreWrittenTasks tree
  pub numbers : AreInputs (input_widths tree) inputs

-- The run in order of its code, with fewer than 2^64 turns, is what it means.
abbrev pub AcceptedProgramsRunAsMeant : Type 0
AcceptedProgramsRunAsMeant = (tree : Tree) (inputs : List ℤ) (turns : ℕ) → turns < 2 ^ 64 → IsProgramRun tree inputs →
    RunsAsMeant tree inputs turns

-- a run that ends or faults
abbrev pub IsEnded : Ending → Type 0
IsEnded (Finished roots) = Unit {0}
IsEnded (Faulted f) = Unit {0}
IsEnded Broken = ⊥

-- What it means is never broken, and the roots at the end are of the code's field spaces, each with a number for
-- each field and point.
pub record EndsWell (tree : Tree) (inputs : List ℤ) (turns : ℕ) : Type 0 where
  pub ended : IsEnded (meaning tree inputs turns).ending
  pub fits : fits_spaces (code_of tree) (meaning tree inputs turns) ≡ true

abbrev pub AcceptedProgramsEndWell : Type 0
AcceptedProgramsEndWell = (tree : Tree) (inputs : List ℤ) (turns : ℕ) → turns < 2 ^ 64 → IsProgramRun tree inputs →
    EndsWell tree inputs turns

-- a task takes numbers, truths and regions, and keeps no pointer and no partition
abbrev pub keeps_nothing : Tree → TaskTree → Bool
keeps_nothing tree t = are_plain_params t.params && is_plain_block (place_of tree t) t.body

abbrev pub has_no_pointer : Tree → ItemForm → Bool
has_no_pointer tree (task_item t) = keeps_nothing tree t
has_no_pointer tree item = true

-- such a program whose tasks have no pointers and no partitions
pub record IsPlainProgramRun (tree : Tree) (inputs : List ℤ) : Type 0 where
  pub run : IsProgramRun tree inputs
  pub plain : list_all (λ (i : ItemTree). has_no_pointer tree i.form) tree ≡ true
