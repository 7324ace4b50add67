-- Of the programs that texts spell, with nothing asked of their trees but that no rule is breached.
use Rattle.std.specs.Prelude.{◌≡◌, ◌≢◌, ℕ, ℤ, List, Ok, []}
use Rattle.regent_tree.specs.Syntax.{Tree}
use Rattle.regent_reader.specs.Texts.{Reads}
use Rattle.machine_terms.specs.declared.outcome.Yield.TheVariants as yield
use Rattle.machine_terms.specs.Segments.{segment}
use Rattle.board_terms.specs.declared.operation.Activity.TheVariants as activity
use Rattle.board_terms.specs.declared.operation.Ending.TheVariants as ending
use Rattle.board_terms.specs.States.{operation_at}
use Rattle.check_rules.specs.Acceptance.{input_widths}
use Rattle.check_rules.specs.Breaches.{breaches}
use Rattle.code_laws.specs.ScalarPrograms.{AreInputs}
use Rattle.sound_code.specs.Programs.{ProgramRunsSoundly, TasksKeepRules}
use Rattle.sound_boards.specs.Boards.{BoardsKeepAll, OfAllBoards, OfEachOut}

-- a text that spells an accepted program, and numbers that fit its inputs
pub record IsTextRun (text : List ℕ) (tree : Tree) (inputs : List ℤ) : Type 0 where
  pub reads : Reads text (Ok tree)
  pub accepted : breaches tree ≡ []
  pub numbers : AreInputs (input_widths tree) inputs

-- such a text, whatever its inputs
pub record IsAcceptedText (text : List ℕ) (tree : Tree) : Type 0 where
  pub reads : Reads text (Ok tree)
  pub accepted : breaches tree ≡ []

-- From every state that fits the code of its tree a segment keeps all, with marks that are the tree's. No inputs are asked for.
abbrev pub AcceptedTextsKeepRules : Type 0
AcceptedTextsKeepRules = (text : List ℕ) (tree : Tree) → IsAcceptedText text tree → TasksKeepRules tree

-- The code of each of its tasks is sound, and each segment of its run in order keeps all.
abbrev pub TextsRunSoundly : Type 0
TextsRunSoundly = (text : List ℕ) (tree : Tree) (inputs : List ℤ) → IsTextRun text tree inputs → ProgramRunsSoundly tree inputs

-- On each of its boards, what is out is run from what fits, and keeps what its task declares.
abbrev pub BoardsOfTextsKeepAll : Type 0
BoardsOfTextsKeepAll = (text : List ℕ) (tree : Tree) (inputs : List ℤ) → IsTextRun text tree inputs → BoardsKeepAll tree inputs

-- No segment of what is out is a machine fault, and no operation is broken.
abbrev pub NoBoardOfTextsBreaks : Type 0
NoBoardOfTextsBreaks = (text : List ℕ) (tree : Tree) (inputs : List ℤ) → IsTextRun text tree inputs →
    OfEachOut tree inputs (λ log s k b. (segment b).ends ≢ yield.MachineFault)
    × OfAllBoards tree inputs (λ s. (k : ℕ) → (operation_at s k).activity ≢ activity.Closing ending.Broken)
