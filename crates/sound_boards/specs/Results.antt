-- What boards of the programs that texts spell come to, whatever steps their seats make.
use Rattle.std.specs.Prelude.{◌≡◌, ◌<◌, ◌^◌, ℕ, ℤ, List, None, Some, cond}
use Rattle.regent_tree.specs.Meaning.{meaning}
use Rattle.regent_tree.specs.Syntax.{Tree}
use Rattle.run_journal.specs.declared.entry.Entry.{Entry}
use Rattle.board_terms.specs.Outcomes.{result}
use Rattle.board_terms.specs.Replays.{replay}
use Rattle.board_terms.specs.Stages.{has_finished}
use Rattle.board_terms.specs.States.{State}
use Rattle.code_laws.specs.Programs.{job_of}
use Rattle.code_laws.specs.AcceptedPrograms.{EndsWell}
use Rattle.sound_boards.specs.Texts.{IsTextRun}

-- A board to which a journal leads has a result exactly once no operation is left that isn't over, and that is what the text
-- means: what running each task at its call prints and leaves, or its first fault.
abbrev pub BoardsComeToTheMeaning : Type 0
BoardsComeToTheMeaning = (text : List ℕ) (tree : Tree) (inputs : List ℤ) → IsTextRun text tree inputs →
    (turns : ℕ) → turns < 2 ^ 64 → (journal : List Entry) (s : State) → replay (job_of tree inputs turns) journal ≡ Some s →
    result s ≡ cond (has_finished s) (Some (meaning tree inputs turns)) None

-- And such a meaning ends or faults.
abbrev pub TextsEndWell : Type 0
TextsEndWell = (text : List ℕ) (tree : Tree) (inputs : List ℤ) → IsTextRun text tree inputs →
    (turns : ℕ) → turns < 2 ^ 64 → EndsWell tree inputs turns
