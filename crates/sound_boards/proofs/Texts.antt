-- What holds of accepted programs holds of those that texts spell, since their trees are as the reader gives them and within the limits.
use Rattle.std.proofs.Common.{ℕ, ℤ, List}
use Rattle.regent_tree.specs.Syntax.{Tree}
use Rattle.written_trees.proofs.Texts.{read_trees_are_written}
use Rattle.written_trees.proofs.Within.{read_trees_are_within}
use Rattle.sound_code.proofs.Rules.{accepted_code_keeps_rules, whole_programs_are_sound}
use Rattle.sound_boards.specs.Texts.{AcceptedTextsKeepRules, BoardsOfTextsKeepAll, IsTextRun, NoBoardOfTextsBreaks, TextsRunSoundly}
use Rattle.sound_boards.proofs.Whole.{no_operation_is_broken, no_segment_breaks, whole_boards_keep_all}
use Rattle.code_laws.specs.AcceptedPrograms.{IsProgramRun}

pub program_run : (text : List ℕ) (tree : Tree) (inputs : List ℤ) → IsTextRun text tree inputs → IsProgramRun tree inputs
program_run text tree inputs p = record {
  within = read_trees_are_within text tree p.reads;
  accepted = p.accepted;
  written = read_trees_are_written text tree p.reads;
  numbers = p.numbers;
}

pub accepted_texts_keep_rules : AcceptedTextsKeepRules
accepted_texts_keep_rules text tree p =
    accepted_code_keeps_rules tree (record {
      within = read_trees_are_within text tree p.reads;
      accepted = p.accepted;
      written = read_trees_are_written text tree p.reads;
    })

pub texts_run_soundly : TextsRunSoundly
texts_run_soundly text tree inputs p = whole_programs_are_sound tree inputs (program_run text tree inputs p)

pub boards_of_texts_keep_all : BoardsOfTextsKeepAll
boards_of_texts_keep_all text tree inputs p = whole_boards_keep_all tree inputs (program_run text tree inputs p)

pub no_board_of_texts_breaks : NoBoardOfTextsBreaks
no_board_of_texts_breaks text tree inputs p =
    let w = program_run text tree inputs p in
    (no_segment_breaks tree inputs w, no_operation_is_broken tree inputs w)
