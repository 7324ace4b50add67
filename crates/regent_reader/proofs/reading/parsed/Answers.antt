use Rattle.regent_tree.specs.PlainProgram.{tree_of}
use Rattle.regent_reader.specs.Texts.{is_none}
use Rattle.regent_reader.proofs.LimitLaws.{counted_within, small_counts}
use Rattle.regent_reader.proofs.TextLaws.{parses_tree, read_is_program, stuck_is_none}
use Rattle.regent_reader.proofs.reading.parsed.Goals as goal

pub returns-in-Ok-clause-answers : goal.returns-in-Ok-clause-answers
returns-in-Ok-clause-answers c =
    parses_tree c.args.text.now c.args.terminals.now (tree_of c.in-Ok.program) c.counted.result
    (read_is_program c.args.terminals.now (tree_of c.in-Ok.program) c.in-Ok.ensures) c.counted.ensures.answers

pub returns-in-Err-At-clause-answers : goal.returns-in-Err-At-clause-answers
returns-in-Err-At-clause-answers c =
    rw c.line_at.ensures (is_none (stuck_is_none c.args.terminals.now c.in-Err-At.at.now (rw c.in-Err-At.field-0-is at c.in-Err-At.ensures)))

pub returns-in-Ok-clause-within : goal.returns-in-Ok-clause-within
returns-in-Ok-clause-within c =
    counted_within c.args.terminals.now (tree_of c.in-Ok.program) c.counted.result c.requires.within
    (read_is_program c.args.terminals.now (tree_of c.in-Ok.program) c.in-Ok.ensures) c.counted.ensures.same

pub counted-requires : goal.counted-requires
counted-requires c = record {
  small = small_counts c.args.terminals.now (tree_of c.in-Ok.program) c.requires.within
      (read_is_program c.args.terminals.now (tree_of c.in-Ok.program) c.in-Ok.ensures);
}
