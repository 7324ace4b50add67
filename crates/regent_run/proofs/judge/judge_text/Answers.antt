use Rattle.regent_tree.specs.PlainProgram.{tree_of}
use Rattle.regent_run.specs.Words.{deed_given}
use Rattle.written_trees.proofs.Texts.{read_trees_are_written}
use Rattle.regent_run.proofs.Judging.{program_judges}
use Rattle.regent_run.proofs.judge.judge_text.Goals as goal

pub judge_program-requires-clause-written : goal.judge_program-requires-clause-written
judge_program-requires-clause-written c = read_trees_are_written c.args.text.now (tree_of c.in-Ok.program) c.in-Ok.ensures.reads

pub returns-in-Ok : goal.returns-in-Ok
returns-in-Ok c =
    program_judges c.args.text.now (deed_given c.args.deed.now) (tree_of c.in-Ok.program) c.judge_program.result
    c.in-Ok.ensures.reads c.judge_program.ensures
