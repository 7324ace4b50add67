-- The code of a program by given shapes of loops, which are taken one by one in the order of the text.
use Rattle.std.specs.Prelude.{◌∷◌, List, [], map}
use Rattle.regent_tree.specs.StaticTypes.{entry_name, spaces_of}
use Rattle.regent_tree.specs.Syntax.{TaskTree, Tree}
use Rattle.task_code.specs.declared.code.Code.{Code}
use Rattle.task_code.specs.declared.code.TaskCode.{TaskCode}
use Rattle.task_code.specs.declared.instr.Instr.TheVariants as instr
use Rattle.check_rules.specs.declared.loop_shape.LoopShape.{LoopShape}
use Rattle.code_rules.specs.Instructions.{place_of_task, tasks_of}
use Rattle.code_rules.specs.Pieces.{Piece, lines, op, ◌⨟◌}
use Rattle.code_rules.specs.Programs.{place_of, space_code, task_with}
use Rattle.compile_statements.specs.Shaped.{block_by, shapes_after_block}

abbrev pub body_by : List LoopShape → Tree → TaskTree → Piece
body_by ls tree t = block_by ls (place_of tree t) t.body ⨟ op instr.Return 0

abbrev pub task_code_by : List LoopShape → Tree → TaskTree → TaskCode
task_code_by ls tree t = task_with tree t (lines (body_by ls tree t) 0)

-- of tasks, one after the other
abbrev pub codes_by : List LoopShape → Tree → List TaskTree → List TaskCode
codes_by ls tree [] = []
codes_by ls tree (t ∷ ts) = task_code_by ls tree t ∷ codes_by (shapes_after_block ls t.body) tree ts

abbrev pub code_by : List LoopShape → Tree → Code
code_by ls tree = record {
  tasks = codes_by ls tree (tasks_of tree);
  spaces = map space_code (spaces_of tree);
  start = place_of_task tree (entry_name tree);
}
