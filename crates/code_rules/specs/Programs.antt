-- The code of tasks and of a whole program.
use Rattle.std.specs.Prelude.{List, map, Bool, true, false, Option, Some, None, length}
use Rattle.regent_tree.specs.declared.program.FieldSpace.{FieldSpace}
use Rattle.regent_tree.specs.declared.types.Param.{Param}
use Rattle.regent_tree.specs.Scopes.{scope_of}
use Rattle.regent_tree.specs.StaticTypes.{kind_said, spaces_of, entry_name}
use Rattle.regent_tree.specs.Syntax.{Tree, TaskTree}
use Rattle.regent_tree.specs.Typing.{result_type}
use Rattle.task_code.specs.declared.code.Code.{Code}
use Rattle.task_code.specs.declared.code.Line.{Line}
use Rattle.task_code.specs.declared.code.SpaceCode.{SpaceCode}
use Rattle.task_code.specs.declared.code.TaskCode.{TaskCode}
use Rattle.task_code.specs.declared.instr.Instr.TheVariants as instr
use Rattle.code_rules.specs.Pieces.{Piece, op, ◌⨟◌, lines}
use Rattle.code_rules.specs.Instructions.{tasks_of, place_of_task}
use Rattle.code_rules.specs.Statements.{block_code}
use Rattle.code_rules.specs.Slots.{Where}
use Rattle.code_rules.specs.Needs.{needs_of_clauses}
use Rattle.code_rules.specs.Used.{slots_of_lines}

abbrev pub place_of : Tree → TaskTree → Where
place_of tree t = record {
  tree = tree;
  scope = scope_of tree t;
  result = result_type tree t.result;
  params = length t.params;
  line = 0;
}

-- a body that falls off its end gives no value, which counts as 0
abbrev pub body_piece : Tree → TaskTree → Piece
body_piece tree t = block_code (place_of tree t) t.body ⨟ op instr.Return 0

abbrev pub has_result : {A : Type 0} → Option A → Bool
has_result (Some t) = true
has_result None = false

abbrev pub task_with : Tree → TaskTree → List Line → TaskCode
task_with tree t body = record {
  params = length t.params;
  result = has_result t.result;
  needs = needs_of_clauses tree t t.clauses;
  slots = slots_of_lines (length t.params) body;
  body = body;
}

abbrev pub task_code : Tree → TaskTree → TaskCode
task_code tree t = task_with tree t (lines (body_piece tree t) 0)

-- ---- a program

abbrev pub space_code : FieldSpace → SpaceCode
space_code s = record {
  name = s.name;
  fields = map (λ (p : Param). record { name = p.name; kind = kind_said p.term }) s.fields;
}

abbrev pub code_of : Tree → Code
code_of tree = record {
  tasks = map (task_code tree) (tasks_of tree);
  spaces = map space_code (spaces_of tree);
  start = place_of_task tree (entry_name tree);
}
