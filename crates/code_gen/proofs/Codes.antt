-- The code of tasks, one after the other.
use Rattle.std.proofs.Common.{◌≡◌, ◌<◌, ◌+◌, ◌∙◌, ◌++◌, ℕ, List, [], ◌∷◌, append_assoc, drop, get_or, length, map, sym}
use Rattle.std.specs.Borrow.{Bor}
use Rattle.std.proofs.lemmas.List.{drop_more}
use Rattle.regent_tree.specs.PlainProgram.{task_of}
use Rattle.regent_tree.specs.Syntax.{Tree}
use Rattle.regent_tree.specs.declared.program.Task.{Task}
use Rattle.task_code.specs.declared.code.TaskCode.{TaskCode}
use Rattle.check_rules.specs.declared.loop_shape.LoopShape.{LoopShape}
use Rattle.compile_types.specs.Symbols.{named_tasks}
use Rattle.compile_statements.specs.Shaped.{shapes_after_block}
use Rattle.code_gen.specs.Shaped.{codes_by, task_code_by}

pub codes_on : (tree : Tree) (tasks : List (Bor Task)) (i : ℕ) (t : Bor Task) (ls us : List LoopShape)
    (codes : List TaskCode) (code : TaskCode) (total : List TaskCode) →
    i < length tasks → t ≡ get_or tasks i t → us ≡ shapes_after_block ls (task_of t.now).body →
    code ≡ task_code_by ls tree (task_of t.now) →
    codes ++ codes_by ls tree (map task_of (named_tasks (drop i tasks))) ≡ total →
    (codes ++ code ∷ []) ++ codes_by us tree (map task_of (named_tasks (drop (i + 1) tasks))) ≡ total
codes_on tree tasks i t ls us codes code total lt is e f so_far =
    let rest = map task_of (named_tasks (drop (i + 1) tasks)) in
    let here : codes ++ codes_by ls tree (map task_of (named_tasks (drop i tasks))) ≡ (codes ++ code ∷ []) ++ codes_by us tree rest =
    rw (drop_more tasks i t lt, ← is, e, f) (sym (append_assoc codes (task_code_by ls tree (task_of t.now) ∷ [])
    (codes_by (shapes_after_block ls (task_of t.now).body) tree rest))) in
    sym here ∙ so_far
