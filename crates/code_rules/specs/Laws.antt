-- What is known of code: how it is put at the end of a body, and how long it gets.
use Rattle.std.specs.Prelude.{◌≡◌, ◌<◌, ◌^◌, List, ◌++◌, All, length}
use Rattle.regent_tree.specs.Limits.{WithinLimits}
use Rattle.regent_tree.specs.Syntax.{TaskTree, Tree}
use Rattle.task_code.specs.declared.code.Line.{Line}
use Rattle.code_rules.specs.Emitted.{emitted}
use Rattle.code_rules.specs.Instructions.{tasks_of}
use Rattle.code_rules.specs.Pieces.{Piece, lines}
use Rattle.code_rules.specs.Programs.{task_code}

-- It is the code of the piece, laid out from there.
abbrev pub LaidOut : Type 0
LaidOut = (p : Piece) (body : List Line) → emitted body p ≡ body ++ lines p (length body)

-- Each body of a program within the limits has fewer than 2^32 instructions, so that 32 bits hold each place.
abbrev pub BodiesAreShort : Type 0
BodiesAreShort = (tree : Tree) → WithinLimits tree →
    All (λ (t : TaskTree). length (task_code tree t).body < 2 ^ 32) (tasks_of tree)

-- Each task of a program within the limits uses fewer than 2^32 slots, so that 32 bits hold each slot's number.
abbrev pub SlotsAreFew : Type 0
SlotsAreFew = (tree : Tree) → WithinLimits tree →
    All (λ (t : TaskTree). (task_code tree t).slots < 2 ^ 32) (tasks_of tree)
