-- Bodies that have marks are valid.
use Rattle.std.specs.Prelude.{◌≡◌, ℕ, suc, ◌≤◌, ◌^◌, List, [], ◌∷◌, ◌++◌, length}
use Rattle.task_code.specs.declared.code.TaskCode.{TaskCode}
use Rattle.task_code.specs.declared.instr.Instr.TheVariants as instr
use Rattle.code_rules.specs.Pieces.{Piece, op, ◌⨟◌, lines}
use Rattle.fit_rules.specs.Marks.{Mark}
use Rattle.fit_rules.specs.Fits.{Program}
use Rattle.fit_rules.specs.Sound.{Valid}
use Rattle.marked_code.specs.Marked.{Typed}

-- a task's places have these marks, from one on
abbrev pub MarksAt : Program → ℕ → ℕ → List Mark → Type 0
MarksAt g k pc [] = Unit {0}
MarksAt g k pc (m ∷ ms) = (g.marks k pc ≡ m) × MarksAt g k (suc pc) ms

-- Where a body is a piece that leads from a mark to a mark, and a return behind it, and each place has the
-- mark of its line, the code is valid.
abbrev pub MarkedBodiesAreValid : Type 0
MarkedBodiesAreValid = (g : Program) (t : TaskCode) (k : ℕ) (m n : Mark) (p : Piece) (line : ℕ) (ms : List Mark) →
    Typed g t k m p ms n → t.body ≡ lines (p ⨟ op instr.Return line) 0 → length t.body ≤ 2 ^ 32 →
    MarksAt g k 0 (ms ++ n ∷ []) → Valid g t k
