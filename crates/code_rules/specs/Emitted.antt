-- What a body becomes where the code of a piece is put at its end.
--
-- The place behind a piece is known where the piece stands. So the place of a jump over it is kept free, and
-- the jump is put in last.
use Rattle.std.specs.Prelude.{ℕ, suc, List, [], ◌∷◌, ◌++◌, length, slice_set}
use Rattle.task_code.specs.declared.code.Line.{Line}
use Rattle.task_code.specs.declared.instr.Instr.{Instr}
use Rattle.task_code.specs.declared.instr.Instr.TheVariants as instr
use Rattle.code_rules.specs.Pieces.{Piece, empty, op, ◌⨟◌, over, branch, loop, rounds, line_of}

-- one more instruction
abbrev pub added : List Line → Instr → ℕ → List Line
added body i line = body ++ line_of i line ∷ []

-- one more place, which is kept free
abbrev pub opened : List Line → ℕ → List Line
opened body line = added body (instr.Jump 0) line

-- an instruction is put into a place
abbrev pub put_in : List Line → ℕ → Instr → ℕ → List Line
put_in body place i line = slice_set body place (line_of i line)

-- behind the first piece of a branch, its head is put in, and a place is kept free for the jump past the
-- second piece
abbrev pub parted : ℕ → ℕ → List Line → List Line
parted line head first =
    put_in (opened first line) head (instr.JumpIfNot (length (opened first line))) line

-- behind a loop's body, which begins behind its head, the jump to the test is put in
abbrev pub turned : ℕ → ℕ → List Line → List Line
turned line head body = put_in body head (instr.Jump (length body)) line

-- behind a loop's test
abbrev pub tested : ℕ → ℕ → List Line → List Line
tested line head body = added (added body (instr.JumpIfNot (suc (suc (length body)))) line)
    (instr.Jump (suc head)) line

abbrev pub emitted : List Line → Piece → List Line
emitted body empty = body
emitted body (op i line) = added body i line
emitted body (a ⨟ b) = emitted (emitted body a) b
emitted body (over k line a) =
    let after = emitted (opened body line) a in
    put_in after (length body) (k (length after)) line
emitted body (branch line a b) =
    let first = emitted (opened body line) a in
    let both = emitted (parted line (length body) first) b in
    put_in both (length first) (instr.Jump (length both)) line
emitted body (loop line test a) =
    let inner = emitted (added (opened body line) instr.Turn line) a in
    tested line (length body) (emitted (turned line (length body) inner) test)
emitted body (rounds k line a) =
    let after = added (emitted (opened body line) a) (instr.Jump (length body)) line in
    put_in after (length body) (k (length after)) line
