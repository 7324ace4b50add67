-- The jumps behind the blocks of an `if`, which are put in last.
use Rattle.std.specs.Prelude.{ℕ, List, [], ◌∷◌, length}
use Rattle.task_code.specs.declared.code.Line.{Line}
use Rattle.task_code.specs.declared.instr.Instr.TheVariants as instr
use Rattle.regent_tree.specs.Syntax.{Expression, Form, Otherwise, if_form, no_else}
use Rattle.code_rules.specs.Emitted.{emitted, opened, parted, put_in}
use Rattle.code_rules.specs.Expressions.{expr_code}
use Rattle.code_rules.specs.Pieces.{Piece}
use Rattle.code_rules.specs.Slots.{Where}

-- behind a test, with a place kept free, and the code of its block
abbrev pub behind_block : Where → Where → Expression → Piece → List Line → List Line
behind_block own w test inner b = emitted (opened (emitted b (expr_code own 0 test)) w.line) inner

-- and with a place kept free for the jump past what follows
abbrev pub parted_by : Where → Where → Expression → Piece → List Line → List Line
parted_by own w test inner b =
    parted w.line (length (emitted b (expr_code own 0 test))) (behind_block own w test inner b)

-- the jumps to the end are put into these places, the last one first
abbrev pub joined : ℕ → List ℕ → List Line → List Line
joined line [] b = b
joined line (p ∷ ps) b =
    let rest = joined line ps b in
    put_in rest p (instr.Jump (length rest)) line

-- what stands behind the `else` of an `if`
abbrev pub else_in : Form → Otherwise
else_in (if_form arms other) = other
else_in _ = no_else
