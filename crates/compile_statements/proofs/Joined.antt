-- Jumps that are put in, the last one first.
use Rattle.std.proofs.Common.{◌≡◌, ◌<◌, ◌+◌, ℕ, List, [], ◌∷◌, ◌++◌, get_or, length, take, refl, sym, ap, ◌∙◌}
use Rattle.std.proofs.lemmas.List.{take_more}
use Rattle.task_code.specs.declared.code.Line.{Line}
use Rattle.task_code.specs.declared.instr.Instr.TheVariants as instr
use Rattle.code_rules.specs.Emitted.{put_in}
use Rattle.compile_statements.specs.Branches.{joined}

pub joined_more : (line : ℕ) (ps qs : List ℕ) (b : List Line) → joined line (ps ++ qs) b ≡ joined line ps (joined line qs b)
joined_more line [] qs b = refl
joined_more line (p ∷ ps) qs b =
    ap (λ (rest : List Line). put_in rest p (instr.Jump (length rest)) line) (joined_more line ps qs b)

-- one more of the jumps, from the last one on
pub join_on : (line : ℕ) (skips : List ℕ) (k : ℕ) (b total : List Line) → k < length skips →
    joined line (take (k + 1) skips) b ≡ total →
    joined line (take k skips) (put_in b (get_or skips k 0) (instr.Jump (length b)) line) ≡ total
join_on line skips k b total lt so_far =
    sym (joined_more line (take k skips) (get_or skips k 0 ∷ []) b)
    ∙ ap (λ (ps : List ℕ). joined line ps b) (sym (take_more skips k 0 lt))
    ∙ so_far
