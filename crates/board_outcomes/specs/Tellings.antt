-- What is told of operations, by their list.
use Rattle.std.specs.Prelude.{ℕ, zero, suc, List, [], ◌∷◌, ◌++◌, ◌==◌, cond, None, get_or}
use Rattle.board_terms.specs.declared.operation.Operation.{Operation}
use Rattle.board_terms.specs.declared.operation.Said.{Said}
use Rattle.board_terms.specs.Outcomes.{Told, nothing_told, stop_of, woven}
use Rattle.board_terms.specs.States.{no_operation}

-- of one with its children of so many levels
abbrev pub told_among : ℕ → List Operation → ℕ → Told
told_among zero os k = nothing_told None
told_among (suc n) os k =
    let o = get_or os k no_operation in
    woven (told_among n os) 0 o.said o.children (nothing_told (stop_of o.activity))

-- the text of the pieces that were said before a child, and the pieces behind them
abbrev pub said_before : ℕ → List Said → List ℕ
said_before i [] = []
said_before i (p ∷ ps) = cond (p.children == i) (p.text ++ said_before i ps) []

abbrev pub said_behind : ℕ → List Said → List Said
said_behind i [] = []
said_behind i (p ∷ ps) = cond (p.children == i) (said_behind i ps) (p ∷ ps)

abbrev pub said_whole : List Said → List ℕ
said_whole [] = []
said_whole (p ∷ ps) = p.text ++ said_whole ps
