-- How much was printed.
use Rattle.std.specs.Prelude.{ℕ, List, length, sum_by}
use Rattle.board_terms.specs.declared.operation.Operation.{Operation}
use Rattle.board_terms.specs.declared.operation.Said.{Said}

-- by an operation, and by all
abbrev pub said_by : Operation → ℕ
said_by o = sum_by (λ (p : Said). length p.text) o.said

abbrev pub said_in : List Operation → ℕ
said_in os = sum_by said_by os
