-- Nesting, counted over the terminals from the left.
use Rattle.std.specs.Prelude.{ℕ, ◌+◌, ◌-◌, List, [], ◌∷◌, Option, Some, None, nat_lt, if◌then◌else◌}
use Rattle.regent_grammar.specs.declared.symbol.Terminal.{Terminal}
use Rattle.regent_lex.specs.declared.tables.Mark.TheVariants as mark
use Rattle.regent_grammar.specs.declared.symbol.Symbol.{Symbol}
use Rattle.regent_grammar.specs.declared.symbol.Symbol.TheVariants as symbol
use Rattle.regent_lex.specs.declared.tables.Word.TheVariants as word

-- the most that may be open at once
abbrev pub most_open : ℕ
most_open = 64

-- how deep it is behind a symbol; what closes more than was opened closes nothing
abbrev pub depth_behind : ℕ → Symbol → ℕ
depth_behind n (symbol.Mark mark.Open) = n + 1
depth_behind n (symbol.Mark mark.OpenSquare) = n + 1
depth_behind n (symbol.Mark mark.OpenBrace) = n + 1
depth_behind n (symbol.Word word.Do) = n + 1
depth_behind n (symbol.Word word.Then) = n + 1
depth_behind n (symbol.Mark mark.Close) = n - 1
depth_behind n (symbol.Mark mark.CloseSquare) = n - 1
depth_behind n (symbol.Mark mark.CloseBrace) = n - 1
depth_behind n (symbol.Word word.End) = n - 1
depth_behind n (symbol.Word word.Elseif) = n - 1
depth_behind n _ = n

-- the line of the first terminal behind which more is open, where n is open before the terminals
abbrev pub too_deep_from : ℕ → List Terminal → Option ℕ
too_deep_from n [] = None
too_deep_from n (t ∷ ts) =
    if nat_lt most_open (depth_behind n t.symbol) then Some t.line
    else too_deep_from (depth_behind n t.symbol) ts

abbrev pub too_deep : List Terminal → Option ℕ
too_deep ts = too_deep_from 0 ts
