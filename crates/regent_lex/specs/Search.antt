-- How the scanner looks for the end of a string or of a comment, byte by byte.
use Rattle.std.specs.Prelude.{ℕ, ◌+◌, Bool, false, List, [], ◌∷◌, Option, Some, None}
use Rattle.std.specs.Prelude.{◌==◌, ◌&&◌, nat_lt, if◌then◌else◌}
use Rattle.regent_lex.specs.declared.search.Wanted.{Wanted}
use Rattle.regent_lex.specs.declared.search.Wanted.TheVariants.{ClosingQuote, BadContent, Brackets}
use Rattle.regent_lex.specs.declared.search.Step.{Step}
use Rattle.regent_lex.specs.declared.search.Step.TheVariants.{On, Found, Missing}
use Rattle.regent_lex.specs.Bytes.{line_feed, quote_mark, backslash, closing_bracket}
use Rattle.regent_lex.specs.Strings.{is_escape}

-- What a byte means to the search. The state of the first two is that a backslash takes this byte
-- along, that of the third that the byte before it is a bracket.
abbrev pub next_step : Wanted → Bool → ℕ → Step
next_step ClosingQuote taken b =
    if b == line_feed then Missing else if taken then On false
    else if b == quote_mark then Found else On (b == backslash)
next_step BadContent taken b =
    if taken then (if is_escape b then On false else Found)
    else if b == quote_mark then Missing else if nat_lt b 32 then Found else On (b == backslash)
next_step Brackets behind b =
    if behind && (b == closing_bracket) then Found else On (b == closing_bracket)

-- n places further on
abbrev pub further : ℕ → Option ℕ → Option ℕ
further n None = None
further n (Some k) = Some (n + k)

abbrev pub after_step : Step → (Bool → Option ℕ) → Option ℕ
after_step Found later = Some 0
after_step Missing later = None
after_step (On state) later = further 1 (later state)

-- the place of the byte at which the search finds what is wanted
abbrev pub search : Wanted → Bool → List ℕ → Option ℕ
search wanted state [] = None
search wanted state (b ∷ bs) = after_step (next_step wanted state b) (λ next. search wanted next bs)
