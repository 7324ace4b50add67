-- Tests of symbols, and of the terminals that come next.
use Rattle.std.specs.Prelude.{ℕ, Bool, true, false, ◌&&◌, List, [], ◌∷◌, bytes_eq}
use denote.Enum.Bare.{sameb}
use Rattle.regent_lex.specs.contracts.tables.Mark as mark_contract
use Rattle.regent_lex.specs.contracts.tables.Word as word_contract
use Rattle.regent_grammar.specs.declared.symbol.Terminal.{Terminal}
use Rattle.regent_grammar.specs.declared.symbol.Symbol.{Symbol}
use Rattle.regent_grammar.specs.declared.symbol.Symbol.TheVariants as symbol

-- whether a symbol is this sign, this word, this very name, or any name
abbrev pub is_mark : mark_contract.the_type.D → Symbol → Bool
is_mark a (symbol.Mark b) = sameb mark_contract.the_type b a
is_mark a _ = false

abbrev pub is_word : word_contract.the_type.D → Symbol → Bool
is_word a (symbol.Word b) = sameb word_contract.the_type b a
is_word a _ = false

abbrev pub is_named : List ℕ → Symbol → Bool
is_named a (symbol.Name b) = bytes_eq b a
is_named a _ = false

abbrev pub is_name : Symbol → Bool
is_name (symbol.Name name) = true
is_name _ = false

-- a test of the terminals that come next
abbrev pub Test : Type 0
Test = List Terminal → Bool

-- the text goes on
abbrev pub goes_on : Test
goes_on [] = false
goes_on (t ∷ ts) = true

-- the next symbol passes
abbrev pub comes : (Symbol → Bool) → Test
comes passes [] = false
comes passes (t ∷ ts) = passes t.symbol

-- the next symbols pass, one after the other
abbrev pub come : List (Symbol → Bool) → Test
come [] ts = true
come (passes ∷ more) [] = false
come (passes ∷ more) (t ∷ ts) = passes t.symbol && come more ts

-- the line on which the next terminal stands, or 0 at the end
abbrev pub line_of : List Terminal → ℕ
line_of [] = 0
line_of (t ∷ ts) = t.line
