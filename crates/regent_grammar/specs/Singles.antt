-- Rules of a single terminal, and lists with separators.
use Rattle.std.specs.Prelude.{ℕ, Bool, false, cond, List, [], ◌∷◌, Option, Some, None, bytes_eq}
use Rattle.regent_lex.specs.contracts.tables.Mark as mark_contract
use Rattle.regent_lex.specs.contracts.tables.Word as word_contract
use Rattle.regent_lex.specs.declared.tables.Mark.TheVariants as mark
use Rattle.regent_grammar.specs.declared.symbol.Symbol.{Symbol}
use Rattle.regent_grammar.specs.declared.symbol.Symbol.TheVariants as symbol
use Rattle.regent_grammar.specs.Symbols.{comes, is_mark, is_word, is_named}
use Rattle.regent_grammar.specs.Rules.{Sort, Rule, gives, one, when◌then◌else◌, many, ◌⊛◌, ◌⊳◌, ◌⊲◌}

-- a symbol that passes the test
abbrev pub passing : (Symbol → Bool) → Symbol → Option (Unit {0})
passing test s = cond (test s) (Some tt) None

-- this sign, this word, this very name
unfoldable pub a_mark : mark_contract.the_type.D → Rule Sort.unit
a_mark m = one (passing (is_mark m))

unfoldable pub a_word : word_contract.the_type.D → Rule Sort.unit
a_word w = one (passing (is_word w))

unfoldable pub named : List ℕ → Rule Sort.unit
named bytes = one (passing (is_named bytes))

-- this very string
abbrev pub is_text : List ℕ → Symbol → Bool
is_text a (symbol.Text b) = bytes_eq b a
is_text a _ = false

unfoldable pub the_text : List ℕ → Rule Sort.unit
the_text bytes = one (passing (is_text bytes))

-- any name, any string
abbrev pub name_of : Symbol → Option (List ℕ)
name_of (symbol.Name bytes) = Some bytes
name_of _ = None

unfoldable pub name : Rule Sort.bytes
name = one name_of

abbrev pub text_of : Symbol → Option (List ℕ)
text_of (symbol.Text bytes) = Some bytes
text_of _ = None

unfoldable pub text : Rule Sort.bytes
text = one text_of

-- one, and further ones behind commas
unfoldable pub separated : {s : Sort} → Rule s → Rule (Sort.listed s)
separated r =
    gives (λ x xs. x ∷ xs) ⊛ r ⊛ many (comes (is_mark mark.Comma)) (a_mark mark.Comma ⊳ r)

-- one name, and further ones behind commas
unfoldable pub names : Rule Sort.names
names =
    gives (λ n ns. n ∷ ns) ⊛ name ⊛ many (comes (is_mark mark.Comma)) (a_mark mark.Comma ⊳ name)

-- between parentheses
unfoldable pub in_parentheses : {s : Sort} → Rule s → Rule s
in_parentheses r = a_mark mark.Open ⊳ r ⊲ a_mark mark.Close

-- The list between parentheses, where there is one.
unfoldable pub maybe_listed : {s : Sort} → Rule s → Rule (Sort.listed s)
maybe_listed r = when comes (is_mark mark.Open) then in_parentheses (separated r) else gives []

-- A list between parentheses that may be empty.
unfoldable pub arguments : {s : Sort} → Rule s → Rule (Sort.listed s)
arguments r =
    a_mark mark.Open ⊳ (when comes (is_mark mark.Close) then gives [] else separated r)
    ⊲ a_mark mark.Close
