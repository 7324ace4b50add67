-- A law of the definitions.
use Rattle.std.specs.Prelude.{◌≡◌, ℕ, List}
use Rattle.regent_lex.specs.Texts.{Lexed, Lexes}

-- from a place and a line on, a text comes to one list of tokens or one fault, and to no other
abbrev pub OneOutcome : Type 0
OneOutcome =
    (text : List ℕ) (place line : ℕ) (one other : Lexed) →
    Lexes text place line one → Lexes text place line other → one ≡ other
