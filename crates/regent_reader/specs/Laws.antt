-- A law of the definitions.
use Rattle.std.specs.Prelude.{◌≡◌, ℕ, List}
use Rattle.regent_reader.specs.Texts.{Outcome, Reads}

-- a text has one tree or one fault as its outcome, and no other
abbrev pub OneOutcome : Type 0
OneOutcome = (text : List ℕ) (one other : Outcome) → Reads text one → Reads text other → one ≡ other
