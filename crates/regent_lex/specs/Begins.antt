-- That an input element stands at the front of a text, by the tables of tokens, trivia and faults.
use Rattle.std.specs.Prelude.{ℕ, ◌<◌, ◌≤◌, List, length, take, drop}
use Rattle.regent_lex.specs.declared.input_element.InputElement.{InputElement}
use Rattle.regent_lex.specs.declared.input_element.InputElement.TheVariants.{Trivia, Token, Fault}
use Rattle.regent_lex.specs.Trivia.{IsTrivia}
use Rattle.regent_lex.specs.Tokens.{IsToken}
use Rattle.regent_lex.specs.Faults.{IsFault}

abbrev pub Begins : InputElement → List ℕ → Type 0
Begins (Trivia n) text = (0 < n) × (n ≤ length text) × IsTrivia (take n text) (drop n text)
Begins (Token kind n) text = (0 < n) × (n ≤ length text) × IsToken kind (take n text) (drop n text)
Begins (Fault kind n) text = (n ≤ length text) × IsFault kind (take n text) (drop n text)
