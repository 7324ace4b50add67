-- What the call `tokens` answers.
use Rattle.std.specs.Prelude.{Result, Ok, Err}
use Rattle.std.specs.Global.{Vec}
use Rattle.regent_lex.specs.declared.token.Token.{Token}
use Rattle.regent_lex.specs.declared.fault.LexFault.{LexFault}
use Rattle.regent_lex.specs.declared.fault.LexFault.TheVariants.{At, Memory}
use Rattle.regent_lex.specs.Texts.{Lexed}

-- P holds of the tokens or the fault that were told, unless memory ran out
abbrev pub Told : (Lexed → Type 0) → Result (Vec Token) LexFault → Type 0
Told P (Ok tokens) = P (Ok tokens.items)
Told P (Err (At kind line)) = P (Err (kind, line))
Told P (Err (Memory error)) = Unit {0}
