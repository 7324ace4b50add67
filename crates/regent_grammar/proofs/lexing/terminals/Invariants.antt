use Rattle.std.proofs.Common.{◌≡◌, take}
use Rattle.regent_grammar.specs.Terminals.{terminals}
use Rattle.regent_grammar.proofs.lexing.terminals.Given as goal

abbrev pub invariant-loop-token : goal.invariant-loop-token
invariant-loop-token l = l.terminals.items ≡ terminals l.text (take l.token-index l.tokens)
