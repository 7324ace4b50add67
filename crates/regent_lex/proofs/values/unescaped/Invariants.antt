use Rattle.std.proofs.Common.{◌≡◌, ◌++◌, drop, false}
use Rattle.regent_lex.specs.Values.{unescaped}
use Rattle.regent_lex.proofs.values.unescaped.Given as goal

abbrev pub invariant-loop-byte : goal.invariant-loop-byte
invariant-loop-byte l =
    l.bytes.items ++ unescaped l.behind (drop l.byte-index l.content) ≡ unescaped false l.content
