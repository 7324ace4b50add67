use Rattle.std.proofs.Common.{◌≡◌, ◌≤◌, drop}
use Rattle.regent_grammar.specs.Nesting.{too_deep, too_deep_from}
use Rattle.regent_grammar.proofs.nesting.first_too_deep.Given as goal

abbrev pub invariant-loop-terminal : goal.invariant-loop-terminal
invariant-loop-terminal l = record {
  so_far : too_deep_from l.depth (drop l.terminal-index l.terminals) ≡ too_deep l.terminals;
  within : l.depth ≤ 64;
}
