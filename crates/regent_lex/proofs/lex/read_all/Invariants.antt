use Rattle.std.proofs.Common.{◌≤◌, ◌+◌, ◌-◌, length}
use Rattle.regent_lex.proofs.Reading.{SoFar}
use Rattle.regent_lex.proofs.lex.read_all.Given as goal

abbrev pub invariant-loop-input_element : goal.invariant-loop-input_element
invariant-loop-input_element l = record {
  within : l.place ≤ length l.text;
  lines : l.line ≤ l.place + 1;
  so_far : SoFar l.tokens.items l.text l.place l.line;
}

abbrev pub decreases-loop-input_element : goal.decreases-loop-input_element
decreases-loop-input_element l = length l.text - l.place
