use Rattle.std.proofs.Common.{◌≡◌, ◌≤◌, ◌-◌, length}
use Rattle.run_io.specs.Source.{Moves}
use Rattle.run_io.proofs.rest.read_rest.Given as goal

abbrev pub invariant-turns : goal.invariant-turns
invariant-turns g l = record {
  so_far : Moves (g.S.Source.left l.fn.source) l.text.items (g.S.Source.left l.source);
  within : length l.text.items ≤ l.most;
  faults : g.S.Source.faults l.source ≡ g.S.Source.faults l.fn.source;
  begins : g.S.Source.begins l.source ≡ g.S.Source.begins l.fn.source;
  names : g.S.Source.names l.source ≡ g.S.Source.names l.fn.source;
  later : g.S.Source.later l.source ≡ g.S.Source.later l.fn.source;
}

abbrev pub decreases-turns : goal.decreases-turns
decreases-turns g l = l.most - length l.text.items
