use Rattle.std.proofs.Common.{◌≡◌, ◌-◌, length, take}
use Rattle.compile_statements.specs.Branches.{joined}
use Rattle.compile_statements.proofs.branches.join.Given as goal

abbrev pub invariant-loop-after : goal.invariant-loop-after
invariant-loop-after l = record {
  count : l.count ≡ length l.skips;
  code : joined l.line (take (l.count - l.after) l.skips) l.body ≡ joined l.line l.skips l.fn.body;
}
