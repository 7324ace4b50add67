use Rattle.std.proofs.Common.{◌≡◌, ◌-◌, drop, length}
use Rattle.code_rules.specs.Used.{above_all}
use Rattle.compile_tables.proofs.used.above_all.Given as goal

abbrev pub invariant-loop-after : goal.invariant-loop-after
invariant-loop-after l = record {
  count : l.count ≡ length l.slots;
  least : l.least ≡ above_all (drop (l.count - l.after) l.slots);
}
