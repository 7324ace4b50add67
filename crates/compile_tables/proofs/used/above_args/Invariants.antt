use Rattle.std.proofs.Common.{◌≡◌, ◌-◌, drop, flat_map, length}
use Rattle.code_rules.specs.Used.{above_all, slots_named}
use Rattle.compile_tables.proofs.used.above_args.Given as goal

abbrev pub invariant-loop-after : goal.invariant-loop-after
invariant-loop-after l = record {
  count : l.count ≡ length l.args;
  least : l.least ≡ above_all (flat_map slots_named (drop (l.count - l.after) l.args));
}
