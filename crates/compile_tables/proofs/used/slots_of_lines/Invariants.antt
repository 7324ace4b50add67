use Rattle.std.proofs.Common.{◌≡◌, ◌-◌, drop, length}
use Rattle.code_rules.specs.Used.{slots_of_lines}
use Rattle.compile_tables.proofs.used.slots_of_lines.Given as goal

abbrev pub invariant-loop-after : goal.invariant-loop-after
invariant-loop-after l = record {
  count : l.count ≡ length l.body;
  used : l.used ≡ slots_of_lines l.least (drop (l.count - l.after) l.body);
}
