use Rattle.std.proofs.Common.{◌≡◌, ◌≤◌, drop}
use Rattle.check_rules.specs.rules.Formats.{numbers_in}
use Rattle.static_types.specs.Formats.{added, counted_at}
use Rattle.static_types.proofs.formats.numbers_in.Given as goal

abbrev pub invariant-loop-byte : goal.invariant-loop-byte
invariant-loop-byte l = record {
  count : l.count ≤ l.byte-index;
  whole : added l.count (counted_at l.spot (drop l.byte-index l.format)) ≡ numbers_in l.format;
}
