use Rattle.std.proofs.Common.{◌≡◌, ◌+◌, ◌≤◌, drop}
use Rattle.machine_terms.specs.Calls.{count_numbers}
use Rattle.machine_state.proofs.texts.count_numbers.Given as goal

abbrev pub invariant-loop-part : goal.invariant-loop-part
invariant-loop-part l = record {
  few : l.count ≤ l.part-index;
  whole : l.count + count_numbers (drop l.part-index l.parts) ≡ count_numbers l.parts;
}
