use Rattle.std.proofs.Common.{◌≡◌, ◌-◌, ◌≤◌, [], reverse}
use Rattle.machine_terms.specs.Calls.{take_values}
use Rattle.machine_state.proofs.takings.take_values.Given as goal

abbrev pub invariant-loop : goal.invariant-loop
invariant-loop l = record {
  room : l.counter ≤ l.count;
  whole : take_values (l.count - l.counter) l.stack (reverse l.values.items)
      ≡ take_values l.count l.initial.stack [];
}
