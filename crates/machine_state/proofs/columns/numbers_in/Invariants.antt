use Rattle.std.proofs.Common.{◌≡◌, drop, length}
use Rattle.machine_terms.specs.Regions.{numbers_in}
use Rattle.machine_state.proofs.Reading.{behind_numbers}
use Rattle.machine_state.proofs.columns.numbers_in.Given as goal

abbrev pub invariant-loop-place : goal.invariant-loop-place
invariant-loop-place l =
    (behind_numbers l.numbers.items (numbers_in l.part (drop l.place l.points)) ≡ numbers_in l.part l.points)
    × (length l.numbers.items ≡ l.place)
