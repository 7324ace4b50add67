use Rattle.std.proofs.Common.{◌≡◌, ◌<◌, None, get_or, length, ℕ}
use Rattle.physical_instances.proofs.current.clear.Given as goal

abbrev pub invariant-loop-place : goal.invariant-loop-place
invariant-loop-place l = record {
  count : length l.further ≡ length l.initial.further;
  none : (k : ℕ) → k < l.place → get_or l.further k None ≡ None;
}
