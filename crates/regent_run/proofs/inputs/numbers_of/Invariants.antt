use Rattle.std.proofs.Common.{◌≡◌, length, map, take}
use Rattle.regent_run.specs.Inputs.{AreInputs}
use Rattle.regent_run.proofs.inputs.numbers_of.Given as goal

abbrev pub invariant-loop-place : goal.invariant-loop-place
invariant-loop-place l = record {
  size : length l.widths ≡ length l.words;
  so_far : AreInputs (take l.place l.widths) (map (λ word. word.now) (take l.place l.words)) l.numbers;
}
