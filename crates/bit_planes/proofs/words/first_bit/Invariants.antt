use Rattle.std.proofs.Common.{◌-◌, ◌*◌, length}
use Rattle.bit_planes.specs.Words.{number_of, told}
use Rattle.bit_planes.proofs.Searches.{IsPassed}
use Rattle.bit_planes.proofs.words.first_bit.Given as goal

abbrev pub invariant-loop-place : goal.invariant-loop-place
invariant-loop-place l =
    IsPassed (told l.one (number_of l.words)) l.from l.place (64 * length l.words)

abbrev pub decreases-loop-place : goal.decreases-loop-place
decreases-loop-place l = l.end - l.place
