use Rattle.std.proofs.Common.{◌≡◌, ◌*◌}
use Rattle.bit_planes.specs.Planes.{count_below, is_last}
use Rattle.bit_planes.specs.Words.{number_of}
use Rattle.bit_planes.proofs.words.count_stretches.Given as goal

abbrev pub invariant-loop-number : goal.invariant-loop-number
invariant-loop-number l =
    l.total ≡ count_below (is_last (number_of l.words)) (64 * l.number)
