use Rattle.std.proofs.Common.{◌≡◌, drop}
use Rattle.trace_picture.specs.Pictures.{ending_of}
use Rattle.trace_picture.proofs.boxes.ending_of.Given as goal

-- the entries that were passed don't end the segment
abbrev pub invariant-loop-at : goal.invariant-loop-at
invariant-loop-at l =
    ending_of l.claim l.at (drop l.at l.journal) ≡ ending_of l.claim l.place (drop l.place l.journal)
