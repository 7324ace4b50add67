use Rattle.std.proofs.Common.{◌<◌, length, arith}
use Rattle.partitions.proofs.Gathering.{place_read}
use Rattle.partitions.proofs.listing.listed.Goals as goal
use Rattle.partitions.proofs.listing.listed.Goals.{in-Some+in_ok-push, in_default}

pub loop-place-preserved : goal.loop-place-preserved
loop-place-preserved c =
    let l : c.loop-place.place < length c.args.set.now = omega arith in
    elim c.match-at.branch [
      | in-Some+in_ok-push w ↦
          let read = place_read c.args.set.now c.loop-place.place w.in-Some.point l
          (cc (w.in-Some.ensures.value)) in
          let pushed = w.in_ok-push.ensures.items in
          cc
      | in_default w ↦ absurd (omega (arith, c.at.ensures.none.0 w.in_default.is))
    ]
