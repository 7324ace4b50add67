use Rattle.std.proofs.Common.{rules, ◌≡◌, ◌≢◌, ◌<◌, ◌++◌, None, cond, drop, get_or, length, subst, take}
use Rattle.std.specs.Prelude.{nat_lt, slice_set}
use Rattle.std.proofs.Math.Numerals.{suc-eq-add-one}
use Rattle.physical_instances.specs.Instances.{trimmed}
use Rattle.physical_instances.proofs.Currents.{trim_more, trim_kept, trim_dropped}
use Rattle.physical_instances.proofs.current.trim.Goals as goal
use Rattle.physical_instances.proofs.current.trim.Goals.{then-counts-place-eq0+in-Some-1, then-counts-place-eq0+in-None-1, else-counts-place-eq0}

pub loop-place-preserved : goal.loop-place-preserved
loop-place-preserved c =
    let cs = c.args.counts.now in
    let fs = c.loop-place.further in
    let new = c.if-counts-place-eq0.further in
    let place = c.loop-place.place in
    let below : place < length fs = search (rules) in
    let same : length cs ≡ length fs = search (rules) in
    let is : new ≡ cond (nat_lt 0 (get_or cs place 0)) fs (slice_set fs place None) = elim c.if-counts-place-eq0.branch [
      | then-counts-place-eq0+in-Some-1 w ↦
          let none : get_or cs place 0 ≡ 0 = search (rules) in
          let set : new ≡ slice_set fs place None = search (rules) in
          trim_dropped (get_or cs place 0) fs new place none set
      | then-counts-place-eq0+in-None-1 w ↦
          let none : get_or cs place 0 ≡ 0 = search (rules) in
          let set : new ≡ slice_set fs place None = search (rules) in
          trim_dropped (get_or cs place 0) fs new place none set
      | else-counts-place-eq0 w ↦
          let some : get_or cs place 0 ≢ 0 = search (rules) in
          let kept : new ≡ fs = search (rules) in
          trim_kept (get_or cs place 0) fs new place some kept
    ] in
    record {
      count = search (rules);
      done = subst (λ k. take k new ++ trimmed (drop k cs) (drop k new) ≡ trimmed cs c.args.further.now) (suc-eq-add-one place)
          (trim_more cs fs place new _ below same is c.loop-place.invariant.done);
    }
