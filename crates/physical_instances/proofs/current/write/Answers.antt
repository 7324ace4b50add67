use Rattle.std.proofs.Common.{rules, arith, ◌≡◌, ◌≤◌, ◌<◌, Some, get_or, length, pos}
use Rattle.std.specs.Prelude.{Contains, slice_get, slice_set}
use Rattle.std.proofs.lemmas.Option.{slice_get-get_or}
use Rattle.std.specs.List.Sorted.{IsStrictlyIncreasing}
use Rattle.physical_instances.proofs.Currents.{write_end, write_found, write_lacked}
use Rattle.physical_instances.proofs.current.write.Goals as goal
use Rattle.physical_instances.proofs.current.write.Goals.{in-Some-place_of, in_default-place_of}

pub loop-place-preserved : goal.loop-place-preserved
loop-place-preserved c =
    let h = c.args.piece.now in
    let ps = c.args.root.now in
    let place = c.loop-place.place in
    let at : slice_get h.points place ≡ Some c.in-Some.point = search (rules) in
    let rise : IsStrictlyIncreasing h.points = search (rules) in
    let below : place < length h.points = search (rules) in
    let whole : length h.points ≡ length h.values = search (rules) in
    let there = slice_get-get_or h.values place (pos 0) (omega (arith, below, whole)) in
    elim c.match-place_of.branch [
      | in-Some-place_of w ↦
          let found : slice_get ps w.in-Some-place_of.found ≡ Some c.in-Some.point = search (rules) in
          let put : c.match-place_of.base ≡ slice_set c.loop-place.base w.in-Some-place_of.found (get_or h.values place (pos 0)) = search (rules) in
          record {
            count = search (rules);
            done = write_found h ps place c.in-Some.point w.in-Some-place_of.found (get_or h.values place (pos 0)) c.loop-place.base c.match-place_of.base _
                rise at there c.requires.rising found put c.loop-place.invariant.done;
          }
      | in_default-place_of w ↦
          let lack : ¬ Contains ps c.in-Some.point = search (rules) in
          record {
            count = search (rules);
            done = write_lacked h ps place c.in-Some.point (get_or h.values place (pos 0)) c.loop-place.base c.match-place_of.base _
                at there lack w.base-is c.loop-place.invariant.done;
          }
    ]

pub returns : goal.returns
returns c =
    let past : length c.args.piece.now.points ≤ c.loop-place.place = search (rules) in
    write_end c.args.piece.now c.args.root.now c.loop-place.place c.loop-place.base _ past c.loop-place.invariant.done
