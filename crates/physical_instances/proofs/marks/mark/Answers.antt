use Rattle.std.proofs.Common.{rules, ◌≡◌, ◌≤◌, ◌<◌, Some, length}
use Rattle.std.specs.Prelude.{Contains, slice_get, slice_set}
use Rattle.physical_instances.proofs.Marking.{mark_end, mark_found, mark_lacked}
use Rattle.physical_instances.proofs.marks.mark.Goals as goal
use Rattle.physical_instances.proofs.marks.mark.Goals.{in-Some-place_of, in_default-place_of}

pub loop-place-preserved : goal.loop-place-preserved
loop-place-preserved c =
    let xs = c.args.points.now in
    let ps = c.args.root.now in
    let place = c.loop-place.place in
    let at : slice_get xs place ≡ Some c.in-Some.point = search (rules) in
    elim c.match-place_of.branch [
      | in-Some-place_of w ↦
          let found : slice_get ps w.in-Some-place_of.found ≡ Some c.in-Some.point = search (rules) in
          let below : w.in-Some-place_of.found < length c.loop-place.valid = search (rules) in
          let put : c.match-place_of.valid ≡ slice_set c.loop-place.valid w.in-Some-place_of.found c.args.which = search (rules) in
          record {
            beside = search (rules);
            kept = search (rules);
            counts = search (rules);
            done = mark_found c.args.which xs ps place c.in-Some.point w.in-Some-place_of.found c.loop-place.valid c.match-place_of.valid _ at
                c.requires.rising found below put c.loop-place.invariant.done;
          }
      | in_default-place_of w ↦
          let lack : ¬ Contains ps c.in-Some.point = search (rules) in
          let same : c.match-place_of.valid ≡ c.loop-place.valid = search (rules) in
          record {
            beside = search (rules);
            kept = search (rules);
            counts = search (rules);
            done = mark_lacked c.args.which xs ps place c.in-Some.point c.loop-place.valid c.match-place_of.valid _ at lack same c.loop-place.invariant.done;
          }
    ]

pub returns-clause-valid : goal.returns-clause-valid
returns-clause-valid c =
    let past : length c.args.points.now ≤ c.loop-place.place = search (rules) in
    mark_end c.args.which c.args.points.now c.args.root.now c.loop-place.place c.loop-place.valid _ past c.loop-place.invariant.done
