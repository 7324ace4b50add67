use Rattle.std.proofs.Common.{rules, ◌≡◌, ◌∙◌, ◌≤◌, ◌+◌, ◌-◌, ap, length, sym}
use Rattle.std.specs.Prelude.{Some, slice_get}
use Rattle.std.specs.List.Sorted.{IsStrictlyIncreasing}
use Rattle.point_sets.specs.Stretches.{IsStretchFrom}
use Rattle.region_tree.specs.Pieces.{Held}
use Rattle.logical_map.specs.Maps.{number_beside}
use Rattle.physical_instances.proofs.Stretches.{run_held}
use Rattle.physical_instances.proofs.current.run_in.Goals as goal

pub returns-clause-numbers : goal.returns-clause-numbers
returns-clause-numbers c k below =
    let xs = c.piece.inside.points in
    let vs = c.as_slice.result.now in
    let first = c.in-Some-Some.first in
    let rise : IsStrictlyIncreasing xs = search (rules) in
    let whole : length xs ≡ length vs = search (rules) in
    let at : slice_get xs first ≡ Some c.args.point = search (rules) in
    let stretch : IsStretchFrom xs c.args.point c.in-Some-Some.stretch.start c.in-Some-Some.stretch.end = search (rules) in
    let most : first + c.min-count.result - first ≤ c.in-Some-Some.stretch.end - c.args.point = search (rules) in
    let run = run_held xs vs first c.args.point c.in-Some-Some.stretch.start c.in-Some-Some.stretch.end (first + c.min-count.result - first) k
    rise whole at stretch most below in
    ap (λ (h : Held). number_beside h.points h.values (c.args.point + k)) (sym c.piece.view_is)
    ∙ ap (λ ys. number_beside xs ys (c.args.point + k)) (sym c.as_slice.ensures) ∙ run
