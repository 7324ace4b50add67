use Rattle.std.proofs.Common.{List, ◌+◌, take, sym, subst}
use Rattle.std.proofs.lemmas.List.{take_more, take_all}
use Rattle.lane_kernels.specs.declared.numbers.Mode.{Mode}
use Rattle.region_tree.proofs.Dividing.{IsWithout, shared_modes, without_more, without_shared}
use Rattle.region_tree.proofs.required_part.points_written.Goals as goal
use Rattle.plain_values.specs.Points.{IsPoints, minus_of}
use Rattle.point_sets.specs.declared.TheConstants.{POINT_LIMIT}

pub loop-mode-preserved : goal.loop-mode-preserved
loop-mode-preserved c =
    let rs = c.args.needs.now in
    let i = c.loop-mode.mode-index in
    let after = c.in_ok-points-2.points in
    let is = c.in_ok-points-2.ensures.value in
    let more = without_more rs c.args.root.0 c.args.field (take i shared_modes) _ c.loop-mode.points
    c.in_ok-alone.alone c.loop-mode.invariant c.in_ok-alone.ensures
    (subst (IsPoints POINT_LIMIT) is c.in_ok-points-2.ensures.points) in
    subst (IsWithout rs c.args.root.0 c.args.field (take (i + 1) shared_modes)) (sym is)
    (subst (λ (ms : List Mode). IsWithout rs c.args.root.0 c.args.field ms
    (minus_of c.loop-mode.points c.in_ok-alone.alone))
    (sym (take_more shared_modes i _ c.loop-mode-test.true)) more)

pub returns : goal.returns
returns c =
    let rs = c.args.needs.now in
    without_shared rs c.args.root.0 c.args.field c.loop-mode.points
    (subst (λ (ms : List Mode). IsWithout rs c.args.root.0 c.args.field ms c.loop-mode.points)
    (take_all c.loop-mode.mode-index shared_modes c.loop-mode-test.false) c.loop-mode.invariant)
