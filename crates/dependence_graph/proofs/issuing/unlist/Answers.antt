use Rattle.std.specs.Prelude.{filter}
use Rattle.std.proofs.Common.{◌∙◌, All, ap, arith, refl, subst, sym, ◌+◌}
use Rattle.dependence_graph.specs.Issues.{is_below}
use Rattle.dependence_graph.proofs.Extending.{IsLeft, below_without, left_without}
use Rattle.dependence_graph.proofs.IssuingSteps.{left_first, left_last}
use Rattle.dependence_graph.proofs.issuing.unlist.Goals as goal

pub loop-place-init : goal.loop-place-init
loop-place-init g c = record {
  left = left_first c.args.first c.args.size (g.F.Finder.listing c.args.finder.now) c.requires.listed;
  same = refl;
  behind = omega arith;
}

pub loop-place-preserved : goal.loop-place-preserved
loop-place-preserved g c = record {
  left = subst (All (IsLeft c.args.first (c.loop-place.place + 1) c.args.size)) (sym c.ended.ensures)
      (left_without c.args.first c.loop-place.place c.args.size (g.F.Finder.listing c.loop-place.finder) c.loop-place.invariant.left);
  same = ap (filter (is_below c.args.first)) c.ended.ensures
      ∙ below_without c.args.first c.loop-place.place (g.F.Finder.listing c.loop-place.finder) c.loop-place.invariant.behind
      ∙ c.loop-place.invariant.same;
  behind = omega (arith, c.loop-place.invariant.behind);
}

pub returns : goal.returns
returns g c =
    sym (left_last c.args.first c.loop-place.place c.args.size (g.F.Finder.listing c.loop-place.finder) (omega (arith, c.loop-place-test.false)) c.loop-place.invariant.left)
    ∙ c.loop-place.invariant.same
