use Rattle.std.proofs.Common.{sym, subst, ◌∙◌, ap, ◌+◌, drop}
use Rattle.region_tree.specs.Requirements.{Requirement}
use Rattle.region_tree.proofs.Dividing.{IsGathered}
use Rattle.region_tree.proofs.Gathering.{gathered_next, passed_next}
use Rattle.region_tree.proofs.required_part.points_in.Goals as goal
use Rattle.region_tree.proofs.required_part.points_in.Goals.{then-is_wanted+in_ok-points-2, else-is_wanted}

pub loop-need-preserved : goal.loop-need-preserved
loop-need-preserved c =
    let needs = c.args.needs.now in
    let i = c.loop-need.need-index in
    let gathered = IsGathered c.args.root.0 c.args.field c.args.mode c.args.same needs
    (drop (i + 1) needs) in
    elim c.if-is_wanted.branch [
      | then-is_wanted+in_ok-points-2 w ↦ subst gathered (sym w.points-is)
          (gathered_next needs i c.need-item.result c.need-item.is c.loop-need-test.true c.args.root.0 c.args.field c.args.mode
          c.args.same needs c.loop-need.points c.loop-need.invariant w.get.result.now _
          (sym c.is_wanted.ensures ∙ w.if-is_wanted.true) (w.get.ensures ∙ ap (λ (r : Requirement). r.points) c.need.view_is)
          w.in_ok-points-2.ensures.value w.in_ok-points-2.ensures.points)
      | else-is_wanted w ↦ subst gathered (sym w.points-is)
          (passed_next needs i c.need-item.result c.need-item.is c.loop-need-test.true c.args.root.0 c.args.field c.args.mode
          c.args.same needs c.loop-need.points c.loop-need.invariant
          (sym c.is_wanted.ensures ∙ w.if-is_wanted.false))
    ]
