use Rattle.std.proofs.Common.{◌∙◌, ap, subst, sym}
use Rattle.dependence_graph.specs.Graphs.{Waits}
use Rattle.dependence_graph.specs.Knots.{is_in_progress}
use Rattle.dependence_graph.proofs.Following.{progress_there}
use Rattle.graph_rows.specs.Plays.{AreIssued, IsPlay}
use Rattle.graph_rows.proofs.Staying.{play_parked}
use Rattle.graph_rows.proofs.play.Play.park.Goals as goal

pub may_wait-requires : goal.may_wait-requires
may_wait-requires g c = subst (AreIssued c.self.inside.graph.knots) (sym c.as_slice.ensures.value) c.self.invariant.issued

pub invariant_of-self-2 : goal.invariant_of-self-2
invariant_of-self-2 g c =
    let w = c.self.inside.graph in
    subst (λ (u : Waits). IsPlay c.self.inside.forest u c.self.inside.families.items) (sym c.in_ok-park.ensures.parked)
    (play_parked c.self.inside.forest w c.self.inside.families.items c.args.op.0 c.args.on
    (progress_there w.knots c.args.op.0 (ap is_in_progress c.in-Some-Begun.ensures.there ∙ c.in-Some-Begun.ensures.progress)) c.self.invariant)
