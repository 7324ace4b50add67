use Rattle.std.proofs.Common.{◌∙◌, ap, subst, sym}
use Rattle.dependence_graph.specs.Graphs.{Waits}
use Rattle.dependence_graph.specs.Knots.{is_in_progress}
use Rattle.dependence_graph.proofs.Following.{progress_there}
use Rattle.graph_rows.specs.Plays.{IsPlay}
use Rattle.graph_rows.proofs.Staying.{play_ended}
use Rattle.graph_rows.proofs.play.Play.end.Goals as goal

pub invariant_of-self : goal.invariant_of-self
invariant_of-self g c =
    let w = c.self.inside.graph in
    subst (λ (u : Waits). IsPlay c.self.inside.forest u c.self.inside.families.items) (sym c.end.ensures)
    (play_ended c.self.inside.forest w c.self.inside.families.items c.args.op.0 c.args.how
    (progress_there w.knots c.args.op.0 (ap is_in_progress c.in-Some.ensures.there ∙ c.in-Some.ensures.progress)) c.self.invariant)
