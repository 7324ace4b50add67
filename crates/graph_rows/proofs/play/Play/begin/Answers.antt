use Rattle.std.proofs.Common.{◌∙◌, subst, sym}
use Rattle.dependence_graph.specs.Graphs.{Waits}
use Rattle.graph_rows.specs.Plays.{IsPlay}
use Rattle.graph_rows.proofs.Staying.{play_begun, ready_there}
use Rattle.graph_rows.proofs.play.Play.begin.Goals as goal

pub invariant_of-self : goal.invariant_of-self
invariant_of-self g c =
    let w = c.self.inside.graph in
    subst (λ (u : Waits). IsPlay c.self.inside.forest u c.self.inside.families.items) (sym c.begin.ensures)
    (play_begun c.self.inside.forest w c.self.inside.families.items c.args.op.0
    (ready_there w.knots c.args.op.0 (sym c.ready.ensures ∙ c.if-not-ready.false)) c.self.invariant)
