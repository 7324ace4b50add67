use Rattle.std.proofs.Common.{◌∙◌, Bool, List, ap, subst, sym}
use Rattle.dependence_graph.specs.Entries.{Knot}
use Rattle.dependence_graph.specs.Graphs.{Waits}
use Rattle.dependence_graph.specs.Knots.{given_up, is_in_progress, knot_at, with_stage}
use Rattle.dependence_graph.specs.Links.{IsKept}
use Rattle.dependence_graph.specs.declared.stage.Stage.TheVariants.{Failed}
use Rattle.dependence_graph.proofs.Linked.{kept_failed}
use Rattle.dependence_graph.proofs.graph.Graph.end.Goals as goal

pub invariant_of-self-in-Failed : goal.invariant_of-self-in-Failed
invariant_of-self-in-Failed g c =
    subst (λ (ks : List Knot). IsKept ks c.self.inside.links.items c.remove.new.self (g.F.Finder.listing c.self.inside.finder)) (sym c.fail.ensures)
    (subst (λ (fs : List Bool). IsKept (given_up (with_stage c.self.inside.knots.items c.args.op.0 Failed)) c.self.inside.links.items fs (g.F.Finder.listing c.self.inside.finder)) (sym c.remove.ensures)
    (kept_failed c.self.inside.knots.items c.self.inside.links.items c.self.inside.ready (g.F.Finder.listing c.self.inside.finder) c.args.op.0 c.self.invariant
    (ap (λ (w : Waits). is_in_progress (knot_at w.knots c.args.op.0).stage) c.self.view_is ∙ c.requires.progress)))
