use Rattle.std.proofs.Common.{◌∙◌, Bool, List, ap, subst, sym}
use Rattle.dependence_graph.specs.Entries.{Knot}
use Rattle.dependence_graph.specs.Graphs.{Waits}
use Rattle.dependence_graph.specs.Knots.{is_ready, with_stage}
use Rattle.dependence_graph.specs.Links.{IsKept}
use Rattle.dependence_graph.specs.declared.stage.Stage.TheVariants.{Begun}
use Rattle.dependence_graph.proofs.Linked.{kept_begun}
use Rattle.dependence_graph.proofs.graph.Graph.begin.Goals as goal

pub invariant_of-self : goal.invariant_of-self
invariant_of-self g c =
    subst (λ (ks : List Knot). IsKept ks c.self.inside.links.items c.remove.new.self (g.F.Finder.listing c.self.inside.finder)) (sym c.enter.ensures)
    (subst (λ (fs : List Bool). IsKept (with_stage c.self.inside.knots.items c.args.op.0 Begun) c.self.inside.links.items fs (g.F.Finder.listing c.self.inside.finder)) (sym c.remove.ensures)
    (kept_begun c.self.inside.knots.items c.self.inside.links.items c.self.inside.ready (g.F.Finder.listing c.self.inside.finder) c.args.op.0 c.self.invariant
    (ap (λ (w : Waits). is_ready w.knots c.args.op.0) c.self.view_is ∙ c.requires)))
