use Rattle.std.proofs.Common.{◌++◌, ◌∷◌, [], List, subst, sym}
use Rattle.dependence_graph.specs.Graphs.{Waits}
use Rattle.dependence_graph.specs.Issues.{AreAllNeeds}
use Rattle.graph_rows.specs.Plays.{IsPlay}
use Rattle.graph_rows.specs.declared.family.Family.{Family}
use Rattle.graph_rows.proofs.Staying.{play_issued, play_noted}
use Rattle.graph_rows.proofs.play.Play.issue.Goals as goal

pub invariant_of-self-in_err-push : goal.invariant_of-self-in_err-push
invariant_of-self-in_err-push g c =
    let t = c.self.inside.forest in
    let fs = c.self.inside.families.items in
    let needs = subst (AreAllNeeds t) c.as_slice.ensures.value (c.are_all_needs.ensures c.if-not-are_all_needs.false) in
    subst (λ (xs : List Family). IsPlay t c.issue.new.self xs) (sym c.in_err-push.ensures.items)
    (subst (λ (w : Waits). IsPlay t w fs) (sym c.in_ok-children.ensures.issued)
    (play_issued t c.self.inside.graph fs c.args.parent c.args.needs.items needs c.self.invariant))

pub invariant_of-self-2 : goal.invariant_of-self-2
invariant_of-self-2 g c =
    let t = c.self.inside.forest in
    let fs = c.self.inside.families.items in
    let needs = subst (AreAllNeeds t) c.as_slice.ensures.value (c.are_all_needs.ensures c.if-not-are_all_needs.false) in
    let family : Family = record { parent = c.args.parent; children = c.in_ok-children.children } in
    subst (λ (xs : List Family). IsPlay t c.issue.new.self xs) (sym c.in_ok-push.ensures.items)
    (subst (λ (w : Waits). IsPlay t w (fs ++ family ∷ [])) (sym c.in_ok-children.ensures.issued)
    (play_noted t c.self.inside.graph fs family c.args.needs.items needs c.in_ok-children.ensures.first
    c.in_ok-children.ensures.count c.self.invariant))
