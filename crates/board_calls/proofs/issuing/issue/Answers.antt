use Rattle.std.proofs.Common.{subst, sym}
use Rattle.std.proofs.lemmas.Result.{on_ok_weaker}
use Rattle.region_finder.specs.Listings.{IsListingOf}
use Rattle.dependence_graph.specs.Graphs.{Waits}
use Rattle.dependence_graph.specs.Issues.{AreAllNeeds}
use Rattle.dependence_graph.proofs.Covering.{listing_issued}
use Rattle.board_calls.proofs.Issues.{all_need}
use Rattle.board_calls.proofs.issuing.issue.Goals as goal

pub issue_by-requires-clause-needs : goal.issue_by-requires-clause-needs
issue_by-requires-clause-needs c =
    subst (AreAllNeeds c.args.tree.now) (sym c.in_ok-needs.ensures) (all_need c.args.tree.now c.args.frames.now c.requires.needs)

pub returns-clause-listing : goal.returns-clause-listing
returns-clause-listing c =
    on_ok_weaker c.issue_by.result
    (λ e. subst (λ (w : Waits). IsListingOf c.args.tree.now w.listing) (sym e)
    (listing_issued c.args.tree.now c.args.op c.in_ok-needs.needs.items c.args.graph.now
    (subst (AreAllNeeds c.args.tree.now) (sym c.in_ok-needs.ensures) (all_need c.args.tree.now c.args.frames.now c.requires.needs))
    c.requires.listing))
    c.issue_by.ensures.issued
