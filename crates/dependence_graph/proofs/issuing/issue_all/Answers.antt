use Rattle.std.proofs.Common.{◌∙◌, ap, arith, length, ℕ}
use Rattle.dependence_graph.specs.Graphs.{Waits}
use Rattle.dependence_graph.specs.Issues.{state}
use Rattle.dependence_graph.proofs.Covering.{issued_covered, issued_is}
use Rattle.dependence_graph.proofs.Extending.{size_issued}
use Rattle.dependence_graph.proofs.issuing.issue_all.Goals as goal

pub cover_all-requires-clause-numbers : goal.cover_all-requires-clause-numbers
cover_all-requires-clause-numbers g c =
    let t = g.P.Paths.forest c.args.tree.now in
    let old = state c.args.knots.now.items (g.F.Finder.listing c.args.finder.now) in
    omega (
      arith,
      ap {B = ℕ} (λ (w : Waits). length w.knots) c.in_ok-issue_each.ensures.issued,
      size_issued t c.args.parent c.args.needs.now old,
      c.issue_each.new.knots.ok.0,
      c.len-first.ensures,
      c.args.knots.now.ok.0,
    )

pub returns-clause-issued : goal.returns-clause-issued
returns-clause-issued g c =
    issued_is (g.P.Paths.forest c.args.tree.now) (state c.args.knots.now.items (g.F.Finder.listing c.args.finder.now))
    c.issue_each.new.knots.items (g.F.Finder.listing c.issue_each.new.finder) (g.F.Finder.listing c.cover_all.new.finder) c.args.parent c.args.needs.now c.len-first.result
    c.in_ok-issue_each.ensures.issued (omega (arith, c.len-first.ensures, c.args.knots.now.ok.0))
    (c.cover_all.ensures c.issue_each.new.knots.items)

pub returns-clause-listed : goal.returns-clause-listed
returns-clause-listed g c =
    issued_covered c.issue_each.new.knots.items c.args.parent.0 c.args.needs.now
    (g.F.Finder.listing c.issue_each.new.finder) (g.F.Finder.listing c.cover_all.new.finder) c.len-first.result
    (c.cover_all.ensures c.issue_each.new.knots.items) c.issue_each.ensures.listed
