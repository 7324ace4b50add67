use Rattle.std.proofs.Common.{◌∙◌, All, List, ap, arith, drop, length, refl, subst, sym, ℕ, ◌+◌}
use Rattle.std.proofs.lemmas.List.{at_drop_all, at_drop_more}
use Rattle.std.proofs.lemmas.List.Elements.{All-get_or}
use Rattle.region_finder.specs.Listings.{IsListingOf}
use Rattle.region_tree.specs.Needs.{AreNeeds}
use Rattle.region_tree.specs.declared.needs.Needs.{Needs}
use Rattle.dependence_graph.specs.Entries.{Knot}
use Rattle.dependence_graph.specs.Graphs.{Waits, issued_each, issued_one}
use Rattle.dependence_graph.specs.Issues.{state}
use Rattle.dependence_graph.specs.Links.{IsIssued, IsLinked}
use Rattle.dependence_graph.proofs.IssuingSteps.{back_linked, back_state, issuing_start, issuing_step, listed_below}
use Rattle.dependence_graph.proofs.issuing.issue_each.Goals as goal

pub loop-one-init : goal.loop-one-init
loop-one-init g c = record {
  rest = refl;
  issuing = issuing_start (g.P.Paths.forest c.args.tree.now) c.args.knots.now.items c.args.links.now.items (g.F.Finder.listing c.args.finder.now)
      c.requires.listed c.requires.listing c.requires.linked;
  first = omega (arith, c.len-first.ensures, c.args.knots.now.ok.0);
}

pub issue_one-requires-clause-listing : goal.issue_one-requires-clause-listing
issue_one-requires-clause-listing g c = c.loop-one.invariant.issuing.placed

pub issue_one-requires-clause-listed : goal.issue_one-requires-clause-listed
issue_one-requires-clause-listed g c = c.loop-one.invariant.issuing.issued

pub issue_one-requires-clause-linked : goal.issue_one-requires-clause-linked
issue_one-requires-clause-linked g c = c.loop-one.invariant.issuing.linked

pub unlist-requires-clause-first : goal.unlist-requires-clause-first
unlist-requires-clause-first g c =
    omega (
      arith,
      c.len.ensures,
      c.issue_one.new.knots.ok.0,
      ap {B = ℕ} (λ (w : Waits). length w.knots) c.in-Err.ensures.unchanged,
      c.loop-one.invariant.issuing.extends.size,
      c.loop-one.invariant.first,
    )

pub unlist-requires-clause-listed : goal.unlist-requires-clause-listed
unlist-requires-clause-listed g c =
    listed_below c.loop-one.knots.items c.issue_one.new.knots.items (g.F.Finder.listing c.loop-one.finder) (g.F.Finder.listing c.issue_one.new.finder) c.len.result
    c.in-Err.ensures.unchanged (omega (arith, c.len.ensures, c.issue_one.new.knots.ok.0)) c.loop-one.invariant.issuing.issued

pub returns-in-Err-clause-unchanged : goal.returns-in-Err-clause-unchanged
returns-in-Err-clause-unchanged g c =
    back_state (g.P.Paths.forest c.args.tree.now) c.args.knots.now.items c.loop-one.knots.items c.issue_one.new.knots.items c.truncate.new.self.items
    c.args.links.now.items c.loop-one.links.items (g.F.Finder.listing c.args.finder.now) (g.F.Finder.listing c.loop-one.finder)
    (g.F.Finder.listing c.issue_one.new.finder) (g.F.Finder.listing c.unlist.new.finder) c.len-first.result
    c.loop-one.invariant.issuing c.in-Err.ensures.unchanged c.loop-one.invariant.first c.truncate.ensures.items c.unlist.ensures

pub returns-in-Err-clause-linked : goal.returns-in-Err-clause-linked
returns-in-Err-clause-linked g c =
    subst (λ (ks : List Knot). IsLinked ks c.truncate-in-Err.new.self.items)
    (sym (ap (λ (w : Waits). w.knots) (returns-in-Err-clause-unchanged g c)))
    (subst (IsLinked c.args.knots.now.items) (sym c.truncate-in-Err.ensures.items)
    (back_linked (g.P.Paths.forest c.args.tree.now) c.args.knots.now.items c.loop-one.knots.items c.args.links.now.items c.loop-one.links.items c.issue_one.new.links.items
    (g.F.Finder.listing c.args.finder.now) (g.F.Finder.listing c.loop-one.finder) c.len-first.result
    c.loop-one.invariant.issuing c.requires.linked c.loop-one.invariant.first c.issue_one.ensures.grown))

pub returns-in-Err-clause-listed : goal.returns-in-Err-clause-listed
returns-in-Err-clause-listed g c =
    subst (λ (w : Waits). All (IsIssued w.knots) w.listing) (sym (returns-in-Err-clause-unchanged g c)) c.requires.listed

pub returns-in-Err-clause-placed : goal.returns-in-Err-clause-placed
returns-in-Err-clause-placed g c =
    subst (λ (w : Waits). IsListingOf (g.P.Paths.forest c.args.tree.now) w.listing) (sym (returns-in-Err-clause-unchanged g c)) c.requires.listing

pub loop-one-preserved : goal.loop-one-preserved
loop-one-preserved g c =
    let t = g.P.Paths.forest c.args.tree.now in
    let one : Needs = c.one-item.result in
    record {
      rest = ap (λ (w : Waits). issued_each t w c.args.parent (drop (c.loop-one.one-index + 1) c.args.needs.now)) c.in-Ok.ensures.issued
          ∙ ap (λ (n : Needs). issued_each t (issued_one t (state c.loop-one.knots.items (g.F.Finder.listing c.loop-one.finder)) c.args.parent n.items) c.args.parent
          (drop (c.loop-one.one-index + 1) c.args.needs.now)) c.one-item.is
          ∙ sym (at_drop_more (issued_each t (state c.loop-one.knots.items (g.F.Finder.listing c.loop-one.finder)) c.args.parent) c.args.needs.now c.loop-one.one-index one c.loop-one-test.true)
          ∙ c.loop-one.invariant.rest;
      issuing = issuing_step t c.args.knots.now.items c.loop-one.knots.items c.issue_one.new.knots.items c.args.links.now.items c.loop-one.links.items c.issue_one.new.links.items
          (g.F.Finder.listing c.args.finder.now) (g.F.Finder.listing c.loop-one.finder) (g.F.Finder.listing c.issue_one.new.finder) c.args.parent one.items
          c.loop-one.invariant.issuing c.in-Ok.ensures.issued
          (subst (λ (n : Needs). AreNeeds t n.items) (sym c.one-item.is)
          (All-get_or (λ (n : Needs). AreNeeds t n.items) c.args.needs.now c.loop-one.one-index one c.loop-one-test.true c.requires.needs))
          c.issue_one.ensures.linked c.issue_one.ensures.grown;
      first = c.loop-one.invariant.first;
    }

pub returns-clause-issued : goal.returns-clause-issued
returns-clause-issued g c =
    sym (at_drop_all (issued_each (g.P.Paths.forest c.args.tree.now) (state c.loop-one.knots.items (g.F.Finder.listing c.loop-one.finder)) c.args.parent)
    c.args.needs.now c.loop-one.one-index (omega (arith, c.loop-one-test.false)))
    ∙ c.loop-one.invariant.rest

pub returns-clause-linked : goal.returns-clause-linked
returns-clause-linked g c = c.loop-one.invariant.issuing.linked

pub returns-clause-listed : goal.returns-clause-listed
returns-clause-listed g c = c.loop-one.invariant.issuing.issued

pub returns-clause-placed : goal.returns-clause-placed
returns-clause-placed g c = c.loop-one.invariant.issuing.placed
