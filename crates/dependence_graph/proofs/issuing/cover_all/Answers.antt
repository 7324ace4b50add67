use Rattle.std.proofs.Common.{◌≡◌, ◌∙◌, ◌+◌, List, ap, arith, drop, subst, sym}
use Rattle.std.proofs.lemmas.List.{at_drop_all, at_drop_more}
use Rattle.std.proofs.lemmas.List.Elements.{All-get_or}
use Rattle.region_finder.specs.Listings.{IsListingOf}
use Rattle.region_tree.specs.Needs.{AreNeeds}
use Rattle.region_tree.specs.declared.needs.Needs.{Needs}
use Rattle.dependence_graph.specs.Graphs.{covered_each}
use Rattle.dependence_graph.specs.Issues.{state}
use Rattle.dependence_graph.proofs.Covering.{covered_more, placed_uncovered}
use Rattle.dependence_graph.proofs.issuing.cover_all.Goals as goal

pub loop-place-init : goal.loop-place-init
loop-place-init g c = record {
  rest = λ ks. ap (covered_each c.args.parent.0 c.args.needs.now (state ks (g.F.Finder.listing c.args.finder.now)))
      (let e : c.args.first + 0 ≡ c.args.first = omega arith in e);
  placed = c.requires.listing;
}

pub cover-requires-clause-listing : goal.cover-requires-clause-listing
cover-requires-clause-listing g c = c.loop-place.invariant.placed

pub cover-requires-clause-needs : goal.cover-requires-clause-needs
cover-requires-clause-needs g c =
    let t = g.P.Paths.forest c.args.tree.now in
    let one : Needs = c.index-needs-place.result in
    subst (λ (n : Needs). AreNeeds t n.items) (sym c.index-needs-place.is)
    (All-get_or (λ (n : Needs). AreNeeds t n.items) c.args.needs.now c.loop-place.place one (omega (arith, c.loop-place-test.true)) c.requires.needs)

pub loop-place-preserved : goal.loop-place-preserved
loop-place-preserved g c =
    let t = g.P.Paths.forest c.args.tree.now in
    let parent = c.args.parent.0 in
    let needs = c.args.needs.now in
    let place = c.loop-place.place in
    let listing = g.F.Finder.listing c.loop-place.finder in
    let one : Needs = c.index-needs-place.result in
    record {
      rest = λ ks. covered_more parent (drop (place + 1) needs) ks listing (g.F.Finder.listing c.cover.new.self) one _ c.args.first place
          c.index-needs-place.is c.cover.ensures
          ∙ sym (at_drop_more (λ (ns : List Needs). covered_each parent ns (state ks listing) (c.args.first + place)) needs place one (omega (arith, c.loop-place-test.true)))
          ∙ c.loop-place.invariant.rest ks;
      placed = subst (IsListingOf t) (sym c.cover.ensures)
          (placed_uncovered t parent (c.args.first + place) one.items listing c.loop-place.invariant.placed);
    }

pub returns : goal.returns
returns g c =
    λ ks. sym (at_drop_all (λ (ns : List Needs). covered_each c.args.parent.0 ns (state ks (g.F.Finder.listing c.loop-place.finder)) (c.args.first + c.loop-place.place))
    c.args.needs.now c.loop-place.place (omega (arith, c.loop-place-test.false)))
    ∙ c.loop-place.invariant.rest ks
