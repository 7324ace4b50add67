use Rattle.std.proofs.Common.{◌≡◌, ◌∙◌, List, ap, arith, length, subst, sym, ℕ}
use Rattle.dependence_graph.specs.Entries.{Knot}
use Rattle.dependence_graph.specs.Graphs.{issued}
use Rattle.dependence_graph.specs.Issues.{state}
use Rattle.dependence_graph.specs.Knots.{is_ready}
use Rattle.dependence_graph.specs.Links.{AreReady, IsLinked}
use Rattle.dependence_graph.proofs.Stepping.{issued_ready, issued_size, kept_issued}
use Rattle.dependence_graph.proofs.graph.Graph.issue.Goals as goal

pub refresh_from-requires-clause-room : goal.refresh_from-requires-clause-room
refresh_from-requires-clause-room g c =
    let t = g.P.Paths.forest c.args.tree.now in
    let ks = c.self.inside.knots.items in
    let listing = g.F.Finder.listing c.self.inside.finder in
    let made : state c.issue_all.new.knots.items (g.F.Finder.listing c.issue_all.new.finder) ≡ issued t (state ks listing) c.args.parent c.args.needs.items =
    c.in_ok-issue_all.ensures.issued ∙ ap (issued t (state ks listing) c.args.parent) c.as_slice.ensures.value in
    omega (
      arith,
      ap {B = ℕ} (λ (xs : List Knot). length xs) c.deref.ensures.value,
      issued_size t ks c.issue_all.new.knots.items c.self.inside.links.items c.self.inside.ready listing (g.F.Finder.listing c.issue_all.new.finder) c.args.parent c.args.needs.items c.self.invariant made,
      c.in_ok-make_room.ensures.room,
      c.len-first.ensures,
      c.self.inside.knots.ok.0,
      c.len.ensures,
      c.args.needs.ok.0,
    )

pub refresh_from-requires-clause-ready : goal.refresh_from-requires-clause-ready
refresh_from-requires-clause-ready g c =
    let t = g.P.Paths.forest c.args.tree.now in
    let ks = c.self.inside.knots.items in
    let listing = g.F.Finder.listing c.self.inside.finder in
    let made : state c.issue_all.new.knots.items (g.F.Finder.listing c.issue_all.new.finder) ≡ issued t (state ks listing) c.args.parent c.args.needs.items =
    c.in_ok-issue_all.ensures.issued ∙ ap (issued t (state ks listing) c.args.parent) c.as_slice.ensures.value in
    subst (λ (xs : List Knot). AreReady xs c.make_room.new.self) (sym c.deref.ensures.value)
    (issued_ready t ks c.issue_all.new.knots.items c.self.inside.links.items c.self.inside.ready listing (g.F.Finder.listing c.issue_all.new.finder) c.args.parent c.args.needs.items c.self.invariant made
    c.make_room.new.self c.make_room.ensures.members)

pub invariant_of-self-2 : goal.invariant_of-self-2
invariant_of-self-2 g c =
    let t = g.P.Paths.forest c.args.tree.now in
    let ks = c.self.inside.knots.items in
    let us = c.issue_all.new.knots.items in
    let listing = g.F.Finder.listing c.self.inside.finder in
    let made : state us (g.F.Finder.listing c.issue_all.new.finder) ≡ issued t (state ks listing) c.args.parent c.args.needs.items =
    c.in_ok-issue_all.ensures.issued ∙ ap (issued t (state ks listing) c.args.parent) c.as_slice.ensures.value in
    kept_issued t ks us c.self.inside.links.items c.self.inside.ready listing (g.F.Finder.listing c.issue_all.new.finder) c.args.parent c.args.needs.items c.self.invariant made
    c.refresh_from.new.links.items c.make_room.new.self c.refresh_from.new.ready c.make_room.ensures.members
    (omega (arith, c.in_ok-make_room.ensures.room, c.len-first.ensures, c.self.inside.knots.ok.0, c.len.ensures, c.args.needs.ok.0))
    (subst (λ (xs : List Knot). IsLinked xs c.refresh_from.new.links.items) c.deref.ensures.value c.refresh_from.ensures.linked)
    (subst (λ (xs : List Knot). AreReady xs c.refresh_from.new.ready) c.deref.ensures.value c.refresh_from.ensures.ready)
    c.refresh_from.ensures.room c.refresh_from.ensures.all
    (λ j b r. c.refresh_from.ensures.found j (omega (arith, b, c.len-first.ensures, c.self.inside.knots.ok.0))
    (ap (λ (xs : List Knot). is_ready xs j) c.deref.ensures.value ∙ r))
    c.issue_all.ensures.listed
