use Rattle.std.proofs.Common.{◌≡◌, ◌∙◌, List, ap, set, subst, sym, true}
use Rattle.region_finder.specs.Listings.{IsListingOf}
use Rattle.region_tree.specs.declared.tree.OpNumber.{OpNumber}
use Rattle.least_set.specs.Members.{has}
use Rattle.dependence_graph.specs.Entries.{Knot}
use Rattle.dependence_graph.specs.Graphs.{Waits, knot_on, waited}
use Rattle.dependence_graph.specs.Issues.{IsOwn}
use Rattle.dependence_graph.specs.Knots.{is_ready, knot_at}
use Rattle.dependence_graph.specs.Links.{AreReady, IsKept, IsLinked}
use Rattle.dependence_graph.specs.declared.stage.Stage.TheVariants.{Parked, Stopped}
use Rattle.dependence_graph.proofs.Stepping.{kept_parked, waits_linked, waits_ready}
use Rattle.dependence_graph.proofs.graph.Graph.park.Goals as goal

pub waited_for-requires-clause-listing : goal.waited_for-requires-clause-listing
waited_for-requires-clause-listing g c =
    subst (λ (w : Waits). IsListingOf (g.P.Paths.forest c.args.tree.now) w.listing) (sym c.self.view_is) c.requires.listing

pub refresh-requires-clause-linked : goal.refresh-requires-clause-linked
refresh-requires-clause-linked g c =
    let t = g.P.Paths.forest c.args.tree.now in
    let ks = c.self.inside.knots.items in
    let op = c.args.op.0 in
    let listing = g.F.Finder.listing c.self.inside.finder in
    let us = set ks op (knot_on ks (knot_at ks op).parent (waited t listing op c.args.on) Parked Stopped) in
    let knots : c.deref.result.now ≡ us = c.deref.ensures.value ∙ c.wait.ensures
    ∙ ap (λ (os : List OpNumber). set ks op (knot_on ks (knot_at ks op).parent os Parked Stopped)) c.in_ok-on.ensures.found in
    subst (λ (xs : List Knot). IsLinked xs c.restart.new.links.items) (sym knots)
    (subst (IsLinked us) (sym c.restart.ensures)
    (waits_linked t ks c.self.inside.links.items c.self.inside.ready listing op c.args.on c.self.invariant
    (ap (λ (w : Waits). (knot_at w.knots op).stage) c.self.view_is ∙ c.requires.begun)
    (subst (λ (w : Waits). IsOwn w.knots op c.args.on) (sym c.self.view_is) c.requires.own)))

pub refresh-requires-clause-ready : goal.refresh-requires-clause-ready
refresh-requires-clause-ready g c =
    let t = g.P.Paths.forest c.args.tree.now in
    let ks = c.self.inside.knots.items in
    let op = c.args.op.0 in
    let listing = g.F.Finder.listing c.self.inside.finder in
    let us = set ks op (knot_on ks (knot_at ks op).parent (waited t listing op c.args.on) Parked Stopped) in
    let knots : c.deref.result.now ≡ us = c.deref.ensures.value ∙ c.wait.ensures
    ∙ ap (λ (os : List OpNumber). set ks op (knot_on ks (knot_at ks op).parent os Parked Stopped)) c.in_ok-on.ensures.found in
    subst (λ (xs : List Knot). AreReady xs c.self.inside.ready) (sym knots)
    (waits_ready t ks c.self.inside.links.items c.self.inside.ready listing op c.args.on c.self.invariant
    (ap (λ (w : Waits). (knot_at w.knots op).stage) c.self.view_is ∙ c.requires.begun)
    (subst (λ (w : Waits). IsOwn w.knots op c.args.on) (sym c.self.view_is) c.requires.own))

pub invariant_of-self-2 : goal.invariant_of-self-2
invariant_of-self-2 g c =
    let t = g.P.Paths.forest c.args.tree.now in
    let ks = c.self.inside.knots.items in
    let op = c.args.op.0 in
    let listing = g.F.Finder.listing c.self.inside.finder in
    let us = set ks op (knot_on ks (knot_at ks op).parent (waited t listing op c.args.on) Parked Stopped) in
    let parked : c.wait.new.knots.items ≡ us = c.wait.ensures
    ∙ ap (λ (os : List OpNumber). set ks op (knot_on ks (knot_at ks op).parent os Parked Stopped)) c.in_ok-on.ensures.found in
    let knots : c.deref.result.now ≡ us = c.deref.ensures.value ∙ parked in
    subst (λ (xs : List Knot). IsKept xs c.refresh.new.links.items c.refresh.new.ready (g.F.Finder.listing c.waited_for.new.finder)) (sym parked)
    (subst (IsKept us c.refresh.new.links.items c.refresh.new.ready) (sym c.waited_for.ensures.listing)
    (kept_parked t ks c.self.inside.links.items c.self.inside.ready listing op c.args.on c.self.invariant
    (ap (λ (w : Waits). (knot_at w.knots op).stage) c.self.view_is ∙ c.requires.begun)
    (subst (λ (w : Waits). IsOwn w.knots op c.args.on) (sym c.self.view_is) c.requires.own)
    c.refresh.new.links.items c.refresh.new.ready
    (subst (λ (xs : List Knot). IsLinked xs c.refresh.new.links.items) knots c.refresh.ensures.linked)
    (subst (λ (xs : List Knot). AreReady xs c.refresh.new.ready) knots c.refresh.ensures.ready)
    c.refresh.ensures.room c.refresh.ensures.all
    (subst (λ (xs : List Knot). is_ready xs op ≡ true → has c.refresh.new.ready op ≡ true) knots c.refresh.ensures.found)))
