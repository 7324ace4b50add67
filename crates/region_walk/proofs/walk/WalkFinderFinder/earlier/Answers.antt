use Rattle.std.proofs.Common.{◌≡◌, ◌∙◌, [], List, ap, arith, subst, sym}
use Rattle.region_finder.specs.Listings.{AreRising, IsListingOf, Listed, earlier, interferes_in}
use Rattle.region_tree.specs.Needs.{AreNeeds}
use Rattle.region_tree.specs.declared.needs.Need.{Need}
use Rattle.region_tree.specs.declared.tree.OpNumber.{OpNumber}
use Rattle.region_walk.specs.Found.{put_met}
use Rattle.region_walk.specs.Keeping.{live, live_users}
use Rattle.region_walk.specs.Near.{near_pairs, near_users, needs_of_context}
use Rattle.region_walk.proofs.Bounding.{near_all}
use Rattle.region_walk.proofs.Exact.{found_exactly}
use Rattle.region_walk.proofs.Indexing.{users_placed}
use Rattle.region_walk.proofs.Rising.{rising_found}
use Rattle.region_walk.proofs.walk.WalkFinderFinder.earlier.Goals as goal

pub find_all-requires-clause-users : goal.find_all-requires-clause-users
find_all-requires-clause-users g c =
    let t = g.P.Paths.forest c.args.tree.now in
    users_placed t (live c.self.inside.entries) (live_users (live c.self.inside.entries) c.self.inside.users) c.self.invariant.indexed (subst (IsListingOf t) (sym c.self.view_is) c.requires.listing)

pub find_all-requires-clause-needs : goal.find_all-requires-clause-needs
find_all-requires-clause-needs g c =
    subst (AreNeeds (g.P.Paths.forest c.args.tree.now)) (sym c.as_slice.ensures) c.requires.needs

pub returns-in_err-find_all-clause-bound : goal.returns-in_err-find_all-clause-bound
returns-in_err-find_all-clause-bound g c =
    let t = g.P.Paths.forest c.args.tree.now in
    let context = c.args.context.0 in
    let needs = c.args.needs.now.items in
    let e = ap (λ (ns : List Need). near_users t context ns (live_users (live c.self.inside.entries) c.self.inside.users)) c.as_slice.ensures
    ∙ near_all t context needs (live c.self.inside.entries) (live_users (live c.self.inside.entries) c.self.inside.users) c.self.invariant.indexed
    ∙ ap (λ (ls : List Listed). near_pairs t needs (needs_of_context ls context)) c.self.view_is in
    omega (arith, e, c.find_all.ensures.bound)

pub returns-clause-found : goal.returns-clause-found
returns-clause-found g c =
    let t = g.P.Paths.forest c.args.tree.now in
    let context = c.args.context.0 in
    let needs = c.args.needs.now.items in
    let users = live_users (live c.self.inside.entries) c.self.inside.users in
    c.into_ops.ensures ∙ c.in_ok-find_all.ensures.found
    ∙ ap (λ (fs : List OpNumber). put_met t context c.as_slice.result.now users fs) c.new-found.ensures
    ∙ ap (λ (ns : List Need). put_met t context ns users []) c.as_slice.ensures
    ∙ found_exactly t context needs (live c.self.inside.entries) users c.self.invariant.indexed
    ∙ ap (λ (ls : List Listed). earlier t ls context needs) c.self.view_is

pub returns-clause-rising : goal.returns-clause-rising
returns-clause-rising g c =
    let t = g.P.Paths.forest c.args.tree.now in
    let context = c.args.context.0 in
    let needs = c.args.needs.now.items in
    let users = live_users (live c.self.inside.entries) c.self.inside.users in
    let found : c.into_ops.result.items ≡ earlier t (live c.self.inside.entries) context needs =
    c.into_ops.ensures ∙ c.in_ok-find_all.ensures.found
    ∙ ap (λ (fs : List OpNumber). put_met t context c.as_slice.result.now users fs) c.new-found.ensures
    ∙ ap (λ (ns : List Need). put_met t context ns users []) c.as_slice.ensures
    ∙ found_exactly t context needs (live c.self.inside.entries) users c.self.invariant.indexed in
    subst AreRising (sym found) (rising_found (interferes_in t context needs) (live c.self.inside.entries) c.self.invariant.indexed.rising)

pub returns-clause-bound : goal.returns-clause-bound
returns-clause-bound g c =
    let t = g.P.Paths.forest c.args.tree.now in
    let context = c.args.context.0 in
    let needs = c.args.needs.now.items in
    let e = ap (λ (ns : List Need). near_users t context ns (live_users (live c.self.inside.entries) c.self.inside.users)) c.as_slice.ensures
    ∙ near_all t context needs (live c.self.inside.entries) (live_users (live c.self.inside.entries) c.self.inside.users) c.self.invariant.indexed
    ∙ ap (λ (ls : List Listed). near_pairs t needs (needs_of_context ls context)) c.self.view_is in
    omega (arith, e, c.find_all.ensures.bound)
