use Rattle.std.proofs.Common.{arith, ◌≡◌, ◌∙◌, All, List, ap, false, filter, length, subst, sym, true}
use Rattle.region_finder.specs.Forests.{Upward}
use Rattle.region_finder.specs.Listings.{has_op}
use Rattle.region_tree.specs.declared.tree.OpNumber.{OpNumber}
use Rattle.region_walk.specs.Found.{put_all}
use Rattle.region_walk.specs.Keeping.{is_listed, live}
use Rattle.region_walk.specs.Near.{is_near}
use Rattle.region_walk.specs.Sides.{ArePassed}
use Rattle.region_walk.specs.Users.{IsUser, ListedNeed}
use Rattle.region_walk.proofs.Passing.{among_get, nobody, pass_all, pass_first, pass_met}
use Rattle.region_walk.proofs.users.Users.find.Goals as goal

pub loop-place-init : goal.loop-place-init
loop-place-init g c =
    let t = g.P.Paths.forest c.args.tree.now in
    let n = c.args.need.now in
    let us = c.as_slice-users.result.now in
    let p = is_listed (live c.args.listed.now) in
    let all = subst (λ (vs : List ListedNeed). All (IsUser t) (filter p vs)) (sym (c.as_slice-users.ensures.value ∙ c.self.view_is)) c.requires.users in
    let near = pass_first t c.args.context.0 n p c.first-place.result us (nobody n) c.first-place.ensures.below
    (λ i l. c.first-place.ensures.before i (nobody n) l) in
    let count = ap length near in
    record {
      below = c.first-place.ensures.below;
      found = ap (λ (vs : List ListedNeed). put_all vs c.args.found.now)
          (pass_met t c.args.context.0 n p c.first-place.result 0 us c.in_ok-way.ensures.forest c.requires.need all near);
      bound = omega (arith, count);
      steps = omega arith;
    }

pub is_near-requires-clause-placed : goal.is_near-requires-clause-placed
is_near-requires-clause-placed g c =
    let t = g.P.Paths.forest c.args.tree.now in
    let p = is_listed (live c.args.listed.now) in
    let us = c.as_slice-users.result.now in
    let all = subst (λ (vs : List ListedNeed). All (IsUser t) (filter p vs)) (sym (c.as_slice-users.ensures.value ∙ c.self.view_is)) c.requires.users in
    let d = c.index-users-place.result in
    let listed : p d ≡ true = sym (c.if-not-has.ensures ∙ ap (λ (o : OpNumber). has_op (live c.args.listed.now) o.0) c.op.ensures) in
    subst (IsUser t) (sym c.index-users-place.is)
    (among_get (IsUser t) p us c.loop-place.place d all (omega (arith, c.loop-place-test.true)) (subst (λ (u : ListedNeed). p u ≡ true) c.index-users-place.is listed))

pub meet-requires-clause-user : goal.meet-requires-clause-user
meet-requires-clause-user g c =
    let t = g.P.Paths.forest c.args.tree.now in
    let p = is_listed (live c.args.listed.now) in
    let us = c.as_slice-users.result.now in
    let all = subst (λ (vs : List ListedNeed). All (IsUser t) (filter p vs)) (sym (c.as_slice-users.ensures.value ∙ c.self.view_is)) c.requires.users in
    let d = c.index-users-place.result in
    let listed : p d ≡ true = sym (c.if-not-has.ensures ∙ ap (λ (o : OpNumber). has_op (live c.args.listed.now) o.0) c.op.ensures) in
    subst (IsUser t) (sym c.index-users-place.is)
    (among_get (IsUser t) p us c.loop-place.place d all (omega (arith, c.loop-place-test.true)) (subst (λ (u : ListedNeed). p u ≡ true) c.index-users-place.is listed))

pub loop-place-preserved : goal.loop-place-preserved
loop-place-preserved g c =
    let t = g.P.Paths.forest c.args.tree.now in
    let n = c.args.need.now in
    let us = c.as_slice-users.result.now in
    let p = is_listed (live c.args.listed.now) in
    let all = subst (λ (vs : List ListedNeed). All (IsUser t) (filter p vs)) (sym (c.as_slice-users.ensures.value ∙ c.self.view_is)) c.requires.users in
    let place = c.loop-place.place in
    let end = c.past-place.result in
    let d = c.index-users-place.result in
    let listed : p d ≡ true = sym (c.if-not-has.ensures ∙ ap (λ (o : OpNumber). has_op (live c.args.listed.now) o.0) c.op.ensures) in
    let live_one = subst (λ (u : ListedNeed). p u ≡ true) c.index-users-place.is listed in
    let far = subst (λ (u : ListedNeed). is_near t c.args.context.0 n u ≡ false) c.index-users-place.is (sym c.is_near.ensures ∙ c.if-is_near.false) in
    let passed = subst (λ (w : List Upward). ArePassed c.args.context.0 n w place end us) (c.as_slice.ensures ∙ c.in_ok-way.ensures.way) c.past-place.ensures.passed in
    let near = pass_all t c.args.context.0 n p place end us d c.in_ok-way.ensures.forest c.requires.need all live_one far passed
    c.past-place.ensures.behind c.past-place.ensures.below in
    let count = ap length near in
    record {
      below = c.past-place.ensures.below;
      found = ap (λ (vs : List ListedNeed). put_all vs c.loop-place.found)
          (pass_met t c.args.context.0 n p end place us c.in_ok-way.ensures.forest c.requires.need all near)
          ∙ c.loop-place.invariant.found;
      bound = omega (arith, count, c.loop-place.invariant.bound);
      steps = c.loop-place.invariant.steps;
    }
