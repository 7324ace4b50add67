use Rattle.std.proofs.Common.{arith, ◌≡◌, ◌+◌, ◌++◌, ◌∷◌, ◌∙◌, IsPermutation, List, ap, drop, filter, map, subst, sym}
use Rattle.std.proofs.lemmas.List.{drop_more}
use Rattle.region_finder.specs.Listings.{placed}
use Rattle.region_tree.specs.declared.needs.Need.{Need}
use Rattle.region_tree.specs.declared.tree.OpNumber.{OpNumber}
use Rattle.region_walk.specs.Users.{ListedNeed, is_of_another, listed_need}
use Rattle.region_walk.proofs.Permuting.{perm_more}
use Rattle.region_walk.proofs.users.Users.add.Goals as goal

pub loop-need-preserved : goal.loop-need-preserved
loop-need-preserved g c =
    let t = g.P.Paths.forest c.args.tree.now in
    let f = listed_need c.args.context c.args.op in
    let needs = c.args.needs.now in
    let i = c.loop-need.need-index in
    let all = map f (map (placed t) needs) ++ c.args.self.now in
    let rest = map f (map (placed t) (drop (i + 1) needs)) in
    let user = c.in_ok-user.user in
    let left : map f (map (placed t) (drop i needs)) ≡ user ∷ rest =
    ap (λ (ns : List Need). map f (map (placed t) ns)) (drop_more needs i _ (omega (arith, c.loop-need-test.true)))
    ∙ ap (λ (u : ListedNeed). u ∷ rest) (sym c.in_ok-user.ensures.user) in
    record {
      added = perm_more all rest c.loop-need.self c.insert.new.self user
          (subst (λ (us : List ListedNeed). IsPermutation all (us ++ c.loop-need.self)) left c.loop-need.invariant.added)
          c.in_ok-insert.ensures.added;
      others = subst (λ (o : OpNumber). filter (is_of_another o.0) c.insert.new.self ≡ filter (is_of_another o.0) c.loop-need.self)
          (ap (λ (u : ListedNeed). u.op) c.in_ok-user.ensures.user) c.insert.ensures.others
          ∙ c.loop-need.invariant.others;
    }
