use Rattle.std.proofs.Common.{arith, ◌≡◌, ◌≤◌, ◌<◌, ◌-◌, All, drop, get_or, suc, subst, take, ℕ}
use Rattle.region_finder.specs.Listings.{Listed}
use Rattle.region_tree.specs.declared.tree.OpNumber.{OpNumber}
use Rattle.region_walk.specs.Keeping.{entries_of}
use Rattle.region_walk.specs.Placing.{AreBehind}
use Rattle.region_walk.proofs.Keeping.{behind_more, up_to_kept}
use Rattle.region_walk.proofs.entries.place_of.Goals as goal

pub loop-place-preserved : goal.loop-place-preserved
loop-place-preserved c =
    let ks = c.args.kept.now in
    let op = c.args.op.0 in
    let i = c.loop-place.place - 1 in
    let d = c.index-kept-place.result in
    let last : op < (get_or ks i d).entry.op.0 =
    subst (λ (o : OpNumber). op < o.0) c.op.ensures c.if-op.true in
    record {
      below = omega (arith, c.loop-place.invariant.below);
      behind = behind_more op i ks d (omega (arith, c.loop-place-test.true, c.loop-place.invariant.below)) last
          (subst (λ (n : ℕ). AreBehind op (drop n (entries_of ks)))
          (let e : c.loop-place.place ≡ suc (c.loop-place.place - 1) = omega (arith, c.loop-place-test.true) in e) c.loop-place.invariant.behind);
    }

pub returns-else-op-clause-place : goal.returns-else-op-clause-place
returns-else-op-clause-place c =
    let ks = c.args.kept.now in
    let op = c.args.op.0 in
    let i = c.loop-place.place - 1 in
    let d = c.index-kept-place.result in
    let last : (get_or ks i d).entry.op.0 ≤ op =
    subst (λ (o : OpNumber). o.0 ≤ op) c.op.ensures c.if-op.false in
    record {
      before = subst (λ (n : ℕ). All (λ (l : Listed). l.op.0 ≤ op) (take n (entries_of ks)))
          (let e : suc (c.loop-place.place - 1) ≡ c.loop-place.place = omega (arith, c.loop-place-test.true) in e)
          (up_to_kept op i ks d c.requires.rising (omega (arith, c.loop-place-test.true, c.loop-place.invariant.below)) last);
      behind = c.loop-place.invariant.behind;
    }
