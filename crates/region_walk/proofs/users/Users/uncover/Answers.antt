use Rattle.std.proofs.Common.{◌≡◌, ◌<◌, ◌≤◌, ◌-◌, ◌⊎◌, ◌∷◌, ◌∙◌, [], ℕ, List, ap, drop, false, get_or, length, map, subst, sym, take}
use Rattle.region_walk.specs.Covering.{is_dominated}
use Rattle.region_walk.specs.Keeping.{AreKept, live}
use Rattle.region_walk.specs.Ranges.{uncovered_among}
use Rattle.region_walk.specs.Sides.{AreByKey}
use Rattle.region_walk.specs.Users.{IsUser, ListedNeed}
use Rattle.region_walk.specs.declared.entries.Kept.{Kept}
use Rattle.region_walk.proofs.Covering.{is_left}
use Rattle.region_walk.proofs.Ranging.{kept_ranged, live_ranged}
use Rattle.region_walk.proofs.Sifting.{sifted_keyed}
use Rattle.region_walk.proofs.users.Users.uncover.Goals as goal

pub invariant_of-self : goal.invariant_of-self
invariant_of-self g c =
    let from = c.range_of-from.result.0 in
    let to = c.range_of-from.result.1 in
    subst AreByKey (sym c.sift.ensures)
    (sifted_keyed (is_left c.args.context.0 c.args.op.0 (c.args.need.now ∷ [])) from (to - from) c.self.inside.users.items c.self.invariant)

pub returns-clause-kept : goal.returns-clause-kept
returns-clause-kept g c =
    let t = g.P.Paths.forest c.args.tree.now in
    let context = c.args.context.0 in
    let op = c.args.op.0 in
    let ns = c.args.need.now ∷ [] in
    let ks = c.args.entries.now in
    let us = c.self.inside.users.items in
    let from = c.range_of-from.result.0 in
    let to = c.range_of-from.result.1 in
    let kept = subst (AreKept ks) (sym c.self.view_is) c.requires.kept in
    let below = subst (λ (xs : List ListedNeed). to ≤ length xs) c.as_slice.ensures.value c.range_of-from.ensures.below in
    let others = subst (λ (xs : List ListedNeed). (i : ℕ) (d : ListedNeed) → i < length xs → (i < from) ⊎ (to ≤ i) → IsUser t (get_or xs i d)
    → is_dominated context op ns (get_or xs i d) ≡ false) c.as_slice.ensures.value c.range_of-from.ensures.others in
    let entries : c.uncover_among.new.self ≡ map (uncovered_among (take (to - from) (drop from us)) context op ns) ks =
    c.uncover_among.ensures
    ∙ ap (λ (xs : List ListedNeed). map (uncovered_among (take (to - from) (drop from xs)) context op ns) ks) c.deref.ensures.value in
    subst (λ (js : List Kept). AreKept js c.sift.new.users.items) (sym entries)
    (subst (AreKept (map (uncovered_among (take (to - from) (drop from us)) context op ns) ks)) (sym c.sift.ensures)
    (kept_ranged context op ns t ks us from to kept c.requires.listing c.range_of-from.ensures.order below others))

pub returns-clause-live : goal.returns-clause-live
returns-clause-live g c =
    let t = g.P.Paths.forest c.args.tree.now in
    let context = c.args.context.0 in
    let op = c.args.op.0 in
    let ns = c.args.need.now ∷ [] in
    let ks = c.args.entries.now in
    let us = c.self.inside.users.items in
    let from = c.range_of-from.result.0 in
    let to = c.range_of-from.result.1 in
    let kept = subst (AreKept ks) (sym c.self.view_is) c.requires.kept in
    let below = subst (λ (xs : List ListedNeed). to ≤ length xs) c.as_slice.ensures.value c.range_of-from.ensures.below in
    let others = subst (λ (xs : List ListedNeed). (i : ℕ) (d : ListedNeed) → i < length xs → (i < from) ⊎ (to ≤ i) → IsUser t (get_or xs i d)
    → is_dominated context op ns (get_or xs i d) ≡ false) c.as_slice.ensures.value c.range_of-from.ensures.others in
    let entries : c.uncover_among.new.self ≡ map (uncovered_among (take (to - from) (drop from us)) context op ns) ks =
    c.uncover_among.ensures
    ∙ ap (λ (xs : List ListedNeed). map (uncovered_among (take (to - from) (drop from xs)) context op ns) ks) c.deref.ensures.value in
    ap live entries ∙ live_ranged context op ns t ks us from to kept c.requires.listing c.range_of-from.ensures.order below others
