use Rattle.std.proofs.Common.{◌≤◌, ◌∙◌, ◌∷◌, IsPermutation, List, ap, filter, length, subst, sym}
use Rattle.std.proofs.lemmas.List.Sorted.{IsPermutation-insert}
use Rattle.region_walk.specs.Sides.{AreByKey, IsPlaceByKey}
use Rattle.region_walk.specs.Users.{ListedNeed, is_of_another}
use Rattle.region_walk.proofs.Keys.{insert_others, keyed_insert}
use Rattle.region_walk.proofs.users.insert_user.Goals as goal

pub returns-clause-by_key : goal.returns-clause-by_key
returns-clause-by_key c =
    subst AreByKey (sym c.in_ok-insert.ensures.items)
    (keyed_insert c.place_for-place.result c.args.user c.args.users.now.items c.requires
    (subst (λ (us : List ListedNeed). IsPlaceByKey c.args.user us c.place_for-place.result) c.as_slice.ensures.value c.place_for-place.ensures.place)
    (subst (λ (us : List ListedNeed). c.place_for-place.result ≤ length us) c.as_slice.ensures.value c.place_for-place.ensures.below))

pub returns-clause-added : goal.returns-clause-added
returns-clause-added c =
    subst (λ (us : List ListedNeed). IsPermutation (c.args.user ∷ c.args.users.now.items) us) (sym c.in_ok-insert.ensures.items)
    (IsPermutation-insert c.args.users.now.items c.place_for-place.result c.args.user)

pub returns-clause-others : goal.returns-clause-others
returns-clause-others c =
    ap (filter (is_of_another c.args.user.op.0)) c.in_ok-insert.ensures.items
    ∙ insert_others c.place_for-place.result c.args.user c.args.users.now.items
