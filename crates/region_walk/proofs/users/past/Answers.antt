use Rattle.std.proofs.Common.{arith, ◌≡◌, ◌∙◌, false, length, subst, sym}
use Rattle.region_walk.specs.Sides.{is_less, is_of, key, least_key}
use Rattle.region_walk.proofs.Passing.{get_alike, pass_end}
use Rattle.region_walk.proofs.users.past.Goals as goal

pub returns-else-is_below-clause-passed : goal.returns-else-is_below-clause-passed
returns-else-is_below-clause-passed c =
    let n = c.args.need.now in
    let us = c.args.users.now in
    let e = c.index-users-place-else-is_of.result in
    let d = c.index-users-place.result in
    pass_end c.args.context.0 n c.args.way.now c.args.place (length us) us e c.requires.by_key c.requires.below (omega arith)
    (subst (λ u. is_less (key u) (least_key c.args.context.0 n) ≡ false) c.index-users-place-else-is_of.is (sym c.is_below.ensures ∙ c.if-is_below.false))
    (subst (λ u. is_of c.args.context.0 n u ≡ false) (c.index-users-place.is ∙ get_alike c.args.place us d e c.requires.below)
    (sym c.is_of.ensures ∙ c.if-is_of.false))
