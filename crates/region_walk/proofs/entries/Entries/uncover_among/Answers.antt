use Rattle.std.proofs.Common.{◌∙◌, ◌∷◌, ◌+◌, List, ap, arith, drop, map, sym}
use Rattle.std.proofs.lemmas.List.{at_drop_all, at_drop_more}
use Rattle.region_walk.specs.Ranges.{uncovered_among, uncovered_of}
use Rattle.region_walk.specs.Users.{ListedNeed}
use Rattle.region_tree.specs.declared.tree.OpNumber.{OpNumber}
use Rattle.region_walk.proofs.Ranging.{among_more, among_none}
use Rattle.region_walk.proofs.entries.Entries.uncover_among.Goals as goal

pub loop-user-preserved : goal.loop-user-preserved
loop-user-preserved c =
    let context = c.args.context.0 in
    let op = c.args.op.0 in
    let needs = c.args.needs.now in
    let i = c.loop-user.user-index in
    let one : ListedNeed = c.user-item.result in
    let rest = drop (i + 1) c.args.users.now in
    ap (map (uncovered_among rest context op needs)) c.uncover_of.ensures
    ∙ ap (λ (o : OpNumber). map (uncovered_among rest context op needs) (map (uncovered_of o.0 context op needs) c.loop-user.self)) c.op.ensures
    ∙ among_more context op needs one rest c.loop-user.self
    ∙ ap (λ (u : ListedNeed). map (uncovered_among (u ∷ rest) context op needs) c.loop-user.self) c.user-item.is
    ∙ sym (at_drop_more (λ (us : List ListedNeed). map (uncovered_among us context op needs) c.loop-user.self) c.args.users.now i one c.loop-user-test.true)
    ∙ c.loop-user.invariant

pub returns : goal.returns
returns c =
    let context = c.args.context.0 in
    let op = c.args.op.0 in
    let needs = c.args.needs.now in
    sym (at_drop_all (λ (us : List ListedNeed). map (uncovered_among us context op needs) c.loop-user.self) c.args.users.now c.loop-user.user-index
    (omega (arith, c.loop-user-test.false)) ∙ among_none context op needs c.loop-user.self)
    ∙ c.loop-user.invariant
