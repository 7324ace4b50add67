use Rattle.std.proofs.Common.{sym}
use Rattle.region_tree.specs.Trees.{set_at}
use Rattle.board_gives.proofs.Parts.{leaving_unsound, made_sound, sharing_unsound}
use Rattle.board_gives.proofs.parting.add_partition.Goals as goal

pub returns-in-Ok-clause-made : goal.returns-in-Ok-clause-made
returns-in-Ok-clause-made c =
    sym (made_sound (set_at c.args.tree.now c.args.region.0) c.args.sets.items c.args.disjoint c.in-Ok.ensures.within c.in-Ok.ensures.apart)

pub returns-in-Err-NotWithin-clause-made : goal.returns-in-Err-NotWithin-clause-made
returns-in-Err-NotWithin-clause-made c =
    sym (leaving_unsound (set_at c.args.tree.now c.args.region.0) c.args.sets.items c.args.disjoint _ _
    (rw c.in-Err-NotWithin.field-0-is at c.in-Err-NotWithin.ensures.refused))

pub returns-in-Err-NotDisjoint-clause-made : goal.returns-in-Err-NotDisjoint-clause-made
returns-in-Err-NotDisjoint-clause-made c =
    let refused = rw c.in-Err-NotDisjoint.field-0-is at c.in-Err-NotDisjoint.ensures.refused in
    sym (sharing_unsound (set_at c.args.tree.now c.args.region.0) c.args.sets.items c.args.disjoint _ _ _ refused.1 refused.2)
