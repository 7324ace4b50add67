use Rattle.std.proofs.Common.{◌∙◌, List, ap, subst, sym}
use Rattle.std.specs.Vec.Iter.{into_iter_items}
use Rattle.region_tree.specs.declared.piece.Part.{Part}
use Rattle.physical_instances.specs.Kept.{map_of}
use Rattle.board_gives.specs.Rooms.{HasRoom}
use Rattle.board_terms.specs.Gives.{with_parts}
use Rattle.board_gives.proofs.Returns.{room_behind}
use Rattle.board_gives.proofs.returning.give_parts.Goals as goal

pub loop-part-preserved : goal.loop-part-preserved
loop-part-preserved c =
    let before = c.loop-part.contents in
    let left = into_iter_items c.next.new.self in
    let e = c.in-Some.ensures.steps.0 in (
      room_behind c.in-Some.part left before c.give_part.new.contents
          (subst (HasRoom before) e c.loop-part.invariant.0) c.give_part.ensures.map c.give_part.ensures.spare,
      ap (with_parts left) c.give_part.ensures.map
          ∙ ap (λ (ps : List Part). with_parts ps (map_of before)) (sym e) ∙ c.loop-part.invariant.1,
    )
