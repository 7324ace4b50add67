use Rattle.std.proofs.Common.{◌∙◌, ℤ, List, ap, arith, get_or, length, not, set}
use Rattle.std.proofs.lemmas.List.{length-set}
use Rattle.logical_map.specs.Maps.{column_of}
use Rattle.physical_instances.specs.Kept.{map_of}
use Rattle.board_outcomes.proofs.Filling.{if_there, next_room, next_field}
use Rattle.board_outcomes.proofs.imaging.fill_image.Goals as goal

pub fill_field-requires : goal.fill_field-requires
fill_field-requires c =
    let there = if_there c.count.result (c.is_none.ensures ∙ ap not c.if-is_none.false) c.count.ensures.there in
    ap length c.index_mut.ensures.value
    ∙ ap (λ (xs : List (List ℤ)). length (get_or xs c.loop-place.place c.index_mut.result.now)) c.loop-place.invariant.0
    ∙ next_room (map_of c.args.contents.now) c.args.root.0 c.args.fields.now c.requires there c.loop-place.place c.index_mut.result.now (omega (arith, c.loop-place-test.true, c.len-place-end.ensures, c.into_vec-filled.result.ok.0, ap length (c.into_vec-filled.ensures ∙ c.replace.ensures.value)))

pub loop-place-preserved : goal.loop-place-preserved
loop-place-preserved c =
    let there = if_there c.count.result (c.is_none.ensures ∙ ap not c.if-is_none.false) c.count.ensures.there in (
      ap (set c.loop-place.filled.items c.loop-place.place) c.fill_field.ensures
          ∙ ap (λ (xs : List (List ℤ)). set xs c.loop-place.place (column_of (map_of c.args.contents.now) c.args.root.0 c.loop-place.place).numbers) c.loop-place.invariant.0
          ∙ next_field (map_of c.args.contents.now) c.args.root.0 c.args.fields.now c.requires there c.loop-place.place (omega (arith, c.loop-place-test.true, c.len-place-end.ensures, c.into_vec-filled.result.ok.0, ap length (c.into_vec-filled.ensures ∙ c.replace.ensures.value))),
      length-set c.loop-place.filled.items c.loop-place.place c.fill_field.new.into ∙ c.loop-place.invariant.1,
    )
