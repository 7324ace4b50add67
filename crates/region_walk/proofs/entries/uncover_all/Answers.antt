use Rattle.std.proofs.Common.{◌∙◌, ap, arith, set}
use Rattle.std.proofs.lemmas.List.Edits.{map_over_more}
use Rattle.region_finder.specs.Listings.{Listed}
use Rattle.region_walk.specs.Covering.{uncovered_entry}
use Rattle.region_walk.proofs.entries.uncover_all.Goals as goal

pub loop-place-preserved : goal.loop-place-preserved
loop-place-preserved c =
    let one = c.index_mut.result.now in
    ap (λ (e : Listed). set c.loop-place.kept.items c.loop-place.place (record { entry = e; ended = one.ended })) c.uncover.ensures
    ∙ map_over_more (uncovered_entry c.args.context.0 c.args.op.0 c.args.needs.now) c.args.kept.now.items c.loop-place.kept.items c.loop-place.place one
    (omega (arith, c.loop-place-test.true, c.len-place-end.ensures, c.args.kept.now.ok.0)) c.loop-place.invariant c.index_mut.ensures.value
