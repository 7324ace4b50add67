use Rattle.std.proofs.Common.{◌∙◌, ◌∷◌, ◌+◌, [], List, ap, arith, drop, get_or, subst, sym}
use Rattle.std.proofs.lemmas.List.{at_drop_all, at_drop_more}
use Rattle.lane_kernels.specs.declared.numbers.Mode.TheVariants.{Read}
use Rattle.region_finder.specs.Listings.{IsListingOf, all_uncovered}
use Rattle.region_tree.specs.declared.needs.Need.{Need}
use Rattle.region_walk.specs.Keeping.{live}
use Rattle.region_walk.proofs.Covering.{listing_uncovered, none_left_out, uncovered_more}
use Rattle.region_walk.proofs.walk.cover_each.Goals as goal

pub loop-place-preserved : goal.loop-place-preserved
loop-place-preserved g c =
    let context = c.args.context.0 in
    let op = c.args.op.0 in
    let nothing : Need = record { root = record { 0 = 0 }; node = record { 0 = 0 }; field = 0; mode = Read } in
    let one : Need = get_or c.args.needs.now c.loop-place.place nothing in
    let ls = live c.loop-place.entries in
    let rest = drop (c.loop-place.place + 1) c.args.needs.now in
    record {
      kept = c.cover_one.ensures.kept;
      listing = subst (IsListingOf (g.P.Paths.forest c.args.tree.now)) (sym c.cover_one.ensures.live)
          (listing_uncovered (g.P.Paths.forest c.args.tree.now) context op (one ∷ []) ls c.loop-place.invariant.listing);
      left = ap (all_uncovered context op rest) c.cover_one.ensures.live
          ∙ uncovered_more context op one rest ls
          ∙ sym (at_drop_more (λ (ns : List Need). all_uncovered context op ns ls) c.args.needs.now c.loop-place.place nothing (omega (arith, c.loop-place-test.true)))
          ∙ c.loop-place.invariant.left;
    }

pub returns-clause-live : goal.returns-clause-live
returns-clause-live g c =
    let context = c.args.context.0 in
    let op = c.args.op.0 in
    let ls = live c.loop-place.entries in
    sym (at_drop_all (λ (ns : List Need). all_uncovered context op ns ls) c.args.needs.now c.loop-place.place (omega (arith, c.loop-place-test.false))
    ∙ none_left_out context op ls)
    ∙ c.loop-place.invariant.left
