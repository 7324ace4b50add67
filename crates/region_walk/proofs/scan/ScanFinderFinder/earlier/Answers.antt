use Rattle.std.proofs.Common.{◌≡◌, ◌∙◌, ◌++◌, List, ap, false, subst, sym}
use Rattle.std.proofs.Math.ListN.{drop_of_length-le}
use Rattle.std.proofs.lemmas.List.{append-nil}
use Rattle.region_finder.specs.Listings.{ArePlaced, AreRising, IsListingOf, earlier, interferes_in}
use Rattle.region_walk.specs.Keeping.{entries_of, live}
use Rattle.region_walk.specs.Placing.{IsRising}
use Rattle.region_walk.specs.declared.entries.Kept.{Kept}
use Rattle.region_walk.proofs.Keeping.{live_get, rising_live}
use Rattle.region_walk.proofs.Rising.{rising_found}
use Rattle.region_walk.proofs.scan.ScanFinderFinder.earlier.Goals as goal

pub interferes-requires-clause-placed : goal.interferes-requires-clause-placed
interferes-requires-clause-placed g c h =
    let t = g.P.Paths.forest c.args.tree.now in
    let ks = c.as_slice-kept-items.result.now in
    let all = subst (IsListingOf t) (sym (ap live c.as_slice-kept-items.ensures.value ∙ c.self.view_is)) c.requires.listing in
    subst (λ (k : Kept). ArePlaced t k.entry) (sym c.kept-item.is)
    (live_get (ArePlaced t) ks c.loop-kept.kept-index c.kept-item.result all c.loop-kept-test.true
    (subst (λ (k : Kept). k.ended ≡ false) c.kept-item.is h))

pub returns-clause-rising : goal.returns-clause-rising
returns-clause-rising g c =
    let t = g.P.Paths.forest c.args.tree.now in
    let ks = c.as_slice-kept-items.result.now in
    let context = c.args.context.0 in
    let needs = c.args.needs.now.items in
    let found : c.loop-kept.found.items ≡ earlier t (live ks) context needs =
    sym (append-nil c.loop-kept.found.items)
    ∙ ap (λ (js : List Kept). c.loop-kept.found.items ++ earlier t (live js) context needs) (sym (drop_of_length-le ks c.loop-kept-test.false))
    ∙ c.loop-kept.invariant.found in
    subst AreRising (sym found)
    (rising_found (interferes_in t context needs) (live ks) (rising_live ks
    (subst (λ (js : List Kept). IsRising (entries_of js)) (sym c.as_slice-kept-items.ensures.value) c.as_slice-kept-items.ensures.rising)))
