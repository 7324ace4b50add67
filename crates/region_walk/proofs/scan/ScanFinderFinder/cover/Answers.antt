use Rattle.std.proofs.Common.{◌∙◌, List, ap}
use Rattle.region_finder.specs.Listings.{all_uncovered}
use Rattle.region_tree.specs.declared.needs.Need.{Need}
use Rattle.region_walk.specs.Covering.{uncovered_entries}
use Rattle.region_walk.specs.Keeping.{live}
use Rattle.region_walk.proofs.Covering.{live_uncovered}
use Rattle.region_walk.proofs.scan.ScanFinderFinder.cover.Goals as goal

pub returns : goal.returns
returns g c =
    let context = c.args.context.0 in
    let op = c.args.op.0 in
    ap live c.uncover.ensures
    ∙ ap (λ (ns : List Need). live (uncovered_entries context op ns c.self.inside.entries)) c.as_slice.ensures
    ∙ live_uncovered context op c.args.needs.now.items c.self.inside.entries
    ∙ ap (all_uncovered context op c.args.needs.now.items) c.self.view_is
