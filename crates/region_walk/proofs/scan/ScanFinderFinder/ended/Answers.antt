use Rattle.std.proofs.Common.{◌∙◌, List, ap}
use Rattle.region_finder.specs.Listings.{Listed, without}
use Rattle.region_walk.specs.Keeping.{live}
use Rattle.region_walk.proofs.Keeping.{live_ended, live_tidied}
use Rattle.region_walk.proofs.scan.ScanFinderFinder.ended.Goals as goal

pub returns-then-are_stale : goal.returns-then-are_stale
returns-then-are_stale c =
    ap live c.tidy.ensures ∙ live_tidied c.end.new.self
    ∙ ap live c.end.ensures ∙ live_ended c.args.op.0 c.self.inside.entries
    ∙ ap (λ (ls : List Listed). without ls c.args.op.0) c.self.view_is

pub returns-else-are_stale : goal.returns-else-are_stale
returns-else-are_stale c =
    ap live c.end.ensures ∙ live_ended c.args.op.0 c.self.inside.entries
    ∙ ap (λ (ls : List Listed). without ls c.args.op.0) c.self.view_is
