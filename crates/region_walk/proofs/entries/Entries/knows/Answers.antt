use Rattle.std.proofs.Common.{◌∙◌, List, ap}
use Rattle.region_finder.specs.Listings.{has_op}
use Rattle.region_walk.specs.Keeping.{entries_of}
use Rattle.region_walk.specs.declared.entries.Kept.{Kept}
use Rattle.region_walk.proofs.Keeping.{told}
use Rattle.region_walk.proofs.entries.Entries.knows.Goals as goal

pub returns : goal.returns
returns c =
    let ks = c.as_slice.result.now in
    c.is_some.ensures ∙ told c.args.op.0 ks c.find.result c.find.ensures.there c.find.ensures.nowhere
    ∙ ap (λ (js : List Kept). has_op (entries_of js) c.args.op.0) (c.as_slice.ensures.value ∙ c.self.view_is)
