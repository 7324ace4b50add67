use Rattle.std.proofs.Common.{◌∙◌, List, ap, not, subst, sym}
use Rattle.region_finder.specs.Listings.{has_op}
use Rattle.region_walk.specs.Keeping.{StandsAt, live}
use Rattle.region_walk.specs.declared.entries.Kept.{Kept}
use Rattle.region_walk.proofs.Keeping.{live_at, unlisted}
use Rattle.region_walk.proofs.entries.Entries.has.Goals as goal

pub returns-in-Some : goal.returns-in-Some
returns-in-Some c =
    let op = c.args.op.0 in
    let stands = subst (λ (ks : List Kept). StandsAt op ks c.in-Some.place) c.as_slice.ensures.value c.in-Some.ensures.there in
    ap (λ (k : Kept). not k.ended) c.index.ensures
    ∙ live_at op c.in-Some.place c.self.inside.kept.items c.index.result.now c.self.invariant stands
    ∙ ap (λ (ks : List Kept). has_op (live ks) op) c.self.view_is

pub returns-in-None : goal.returns-in-None
returns-in-None c =
    sym (unlisted c.args.op.0 c.as_slice.result.now c.in-None.ensures.nowhere)
    ∙ ap (λ (ks : List Kept). has_op (live ks) c.args.op.0) (c.as_slice.ensures.value ∙ c.self.view_is)
