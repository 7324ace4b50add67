use Rattle.std.proofs.Common.{◌∙◌, List, ap, map, set, subst, sym, true}
use Rattle.region_finder.specs.Listings.{has_op}
use Rattle.region_walk.specs.Keeping.{StandsAt, end_op, entries_of}
use Rattle.region_walk.specs.Placing.{IsRising}
use Rattle.region_walk.specs.declared.entries.Kept.{Kept}
use Rattle.region_walk.proofs.Keeping.{ended_at, ended_nowhere, entries_ended}
use Rattle.region_walk.proofs.entries.Entries.end.Goals as goal

pub invariant_of-self : goal.invariant_of-self
invariant_of-self c =
    let op = c.args.op.0 in
    let ks = c.self.inside.kept.items in
    let stands = subst (λ (js : List Kept). StandsAt op js c.in-Some.place) c.as_slice.ensures.value c.in-Some.ensures.there in
    subst (λ (js : List Kept). IsRising (entries_of js))
    (sym (ap (λ (k : Kept). set ks c.in-Some.place (record { entry = k.entry; ended = true })) c.index_mut.ensures.value
    ∙ ended_at op c.in-Some.place ks c.index_mut.result.now c.self.invariant stands))
    (subst IsRising (sym (entries_ended op ks)) c.self.invariant)

pub returns-in-Some : goal.returns-in-Some
returns-in-Some c =
    let op = c.args.op.0 in
    let ks = c.self.inside.kept.items in
    let stands = subst (λ (js : List Kept). StandsAt op js c.in-Some.place) c.as_slice.ensures.value c.in-Some.ensures.there in
    ap (λ (k : Kept). set ks c.in-Some.place (record { entry = k.entry; ended = true })) c.index_mut.ensures.value
    ∙ ended_at op c.in-Some.place ks c.index_mut.result.now c.self.invariant stands
    ∙ ap (map (end_op op)) c.self.view_is

pub returns-in_default : goal.returns-in_default
returns-in_default c =
    let op = c.args.op.0 in
    sym (ended_nowhere op c.args.self.now
    (sym (ap (λ (ks : List Kept). has_op (entries_of ks) op) (c.as_slice.ensures.value ∙ c.self.view_is)) ∙ c.in_default.ensures.nowhere))
