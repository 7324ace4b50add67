use Rattle.std.proofs.Common.{◌∙◌, List, ap, map, set, subst, sym}
use Rattle.region_finder.specs.Listings.{Listed, has_op}
use Rattle.region_walk.specs.Covering.{uncovered_entry}
use Rattle.region_walk.specs.Keeping.{StandsAt, entries_of}
use Rattle.region_walk.specs.Placing.{IsRising}
use Rattle.region_walk.specs.Ranges.{uncovered_of}
use Rattle.region_walk.specs.declared.entries.Kept.{Kept}
use Rattle.region_walk.proofs.Ranging.{of_at, of_none, rising_of}
use Rattle.region_walk.proofs.entries.Entries.uncover_of.Goals as goal

pub invariant_of-self : goal.invariant_of-self
invariant_of-self c =
    let context = c.args.context.0 in
    let op = c.args.op.0 in
    let needs = c.args.needs.now in
    let one = c.args.one.0 in
    let ks = c.self.inside.kept.items in
    let place = c.in-Some.place in
    let stands = subst (λ (js : List Kept). StandsAt one js place) c.as_slice.ensures.value c.in-Some.ensures.there in
    subst (λ (js : List Kept). IsRising (entries_of js))
    (sym (ap (λ (e : Listed). set ks place (record { entry = e; ended = c.index_mut.result.now.ended })) c.uncover.ensures
    ∙ ap (λ (k : Kept). set ks place (uncovered_entry context op needs k)) c.index_mut.ensures.value
    ∙ of_at context op needs one place ks c.index_mut.result.now c.self.invariant stands))
    (rising_of context op needs one ks c.self.invariant)

pub returns-in-Some : goal.returns-in-Some
returns-in-Some c =
    let context = c.args.context.0 in
    let op = c.args.op.0 in
    let needs = c.args.needs.now in
    let one = c.args.one.0 in
    let ks = c.self.inside.kept.items in
    let place = c.in-Some.place in
    let stands = subst (λ (js : List Kept). StandsAt one js place) c.as_slice.ensures.value c.in-Some.ensures.there in
    ap (λ (e : Listed). set ks place (record { entry = e; ended = c.index_mut.result.now.ended })) c.uncover.ensures
    ∙ ap (λ (k : Kept). set ks place (uncovered_entry context op needs k)) c.index_mut.ensures.value
    ∙ of_at context op needs one place ks c.index_mut.result.now c.self.invariant stands
    ∙ ap (map (uncovered_of one context op needs)) c.self.view_is

pub returns-in_default : goal.returns-in_default
returns-in_default c =
    of_none c.args.context.0 c.args.op.0 c.args.needs.now c.args.one.0 c.args.self.now
    (sym (ap (λ (ks : List Kept). has_op (entries_of ks) c.args.one.0) (c.as_slice.ensures.value ∙ c.self.view_is)) ∙ c.in_default.ensures.nowhere)
