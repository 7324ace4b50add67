use Rattle.std.proofs.Common.{◌≡◌, ◌∙◌, List, ap, false, subst, sym}
use Rattle.region_finder.specs.Listings.{Listed, has_op, inserted}
use Rattle.region_walk.specs.Keeping.{entries_of, live}
use Rattle.region_walk.specs.Placing.{IsPlace, IsRising}
use Rattle.region_walk.specs.declared.entries.Kept.{Kept}
use Rattle.region_walk.proofs.Keeping.{entries_added, live_added}
use Rattle.region_walk.proofs.Rising.{rising_inserted}
use Rattle.region_walk.proofs.entries.Entries.add.Goals as goal

pub invariant_of-self-2 : goal.invariant_of-self-2
invariant_of-self-2 g c =
    let e = c.in_ok-entry.entry in
    let ks = c.self.inside.kept.items in
    let op : e.op ≡ c.args.op = ap (λ (l : Listed). l.op) c.in_ok-entry.ensures in
    let place : IsPlace e.op.0 (entries_of ks) c.place_of-place.result =
    subst (λ (js : List Kept). IsPlace e.op.0 (entries_of js) c.place_of-place.result) c.as_slice.ensures.value
    (rw op c.place_of-place.ensures.place) in
    let absent : has_op (entries_of ks) e.op.0 ≡ false =
    rw op (ap (λ (js : List Kept). has_op (entries_of js) c.args.op.0) c.self.view_is ∙ c.requires.absent) in
    subst IsRising (sym (ap entries_of c.in_ok-insert.ensures.items ∙ entries_added c.place_of-place.result (record { entry = e; ended = false }) ks place))
    (rising_inserted e (entries_of ks) c.self.invariant absent)

pub returns-clause-entries : goal.returns-clause-entries
returns-clause-entries g c =
    let e = c.in_ok-entry.entry in
    let ks = c.self.inside.kept.items in
    let op : e.op ≡ c.args.op = ap (λ (l : Listed). l.op) c.in_ok-entry.ensures in
    let place : IsPlace e.op.0 (entries_of ks) c.place_of-place.result =
    subst (λ (js : List Kept). IsPlace e.op.0 (entries_of js) c.place_of-place.result) c.as_slice.ensures.value
    (rw op c.place_of-place.ensures.place) in
    ap entries_of c.in_ok-insert.ensures.items ∙ entries_added c.place_of-place.result (record { entry = e; ended = false }) ks place
    ∙ ap (λ (js : List Kept). inserted e (entries_of js)) c.self.view_is
    ∙ ap (λ (l : Listed). inserted l (entries_of c.args.self.now)) c.in_ok-entry.ensures

pub returns-clause-live : goal.returns-clause-live
returns-clause-live g c =
    let e = c.in_ok-entry.entry in
    let ks = c.self.inside.kept.items in
    let op : e.op ≡ c.args.op = ap (λ (l : Listed). l.op) c.in_ok-entry.ensures in
    let place : IsPlace e.op.0 (entries_of ks) c.place_of-place.result =
    subst (λ (js : List Kept). IsPlace e.op.0 (entries_of js) c.place_of-place.result) c.as_slice.ensures.value
    (rw op c.place_of-place.ensures.place) in
    ap live c.in_ok-insert.ensures.items ∙ live_added c.place_of-place.result e ks place
    ∙ ap (λ (js : List Kept). inserted e (live js)) c.self.view_is
    ∙ ap (λ (l : Listed). inserted l (live c.args.self.now)) c.in_ok-entry.ensures
