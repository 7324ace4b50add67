use Rattle.std.proofs.Common.{rules, ◌≡◌, ◌∙◌, FitsSigned, Some, ap, get_or, length, pos, sym, of_z, to_z, w64}
use Rattle.std.specs.Prelude.{slice_get}
use Rattle.std.specs.List.Sorted.{IsStrictlyIncreasing}
use Rattle.std.proofs.lemmas.Int.{to_z-of_z}
use Rattle.std.proofs.lemmas.Option.{get_or_from_slice_get, slice_get_within, slice_get_read}
use Rattle.logical_map.specs.Maps.{number_beside}
use Rattle.physical_instances.specs.Instances.{Beside, current}
use Rattle.physical_instances.proofs.Currents.{current_at}
use Rattle.physical_instances.proofs.instances.Instances.number.Goals as goal

pub returns : goal.returns
returns c =
    let i = c.self.inside in
    let fs = i.further.items in
    let vs = i.valid.items in
    let zs = i.base.items in
    let place = c.in_ok-place.field-0 in
    let v = c.index.result.now in
    let z = c.index-2.result.now in
    let at : slice_get i.points place ≡ Some c.args.point = search (rules) in
    let rise : IsStrictlyIncreasing i.points = search (rules) in
    let base : length zs ≡ length i.points = search (rules) in
    let valid : length vs ≡ length i.points = search (rules) in
    let below = slice_get_within i.points place c.args.point at in
    let mark = get_or_from_slice_get vs place v 0 (slice_get_read vs (length i.points) place v (sym valid) below c.index.ensures) in
    let there = get_or_from_slice_get zs place z (pos 0) (slice_get_read zs (length i.points) place z (sym base) below c.index-2.ensures) in
    let old : FitsSigned w64 z = search (rules) in
    let new : FitsSigned w64 c.current.result = search (rules) in
    let is : c.current.result ≡ current c.as_slice-further.result.now v c.args.point (to_z w64 (of_z w64 z)) = c.current.ensures in
    ap Some (to_z-of_z w64 c.current.result new ∙ is
    ∙ ap (λ gs. current gs v c.args.point (to_z w64 (of_z w64 z))) c.as_slice-further.ensures.value
    ∙ ap (current fs v c.args.point) (to_z-of_z w64 z old ∙ sym there)
    ∙ ap (λ u. current fs u c.args.point (get_or zs place (pos 0))) (sym mark))
    ∙ sym (current_at fs i.points vs zs place c.args.point rise at valid base)
    ∙ ap (λ (b : Beside). number_beside b.points b.numbers c.args.point) c.self.view_is
