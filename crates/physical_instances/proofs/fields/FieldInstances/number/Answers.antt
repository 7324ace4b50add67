use Rattle.std.proofs.Common.{rules, ◌≡◌, ◌∙◌, FitsSigned, None, Some, ap, of_z, to_z, w64}
use Rattle.std.proofs.lemmas.Int.{to_z-of_z}
use Rattle.lane_kernels.specs.Numbers.{width_of}
use Rattle.logical_map.specs.Maps.{number_beside, number_in_column}
use Rattle.reduction_folds.specs.Folds.{all_at}
use Rattle.physical_instances.specs.Kept.{FieldContents}
use Rattle.physical_instances.proofs.Columns.{number_folded, number_nowhere}
use Rattle.physical_instances.proofs.fields.FieldInstances.number.Goals as goal

pub returns-in-Some : goal.returns-in-Some
returns-in-Some c =
    let f = c.self.inside in
    let w = width_of f.kind in
    let b = f.instances in
    let z = c.in-Some.number in
    let found : Some z ≡ number_beside b.points b.numbers c.args.point = search (rules) in
    let old : FitsSigned w64 z = search (rules) in
    let new : FitsSigned w64 c.fold_at.result = search (rules) in
    let is : to_z w64 (of_z w64 c.fold_at.result) ≡ all_at w f.pending.folds c.args.point z =
    to_z-of_z w64 c.fold_at.result new ∙ c.fold_at.ensures ∙ ap (λ v. all_at v f.pending.folds c.args.point (to_z w64 (of_z w64 z))) c.width.ensures
    ∙ ap (all_at w f.pending.folds c.args.point) (to_z-of_z w64 z old) in
    number_folded w f.pending.folds b c.args.point z _ found is ∙ ap (λ (x : FieldContents). number_in_column x.column c.args.point) c.self.view_is

pub returns-in-None : goal.returns-in-None
returns-in-None c =
    let f = c.self.inside in
    let none : None ≡ number_beside f.instances.points f.instances.numbers c.args.point = search (rules) in
    number_nowhere (width_of f.kind) f.pending.folds f.instances c.args.point none
    ∙ ap (λ (x : FieldContents). number_in_column x.column c.args.point) c.self.view_is
