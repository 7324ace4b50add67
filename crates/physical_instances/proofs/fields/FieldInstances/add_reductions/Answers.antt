use Rattle.std.proofs.Common.{rules, ◌≡◌, ◌∙◌, ◌++◌, ap, filter, refl}
use Rattle.lane_kernels.specs.Numbers.{width_of}
use Rattle.logical_map.specs.Gives.{is_reduction, with_pieces}
use Rattle.physical_instances.specs.Instances.{folds_of}
use Rattle.physical_instances.specs.Kept.{FieldContents}
use Rattle.physical_instances.proofs.Columns.{added_is_given, column_is}
use Rattle.physical_instances.proofs.fields.FieldInstances.add_reductions.Goals as goal

pub returns-clause-column : goal.returns-clause-column
returns-clause-column c =
    let f = c.self.inside in
    let hs = c.args.pieces.now.items in
    let folds : c.take_reductions.new.pending.folds ≡ f.pending.folds ++ folds_of hs = search (rules) in
    column_is f.instances.points f.instances.points f.kind _ _ refl
    (added_is_given (width_of f.kind) f.pending.folds c.take_reductions.new.pending.folds hs f.instances.points f.instances.numbers folds)
    ∙ ap (λ (x : FieldContents). with_pieces (filter is_reduction hs) x.column) c.self.view_is
    ∙ ap (with_pieces (filter is_reduction hs)) c.reserve.ensures.column
