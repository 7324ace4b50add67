use Rattle.std.proofs.Common.{rules, ◌≡◌, ◌∙◌, ◌+◌, [], ap, sym, List}
use Rattle.lane_kernels.specs.Numbers.{width_of}
use Rattle.logical_map.specs.Maps.{number_beside, number_in_column, number_or_zero}
use Rattle.reduction_folds.specs.Folds.{all_beside}
use Rattle.reduction_folds.specs.declared.fold.Fold.{Fold}
use Rattle.physical_instances.specs.Kept.{FieldContents}
use Rattle.physical_instances.proofs.Columns.{none_waits}
use Rattle.physical_instances.proofs.fields.FieldInstances.run_from.Goals as goal

pub returns-then-is_empty-clause-numbers : goal.returns-then-is_empty-clause-numbers
returns-then-is_empty-clause-numbers c k below =
    let f = c.self.inside in
    let b = f.instances in
    let none : f.pending.folds ≡ [] = search (rules) in
    ap (λ (x : FieldContents). number_in_column x.column (c.args.point + k)) (sym c.self.view_is)
    ∙ ap (λ (fs : List Fold). number_or_zero (number_beside b.points (all_beside (width_of f.kind) fs b.points b.numbers) (c.args.point + k))) none
    ∙ ap (λ zs. number_or_zero (number_beside b.points zs (c.args.point + k))) (none_waits (width_of f.kind) b.points b.numbers)
    ∙ ap number_or_zero (c.run_from.ensures.numbers k below)
