use Rattle.std.proofs.Common.{rules, ◌≡◌, ◌∙◌, [], ap}
use Rattle.lane_kernels.specs.Numbers.{width_of}
use Rattle.reduction_folds.specs.Folds.{all_beside}
use Rattle.physical_instances.specs.Kept.{FieldContents}
use Rattle.physical_instances.proofs.Columns.{column_is, numbers_settled}
use Rattle.physical_instances.proofs.fields.FieldInstances.settle.Goals as goal

pub returns-clause-column : goal.returns-clause-column
returns-clause-column c =
    let f = c.self.inside in
    let w = width_of f.kind in
    let points : c.settle.new.self.points ≡ f.instances.points = search (rules) in
    let none : c.settle.new.pending.folds ≡ [] = search (rules) in
    let numbers : c.settle.new.self.numbers ≡ all_beside w f.pending.folds f.instances.points f.instances.numbers = search (rules) in
    column_is c.settle.new.self.points f.instances.points f.kind _ _ points
    (numbers_settled w c.settle.new.pending.folds f.pending.folds f.instances c.settle.new.self none points numbers)
    ∙ ap (λ (x : FieldContents). x.column) c.self.view_is
