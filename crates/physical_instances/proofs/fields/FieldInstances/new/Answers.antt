use Rattle.std.proofs.Common.{rules, ◌≡◌, ◌∙◌, [], ap, length}
use Rattle.std.specs.Prelude.{replicate}
use Rattle.lane_kernels.specs.Numbers.{width_of}
use Rattle.logical_map.specs.Maps.{zero_of}
use Rattle.reduction_folds.specs.Folds.{all_beside}
use Rattle.physical_instances.proofs.Columns.{column_is, none_waits}
use Rattle.physical_instances.proofs.fields.FieldInstances.new.Goals as goal

pub returns : goal.returns
returns c =
    let b = c.in_ok-new.field-0 in
    let points : b.points ≡ c.args.points = search (rules) in
    let numbers : b.numbers ≡ replicate (length c.args.points) (zero_of c.args.kind) = search (rules) in
    let none : c.in_ok-new-2.field-0.folds ≡ [] = search (rules) in
    column_is b.points c.args.points c.args.kind _ _ points
    (ap (λ fs. all_beside (width_of c.args.kind) fs b.points b.numbers) none ∙ none_waits (width_of c.args.kind) b.points b.numbers ∙ numbers)
