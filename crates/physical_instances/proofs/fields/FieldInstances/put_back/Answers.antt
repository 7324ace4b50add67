use Rattle.std.proofs.Common.{rules, ◌≡◌, ◌∙◌, [], List, ap, filter, ℕ}
use Rattle.lane_kernels.specs.Numbers.{width_of}
use Rattle.logical_map.specs.Gives.{given_beside, is_write, with_pieces}
use Rattle.reduction_folds.specs.Folds.{all_beside}
use Rattle.physical_instances.specs.Kept.{FieldContents}
use Rattle.physical_instances.proofs.Columns.{column_is, none_waits}
use Rattle.physical_instances.proofs.fields.FieldInstances.put_back.Goals as goal

pub returns-clause-column : goal.returns-clause-column
returns-clause-column c =
    let f = c.self.inside in
    let w = width_of f.kind in
    let hs = filter is_write c.args.pieces.items in
    let mid = c.settle.new.self in
    let end = c.put_back.new.self in
    let points : mid.points ≡ f.instances.points = search (rules) in
    let same : end.points ≡ mid.points = search (rules) in
    let none : c.settle.new.pending.folds ≡ [] = search (rules) in
    let settled : mid.numbers ≡ all_beside w f.pending.folds f.instances.points f.instances.numbers = search (rules) in
    column_is end.points f.instances.points f.kind _ _ (same ∙ points)
    (ap (λ fs. all_beside w fs end.points end.numbers) none ∙ none_waits w end.points end.numbers ∙ c.put_back.ensures.numbers w
    ∙ ap (λ (ps : List ℕ). given_beside w hs ps mid.numbers) points ∙ ap (given_beside w hs f.instances.points) settled)
    ∙ ap (λ (x : FieldContents). with_pieces hs x.column) c.self.view_is
