use Rattle.std.proofs.Common.{rules, ◌≡◌, ◌∙◌, [], ap, sym}
use Rattle.reduction_folds.specs.Folds.{all_beside}
use Rattle.physical_instances.proofs.Columns.{none_waits}
use Rattle.physical_instances.proofs.instances.Instances.settle.Goals as goal

pub returns-else-not-is_empty-clause-numbers : goal.returns-else-not-is_empty-clause-numbers
returns-else-not-is_empty-clause-numbers c =
    let none : c.args.pending.now.folds ≡ [] = search (rules) in
    sym (ap (λ fs. all_beside c.args.width fs c.args.self.now.points c.args.self.now.numbers) none
    ∙ none_waits c.args.width c.args.self.now.points c.args.self.now.numbers)
