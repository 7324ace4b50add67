use Rattle.std.proofs.Common.{rules, ◌≡◌, ◌∙◌, ap, length, sym}
use Rattle.physical_instances.specs.Instances.{Beside}
use Rattle.physical_instances.proofs.Currents.{length_current}
use Rattle.physical_instances.proofs.instances.Instances.count.Goals as goal

pub returns-clause-numbers : goal.returns-clause-numbers
returns-clause-numbers c =
    let i = c.self.inside in
    let base : c.len.result ≡ length i.base.items = search (rules) in
    base ∙ sym (length_current i.further.items i.points i.valid.items i.base.items) ∙ ap (λ (b : Beside). length b.numbers) c.self.view_is
