use Rattle.std.proofs.Common.{rules, ◌≡◌, ◌∙◌, ◌-◌, ◌++◌, ap, drop, length, refl, take}
use Rattle.physical_instances.specs.Instances.{AreCounts, Beside, current_beside, trimmed}
use Rattle.physical_instances.proofs.Currents.{trimmed_same}
use Rattle.physical_instances.proofs.Marking.{stored}
use Rattle.physical_instances.proofs.instances.Instances.trim.Goals as goal

pub returns : goal.returns
returns c =
    let i = c.self.inside in
    let counted : AreCounts i.counts.items i.valid.items = search (rules) in
    let left : c.trim.new.further ≡ trimmed (take (length i.counts.items - 1) (drop 1 i.counts.items)) i.further.items = search (rules) in
    let kept : take i.further.len (c.trim.new.further ++ drop (length c.trim.new.further) i.further.items) ≡ c.trim.new.further =
    let len : length i.further.items ≡ i.further.len = search (rules) in
    let same : length c.trim.new.further ≡ length i.further.items = search (rules) in
    stored i.further.len c.trim.new.further i.further.items c.trim.new.further len same refl in
    ap (λ zs. let b : Beside = record { points = i.points; numbers = zs } in b)
    (ap (λ fs. current_beside fs i.points i.valid.items i.base.items) (kept ∙ left) ∙ trimmed_same i.counts.items i.further.items i.points i.valid.items i.base.items counted)
    ∙ c.self.view_is
