use Rattle.std.proofs.Common.{rules, ◌≡◌, ◌∙◌, ◌++◌, ap, drop, length, take}
use Rattle.physical_instances.specs.Instances.{Beside, current_beside, marked, written}
use Rattle.physical_instances.proofs.Currents.{length_written, put_base}
use Rattle.physical_instances.proofs.Marking.{length_marked, stored}
use Rattle.physical_instances.proofs.instances.Instances.put_base.Goals as goal

pub returns-clause-numbers : goal.returns-clause-numbers
returns-clause-numbers c =
    let i = c.self.inside in
    let h = c.args.piece.now in
    let whole : length h.points ≡ length h.values = search (rules) in
    let base : length i.base.items ≡ length i.points = search (rules) in
    let valid : length i.valid.items ≡ length i.points = search (rules) in
    let marks : take i.valid.len (c.mark.new.valid ++ drop (length c.mark.new.valid) i.valid.items) ≡ marked 0 h.points i.points i.valid.items =
    let len : length i.valid.items ≡ i.valid.len = search (rules) in
    let is : c.mark.new.valid ≡ marked 0 h.points i.points i.valid.items = search (rules) in
    stored i.valid.len c.mark.new.valid i.valid.items _ len (length_marked 0 h.points i.points i.valid.items) is in
    let numbers : take i.base.len (c.write.new.base ++ drop (length c.write.new.base) i.base.items) ≡ written h i.points i.base.items =
    let len : length i.base.items ≡ i.base.len = search (rules) in
    let is : c.write.new.base ≡ written h i.points i.base.items = search (rules) in
    stored i.base.len c.write.new.base i.base.items _ len (length_written h i.points i.base.items) is in
    ap (λ vs. current_beside i.further.items i.points vs (take i.base.len (c.write.new.base ++ drop (length c.write.new.base) i.base.items))) marks
    ∙ ap (λ zs. current_beside i.further.items i.points (marked 0 h.points i.points i.valid.items) zs) numbers
    ∙ put_base i.further.items h i.points i.valid.items i.base.items whole valid base
    ∙ ap (λ (b : Beside). written h b.points b.numbers) c.self.view_is
