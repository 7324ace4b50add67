use Rattle.std.proofs.Common.{rules, ◌≡◌, ◌∙◌, ◌<◌, ◌+◌, ◌++◌, Some, ap, arith, drop, get_or, length, suc, take, ℕ}
use Rattle.std.specs.Prelude.{slice_set}
use Rattle.physical_instances.specs.Instances.{AreCounts, Beside, current_beside, marked, written}
use Rattle.physical_instances.proofs.Currents.{put_further}
use Rattle.physical_instances.proofs.Marking.{free_is_unmarked, length_marked, stored}
use Rattle.physical_instances.proofs.instances.Instances.put_further.Goals as goal

pub returns-clause-put : goal.returns-clause-put
returns-clause-put c =
    let i = c.self.inside in
    let place = c.in-Some.place in
    let h = c.args.piece in
    let counted : AreCounts i.counts.items i.valid.items = search (rules) in
    let none : get_or i.counts.items (suc place) 1 ≡ 0 = search (rules) in
    let some : suc place < length i.counts.items = search (rules) in
    let eight : length i.counts.items ≡ 8 = search (rules) in
    let seven : length i.further.items ≡ 7 = search (rules) in
    let whole : length h.points ≡ length h.values = search (rules) in
    let base : length i.base.items ≡ length i.points = search (rules) in
    let valid : length i.valid.items ≡ length i.points = search (rules) in
    let marks : take i.valid.len (c.mark.new.valid ++ drop (length c.mark.new.valid) i.valid.items)
    ≡ marked (place + 1) h.points i.points i.valid.items =
    let len : length i.valid.items ≡ i.valid.len = search (rules) in
    let is : c.mark.new.valid ≡ marked (place + 1) h.points i.points i.valid.items = search (rules) in
    stored i.valid.len c.mark.new.valid i.valid.items _ len (length_marked (place + 1) h.points i.points i.valid.items) is in
    ap (λ vs. current_beside (slice_set i.further.items place (Some h)) i.points vs i.base.items) marks
    ∙ ap (λ (k : ℕ). current_beside (slice_set i.further.items place (Some h)) i.points (marked k h.points i.points i.valid.items) i.base.items) (omega arith)
    ∙ put_further i.further.items place h i.points i.valid.items i.base.items (omega (arith, some, eight, seven)) whole
    (free_is_unmarked i.counts.items i.valid.items (suc place) counted some none) valid base
    ∙ ap (λ (b : Beside). written h b.points b.numbers) c.self.view_is
