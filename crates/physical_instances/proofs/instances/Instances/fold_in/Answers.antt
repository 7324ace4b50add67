use Rattle.std.proofs.Common.{rules, ◌≡◌, ◌∙◌, ◌++◌, ap, drop, length, refl, subst, sym, take}
use Rattle.std.specs.Prelude.{replicate, slice_set}
use Rattle.reduction_folds.specs.Folds.{all_beside}
use Rattle.physical_instances.specs.Instances.{AreCounts, Beside, current_beside}
use Rattle.physical_instances.proofs.Currents.{base_current}
use Rattle.physical_instances.proofs.Marking.{first_counts, stored}
use Rattle.physical_instances.proofs.instances.Instances.fold_in.Goals as goal

pub invariant_of-self : goal.invariant_of-self
invariant_of-self c =
    let i = c.self.inside in
    let n = c.len.result in
    let counts : c.fill-2.new.self.items ≡ replicate 8 0 = search (rules) in
    let valid : c.fill.new.self.items ≡ replicate n 0 = search (rules) in
    let counted = subst (λ vs. AreCounts (slice_set c.fill-2.new.self.items 0 n) vs) (sym valid)
    (subst (λ cs. AreCounts (slice_set cs 0 n) (replicate n 0)) (sym counts) (first_counts n 7)) in
    let base : length i.base.items ≡ i.base.len = search (rules) in
    let further : length i.further.items ≡ i.further.len = search (rules) in
    let one : length c.gather.new.base ≡ length i.base.items = search (rules) in
    let mid = take i.base.len (c.gather.new.base ++ drop (length c.gather.new.base) i.base.items) in
    let gathered : mid ≡ c.gather.new.base = stored i.base.len c.gather.new.base i.base.items _ base one refl in
    let two : length c.settle.new.values ≡ length mid = search (rules) in
    let end = stored i.base.len c.settle.new.values mid _ (ap length gathered ∙ one ∙ base) two refl in
    let three : length c.clear.new.further ≡ length i.further.items = search (rules) in
    let cleared = stored i.further.len c.clear.new.further i.further.items _ further three refl in
    let points : length i.base.items ≡ length i.points = search (rules) in
    let seven : length i.further.items ≡ 7 = search (rules) in
    (search (rules), ap length end ∙ two ∙ ap length gathered ∙ one ∙ points, search (rules), counted, search (rules), ap length cleared ∙ three ∙ seven)

pub returns-clause-numbers : goal.returns-clause-numbers
returns-clause-numbers c =
    let i = c.self.inside in
    let n = c.len.result in
    let fs = take i.further.len (c.clear.new.further ++ drop (length c.clear.new.further) i.further.items) in
    let mid = take i.base.len (c.gather.new.base ++ drop (length c.gather.new.base) i.base.items) in
    let end = take i.base.len (c.settle.new.values ++ drop (length c.settle.new.values) mid) in
    let valid : c.fill.new.self.items ≡ replicate n 0 = search (rules) in
    let base : length i.base.items ≡ i.base.len = search (rules) in
    let one : length c.gather.new.base ≡ length i.base.items = search (rules) in
    let kept : mid ≡ c.gather.new.base = stored i.base.len c.gather.new.base i.base.items _ base one refl in
    let is : c.gather.new.base ≡ current_beside i.further.items i.points i.valid.items i.base.items = search (rules) in
    let gathered = kept ∙ is in
    let two : length c.settle.new.values ≡ length mid = search (rules) in
    let folded : c.settle.new.values ≡ all_beside c.args.width c.args.pending.now.folds i.points mid = search (rules) in
    let settled = stored i.base.len c.settle.new.values mid _ (ap length kept ∙ one ∙ base) two refl ∙ folded in
    ap (λ vs. current_beside fs i.points vs end) valid ∙ base_current fs n i.points end ∙ settled
    ∙ ap (all_beside c.args.width c.args.pending.now.folds i.points) gathered
    ∙ ap (λ (b : Beside). all_beside c.args.width c.args.pending.now.folds b.points b.numbers) c.self.view_is
