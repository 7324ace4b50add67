use Rattle.std.proofs.Common.{rules, ◌≡◌, ◌∙◌, ap, length, subst, sym}
use Rattle.std.specs.Prelude.{replicate, slice_set}
use Rattle.physical_instances.specs.Instances.{AreCounts, current_beside}
use Rattle.physical_instances.proofs.Currents.{base_current}
use Rattle.physical_instances.proofs.Marking.{first_counts}
use Rattle.physical_instances.proofs.instances.Instances.new.Goals as goal

pub invariant_of-result : goal.invariant_of-result
invariant_of-result c =
    let n = c.len-count.result in
    let counts : c.in_ok-counts.counts.items ≡ replicate 8 0 = search (rules) in
    let valid : c.in_ok-valid.valid.items ≡ replicate n 0 = search (rules) in
    let counted = subst (λ vs. AreCounts (slice_set c.in_ok-counts.counts.items 0 n) vs) (sym valid)
    (subst (λ cs. AreCounts (slice_set cs 0 n) (replicate n 0)) (sym counts) (first_counts n 7)) in
    (search (rules), search (rules), search (rules), counted, search (rules), search (rules))

pub returns-clause-numbers : goal.returns-clause-numbers
returns-clause-numbers c =
    let n = c.len-count.result in
    let valid : c.in_ok-valid.valid.items ≡ replicate n 0 = search (rules) in
    let base : c.in_ok-base.base.items ≡ replicate (length c.args.points) c.args.number = search (rules) in
    ap (λ vs. current_beside c.in_ok-no_pieces.field-0.items c.points.inside.inner.value vs c.in_ok-base.base.items) valid
    ∙ base_current c.in_ok-no_pieces.field-0.items n c.points.inside.inner.value c.in_ok-base.base.items ∙ base
