use Rattle.std.proofs.Common.{refl, ⊎_elim, sym, ◌∙◌}
use Rattle.std.proofs.lemmas.Bool.{cases_lt, false≢true}
use Rattle.point_sets.proofs.Rising.{within_from_each}
use Rattle.region_tree.proofs.refusal.first_outside.Goals as goal

pub returns-clause-none : goal.returns-clause-none
returns-clause-none c _ =
    within_from_each c.args.set.now c.args.region.now (λ z m. ⊎_elim
    (λ under. c.loop-stretch.invariant.1 z under m)
    (λ over. absurd (false≢true (sym (c.in_default.ensures.none refl z over) ∙ m)))
    (cases_lt z c.loop-stretch.from))
