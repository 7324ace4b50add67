use Rattle.std.proofs.Common.{◌≡◌, ℕ, ⊎_elim, subst, arith}
use Rattle.std.proofs.lemmas.Bool.{cases_lt}
use Rattle.region_tree.specs.Sharing.{AreFound}
use Rattle.region_tree.proofs.sweep.all_spans.Goals as goal

pub loop-colour-preserved : goal.loop-colour-preserved
loop-colour-preserved c = (
  c.in_ok-add_spans.ensures.spans,
  λ colour l z there. ⊎_elim
      (λ old. c.in_ok-add_spans.ensures.kept colour z
      (c.loop-colour.invariant.1 colour old z there))
      (λ new. subst (λ (n : ℕ). AreFound c.args.sets.now c.add_spans.new.spans.items n)
      (let e : c.loop-colour.colour ≡ colour = omega arith in e) c.in_ok-add_spans.ensures.found z
      there) (cases_lt colour c.loop-colour.colour),
)
