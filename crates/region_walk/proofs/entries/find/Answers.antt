use Rattle.std.proofs.Common.{arith, ◌∙◌, ap}
use Rattle.std.proofs.lemmas.List.{get_or_default}
use Rattle.region_tree.specs.declared.tree.OpNumber.{OpNumber}
use Rattle.region_walk.specs.declared.entries.Kept.{Kept}
use Rattle.region_walk.proofs.Keeping.{nowhere}
use Rattle.region_walk.proofs.entries.find.Goals.{else-place-kept-via-then-place-kept+else-op, else-place-kept-via-else-place-kept}
use Rattle.region_walk.proofs.entries.find.Goals as goal

pub returns-clause-nowhere : goal.returns-clause-nowhere
returns-clause-nowhere c =
    let ks = c.args.kept.now in
    let op = c.args.op.0 in
    let i = c.place_among-place.result in
    nowhere op i ks c.requires.rising c.place_among-place.ensures.place
    (λ d l e. elim c.else-place-kept.branch [
      | else-place-kept-via-then-place-kept+else-op w ↦
          absurd (w.if-op.false (ap (λ (o : OpNumber). o.0) w.op.ensures
          ∙ ap (λ (k : Kept). k.entry.op.0) (get_or_default ks i w.index-kept-place.result d l) ∙ e))
      | else-place-kept-via-else-place-kept w ↦ absurd (omega (arith, w.if-place-kept.false, l))
    ])
