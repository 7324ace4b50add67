use Rattle.std.proofs.Common.{◌≡◌, sym, ap, ◌∙◌, [], ◌∷◌, ◌++◌, ◌+◌, drop, length, length-append, arith}
use Rattle.std.proofs.lemmas.Int.{to_z-of_z}
use Rattle.machine_terms.specs.Regions.{numbers_in}
use Rattle.machine_state.proofs.Filling.{drop_get}
use Rattle.machine_state.proofs.Reading.{behind_next, behind_numbers, numbers_next, numbers_stop}
use Rattle.machine_state.proofs.columns.numbers_in.Goals as goal

pub returns-in_default-number_at-clause-value : goal.returns-in_default-number_at-clause-value
returns-in_default-number_at-clause-value c =
    let q = c.args.part.now in
    let zs = c.loop-place.numbers.items in
    let rest = drop (c.loop-place.place + 1) c.args.points.now in
    sym (sym c.loop-place.invariant.0
    ∙ ap (λ xs. behind_numbers zs (numbers_in q xs)) (drop_get c.args.points.now c.loop-place.place c.in-Some.point (sym c.in-Some.ensures.value))
    ∙ ap (behind_numbers zs) (numbers_stop q c.in-Some.point rest (sym c.in_default-number_at.ensures)))

pub loop-place-preserved : goal.loop-place-preserved
loop-place-preserved c =
    let q = c.args.part.now in
    let zs = c.loop-place.numbers.items in
    let z = c.in-Some-number_at.number in
    let rest = drop (c.loop-place.place + 1) c.args.points.now in
    let pushed : c.push.new.self.items ≡ zs ++ z ∷ [] = grind (arith, to_z-of_z) in
    let long : length c.push.new.self.items ≡ c.loop-place.place + 1 = ap length pushed ∙ grind (arith, length-append) in (
      ap (λ ys. behind_numbers ys (numbers_in q rest)) pushed
          ∙ sym (behind_next zs z (numbers_in q rest))
          ∙ ap (behind_numbers zs) (sym (numbers_next q c.in-Some.point rest z (sym c.in-Some-number_at.ensures)))
          ∙ ap (λ xs. behind_numbers zs (numbers_in q xs)) (sym (drop_get c.args.points.now c.loop-place.place c.in-Some.point (sym c.in-Some.ensures.value)))
          ∙ c.loop-place.invariant.0,
      long,
    )
