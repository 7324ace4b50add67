use Rattle.std.proofs.Common.{arith, get_or, leb, length-set, ltb, ap, ◌&&◌, ◌/◌, ◌||◌, ◌∙◌}
use Rattle.std.specs.Prelude.{bit_or}
use Rattle.std.proofs.lemmas.Nat.{or_lt}
use Rattle.bit_planes.proofs.Joining.{ones_joined, set_fits, set_more}
use Rattle.bit_planes.proofs.windows.set_ones.Goals as goal

pub loop-place-preserved : goal.loop-place-preserved
loop-place-preserved c =
    let kept = c.loop-place.invariant in
    let ws = c.loop-place.words in
    let place = c.loop-place.place in
    let mask = c.ones_between.result in
    let words = kept.fit in
    let changed = set_fits ws words (place / 64) (bit_or (get_or ws (place / 64) 0) mask) (or_lt 64 (get_or ws (place / 64) 0) mask (words (place / 64)) (omega arith)) (omega arith) in
    record {
      ahead = omega arith;
      within = omega arith;
      fit = changed;
      size = length-set ws (place / 64) _ ∙ kept.size;
      set = λ z. set_more ws words place c.min-stop.result mask (omega arith) (omega arith) c.ones_between.ensures changed z ∙ ap (λ b. b || (leb place z && ltb z c.min-stop.result)) (kept.set z) ∙ ones_joined _ c.args.from place c.min-stop.result z (omega arith) (omega arith);
    }
