use Rattle.std.proofs.Common.{ap, arith, sym, ◌*◌, ◌∙◌, ◌≡◌}
use Rattle.bit_planes.specs.Planes.{count_below, has_point}
use Rattle.bit_planes.specs.Words.{number_of}
use Rattle.bit_planes.proofs.Counts.{count_below-zero}
use Rattle.bit_planes.proofs.Totals.{count_ahead_is}
use Rattle.bit_planes.proofs.places.count_ahead.Goals as goal

pub returns-then-number-eq0 : goal.returns-then-number-eq0
returns-then-number-eq0 c =
    let p = has_point (number_of c.args.words.now) in
    sym (ap (λ k. count_below p (64 * k)) (let e : c.args.number ≡ 0 = omega arith in e) ∙ count_below-zero p)

pub returns-else-number-eq0 : goal.returns-else-number-eq0
returns-else-number-eq0 c =
    count_ahead_is c.args.words.now c.args.totals.now c.requires.totals c.args.number (omega arith) c.requires.inside
