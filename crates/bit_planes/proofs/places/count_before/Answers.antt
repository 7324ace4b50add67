use Rattle.std.proofs.Common.{ap, arith, get_or, ◌+◌, ◌-◌, ◌*◌, ◌/◌, ◌%◌, ◌^◌, ◌∙◌}
use Rattle.std.specs.Prelude.{bit_and}
use Rattle.std.specs.Int.RustNames.{count_ones}
use Rattle.bit_planes.specs.Planes.{has_point}
use Rattle.bit_planes.specs.Words.{number_of}
use Rattle.bit_planes.proofs.Bits.{are_words}
use Rattle.bit_planes.proofs.Counts.{count_at_most}
use Rattle.bit_planes.proofs.Placed.{count_to_point}
use Rattle.bit_planes.proofs.places.count_before.Goals as goal

pub overflow_add-result : goal.overflow_add-result
overflow_add-result c =
    let ws = c.args.words.now in
    omega (arith, c.count_ahead.ensures, count_to_point ws (are_words ws c.type_inv.words) c.args.point, count_at_most (has_point (number_of ws)) c.args.point)

pub returns : goal.returns
returns c =
    let ws = c.args.words.now in
    ap (λ n. n + count_ones (bit_and (get_or ws (c.args.point / 64) 0) (1 * 2 ^ (c.args.point % 64) % 2 ^ 64 - 1))) c.count_ahead.ensures ∙ count_to_point ws (are_words ws c.type_inv.words) c.args.point
