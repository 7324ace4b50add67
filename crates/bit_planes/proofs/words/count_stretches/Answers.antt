use Rattle.std.proofs.Common.{ap, arith, get_or, sym, ◌*◌, ◌+◌, ◌^◌, ◌∙◌}
use Rattle.bit_planes.specs.Planes.{count_below, is_last}
use Rattle.bit_planes.specs.Words.{number_of}
use Rattle.bit_planes.proofs.Bits.{are_words}
use Rattle.bit_planes.proofs.Counts.{count_at_most, count_below-zero, count_word}
use Rattle.bit_planes.proofs.Stretches.{last_in_word}
use Rattle.bit_planes.proofs.words.count_stretches.Goals as goal

pub loop-number-init : goal.loop-number-init
loop-number-init c = sym (count_below-zero (is_last (number_of c.args.words.now)))

pub overflow_add-total : goal.overflow_add-total
overflow_add-total c =
    let ws = c.args.words.now in
    let k = c.loop-number.number in
    let words = are_words ws c.type_inv.words in
    omega (arith, c.loop-number.invariant, count_word (is_last (number_of ws)) k c.last_ones.result (omega arith) (λ i l. last_in_word ws words k i l ∙ ap (λ n. is_last (n * 2 ^ 64 + get_or ws k 0) i) (sym c.word_at.ensures) ∙ sym (c.last_ones.ensures i l)), count_at_most (is_last (number_of ws)) (64 * (k + 1)))

pub loop-number-preserved : goal.loop-number-preserved
loop-number-preserved c =
    let ws = c.args.words.now in
    let k = c.loop-number.number in
    let words = are_words ws c.type_inv.words in
    omega (arith, c.loop-number.invariant, count_word (is_last (number_of ws)) k c.last_ones.result (omega arith) (λ i l. last_in_word ws words k i l ∙ ap (λ n. is_last (n * 2 ^ 64 + get_or ws k 0) i) (sym c.word_at.ensures) ∙ sym (c.last_ones.ensures i l)))

pub returns : goal.returns
returns c =
    c.loop-number.invariant ∙ ap (λ k. count_below (is_last (number_of c.args.words.now)) (64 * k)) (omega arith)
