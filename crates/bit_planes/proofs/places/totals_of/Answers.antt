use Rattle.std.proofs.Common.{ap, arith, get_or, length, length-append, sym, ◌*◌, ◌+◌, ◌∙◌, ◌≡◌}
use Rattle.std.specs.Int.RustNames.{count_ones}
use Rattle.bit_planes.specs.Planes.{count_below, has_point}
use Rattle.bit_planes.specs.Words.{number_of}
use Rattle.bit_planes.proofs.Bits.{are_words, has_word}
use Rattle.bit_planes.proofs.Counts.{count_at_most, count_below-zero, count_word}
use Rattle.bit_planes.proofs.Totals.{pushed}
use Rattle.bit_planes.proofs.places.totals_of.Goals as goal

pub loop-word-init : goal.loop-word-init
loop-word-init c = record {
  total = sym (count_below-zero (has_point (number_of c.args.words.now)));
  size = ap length c.in_ok-totals.ensures.items;
  each = λ k l. absurd (omega arith);
}

pub overflow_add-total : goal.overflow_add-total
overflow_add-total c =
    let ws = c.args.words.now in
    let k = c.loop-word.word-index in
    let words = are_words ws c.type_inv.words in
    omega (arith, c.loop-word.invariant.total, count_word (has_point (number_of ws)) k (get_or ws k 0) (words k) (λ i l. has_word ws words k i l), count_at_most (has_point (number_of ws)) (64 * (k + 1)))

pub loop-word-preserved : goal.loop-word-preserved
loop-word-preserved c =
    let ws = c.args.words.now in
    let k = c.loop-word.word-index in
    let words = are_words ws c.type_inv.words in
    let known = c.loop-word.invariant in
    let total : c.loop-word.total + count_ones (get_or ws k 0) ≡ count_below (has_point (number_of ws)) (64 * (k + 1)) = omega (arith, known.total, count_word (has_point (number_of ws)) k (get_or ws k 0) (words k) (λ i l. has_word ws words k i l)) in
    record {
      total = total;
      size = ap length c.in_ok-push.ensures.items ∙ simp length-append (omega (arith, known.size));
      each = λ j l. ap (λ xs. get_or xs j 0) c.in_ok-push.ensures.items ∙ pushed (λ n. count_below (has_point (number_of ws)) (64 * (n + 1))) c.loop-word.totals.items _ k known.size known.each total j l;
    }
