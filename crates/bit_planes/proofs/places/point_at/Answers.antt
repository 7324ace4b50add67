use Rattle.std.proofs.Common.{ap, arith, get_or, length, ◌-◌, ◌*◌, ◌≡◌}
use Rattle.bit_planes.specs.Planes.{count_below, has_point}
use Rattle.bit_planes.specs.Words.{number_of}
use Rattle.bit_planes.proofs.Bits.{are_words, has_word}
use Rattle.bit_planes.proofs.Counts.{count_word, ones_of_word}
use Rattle.bit_planes.proofs.Placed.{place_in_word}
use Rattle.bit_planes.proofs.places.point_at.Goals as goal

pub returns-then-number-words-clause-none : goal.returns-then-number-words-clause-none
returns-then-number-words-clause-none c =
    omega (arith, c.word_of_place-number.ensures.ahead, ap (λ k. count_below (has_point (number_of c.args.words.now)) (64 * k)) (let e : c.word_of_place-number.result ≡ length c.args.words.now = omega arith in e))

pub overflow_sub-left : goal.overflow_sub-left
overflow_sub-left c = omega (arith, c.count_ahead.ensures, c.word_of_place-number.ensures.ahead)

pub one_at-requires : goal.one_at-requires
one_at-requires c =
    let ws = c.args.words.now in
    let number = c.word_of_place-number.result in
    let words = are_words ws c.type_inv.words in
    let found = c.word_of_place-number.ensures in
    omega (arith, c.count_ahead.ensures, found.ahead, found.behind (omega arith), count_word (has_point (number_of ws)) number (get_or ws number 0) (words number) (λ i l. has_word ws words number i l), ones_of_word (get_or ws number 0) (words number))

pub returns-clause-some : goal.returns-clause-some
returns-clause-some c =
    let ws = c.args.words.now in
    let ahead = c.word_of_place-number.ensures.ahead in
    place_in_word ws (are_words ws c.type_inv.words) c.word_of_place-number.result c.one_at.result (c.args.place - c.count_ahead.result) c.args.place c.one_at.ensures.word c.one_at.ensures.one c.one_at.ensures.place (omega (arith, c.count_ahead.ensures, ahead))
