-- Where stretches of points end.
use Rattle.std.proofs.Common.{◌≡◌, ℕ, ◌+◌, ◌-◌, ◌*◌, ◌^◌, ◌<◌, ◌≤◌, not, ◌&&◌, ltb, List, get_or, sym, ap, ◌∙◌, arith, ⊎_elim}
use Rattle.std.proofs.lemmas.Bool.{cases_lt, cond-false, le-ltb}
use Rattle.bit_planes.specs.Planes.{has_point, is_last}
use Rattle.bit_planes.specs.Words.{number_of, word_at}
use Rattle.bit_planes.proofs.Bits.{AreWords, has_word, has_low, has_high}

module _ (ws : List ℕ) (h : AreWords ws) (k i : ℕ) (l : i < 64) where
  low : i + 1 < 64 → has_point (number_of ws) (64 * k + i + 1) ≡ has_point (get_or ws (k + 1) 0 * 2 ^ 64 + get_or ws k 0) (i + 1)
  low under =
      ap (has_point (number_of ws)) (let e : 64 * k + i + 1 ≡ 64 * k + (i + 1) = omega arith in e) ∙ has_word ws h k (i + 1) under ∙ sym (has_low (get_or ws (k + 1) 0) (get_or ws k 0) (i + 1) under)

  high : 64 ≤ i + 1 → has_point (number_of ws) (64 * k + i + 1) ≡ has_point (get_or ws (k + 1) 0 * 2 ^ 64 + get_or ws k 0) (i + 1)
  high over =
      ap (has_point (number_of ws)) (let e : 64 * k + i + 1 ≡ 64 * (k + 1) + 0 = omega arith in e) ∙ has_word ws h (k + 1) 0 (omega arith)
      ∙ sym (ap (has_point (get_or ws (k + 1) 0 * 2 ^ 64 + get_or ws k 0)) (let e : i + 1 ≡ 64 + 0 = omega arith in e) ∙ has_high (get_or ws (k + 1) 0) (get_or ws k 0) 0 (h k))

  last_in_pair : is_last (number_of ws) (64 * k + i) ≡ is_last (get_or ws (k + 1) 0 * 2 ^ 64 + get_or ws k 0) i
  last_in_pair =
      ap (λ b. b && not (has_point (number_of ws) (64 * k + i + 1))) (has_word ws h k i l ∙ sym (has_low (get_or ws (k + 1) 0) (get_or ws k 0) i l)) ∙ ap (λ b. has_point (get_or ws (k + 1) 0 * 2 ^ 64 + get_or ws k 0) i && not b) (⊎_elim low high (cases_lt (i + 1) 64))

  -- a word and the next one tell of each of its points whether a stretch ends there
  pub last_in_word : is_last (number_of ws) (64 * k + i) ≡ is_last (word_at 0 ws (k + 1) * 2 ^ 64 + get_or ws k 0) i
  last_in_word =
      last_in_pair ∙ ap (λ n. is_last (n * 2 ^ 64 + get_or ws k 0) i) (sym (cond-false (ltb (k + 1) 0) 0 (get_or ws (k + 1 - 0) 0) (le-ltb (k + 1) 0 (omega arith)) ∙ ap (λ j. get_or ws j 0) (let e : k + 1 - 0 ≡ k + 1 = omega arith in e)))
