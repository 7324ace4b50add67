use Rattle.std.proofs.Common.{ap, arith, drop, get_or, length, sym, take, ⊎_elim, ◌+◌, ◌-◌, ◌∙◌, ℕ, ◌<◌, ◌^◌, ◌≤◌, ◌≡◌}
use Rattle.std.proofs.lemmas.Bool.{cases_lt}
use Rattle.std.proofs.lemmas.List.{get_or_past}
use Rattle.bit_planes.specs.Words.{placed}
use Rattle.bit_planes.proofs.Trimming.{kept_fits, trimmed}
use Rattle.bit_planes.proofs.plane.Plane.from_words.Goals as goal

pub returns : goal.returns
returns c =
    let ws = c.args.words.items in
    let low = c.zeros_ahead-low.result in
    let high = c.end_of_ones-high.result in
    let size = ap length c.as_slice.ensures.value in
    let size_2 = ap length c.as_slice-2.ensures.value in
    let fit : (k : ℕ) → get_or ws k 0 < 2 ^ 64 = λ k. ⊎_elim (λ l. omega arith) (λ o. rw (get_or_past ws k 0 o) (omega arith)) (cases_lt k (length ws)) in
    let zeros : (k : ℕ) → k < low → get_or ws k 0 ≡ 0 = λ k l. ap (λ xs. get_or xs k 0) (sym c.as_slice.ensures.value) ∙ c.zeros_ahead-low.ensures.zeros k l in
    let behind : (k : ℕ) → high ≤ k → get_or ws k 0 ≡ 0 = λ k l. ap (λ xs. get_or xs k 0) (sym c.as_slice-2.ensures.value) ∙ c.end_of_ones-high.ensures.zeros k l in
    let order : low ≤ high = c.end_of_ones-high.ensures.ahead in
    let within : high ≤ length ws = omega (arith, c.end_of_ones-high.ensures.within) in
    ap (placed (c.args.first + low)) (c.in_ok-kept.ensures.items ∙ ap (λ xs. take (high - low) (drop low xs)) c.deref.ensures.value) ∙ trimmed ws low high order within zeros behind c.args.first fit (kept_fits ws low high order within fit)
