-- The top of a stack whose values are kept the lowest first.
use Rattle.std.proofs.Common.{◌≡◌, ℕ, ◌+◌, ◌-◌, ◌≤◌, ◌<◌, List, [], ◌∷◌, length, take, drop, set, reverse, sym, ap, subst, ◌∙◌, arith, take-add, length-take-le, length-drop, drop_at}
use Rattle.std.proofs.lemmas.List.{length-reverse, reverse-append, take_more_set}

-- without the highest ones
dropped : {X : Type 0} → (xs : List X) (m k : ℕ) → m + k ≤ length xs →
    drop k (reverse (take (m + k) xs)) ≡ reverse (take m xs)
dropped {X = X} xs m k h =
    let gone : List X = take k (drop m xs) in
    ap (λ l. drop k (reverse l)) (take-add m k xs)
    ∙ ap (drop k) (reverse-append (take m xs) gone)
    ∙ drop_at (reverse gone) (reverse (take m xs)) k
    (length-reverse gone ∙ length-take-le k (drop m xs) (omega (arith, h, length-drop m xs)))

module _ {X : Type 0} (xs now : List X) (n k : ℕ) (view : reverse (take n xs) ≡ now) (h : n ≤ length xs)
    (g : k ≤ length now) where
  there : length now ≡ n
  there = sym (ap length view) ∙ length-reverse (take n xs) ∙ length-take-le n xs h

  pub count_within : k ≤ n
  count_within = subst (λ i. k ≤ i) there g

  whole : (n - k) + k ≡ n
  whole = omega (arith, count_within)

  -- so many values are taken off
  pub lowered : reverse (take (n - k) xs) ≡ drop k now
  lowered = sym (dropped xs (n - k) k (omega (arith, h, whole)))
      ∙ ap (λ i. drop k (reverse (take i xs))) whole
      ∙ ap (drop k) view

  -- one stands in the place of so many
  pub put_for : (v : X) → 0 < k → reverse (take (n - (k - 1)) (set xs (n - k) v)) ≡ v ∷ drop k now
  put_for v some =
      let one : n - (k - 1) ≡ (n - k) + 1 = omega (arith, some, count_within) in
      let inside : n - k < length xs = omega (arith, some, count_within, h) in
      ap (λ i. reverse (take i (set xs (n - k) v))) one
      ∙ ap reverse (take_more_set xs (n - k) v inside)
      ∙ reverse-append (take (n - k) xs) (v ∷ [])
      ∙ ap (λ l. v ∷ l) lowered
