-- Going over two lists from front to back, by a step of one item or of several.
use Rattle.std.proofs.Common.{◌≡◌, ℕ, zero, suc, ◌+◌, ◌≤◌, ◌<◌, List, [], ◌∷◌, length, map, take, drop, slice_index_or, slice_set, Bool, false, ◌||◌, cond, ap, refl, sym, ◌∙◌, arith}
use Rattle.std.proofs.Math.Bool.{or_assoc}
use Rattle.std.specs.Simd.Lanes.{chunk, put_chunk, sel_l, zip2}
use Rattle.lane_kernels.specs.Fronts.{beside, paired_to, some_pair}

module _ {A B : Type 0} (f : A → B → A) where
  pub length-paired_to : (n : ℕ) (xs : List A) (ys : List B) → length (paired_to f n xs ys) ≡ length xs
  length-paired_to zero xs ys = refl
  length-paired_to (suc n) [] ys = refl
  length-paired_to (suc n) (x ∷ xs) [] = refl
  length-paired_to (suc n) (x ∷ xs) (y ∷ ys) = ap suc (length-paired_to n xs ys)

  -- a front as long as the list is all of it
  pub paired_to_all : (n : ℕ) (xs : List A) (ys : List B) → length xs ≡ n → length xs ≡ length ys → paired_to f n xs ys ≡ zip2 f xs ys
  paired_to_all zero [] ys e h = refl
  paired_to_all zero (x ∷ xs) ys e h = absurd omega (arith, e)
  paired_to_all (suc n) [] ys e h = refl
  paired_to_all (suc n) (x ∷ xs) [] e h = absurd omega (arith, h)
  paired_to_all (suc n) (x ∷ xs) (y ∷ ys) e h =
      ap (λ zs. f x y ∷ zs) (paired_to_all n xs ys omega (arith, e) omega (arith, h))

  -- the results of a list's first items, where the list begins
  put_first : (k : ℕ) (xs : List A) (ys : List B) → k ≤ length xs → k ≤ length ys → put_chunk 0 xs (zip2 f (take k xs) (take k ys)) ≡ paired_to f k xs ys
  put_first zero [] ys h g = refl
  put_first zero (x ∷ xs) ys h g = refl
  put_first (suc k) [] ys h g = refl
  put_first (suc k) (x ∷ xs) [] h g = absurd omega (arith, g)
  put_first (suc k) (x ∷ xs) (y ∷ ys) h g =
      ap (λ zs. f x y ∷ zs) (put_first k xs ys omega (arith, h) omega (arith, g))

  -- the results of the next k items make the front longer by k
  pub paired_to-chunk : (n k m : ℕ) (xs : List A) (ys : List B) → m ≡ n + k → m ≤ length xs → m ≤ length ys
      → put_chunk n (paired_to f n xs ys) (zip2 f (chunk n k (paired_to f n xs ys)) (chunk n k ys)) ≡ paired_to f m xs ys
  paired_to-chunk zero k m xs ys e h g =
      let same : m ≡ k = omega (arith, e) in
      put_first k xs ys omega (arith, h, same) omega (arith, g, same) ∙ ap (λ j. paired_to f j xs ys) (sym same)
  paired_to-chunk (suc n) k zero xs ys e h g = absurd omega (arith, e)
  paired_to-chunk (suc n) k (suc m) [] ys e h g = absurd omega (arith, h)
  paired_to-chunk (suc n) k (suc m) (x ∷ xs) [] e h g = absurd omega (arith, g)
  paired_to-chunk (suc n) k (suc m) (x ∷ xs) (y ∷ ys) e h g =
      ap (λ zs. f x y ∷ zs) (paired_to-chunk n k m xs ys omega (arith, e) omega (arith, h) omega (arith, g))

  -- the result of the next item makes the front longer by one
  pub paired_to-next : (n : ℕ) (xs : List A) (ys : List B) (c : A) (d : B) → n < length xs → n < length ys
      → slice_set (paired_to f n xs ys) n (f (slice_index_or (paired_to f n xs ys) n c) (slice_index_or ys n d)) ≡ paired_to f (suc n) xs ys
  paired_to-next n [] ys c d h g = absurd omega (arith, h)
  paired_to-next n (x ∷ xs) [] c d h g = absurd omega (arith, g)
  paired_to-next zero (x ∷ xs) (y ∷ ys) c d h g = refl
  paired_to-next (suc n) (x ∷ xs) (y ∷ ys) c d h g =
      ap (λ zs. f x y ∷ zs) (paired_to-next n xs ys c d omega (arith, h) omega (arith, g))

module _ {A B : Type 0} (f : A → B → Bool) where
  some_pair_none : (xs : List A) → some_pair f xs [] ≡ false
  some_pair_none [] = refl
  some_pair_none (x ∷ xs) = refl

  -- a test of the first k, and of what is behind them
  pub some_pair_split : (k : ℕ) (xs : List A) (ys : List B) → some_pair f xs ys ≡ some_pair f (take k xs) (take k ys) || some_pair f (drop k xs) (drop k ys)
  some_pair_split zero xs ys = refl
  some_pair_split (suc k) [] ys = refl
  some_pair_split (suc k) (x ∷ xs) [] = sym (some_pair_none (drop k xs))
  some_pair_split (suc k) (x ∷ xs) (y ∷ ys) =
      ap (λ b. f x y || b) (some_pair_split k xs ys) ∙ sym (or_assoc (f x y) (some_pair f (take k xs) (take k ys)) (some_pair f (drop k xs) (drop k ys)))

-- a choice between what a list becomes and the list, item by item
pub sel_l-beside : {A B : Type 0} (f : A → B → A) (ms : List Bool) (xs : List A) (ys : List B) → length xs ≡ length ys → length xs ≡ length ms
    → zip2 (λ x c. cond c.0 (f x c.1) x) xs (beside ms ys) ≡ sel_l ms (zip2 f xs ys) xs
sel_l-beside f [] [] ys h g = refl
sel_l-beside f [] (x ∷ xs) ys h g = absurd omega (arith, g)
sel_l-beside f (m ∷ ms) [] ys h g = refl
sel_l-beside f (m ∷ ms) (x ∷ xs) [] h g = absurd omega (arith, h)
sel_l-beside f (m ∷ ms) (x ∷ xs) (y ∷ ys) h g =
    ap (λ zs. cond m (f x y) x ∷ zs) (sel_l-beside f ms xs ys omega (arith, h) omega (arith, g))

take-zip2 : {A B C : Type 0} (f : A → B → C) (n : ℕ) (xs : List A) (ys : List B) → take n (zip2 f xs ys) ≡ zip2 f (take n xs) (take n ys)
take-zip2 f zero xs ys = refl
take-zip2 f (suc n) [] ys = refl
take-zip2 f (suc n) (x ∷ xs) [] = refl
take-zip2 f (suc n) (x ∷ xs) (y ∷ ys) = ap (λ zs. f x y ∷ zs) (take-zip2 f n xs ys)

pub chunk-zip2 : {A B C : Type 0} (f : A → B → C) (i n : ℕ) (xs : List A) (ys : List B) → length xs ≡ length ys → chunk i n (zip2 f xs ys) ≡ zip2 f (chunk i n xs) (chunk i n ys)
chunk-zip2 f zero n xs ys h = take-zip2 f n xs ys
chunk-zip2 f (suc i) zero xs ys h = refl
chunk-zip2 f (suc i) (suc n) [] ys h = refl
chunk-zip2 f (suc i) (suc n) (x ∷ xs) [] h = absurd omega (arith, h)
chunk-zip2 f (suc i) (suc n) (x ∷ xs) (y ∷ ys) h = chunk-zip2 f i (suc n) xs ys omega (arith, h)

pub get_or-beside : {A B : Type 0} (i : ℕ) (xs : List A) (ys : List B) (c : A) (d : B) → i < length xs → length xs ≡ length ys → slice_index_or (beside xs ys) i (c, d) ≡ (slice_index_or xs i c, slice_index_or ys i d)
get_or-beside i [] ys c d l h = absurd omega (arith, l)
get_or-beside i (x ∷ xs) [] c d l h = absurd omega (arith, h)
get_or-beside zero (x ∷ xs) (y ∷ ys) c d l h = refl
get_or-beside (suc i) (x ∷ xs) (y ∷ ys) c d l h = get_or-beside i xs ys c d omega (arith, l) omega (arith, h)

-- an operator after another on the second item
pub zip2_right : {A B C D : Type 0} (f : A → C → D) (g : B → C) (xs : List A) (ys : List B) → zip2 f xs (map g ys) ≡ zip2 (λ x y. f x (g y)) xs ys
zip2_right f g [] ys = refl
zip2_right f g (x ∷ xs) [] = refl
zip2_right f g (x ∷ xs) (y ∷ ys) = ap (λ zs. f x (g y) ∷ zs) (zip2_right f g xs ys)
