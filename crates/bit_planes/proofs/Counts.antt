-- How many numbers pass a test.
use Rattle.std.proofs.Common.{◌≡◌, ℕ, zero, suc, ◌+◌, ◌-◌, ◌*◌, ◌%◌, ◌^◌, ◌<◌, ◌≤◌, Bool, true, false, cond, eqb, refl, sym, ap, ◌∙◌, arith}
use Rattle.std.specs.Int.{bit_at}
use Rattle.std.specs.Int.RustNames.{count_ones}
use Rattle.std.proofs.lemmas.Bool.{cond-false}
use Rattle.std.proofs.lemmas.Nat.{ones_cat, pow_pos, mod-pow-add, mod_below}
use Rattle.std.proofs.lemmas.Nat.Bits.{bit_at-lt}
use Rattle.bit_planes.specs.Planes.{has_point, count_below}

pub count_below-suc : (p : ℕ → Bool) (z : ℕ) → count_below p (suc z) ≡ count_below p z + cond (p z) 1 0
unfolding count_below
count_below-suc p z = refl

pub count_below-zero : (p : ℕ → Bool) → count_below p 0 ≡ 0
unfolding count_below
count_below-zero p = refl

pub count_same : (p q : ℕ → Bool) (n : ℕ) → ((z : ℕ) → z < n → p z ≡ q z) → count_below p n ≡ count_below q n
unfolding count_below
count_same p q zero same = refl
count_same p q (suc n) same =
    ap (λ c. c + cond (p n) 1 0) (count_same p q n (λ z l. same z (omega arith))) ∙ ap (λ b. count_below q n + cond b 1 0) (same n (omega arith))

pub count_below-+ : (p : ℕ → Bool) (m n : ℕ) → count_below p (m + n) ≡ count_below p m + count_below (λ z. p (m + z)) n
unfolding count_below
count_below-+ p m zero = ap (count_below p) (let e : m + 0 ≡ m = omega arith in e) ∙ omega arith
count_below-+ p m (suc n) =
    ap (count_below p) (let e : m + suc n ≡ suc (m + n) = omega arith in e) ∙ ap (λ c. c + cond (p (m + n)) 1 0) (count_below-+ p m n) ∙ omega arith

pub count_none : (p : ℕ → Bool) (n : ℕ) → ((z : ℕ) → z < n → p z ≡ false) → count_below p n ≡ 0
unfolding count_below
count_none p zero none = refl
count_none p (suc n) none =
    let e = count_none p n (λ z l. none z (omega arith)) in
    let c : cond {A = ℕ} (p n) 1 0 ≡ 0 = cond-false {A = ℕ} (p n) 1 0 (none n (omega arith)) in
    omega (arith, e, c)

pub count_at_most : (p : ℕ → Bool) (n : ℕ) → count_below p n ≤ n
unfolding count_below
count_at_most p zero = omega arith
count_at_most p (suc n) = let e = count_at_most p n in let c = cond_at_most (p n) in omega (arith, e, c)
  where
    cond_at_most : (b : Bool) → cond {A = ℕ} b 1 0 ≤ 1
    cond_at_most true = omega arith
    cond_at_most false = omega arith

-- ---- the ones of a number

ones_of_bit : (b : ℕ) → b < 2 → count_ones b ≡ cond {A = ℕ} (eqb b 1) 1 0
unfolding count_ones
ones_of_bit zero l = refl
ones_of_bit (suc zero) l = refl
ones_of_bit (suc (suc b)) l = absurd (omega arith)

no_ones : count_ones 0 ≡ 0
unfolding count_ones
no_ones = refl

pub ones_below : (w n : ℕ) → count_below (has_point w) n ≡ count_ones (w % 2 ^ n)
unfolding has_point count_below
ones_below w zero = sym (ap count_ones (let e : w % 1 ≡ 0 = omega arith in e) ∙ no_ones)
ones_below w (suc n) =
    let e : w % 2 ^ suc n ≡ bit_at w n * 2 ^ n + w % 2 ^ n = ap (λ k. w % 2 ^ k) (let q : suc n ≡ 1 + n = omega arith in q) ∙ mod-pow-add w 1 n in
    let h = ones_below w n in
    let g = ones_cat n (bit_at w n) (w % 2 ^ n) (mod_below w (2 ^ n) (pow_pos n)) in
    let o = ones_of_bit (bit_at w n) (bit_at-lt w n) in
    ap (λ c. c + cond (eqb (bit_at w n) 1) 1 0) h ∙ (let add : count_ones (w % 2 ^ n) + cond {A = ℕ} (eqb (bit_at w n) 1) 1 0 ≡ count_ones (bit_at w n) + count_ones (w % 2 ^ n) = omega (arith, o) in add) ∙ sym g ∙ ap count_ones (sym e)

-- the ones of a word are its points
pub ones_of_word : (w : ℕ) → w < 2 ^ 64 → count_ones w ≡ count_below (has_point w) 64
ones_of_word w l = sym (ones_below w 64 ∙ ap count_ones (let e : w % 2 ^ 64 ≡ w = omega arith in e))

-- how many pass up to the end of a word, where a word's ones tell which of its places pass
pub count_word : (p : ℕ → Bool) (k w : ℕ) → w < 2 ^ 64 → ((i : ℕ) → i < 64 → p (64 * k + i) ≡ has_point w i) → count_below p (64 * (k + 1)) ≡ count_below p (64 * k) + count_ones w
count_word p k w l same =
    ap (count_below p) (let e : 64 * (k + 1) ≡ 64 * k + 64 = omega arith in e) ∙ count_below-+ p (64 * k) 64
    ∙ ap (λ c. count_below p (64 * k) + c) (count_same (λ z. p (64 * k + z)) (has_point w) 64 same ∙ sym (ones_of_word w l))

pub count_rises : (p : ℕ → Bool) (m n : ℕ) → m ≤ n → count_below p m ≤ count_below p n
count_rises p m n l =
    let split = ap (count_below p) (let e : n ≡ m + (n - m) = omega arith in e) ∙ count_below-+ p m (n - m) in
    omega (arith, split)
