-- The numbers from one to below another fit a width in which both do.
use Rattle.std.proofs.Common.{true, ℕ, ℤ, suc, zero, pos, negsuc, ap, ◌≡◌, ◌+ℤ◌, arith}
use Rattle.std.proofs.lemmas.Int.{ints}
use Rattle.std.specs.Prelude.{int_le, ◌-ℤ◌}
use Rattle.lane_kernels.specs.Numbers.{FitsWidth}
use Rattle.lane_kernels.specs.declared.numbers.Width.{Width}
use Rattle.lane_kernels.specs.declared.numbers.Width.TheVariants.{W32, W64}
use Rattle.regent_tree.specs.Numbers.{distance}

-- so many numbers from one on are at most another
abbrev pub AreUpTo : ℤ → ℕ → ℤ → Type 0
AreUpTo i zero b = Unit {0}
AreUpTo i (suc k) b = int_le (i +ℤ pos (suc k)) b ≡ true

left : (d : ℤ) (k : ℕ) → elim d as (λ z. ℕ) [ pos n ↦ n | negsuc n ↦ 0 ] ≡ suc k → d ≡ pos (suc k)
left (pos n) k e = ap pos e
left (negsuc n) k e = absurd (omega (arith, e))

up_to : (a b : ℤ) (n : ℕ) → b -ℤ a ≡ pos n → int_le (a +ℤ pos n) b ≡ true
up_to a b n e = grind (arith, ints)

pub distance_up_to : (a b : ℤ) (k : ℕ) → distance a b ≡ k → AreUpTo a k b
distance_up_to a b zero e = tt
distance_up_to a b (suc k) e = up_to a b (suc k) (left (b -ℤ a) k e)

-- the next number fits, and those behind it
pub next_up_to : (w : Width) (i b : ℤ) (k : ℕ) → FitsWidth w i → FitsWidth w b → AreUpTo i (suc k) b → FitsWidth w (i +ℤ pos 1) × AreUpTo (i +ℤ pos 1) k b
next_up_to w i b zero p q e = (next w i b 1 p q e, tt)
  where
    next : (w : Width) (i b : ℤ) (n : ℕ) → FitsWidth w i → FitsWidth w b → int_le (i +ℤ pos 1) b ≡ true → FitsWidth w (i +ℤ pos 1)
    next W32 i b n p q e = grind (arith, ints)
    next W64 i b n p q e = grind (arith, ints)
next_up_to w i b (suc k) p q e = (next w i b k p q e, later i b k e)
  where
    next : (w : Width) (i b : ℤ) (k : ℕ) → FitsWidth w i → FitsWidth w b → int_le (i +ℤ pos (suc (suc k))) b ≡ true → FitsWidth w (i +ℤ pos 1)
    next W32 i b k p q e = grind (arith, ints)
    next W64 i b k p q e = grind (arith, ints)

    later : (i b : ℤ) (k : ℕ) → int_le (i +ℤ pos (suc (suc k))) b ≡ true → int_le ((i +ℤ pos 1) +ℤ pos (suc k)) b ≡ true
    later i b k e = grind (arith, ints)
