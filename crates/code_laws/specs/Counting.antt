-- Numbers that are counted.
use Rattle.std.specs.Prelude.{◌≡◌, ℕ, suc, ℤ, pos, ◌+ℤ◌, int_lt, false, true}
use Rattle.regent_tree.specs.Numbers.{distance}

-- how many numbers there are from one to below another
pub record CountsDown : Type 0 where
  pub none : (a b : ℤ) → distance a b ≡ 0 → int_lt a b ≡ false
  pub some : (k : ℕ) (a b : ℤ) → distance a b ≡ suc k →
      (int_lt a b ≡ true) × (distance (a +ℤ pos 1) b ≡ k)
