-- Sets of points as numbers: a set is the number that has a one at each of its points, and zeros elsewhere.
use Rattle.std.specs.Prelude.{◌≡◌, ℕ, zero, suc, ◌+◌, ◌/◌, ◌<◌, ◌≤◌, ◌==◌, Bool, true, false, if◌then◌else◌, ◌&&◌, not}
use Rattle.std.specs.Int.{bit_at}

-- whether a set has a point
unfoldable pub has_point : ℕ → ℕ → Bool
has_point set point = bit_at set point == 1

-- no point of a set stands at a bound or behind it
abbrev pub IsBelow : ℕ → ℕ → Type 0
IsBelow bound set = (z : ℕ) → bound ≤ z → has_point set z ≡ false

-- how many numbers below a bound pass a test
unfoldable pub count_below : (ℕ → Bool) → ℕ → ℕ
count_below p zero = 0
count_below p (suc z) = count_below p z + (if p z then 1 else 0)

-- whether a set has a point and not the one behind it, so that a stretch of points without a gap ends there
abbrev pub is_last : ℕ → ℕ → Bool
is_last set z = has_point set z && not (has_point set (z + 1))

-- from a point on, a set has nothing before the start, then all points to below the end, and not the end
pub record IsStretch (set point start end : ℕ) : Type 0 where
  pub ahead : point ≤ start
  pub some : start < end
  pub gap : (z : ℕ) → point ≤ z → z < start → has_point set z ≡ false
  pub full : (z : ℕ) → start ≤ z → z < end → has_point set z ≡ true
  pub ends : has_point set end ≡ false

-- a set has a point, and so many points before it
pub record IsPlace (set point place : ℕ) : Type 0 where
  pub there : has_point set point ≡ true
  pub before : count_below (has_point set) point ≡ place

-- the first point of a set and the last one
pub record AreEnds (set first last : ℕ) : Type 0 where
  pub first_there : has_point set first ≡ true
  pub last_there : has_point set last ≡ true
  pub none_before : (z : ℕ) → z < first → has_point set z ≡ false
  pub none_behind : (z : ℕ) → last < z → has_point set z ≡ false

-- so many words of 64 points reach from a set's first point to its last one
pub record IsSpan (set words : ℕ) : Type 0 where
  pub none : words ≡ 0 → set ≡ 0
  pub some : 0 < words → (first : ℕ) × (last : ℕ) × AreEnds set first last × (first / 64 + words ≡ last / 64 + 1)

-- the points that were added so far, and the bounds between which they lie
pub record Building : Type 0 where
  pub low : ℕ
  pub high : ℕ
  pub set : ℕ
