-- Stretches of points without a gap.
use Rattle.std.specs.Prelude.{◌≡◌, ℕ, ◌<◌, ◌≤◌, true, false, List}
use Rattle.plain_values.specs.Points.{has}

-- from a point on, the list has nothing before the start, then all points to below the end, and
-- not the end
pub record IsStretchFrom (xs : List ℕ) (point start end : ℕ) : Type 0 where
  pub ahead : point ≤ start
  pub some : start < end
  pub gap : (z : ℕ) → point ≤ z → z < start → has xs z ≡ false
  pub full : (z : ℕ) → start ≤ z → z < end → has xs z ≡ true
  pub ends : has xs end ≡ false
