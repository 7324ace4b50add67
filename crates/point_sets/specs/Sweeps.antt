-- A sweep over the points of two sets.
use Rattle.std.specs.Prelude.{◌≡◌, ℕ, ◌+◌, ◌<◌, ◌≤◌, Bool, List, length, slice_index_or}
use Rattle.plain_values.specs.Points.{has}
use Rattle.point_sets.specs.declared.runs.Run.{Run}

-- the points of both sets, and how far the sweep has come
pub record Sweeping : Type 0 where
  pub left : List ℕ
  pub right : List ℕ
  pub point : ℕ

-- a list has all points from the first to below the end, or none of them
abbrev pub AllOrNone : List ℕ → ℕ → ℕ → Bool → Type 0
AllOrNone xs first end inside = (z : ℕ) → first ≤ z → z < end → has xs z ≡ inside

-- a point is at most just behind the run at a place
abbrev pub IsNear : List Run → ℕ → ℕ → Type 0
IsNear rs place point =
    (d : Run) → place < length rs → point ≤ (slice_index_or rs place d).last + 1
