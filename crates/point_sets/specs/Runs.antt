-- Lists of runs, and the points that they hold.
use Rattle.std.specs.Prelude.{◌≡◌, ℕ, ◌+◌, ◌-◌, ◌<◌, ◌≤◌, true, length, take, slice_index_or}
use Rattle.std.specs.Prelude.{List, [], ◌∷◌, ◌++◌, All}
use Rattle.plain_values.specs.Points.{counted_from, has}
use Rattle.point_sets.specs.declared.runs.Run.{Run}
use Rattle.point_sets.specs.declared.TheConstants.{POINT_LIMIT}

-- how many points a run holds
abbrev pub size_of : Run → ℕ
size_of r = r.last + 1 - r.first

-- the points of a list of runs
abbrev pub points_in : List Run → List ℕ
points_in [] = []
points_in (r ∷ rs) = counted_from r.first (size_of r) ++ points_in rs

-- a run whose points stand at `low` or behind it, and that comes after so many points
pub record IsRun (low count : ℕ) (r : Run) : Type 0 where
  pub above : low ≤ r.first
  pub rises : r.first ≤ r.last
  pub below : r.last < POINT_LIMIT
  pub counted : r.total ≡ count + size_of r

-- runs in rising order with a gap between each two, at `low` or behind it, after so many points
abbrev pub AreRunsFrom : ℕ → ℕ → List Run → Type 0
AreRunsFrom low count [] = Unit {0}
AreRunsFrom low count (r ∷ rs) = IsRun low count r × AreRunsFrom (r.last + 2) r.total rs

abbrev pub AreRuns : List Run → Type 0
AreRuns rs = AreRunsFrom 0 0 rs

-- the run at this place is the first that ends at the point or behind it
pub record IsFirstTo (rs : List Run) (place point : ℕ) : Type 0 where
  pub inside : place ≤ length rs
  pub passed : All (λ r. r.last < point) (take place rs)
  pub reaches : (d : Run) → place < length rs → point ≤ (slice_index_or rs place d).last

-- the run at this place is the first with more points up to its end than so many
pub record IsFirstWithMore (rs : List Run) (place many : ℕ) : Type 0 where
  pub inside : place ≤ length rs
  pub passed : All (λ r. r.total ≤ many) (take place rs)
  pub reaches : (d : Run) → place < length rs → many < (slice_index_or rs place d).total

-- there is a last run, and it ends just before the point
pub record IsJoined (rs : List Run) (point : ℕ) : Type 0 where
  pub some : 0 < length rs
  pub ends : (d : Run) → (slice_index_or rs (length rs - 1) d).last + 1 ≡ point

-- the first point of runs and the last one, if there are any, and bounds of all runs
pub record AreRunEnds (rs : List Run) (first last : ℕ) : Type 0 where
  pub order : first ≤ last
  pub below : last < POINT_LIMIT
  pub low : (k : ℕ) (d : Run) → k < length rs → first ≤ (slice_index_or rs k d).first
  pub high : (k : ℕ) (d : Run) → k < length rs → (slice_index_or rs k d).last ≤ last
  pub first_there : 0 < length rs → has (points_in rs) first ≡ true
  pub last_there : 0 < length rs → has (points_in rs) last ≡ true
