-- The two forms of a set of points, and how many words each takes.
use Rattle.std.specs.Prelude.{◌≡◌, ℕ, ◌+◌, ◌/◌, ◌<◌, ◌≤◌, Bool, true, false, not, min, List, [], length, filter}
use Rattle.bit_planes.specs.Planes.{has_point, IsBelow}
use Rattle.plain_values.specs.Points.{IsPoints, has, points}
use Rattle.point_sets.specs.declared.TheConstants.{POINT_LIMIT}
use Rattle.point_sets.specs.declared.form.Form.{Form}
use Rattle.point_sets.specs.declared.form.Form.TheVariants.{Runs, Plane}

-- how many runs a set has: each ends at a point with none just behind it
abbrev pub runs_of : List ℕ → ℕ
runs_of xs = length (filter (λ x. not (has xs (x + 1))) xs)

-- the first point of a set and the last one
pub record AreEndsOf (xs : List ℕ) (first last : ℕ) : Type 0 where
  pub first_there : has xs first ≡ true
  pub last_there : has xs last ≡ true
  pub none_before : (z : ℕ) → z < first → has xs z ≡ false
  pub none_behind : (z : ℕ) → last < z → has xs z ≡ false

-- so many words of 64 points reach from a set's first point to its last one
pub record AreWordsOf (xs : List ℕ) (words : ℕ) : Type 0 where
  pub none : words ≡ 0 → xs ≡ []
  pub some : 0 < words → (first : ℕ) × (last : ℕ) × AreEndsOf xs first last × (first / 64 + words ≡ last / 64 + 1)

-- a word for each run, or the words of a plane where these are fewer
pub record IsFewest (xs : List ℕ) (words : ℕ) : Type 0 where
  pub reach : ℕ
  pub reaches : AreWordsOf xs reach
  pub fewest : words ≡ min (runs_of xs) reach

-- the numbers below a bound that pass a test
unfoldable pub passing : (ℕ → Bool) → ℕ → List ℕ
passing p bound = filter p (points bound)

-- the points of a plane
abbrev pub plane_points : ℕ → List ℕ
plane_points set = passing (has_point set) POINT_LIMIT

-- the points of a form
abbrev pub points_of : Form → List ℕ
points_of (Runs xs) = xs
points_of (Plane set) = plane_points set

-- a set is in the form that takes fewer words: as runs where both take as many
abbrev pub IsSettled : Form → Type 0
IsSettled (Runs xs) = IsPoints POINT_LIMIT xs × ((words : ℕ) × AreWordsOf xs words × (runs_of xs ≤ words))
IsSettled (Plane set) = IsBelow POINT_LIMIT set × ((words : ℕ) × AreWordsOf (plane_points set) words × (words < runs_of (plane_points set)))
