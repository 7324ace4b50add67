-- Points that sets of a list share. The sets are named by their places, which are colours.
use Rattle.std.specs.Prelude.{◌≡◌, ◌≢◌, ℕ, ◌<◌, ◌≤◌, true, false, List, [], Contains, length}
use Rattle.std.specs.Prelude.{get_or}
use Rattle.plain_values.specs.Points.{has, meets}
use Rattle.region_tree.specs.declared.sweep.Span.{Span}

-- the set of a colour
abbrev pub set_of_colour : List (List ℕ) → ℕ → List ℕ
set_of_colour sets colour = get_or sets colour []

-- no two sets share a point
abbrev pub AreDisjoint : List (List ℕ) → Type 0
AreDisjoint sets =
    (i j : ℕ) → i < j → j < length sets → meets (set_of_colour sets i) (set_of_colour sets j) ≡ false

-- the sets of two colours share the point
pub record AreSharing (sets : List (List ℕ)) (a b point : ℕ) : Type 0 where
  pub order : a < b
  pub below : b < length sets
  pub in_first : has (set_of_colour sets a) point ≡ true
  pub in_second : has (set_of_colour sets b) point ≡ true

-- no point below it is shared
abbrev pub IsLeastShared : List (List ℕ) → ℕ → Type 0
IsLeastShared sets point = (q a b : ℕ) → q < point → ¬ AreSharing sets a b q

-- ---- spans: stretches of points of the set of a colour

abbrev pub Holds : Span → ℕ → Type 0
Holds s z = (s.first ≤ z) × (z < s.end)

pub record IsSpan (sets : List (List ℕ)) (s : Span) : Type 0 where
  pub colour : s.colour < length sets
  pub some : s.first < s.end
  pub points : (z : ℕ) → Holds s z → has (set_of_colour sets s.colour) z ≡ true

-- the point stands in a span of the colour
pub record IsFound (spans : List Span) (colour z : ℕ) : Type 0 where
  pub span : Span
  pub listed : Contains spans span
  pub of_colour : span.colour ≡ colour
  pub holds : Holds span z

-- the spans of a colour hold all points of its set
abbrev pub AreFound : List (List ℕ) → List Span → ℕ → Type 0
AreFound sets spans colour =
    (z : ℕ) → has (set_of_colour sets colour) z ≡ true → IsFound spans colour z

-- the point stands in two spans of different colours
pub record IsShared (spans : List Span) (z : ℕ) : Type 0 where
  pub one : Span
  pub other : Span
  pub one_listed : Contains spans one
  pub other_listed : Contains spans other
  pub colours : one.colour ≢ other.colour
  pub one_holds : Holds one z
  pub other_holds : Holds other z
