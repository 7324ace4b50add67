-- Words of 64 bits, and the sets that they hold.
use Rattle.std.specs.Prelude.{◌≡◌, ℕ, ◌+◌, ◌-◌, ◌*◌, ◌^◌, ◌<◌, ◌≤◌, Bool, true, false, not, List, [], ◌∷◌, length, slice_index, if◌then◌else◌, nat_lt}
use Rattle.bit_planes.specs.Planes.{has_point, count_below}
use Rattle.bit_planes.specs.declared.TheConstants.{WORD_LIMIT}

-- the set that words hold, the first one the points 0 to 63
abbrev pub number_of : List ℕ → ℕ
number_of [] = 0
number_of (w ∷ ws) = number_of ws * 2 ^ 64 + w

-- the same set so many words further on
abbrev pub placed : ℕ → List ℕ → ℕ
placed first words = number_of words * 2 ^ (64 * first)

-- the word of a number, where the first word has the number `first`: zero where no word is
abbrev pub word_at : ℕ → List ℕ → ℕ → ℕ
word_at first words number = if nat_lt number first then 0 else slice_index words (number - first)

-- how many points the words hold up to the end of each
pub record AreTotals (words totals : List ℕ) : Type 0 where
  pub size : length totals ≡ length words
  pub each : (k : ℕ) → k < length words → slice_index totals k ≡ count_below (has_point (number_of words)) (64 * (k + 1))

-- words from the first point's to the last point's, with their totals
pub record ArePlane (first : ℕ) (words totals : List ℕ) : Type 0 where
  pub within : first + length words ≤ WORD_LIMIT
  pub fit : (k : ℕ) → slice_index words k < 2 ^ 64
  pub first_holds : 0 < length words → 0 < slice_index words 0
  pub last_holds : 0 < length words → 0 < slice_index words (length words - 1)
  pub counted : AreTotals words totals

-- the first place from a number to below an end where a test holds, or the end
pub record IsFirst (p : ℕ → Bool) (from end place : ℕ) : Type 0 where
  pub ahead : from ≤ place
  pub within : place ≤ end
  pub none : (z : ℕ) → from ≤ z → z < place → p z ≡ false
  pub found : place < end → p place ≡ true

-- whether a set has a point, or else whether it lacks it
abbrev pub told : Bool → ℕ → ℕ → Bool
told true set z = has_point set z
told false set z = not (has_point set z)

-- a set has all its points in the words from a number to below another
pub record IsBetween (set start end : ℕ) : Type 0 where
  pub order : start ≤ end
  pub within : end ≤ WORD_LIMIT
  pub none_before : (z : ℕ) → z < 64 * start → has_point set z ≡ false
  pub none_behind : (z : ℕ) → 64 * end ≤ z → has_point set z ≡ false

-- words are a set's from a number on
pub record IsWindow (set from count : ℕ) (words : List ℕ) : Type 0 where
  pub size : length words ≡ count
  pub fit : (k : ℕ) → slice_index words k < 2 ^ 64
  pub same : (k i : ℕ) → k < count → i < 64 → has_point (slice_index words k) i ≡ has_point set (64 * (from + k) + i)
