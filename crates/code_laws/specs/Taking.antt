-- Regions that a task takes: what it may do with them, by what it needs.
use Rattle.std.specs.Prelude.{◌≡◌, ℕ, ◌<◌, ◌≤◌, List, [], ◌∷◌, map, true, false, Bool, ◌==◌, ◌&&◌, ◌||◌, ◌⊎◌, Option, Some, None, length, get_or}
use Rattle.std.specs.List.{Contains, list_any}
use Rattle.fact_laws.specs.Regions.{LiesWithin}
use Rattle.plain_values.specs.Points.{has}
use Rattle.lane_kernels.specs.declared.numbers.Mode.{Mode}
use Rattle.lane_kernels.specs.declared.numbers.Mode.TheVariants as mode
use Rattle.region_tree.specs.Requirements.{same_mode}
use Rattle.regent_tree.specs.Store.{Touch}
use Rattle.regent_tree.specs.Values.{Region, Value, a_truth, region_of}
use Rattle.regent_tree.specs.Facts.{is_subregion}
use Rattle.regent_tree.specs.declared.facts.Colour.{Colour}
use Rattle.regent_tree.specs.declared.facts.Known.{Known}
use Rattle.regent_tree.specs.declared.facts.Known.TheVariants.{Within}
use Rattle.regent_tree.specs.declared.facts.Term.{Term}
use Rattle.regent_tree.specs.declared.facts.Term.TheVariants as term
use Rattle.task_code.specs.declared.code.NeedCode.{NeedCode}
use Rattle.code_laws.specs.Steps.{Setting, Taking}

-- what is needed of parameters
abbrev pub needs_taken : Option Taking → List NeedCode
needs_taken None = []
needs_taken (Some y) = y.needs

-- which lie within which
abbrev pub pairs_taken : Option Taking → List (ℕ × ℕ)
pairs_taken None = []
pairs_taken (Some y) = y.within

-- by what is known of them
abbrev pub pairs_in : List Known → List (ℕ × ℕ)
pairs_in [] = []
pairs_in (Within (term.Name a) (term.Name b) ∷ ks) = (a, b) ∷ pairs_in ks
pairs_in (k ∷ ks) = pairs_in ks

abbrev pub known_of_pairs : List (ℕ × ℕ) → List Known
known_of_pairs ps = map (λ (p : ℕ × ℕ). Within (term.Name p.0) (term.Name p.1)) ps

-- ---- what may be done

-- a need in a mode allows an access: it is the same, or for writing
abbrev pub allows : Mode → Mode → Bool
allows m a = same_mode m a || same_mode m mode.Write

-- whether it follows that a parameter's region lies within another's
abbrev pub is_part : Taking → ℕ → ℕ → Bool
is_part y i j = is_subregion (known_of_pairs y.within) (term.Name i) (term.Name j)

-- whether a need allows an access to a field of a parameter's region, which lies within that of the need's
abbrev pub is_need : Taking → ℕ → ℕ → Mode → NeedCode → Bool
is_need y param field a n = is_part y param n.param && ((n.field == field) && allows n.mode a)

-- a region with a number lies within another: it is that one, or began as a part of one that lies within it
pub data LiesUp (y : Taking) : ℕ → ℕ → Type 0 where
  up_itself : (i : ℕ) → LiesUp y i i
  up_part : (i r j : ℕ) → y.params ≤ i → y.above i ≡ Some r → LiesUp y r j → LiesUp y i j

-- An access to a field of a region may be made: each parameter's within which it lies is needed so, or that of one within
-- which that lies. What the task made itself it has whole.
abbrev pub MayDo : Option Taking → Term → ℕ → Mode → Type 0
MayDo None r field a = Unit {0}
MayDo (Some y) (term.Name i) field a = (j : ℕ) → LiesUp y i j → j < y.params → list_any (is_need y j field a) y.needs ≡ true
MayDo (Some y) (term.Child p c) field a = ⊥

-- ---- what was given

-- the region of a parameter
abbrev pub given_region : List Value → ℕ → Region
given_region args i = region_of (get_or args i (a_truth false))

-- whether a touch is one of those that a need allows
abbrev pub is_asked : List Value → NeedCode → Touch → Bool
is_asked args n t = (n.field == t.field) && (allows n.mode t.access
    && (((given_region args n.param).root == t.root) && has (given_region args n.param).points t.point))

-- a region lies within another, and has its root, also where it has no points
abbrev pub IsSubregion : Region → Region → Type 0
IsSubregion q p = (q.root ≡ p.root) × LiesWithin q p

-- regions of parameters lie within others
abbrev pub AreParts : List Value → List (ℕ × ℕ) → Type 0
AreParts args ps = (p : ℕ × ℕ) → Contains ps p → IsSubregion (given_region args p.0) (given_region args p.1)

-- what names a region names no parameter
abbrev pub IsFresh : Option Taking → Term → Type 0
IsFresh None r = Unit {0}
IsFresh (Some y) (term.Name i) = y.params ≤ i
IsFresh (Some y) (term.Child p c) = ⊥

-- what is assigned is no loop's variable, where that may stand for the colour of a part as which a region began
abbrev pub MayChange : Option Taking → Bool → Type 0
MayChange None by_loop = Unit {0}
MayChange (Some y) by_loop = by_loop ≡ false

-- how a variable begins, by its number: as a part of a region with another number, or as none
abbrev pub BeginsWithin : Option Taking → ℕ → ℕ → Type 0
BeginsWithin None own r = Unit {0}
BeginsWithin (Some y) own r = (y.params ≤ own) × (y.above own ≡ Some r)

abbrev pub BeginsWhole : Option Taking → ℕ → Type 0
BeginsWhole None own = Unit {0}
BeginsWhole (Some y) own = (y.params ≤ own) × (y.above own ≡ None) × (y.piece own ≡ None)

-- and as which part
abbrev pub BeginsAt : Option Taking → ℕ → ℕ → Colour → Type 0
BeginsAt None own p c = Unit {0}
BeginsAt (Some y) own p c = y.piece own ≡ Some (p, c)

-- a region lies within that of a parameter, and is that one where the parameter names it
pub record IsGivenAs (args : List Value) (y : Taking) (r : Term) (q : Region) : Type 0 where
  pub number : ℕ
  pub named : r ≡ term.Name number
  pub place : ℕ
  pub up : LiesUp y number place
  pub below : place < y.params
  pub within : IsSubregion q (given_region args place)
  pub is : number < y.params → given_region args number ≡ q

-- A region is of a root that the task made itself, behind those that were there before it; or it lies within one that was given.
abbrev pub IsHadBy : Option Taking → Setting → Term → Region → Type 0
IsHadBy None x r q = length x.before ≤ q.root
IsHadBy (Some y) x r q = ((length x.before ≤ q.root) × IsFresh (Some y) r) ⊎ IsGivenAs x.args y r q

abbrev pub IsHad : Setting → Term → Region → Type 0
IsHad x r q = IsHadBy x.forms.takes x r q
