-- Laws of the logical map.
use Rattle.std.specs.Prelude.{◌≡◌, ◌≢◌, ◌⊎◌, ◌+◌, All, List, [], ◌∷◌, Some, false, length, map, slice_get, true, ℕ, ℤ}
use Rattle.std.specs.List.Sorted.{IsStrictlyIncreasing}
use Rattle.lane_kernels.specs.Numbers.{FitsWidth, width_of}
use Rattle.lane_kernels.specs.declared.numbers.FieldKind.{FieldKind}
use Rattle.lane_kernels.specs.declared.numbers.Mode.{Mode}
use Rattle.lane_kernels.specs.declared.numbers.Mode.TheVariants.{Reduce}
use Rattle.lane_kernels.specs.declared.numbers.Op.{Op}
use Rattle.plain_values.specs.Points.{has, meets}
use Rattle.region_tree.specs.Pieces.{Held}
use Rattle.logical_map.specs.Fills.{blank, elements_of, moved_pieces, number_for}
use Rattle.logical_map.specs.Gives.{all_given_at, give_pieces, given_at, with_pieces}
use Rattle.logical_map.specs.Maps.{Column, IsThere, LogicalMap, closed, column_of, columns_of, is_live, number_at, number_in_column, on_column, opened, zero_of}

-- a number beside each point
abbrev pub IsWhole : Column → Type 0
IsWhole c = length c.numbers ≡ length c.points

-- ---- read after write

-- where pieces are given, the number is what they make of it
abbrev pub GivenIsRead : Type 0
GivenIsRead = (root field : ℕ) (hs : List Held) (roots : LogicalMap) (point : ℕ) → IsThere roots root field →
    IsWhole (column_of roots root field) → has (column_of roots root field).points point ≡ true →
    number_at (give_pieces root field hs roots) root field point
    ≡ all_given_at (width_of (column_of roots root field).kind) hs point (number_at roots root field point)

-- a piece leaves the points that it lacks
abbrev pub LackedPointStays : Type 0
LackedPointStays = (h : Held) (point : ℕ) → has h.points point ≡ false → (c : Column) (z : ℤ) →
    given_at (width_of c.kind) h point z ≡ z

-- other fields and roots stay, whatever a field becomes
abbrev pub OthersStay : Type 0
OthersStay = (root field : ℕ) (f : Column → Column) (roots : LogicalMap) (other k : ℕ) →
    (other ≢ root) ⊎ (k ≢ field) → column_of (on_column root field f roots) other k ≡ column_of roots other k

-- ---- gives that swap

abbrev pub GivesSwap : Held → Held → Column → Type 0
GivesSwap h g c = with_pieces (g ∷ []) (with_pieces (h ∷ []) c) ≡ with_pieces (h ∷ []) (with_pieces (g ∷ []) c)

-- pieces that share no point
abbrev pub ApartGivesSwap : Type 0
ApartGivesSwap = (h g : Held) (c : Column) → meets h.points g.points ≡ false → GivesSwap h g c

-- reductions by one operator, of numbers of the field's width
abbrev pub ReductionsSwap : Type 0
ReductionsSwap = (op : Op) (h g : Held) (c : Column) → h.mode ≡ Reduce op → g.mode ≡ Reduce op →
    All (FitsWidth (width_of c.kind)) h.values → All (FitsWidth (width_of c.kind)) g.values →
    All (FitsWidth (width_of c.kind)) c.numbers → GivesSwap h g c

-- changes of two fields
abbrev pub FieldsSwap : Type 0
FieldsSwap = (root field other k : ℕ) (f g : Column → Column) (roots : LogicalMap) →
    (other ≢ root) ⊎ (k ≢ field) →
    on_column root field f (on_column other k g roots) ≡ on_column other k g (on_column root field f roots)

-- ---- equality by points

abbrev pub PointsDecide : Type 0
PointsDecide = (c d : Column) → IsWhole c → IsWhole d → IsStrictlyIncreasing c.points → c.points ≡ d.points →
    c.kind ≡ d.kind → ((point : ℕ) → number_in_column c point ≡ number_in_column d point) → c ≡ d

-- ---- roots that come and go

-- a new root has fields of the given kinds, and holds their zeros
abbrev pub OpenedHoldsZeros : Type 0
OpenedHoldsZeros = (root : ℕ) (points : List ℕ) (kinds : List FieldKind) (roots : LogicalMap) →
    is_live roots root ≡ false → (field : ℕ) (kind : FieldKind) → slice_get kinds field ≡ Some kind →
    ((column_of (opened root points kinds roots) root field).kind ≡ kind)
    × ((point : ℕ) → has points point ≡ true → number_at (opened root points kinds roots) root field point ≡ zero_of kind)

abbrev pub OpenedKeepsOthers : Type 0
OpenedKeepsOthers = (root : ℕ) (points : List ℕ) (kinds : List FieldKind) (roots : LogicalMap) (other : ℕ) →
    other ≢ root → columns_of (opened root points kinds roots) other ≡ columns_of roots other

-- a closed root isn't live
abbrev pub ClosedIsGone : Type 0
ClosedIsGone = (root : ℕ) (roots : LogicalMap) → is_live (closed root roots) root ≡ false

abbrev pub ClosedKeepsOthers : Type 0
ClosedKeepsOthers = (root : ℕ) (roots : LogicalMap) (other : ℕ) → other ≢ root →
    columns_of (closed root roots) other ≡ columns_of roots other

-- ---- fills

-- two stretches of elements, one behind the other, are one
abbrev pub ChunksJoin : Type 0
ChunksJoin = (c : Column) (behind next more : ℕ) (hs : List Held) →
    moved_pieces c (behind + next) more (moved_pieces c behind next hs) ≡ moved_pieces c behind (next + more) hs

-- the piece that a field has for points in a mode
abbrev pub held_of : Column → List ℕ × Mode → Held
held_of c w = record { points = w.0; mode = w.1; values = map (number_for c w.1) w.0 }

-- when all was moved, each element has its number
abbrev pub AllIsMoved : Type 0
AllIsMoved = (c : Column) (wanted : List (List ℕ × Mode)) →
    moved_pieces c 0 (elements_of (map blank wanted)) (map blank wanted) ≡ map (held_of c) wanted
