-- What tasks need: region requirements (Legion, SC 2012).
use Rattle.std.specs.Prelude.{◌≡◌, ◌≢◌, ◌<◌, length, get_or, ◌⊎◌, ◌==◌, ◌&&◌, ◌||◌, ℕ, Bool}
use Rattle.std.specs.Prelude.{true, false, cond, map, filter}
use Rattle.std.specs.Prelude.{List, [], ◌∷◌, Option, Some, None}
use Rattle.std.specs.List.{Contains, list_any, list_all}
use Rattle.lane_kernels.specs.Modes.{Commute, in_conflict, joined, same_op}
use Rattle.lane_kernels.specs.declared.numbers.Mode.{Mode}
use Rattle.lane_kernels.specs.declared.numbers.Mode.TheVariants.{Read, Write, Reduce}
use Rattle.lane_kernels.specs.declared.numbers.Op.TheVariants.{Sum, Product, Least, Greatest}
use Rattle.plain_values.specs.Points.{has, meets, union_of}

-- points of a root that are needed in a field and a mode
pub record Requirement : Type 0 where
  pub root : ℕ
  pub points : List ℕ
  pub field : ℕ
  pub mode : Mode

-- ---- interference

-- Two requirements conflict where a point of one root is needed in one field by both, and their modes
-- conflict: all do but two readings, and two reductions by one operator.
abbrev pub conflict : Requirement → Requirement → Bool
conflict a b =
    (a.root == b.root) && (a.field == b.field) && in_conflict a.mode b.mode
    && meets a.points b.points

-- two tasks interfere where a requirement of the one conflicts with one of the other
abbrev pub interfere : List Requirement → List Requirement → Bool
interfere ours theirs = list_any (λ a. list_any (conflict a) theirs) ours

-- ---- the modes at one point

abbrev pub is_of : ℕ → ℕ → Requirement → Bool
is_of root field r = (r.root == root) && (r.field == field)

-- whether a field of a root is required at a point
abbrev pub is_at : ℕ → ℕ → ℕ → Requirement → Bool
is_at root field point r = is_of root field r && has r.points point

-- the modes in which it is
abbrev pub modes_at : List Requirement → ℕ → ℕ → ℕ → List Mode
modes_at rs root field point = map (λ r. r.mode) (filter (is_at root field point) rs)

-- the join of modes, onto what the earlier ones join to
abbrev pub join_onto : Option Mode → Mode → Option Mode
join_onto None m = Some m
join_onto (Some n) m = Some (joined n m)

abbrev pub join_from : Option Mode → List Mode → Option Mode
join_from o [] = o
join_from o (m ∷ ms) = join_from (join_onto o m) ms

-- the join of all modes at a point: none where the point isn't required
abbrev pub mode_at : List Requirement → ℕ → ℕ → ℕ → Option Mode
mode_at rs root field point = join_from None (modes_at rs root field point)

-- that at some root, field and point a mode of the first is in conflict with one of the second
pub record InterfereSomewhere (ours theirs : List Requirement) : Type 0 where
  pub root : ℕ
  pub field : ℕ
  pub point : ℕ
  pub one : Mode
  pub other : Mode
  pub first_has : Contains (modes_at ours root field point) one
  pub second_has : Contains (modes_at theirs root field point) other
  pub conflicts : ¬ Commute one other

-- ---- being within

abbrev pub same_mode : Mode → Mode → Bool
same_mode Read Read = true
same_mode Write Write = true
same_mode (Reduce p) (Reduce q) = same_op p q
same_mode _ _ = false

-- whether a mode at a point is subsumed by another: there is none, or the two are equal, or the
-- other is Write
abbrev pub is_subsumed : Option Mode → Option Mode → Bool
is_subsumed None n = true
is_subsumed (Some m) None = false
is_subsumed (Some m) (Some n) = same_mode m n || same_mode n Write

-- whether at each point of a requirement the modes of the first list are covered by the second's
abbrev pub covers : List Requirement → List Requirement → Requirement → Bool
covers ours theirs r =
    list_all (λ p. is_subsumed (mode_at ours r.root r.field p) (mode_at theirs r.root r.field p))
    r.points

-- whether the first requirements are within the second
abbrev pub is_within : List Requirement → List Requirement → Bool
is_within ours theirs = list_all (covers ours theirs) ours

-- that at each root, field and point the first modes' join is absent, or equals the second's, or
-- that is Write
abbrev pub IsWithin : List Requirement → List Requirement → Type 0
IsWithin ours theirs =
    (root field point : ℕ) →
    (mode_at ours root field point ≡ None)
    ⊎ ((mode_at ours root field point ≡ mode_at theirs root field point)
    ⊎ (mode_at theirs root field point ≡ Some Write))

-- ---- the parts of a field that are required, by mode

abbrev pub all_modes : List Mode
all_modes =
    Read ∷ Write ∷ Reduce Sum ∷ Reduce Product ∷ Reduce Least ∷ Reduce Greatest ∷ []

-- all points of the requirements for a field of a root
abbrev pub points_required : List Requirement → ℕ → ℕ → List ℕ
points_required [] root field = []
points_required (r ∷ rs) root field =
    cond (is_of root field r) (union_of r.points (points_required rs root field))
    (points_required rs root field)

abbrev pub is_mode : Mode → Option Mode → Bool
is_mode m None = false
is_mode m (Some n) = same_mode m n

-- those at which the modes' join is this one
abbrev pub points_joined : List Requirement → ℕ → ℕ → Mode → List ℕ
points_joined rs root field m =
    filter (λ p. is_mode m (mode_at rs root field p)) (points_required rs root field)

-- a part for each mode that has points
abbrev pub part_of_mode : List ℕ → Mode → List (List ℕ × Mode) → List (List ℕ × Mode)
part_of_mode [] m parts = parts
part_of_mode (x ∷ xs) m parts = (x ∷ xs, m) ∷ parts

abbrev pub parts_of_modes : List Requirement → ℕ → ℕ → List Mode → List (List ℕ × Mode)
parts_of_modes rs root field [] = []
parts_of_modes rs root field (m ∷ ms) =
    part_of_mode (points_joined rs root field m) m (parts_of_modes rs root field ms)

abbrev pub part_of : List Requirement → ℕ → ℕ → List (List ℕ × Mode)
part_of rs root field = parts_of_modes rs root field all_modes

-- ---- what is so of these parts

-- a part has points, and these are where the modes join to its mode
pub record IsPartOf (rs : List Requirement) (root field : ℕ) (q : List ℕ × Mode) : Type 0 where
  pub some : 0 < length q.0
  pub exact : (p : ℕ) → has q.0 p ≡ is_mode q.1 (mode_at rs root field p)

abbrev pub no_part : List ℕ × Mode
no_part = ([], Read)

-- two parts share no point, and are of different modes
abbrev pub PartsAreApart : List (List ℕ × Mode) → Type 0
PartsAreApart parts =
    (i j : ℕ) → i < j → j < length parts →
    (meets (get_or parts i no_part).0 (get_or parts j no_part).0 ≡ false)
    × ((get_or parts i no_part).1 ≢ (get_or parts j no_part).1)
