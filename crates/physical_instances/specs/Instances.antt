-- The instances of a field: a base with a number beside each point of the root, and further ones with numbers beside
-- some points. Beside each point stands which of them is current there: 0 is the base, and k + 1 the further one at
-- place k.
use Rattle.std.specs.Prelude.{◌≡◌, ◌==◌, ◌+◌, ◌++◌, List, [], ◌∷◌, Option, None, Some, cond, get_or, nat_lt, set, suc, unwrap_or, zero, ℕ, ℤ}
use Rattle.plain_values.specs.Points.{has}
use Rattle.lane_kernels.specs.declared.numbers.Mode.{Mode}
use Rattle.lane_kernels.specs.declared.numbers.Mode.TheVariants.{Reduce}
use Rattle.region_tree.specs.Pieces.{Held}
use Rattle.logical_map.specs.Maps.{number_beside}
use Rattle.reduction_folds.specs.declared.fold.Fold.{Fold}

-- points of a root, with a number beside each
pub record Beside : Type 0 where
  pub points : List ℕ
  pub numbers : List ℤ

-- ---- current numbers

-- the number that a further instance has at a point, or another where it lacks the point
abbrev pub number_held : Option Held → ℕ → ℤ → ℤ
number_held None p z = z
number_held (Some h) p z = unwrap_or (number_beside h.points h.values p) z

abbrev pub current : List (Option Held) → ℕ → ℕ → ℤ → ℤ
current further zero p z = z
current further (suc k) p z = number_held (get_or further k None) p z

abbrev pub current_beside : List (Option Held) → List ℕ → List ℕ → List ℤ → List ℤ
current_beside further (p ∷ ps) (v ∷ vs) (z ∷ zs) = current further v p z ∷ current_beside further ps vs zs
current_beside further _ _ zs = zs

-- ---- a piece that comes back

-- the piece's numbers stand at its points
abbrev pub written : Held → List ℕ → List ℤ → List ℤ
written h (p ∷ ps) (z ∷ zs) = number_held (Some h) p z ∷ written h ps zs
written h _ zs = zs

-- at its points one instance is current
abbrev pub marked : ℕ → List ℕ → List ℕ → List ℕ → List ℕ
marked which xs (p ∷ ps) (v ∷ vs) = cond (has xs p) which v ∷ marked which xs ps vs
marked which xs _ vs = vs

-- ---- at how many points each is current

abbrev pub count_of : ℕ → List ℕ → ℕ
count_of v [] = 0
count_of v (w ∷ ws) = cond (w == v) (suc (count_of v ws)) (count_of v ws)

abbrev pub AreCounts : List ℕ → List ℕ → Type 0
AreCounts counts valid = (v : ℕ) → get_or counts v 0 ≡ count_of v valid

-- those that are current nowhere are dropped
abbrev pub trimmed : List ℕ → List (Option Held) → List (Option Held)
trimmed (c ∷ cs) (f ∷ fs) = cond (nat_lt 0 c) f None ∷ trimmed cs fs
trimmed _ fs = fs

-- ---- elements that are moved

-- so many values from a place on are what the points beside them get, and the others are as they were
abbrev pub put_at : (ℕ → ℤ) → List ℕ → ℕ → ℕ → List ℤ → List ℤ
put_at f ps place zero zs = zs
put_at f ps place (suc n) zs = set (put_at f ps place n zs) (place + n) (f (get_or ps (place + n) 0))

abbrev pub ArePut : (ℕ → ℤ) → List ℕ → ℕ → ℕ → List ℤ → List ℤ → Type 0
ArePut f ps place n before after = after ≡ put_at f ps place n before

-- ---- reductions that wait

abbrev pub fold_of : Mode → Held → List Fold
fold_of (Reduce op) h = record { op = op; points = h.points; values = h.values } ∷ []
fold_of _ h = []

abbrev pub folds_of : List Held → List Fold
folds_of [] = []
folds_of (h ∷ hs) = fold_of h.mode h ++ folds_of hs
