-- The order of users, and on which side of a way another one leaves it.
use Rattle.std.specs.Prelude.{◌<◌, ◌≤◌, ◌≡◌, ◌∷◌, ◌==◌, ◌&&◌, ◌⊎◌, [], All, Bool, List, cond, false, get_or, length, nat_lt, reverse, suc, true, zero, ℕ}
use Rattle.region_finder.specs.Forests.{Upward}
use Rattle.region_tree.specs.declared.needs.Need.{Need}
use Rattle.region_walk.specs.Users.{ListedNeed}

-- the way from the root's region down to a user's node
abbrev pub way_down : ListedNeed → List Upward
way_down u = reverse u.placed.way

-- ---- the order

abbrev pub numbers_of : List Upward → List ℕ
numbers_of [] = []
numbers_of (s ∷ ss) = s.0.0 ∷ s.1 ∷ numbers_of ss

-- by context, root and field, and then from the root down by partition and colour
abbrev pub key : ListedNeed → List ℕ
key u = u.context.0 ∷ u.placed.need.root.0 ∷ u.placed.need.field ∷ numbers_of (way_down u)

-- the least key in a context of a need's root and field
abbrev pub least_key : ℕ → Need → List ℕ
least_key context n = context ∷ n.root.0 ∷ n.field ∷ []

abbrev pub is_less : List ℕ → List ℕ → Bool
is_less [] [] = false
is_less [] (y ∷ ys) = true
is_less (x ∷ xs) [] = false
is_less (x ∷ xs) (y ∷ ys) = cond (nat_lt x y) true (cond (x == y) (is_less xs ys) false)

abbrev pub AtMost : List ℕ → List ℕ → Type 0
AtMost [] ys = Unit {0}
AtMost (x ∷ xs) [] = ⊥
AtMost (x ∷ xs) (y ∷ ys) = (x < y) ⊎ ((x ≡ y) × AtMost xs ys)

abbrev pub AreByKey : List ListedNeed → Type 0
AreByKey [] = Unit {0}
AreByKey (u ∷ us) = All (λ (v : ListedNeed). AtMost (key u) (key v)) us × AreByKey us

-- behind those whose keys are at most a user's, before the others
pub record IsPlaceByKey (u : ListedNeed) (us : List ListedNeed) (place : ℕ) : Type 0 where
  pub before : (k : ℕ) (d : ListedNeed) → k < place → AtMost (key (get_or us k d)) (key u)
  pub behind : (k : ℕ) (d : ListedNeed) → place ≤ k → k < length us → AtMost (key u) (key (get_or us k d))

-- ---- sides

-- a colour is less than another one, or greater
abbrev pub is_on_side : Bool → ℕ → ℕ → Bool
is_on_side true c d = nat_lt d c
is_on_side false c d = nat_lt c d

-- the second way goes with the first for so many steps, and then to a colour on that side, of the same partition
abbrev pub leaves : ℕ → Bool → List Upward → List Upward → Bool
leaves k side [] ts = false
leaves k side (s ∷ ss) [] = false
leaves zero side (s ∷ ss) (t ∷ ts) = (s.0.0 == t.0.0) && is_on_side side s.1 t.1
leaves (suc k) side (s ∷ ss) (t ∷ ts) = (s.0.0 == t.0.0) && ((s.1 == t.1) && leaves k side ss ts)

-- a user of the context has a need's root and field
abbrev pub is_of : ℕ → Need → ListedNeed → Bool
is_of context n u =
    (u.context.0 == context) && ((n.root.0 == u.placed.need.root.0) && (n.field == u.placed.need.field))

-- and its way leaves that of the need's node so
abbrev pub is_beside : ℕ → Need → List Upward → ℕ → Bool → ListedNeed → Bool
is_beside context n way k side u = is_of context n u && leaves k side way (way_down u)

-- the ways of two users leave another one alike
pub record LeaveAlike (context : ℕ) (n : Need) (way : List Upward) (u v : ListedNeed) : Type 0 where
  pub steps : ℕ
  pub side : Bool
  pub one : is_beside context n way steps side u ≡ true
  pub other : is_beside context n way steps side v ≡ true

-- between a user and a place behind it each is of another root or field, or leaves the way as that one does
pub record ArePassed (context : ℕ) (n : Need) (way : List Upward) (place end : ℕ) (us : List ListedNeed) : Type 0 where
  pub each : (i : ℕ) (d : ListedNeed) → place < i → i < end →
      (is_of context n (get_or us i d) ≡ false) ⊎ LeaveAlike context n way (get_or us place d) (get_or us i d)
