-- Users at a node and below it, which stand next to each other.
use Rattle.std.specs.Prelude.{◌∷◌, ◌<◌, ◌≤◌, ◌==◌, ◌&&◌, ◌≡◌, [], Bool, List, cond, false, get_or, length, suc, true, zero, ℕ}
use Rattle.std.specs.List.{list_any}
use Rattle.region_tree.specs.declared.needs.Need.{Need}
use Rattle.region_walk.specs.Covering.{uncovered_entry}
use Rattle.region_walk.specs.Sides.{is_less, key}
use Rattle.region_walk.specs.Users.{ListedNeed}
use Rattle.region_walk.specs.declared.entries.Kept.{Kept}

-- the first list stands at the head of the second
abbrev pub begins : List ℕ → List ℕ → Bool
begins [] ys = true
begins (x ∷ xs) [] = false
begins (x ∷ xs) (y ∷ ys) = (x == y) && begins xs ys

-- a user has the context, root and field of another one, and its way goes on from that one's
abbrev pub is_under : ListedNeed → ListedNeed → Bool
is_under top u = begins (key top) (key u)

-- the place behind all users with smaller keys
pub record IsStart (top : ListedNeed) (us : List ListedNeed) (from : ℕ) : Type 0 where
  pub before : (i : ℕ) (d : ListedNeed) → i < from → is_less (key (get_or us i d)) (key top) ≡ true
  pub behind : (i : ℕ) (d : ListedNeed) → from ≤ i → i < length us → is_less (key (get_or us i d)) (key top) ≡ false

-- from one place up to another stand all that are under a user
pub record IsRange (top : ListedNeed) (us : List ListedNeed) (from to : ℕ) : Type 0 where
  pub before : (i : ℕ) (d : ListedNeed) → i < from → is_under top (get_or us i d) ≡ false
  pub behind : (i : ℕ) (d : ListedNeed) → to ≤ i → i < length us → is_under top (get_or us i d) ≡ false

-- behind so many users, of so many those are left that pass a test
abbrev pub sifted : (ListedNeed → Bool) → ℕ → ℕ → List ListedNeed → List ListedNeed
sifted p zero zero us = us
sifted p zero (suc n) [] = []
sifted p zero (suc n) (u ∷ us) = cond (p u) (u ∷ sifted p zero n us) (sifted p zero n us)
sifted p (suc k) n [] = []
sifted p (suc k) n (u ∷ us) = u ∷ sifted p k n us

-- ---- entries

-- the entry of one operation without what is covered, and the others as they are
abbrev pub uncovered_of : ℕ → ℕ → ℕ → List Need → Kept → Kept
uncovered_of one context op needs k = cond (k.entry.op.0 == one) (uncovered_entry context op needs k) k

-- some of these users are of an operation
abbrev pub have_op : List ListedNeed → ℕ → Bool
have_op us op = list_any (λ (u : ListedNeed). op == u.op.0) us

-- the same for all operations of users
abbrev pub uncovered_among : List ListedNeed → ℕ → ℕ → List Need → Kept → Kept
uncovered_among us context op needs k = cond (have_op us k.entry.op.0) (uncovered_entry context op needs k) k
