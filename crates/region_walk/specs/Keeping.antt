-- Operations that were listed, of which some have ended, and the users of all of them.
use Rattle.std.specs.Prelude.{◌∷◌, ◌≡◌, ◌≤◌, ◌<◌, ◌==◌, ◌||◌, [], All, Bool, List, cond, filter, get_or, length, map, not, true, ℕ}
use Rattle.region_finder.specs.Listings.{Listed, has_op}
use Rattle.region_walk.specs.Placing.{IsRising}
use Rattle.region_walk.specs.Users.{IsIndexed, ListedNeed}
use Rattle.region_walk.specs.declared.entries.Kept.{Kept}

-- the entries of all, and of those that haven't ended
abbrev pub entries_of : List Kept → List Listed
entries_of ks = map (λ (k : Kept). k.entry) ks

abbrev pub live : List Kept → List Listed
live [] = []
live (k ∷ ks) = cond k.ended (live ks) (k.entry ∷ live ks)

abbrev pub is_live : Kept → Bool
is_live k = not k.ended

-- an operation ends
abbrev pub end_op : ℕ → Kept → Kept
end_op op k = record { entry = k.entry; ended = k.ended || (k.entry.op.0 == op) }

-- behind all smaller operations, before the others
pub record IsPlaceAmong (op : ℕ) (ks : List Kept) (place : ℕ) : Type 0 where
  pub before : (i : ℕ) (d : Kept) → i < place → (get_or ks i d).entry.op.0 < op
  pub behind : (i : ℕ) (d : Kept) → place ≤ i → i < length ks → op ≤ (get_or ks i d).entry.op.0

-- an operation's entry stands at a place
pub record StandsAt (op : ℕ) (ks : List Kept) (place : ℕ) : Type 0 where
  pub below : place < length ks
  pub number : (d : Kept) → (get_or ks place d).entry.op.0 ≡ op

-- ---- users

-- a user's operation is listed
abbrev pub is_listed : List Listed → ListedNeed → Bool
is_listed ls u = has_op ls u.op.0

-- those users
abbrev pub live_users : List Listed → List ListedNeed → List ListedNeed
live_users ls us = filter (is_listed ls) us

-- entries in rising order, and users of their operations, among which are all of those that haven't ended
pub record AreKept (ks : List Kept) (us : List ListedNeed) : Type 0 where
  pub rising : IsRising (entries_of ks)
  pub known : All (λ (u : ListedNeed). has_op (entries_of ks) u.op.0 ≡ true) us
  pub indexed : IsIndexed (live ks) (live_users (live ks) us)
