-- The needs of listed operations, one by one: the users of regions.
use Rattle.std.specs.Prelude.{◌∷◌, ◌++◌, ◌==◌, [], Bool, IsPermutation, List, map, not, ℕ}
use Rattle.region_finder.specs.Listings.{IsPlaced, Listed, PlacedNeed}
use Rattle.region_tree.specs.Trees.{RegionTree}
use Rattle.region_tree.specs.declared.tree.OpNumber.{OpNumber}
use Rattle.region_walk.specs.Placing.{IsRising}

-- a need with the operation that has it, and that one's context
pub record ListedNeed : Type 0 where
  pub context : OpNumber
  pub op : OpNumber
  pub placed : PlacedNeed

abbrev pub listed_need : OpNumber → OpNumber → PlacedNeed → ListedNeed
listed_need context op n = record { context = context; op = op; placed = n }

-- the needs of an operation, and of all that are listed
abbrev pub users_in : Listed → List ListedNeed
users_in l = map (listed_need l.context l.op) l.needs

abbrev pub users_of : List Listed → List ListedNeed
users_of [] = []
users_of (l ∷ ls) = users_in l ++ users_of ls

-- a need of another operation
abbrev pub is_of_another : ℕ → ListedNeed → Bool
is_of_another op u = not (u.op.0 == op)

-- it stands in a tree as it says
abbrev pub IsUser : RegionTree → ListedNeed → Type 0
IsUser t u = IsPlaced t u.placed

-- operations in rising order, and all their users in some order
pub record IsIndexed (ls : List Listed) (us : List ListedNeed) : Type 0 where
  pub rising : IsRising ls
  pub users : IsPermutation (users_of ls) us
