-- When a partition is refused.
use Rattle.std.specs.Prelude.{◌≡◌, ◌≢◌, ℕ, ◌<◌, Bool, true, false, List, length, Result, Ok, Err}
use Rattle.plain_values.specs.Points.{has, within}
use Rattle.region_tree.specs.Sharing.{AreSharing, IsLeastShared, set_of_colour}
use Rattle.region_tree.specs.declared.fault.TreeFault.{TreeFault}
use Rattle.region_tree.specs.declared.fault.TreeFault.TheVariants.{NotWithin, NotDisjoint, Memory}
use Rattle.region_tree.specs.declared.content.Node.{Node}

-- no set leaves the points of the region
abbrev pub AreWithin : List ℕ → List (List ℕ) → Type 0
AreWithin points sets = (c : ℕ) → c < length sets → within (set_of_colour sets c) points ≡ true

-- the point is the first of a set that the region lacks
pub record IsOutside (points set : List ℕ) (point : ℕ) : Type 0 where
  pub in_set : has set point ≡ true
  pub outside : has points point ≡ false
  pub least : (q : ℕ) → q < point → has set q ≡ true → has points q ≡ true

-- the set of the colour is the first that leaves the region, and does so first at the point
pub record FirstOutside (points : List ℕ) (sets : List (List ℕ)) (colour point : ℕ) : Type 0 where
  pub below : colour < length sets
  pub earlier : (c : ℕ) → c < colour → within (set_of_colour sets c) points ≡ true
  pub leaves : IsOutside points (set_of_colour sets colour) point

-- the point is the least that two sets share, and the colours are the first two whose sets have it
pub record FirstShared (sets : List (List ℕ)) (a b point : ℕ) : Type 0 where
  pub shared : AreSharing sets a b point
  pub least : IsLeastShared sets point
  pub first : (c : ℕ) → c < b → c ≢ a → has (set_of_colour sets c) point ≡ false

-- A partition of a region into these sets may be refused so: where a set leaves the region; where
-- none does, it is to be disjoint, and two sets share a point; for want of memory.
abbrev pub Refuses : List ℕ → List (List ℕ) → Bool → TreeFault → Type 0
Refuses points sets disjoint (NotWithin colour point) = FirstOutside points sets colour point
Refuses points sets disjoint (NotDisjoint a b point) =
    AreWithin points sets × (disjoint ≡ true) × FirstShared sets a b point
Refuses points sets disjoint (Memory e) = Unit {0}

-- the answer says that a set leaves the region, or is for want of memory
abbrev pub TellsLeaving : Result Node TreeFault → Type 0
TellsLeaving (Ok n) = ⊥
TellsLeaving (Err (NotWithin colour point)) = Unit {0}
TellsLeaving (Err (NotDisjoint a b point)) = ⊥
TellsLeaving (Err (Memory e)) = Unit {0}

-- the answer says that two sets share a point, or is for want of memory
abbrev pub TellsSharing : Result Node TreeFault → Type 0
TellsSharing (Ok n) = ⊥
TellsSharing (Err (NotWithin colour point)) = ⊥
TellsSharing (Err (NotDisjoint a b point)) = Unit {0}
TellsSharing (Err (Memory e)) = Unit {0}
