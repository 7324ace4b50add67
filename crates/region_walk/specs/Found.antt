-- Operations that are found one after the other, and kept in rising order.
use Rattle.std.specs.Prelude.{◌∷◌, ◌<◌, ◌≤◌, ◌==◌, ◌&&◌, [], All, Bool, List, cond, filter, get_or, length, nat_lt, ℕ}
use Rattle.region_tree.specs.Trees.{RegionTree}
use Rattle.region_tree.specs.declared.needs.Need.{Need}
use Rattle.region_tree.specs.declared.tree.OpNumber.{OpNumber}
use Rattle.region_walk.specs.Near.{is_met}
use Rattle.region_walk.specs.Users.{ListedNeed}

-- in the place of its number, unless it is there
abbrev pub put : OpNumber → List OpNumber → List OpNumber
put op [] = op ∷ []
put op (o ∷ os) =
    cond (nat_lt op.0 o.0) (op ∷ o ∷ os) (cond (op.0 == o.0) (o ∷ os) (o ∷ put op os))

-- if that is asked
abbrev pub put_where : Bool → OpNumber → List OpNumber → List OpNumber
put_where asked op found = cond asked (put op found) found

-- one after the other
abbrev pub put_all : List ListedNeed → List OpNumber → List OpNumber
put_all [] found = found
put_all (u ∷ us) found = put_all us (put u.op found)

-- the operations of those users of a context that conflict with some of these needs, beside what was found
abbrev pub put_met : RegionTree → ℕ → List Need → List ListedNeed → List OpNumber → List OpNumber
put_met t context [] us found = found
put_met t context (n ∷ ns) us found =
    put_met t context ns us (put_all (filter (is_met t context n) us) found)

-- the number of each is below those of all behind it
abbrev pub AreOrdered : List OpNumber → Type 0
AreOrdered [] = Unit {0}
AreOrdered (o ∷ os) = All (λ (p : OpNumber). o.0 < p.0) os × AreOrdered os

-- behind all smaller operations, before the others
pub record IsPlaceFor (op : OpNumber) (os : List OpNumber) (place : ℕ) : Type 0 where
  pub before : (k : ℕ) (d : OpNumber) → k < place → (get_or os k d).0 < op.0
  pub behind : (k : ℕ) (d : OpNumber) → place ≤ k → k < length os → op.0 ≤ (get_or os k d).0

abbrev pub stands_at : ℕ → OpNumber → List OpNumber → Bool
stands_at place op os = nat_lt place (length os) && ((get_or os place op).0 == op.0)
