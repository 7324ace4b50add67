-- Listed needs, and operations in rising order.
use Rattle.std.specs.Prelude.{◌<◌, ◌≤◌, ◌∷◌, [], All, List, drop, map, take, ℕ}
use Rattle.region_tree.specs.declared.needs.Need.{Need}
use Rattle.region_finder.specs.Listings.{Listed, PlacedNeed}

abbrev pub needs_placed : List PlacedNeed → List Need
needs_placed ns = map (λ (n : PlacedNeed). n.need) ns

-- all of these have greater numbers
abbrev pub AreBehind : ℕ → List Listed → Type 0
AreBehind op ls = All (λ (l : Listed). op < l.op.0) ls

-- the number of each is below those of all behind it
abbrev pub IsRising : List Listed → Type 0
IsRising [] = Unit {0}
IsRising (l ∷ ls) = AreBehind l.op.0 ls × IsRising ls

-- a place in a list in rising order: behind all operations up to a number, before all that are greater
pub record IsPlace (op : ℕ) (ls : List Listed) (place : ℕ) : Type 0 where
  pub before : All (λ (l : Listed). l.op.0 ≤ op) (take place ls)
  pub behind : AreBehind op (drop place ls)
