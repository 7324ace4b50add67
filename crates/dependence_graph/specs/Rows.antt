-- Worked rows, by which it can be read how few numbers are kept.
use Rattle.std.specs.Prelude.{◌∷◌, ◌≡◌, [], List, length, map, suc, zero, ℕ}
use Rattle.lane_kernels.specs.declared.numbers.Mode.TheVariants.{Write}
use Rattle.region_finder.specs.Listings.{Listed}
use Rattle.region_tree.specs.Trees.{RegionTree, empty_tree, with_root}
use Rattle.region_tree.specs.declared.needs.Needs.{Needs}
use Rattle.region_tree.specs.declared.tree.OpNumber.{OpNumber}
use Rattle.dependence_graph.specs.Entries.{Knot}
use Rattle.dependence_graph.specs.Graphs.{Waits, issued, new_graph}
use Rattle.dependence_graph.specs.Knots.{number}

-- a root of two points, node 0
abbrev pub pair : RegionTree
pair = with_root empty_tree (0 ∷ 1 ∷ [])

-- what writes all of it
abbrev pub writer : Needs
writer = record { items = record { root = record { 0 = 0 }; node = record { 0 = 0 }; field = 0; mode = Write } ∷ [] }

-- main issues so many writers, each by a call of its own
abbrev pub writers : ℕ → Waits
writers zero = new_graph
writers (suc n) = issued pair (writers n) (number 0) (writer ∷ [])

-- what each operation waits for, and how many needs of each that is listed are left
abbrev pub waits_in : Waits → List (List OpNumber)
waits_in g = map (λ (k : Knot). k.on) g.knots

abbrev pub needs_left : Waits → List ℕ
needs_left g = map (λ (l : Listed). length l.needs) g.listing

pub record GraphRows : Type 0 where
  -- main, and four writers: each waits for the one before alone
  pub one_each : waits_in (writers 4) ≡ [] ∷ [] ∷ (number 1 ∷ []) ∷ (number 2 ∷ []) ∷ (number 3 ∷ []) ∷ []
  pub left : needs_left (writers 4) ≡ 0 ∷ 0 ∷ 0 ∷ 1 ∷ []
  -- those of one call are issued before any covers another
  pub at_once : waits_in (issued pair new_graph (number 0) (writer ∷ writer ∷ writer ∷ []))
      ≡ [] ∷ [] ∷ (number 1 ∷ []) ∷ (number 1 ∷ number 2 ∷ []) ∷ []
