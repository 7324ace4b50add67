-- Worked rows, by which the bound can be read.
use Rattle.std.specs.Prelude.{◌∷◌, ◌≡◌, [], List, false, true, ℕ}
use Rattle.lane_kernels.specs.declared.numbers.Mode.TheVariants.{Write}
use Rattle.region_finder.specs.Listings.{Listed, earlier, listed}
use Rattle.region_tree.specs.Trees.{RegionTree, empty_tree, with_partition, with_root}
use Rattle.region_tree.specs.declared.needs.Need.{Need}
use Rattle.region_tree.specs.declared.tree.OpNumber.{OpNumber}
use Rattle.region_walk.specs.Near.{near_pairs, needs_of_context}

-- a root of 8 points in four disjoint colours, nodes 2 to 5, and one child of an aliased partition, node 7
abbrev pub quarters : RegionTree
quarters =
    with_partition
    (with_partition (with_root empty_tree (0 ∷ 1 ∷ 2 ∷ 3 ∷ 4 ∷ 5 ∷ 6 ∷ 7 ∷ [])) 0
    ((0 ∷ 1 ∷ []) ∷ (2 ∷ 3 ∷ []) ∷ (4 ∷ 5 ∷ []) ∷ (6 ∷ 7 ∷ []) ∷ []) true)
    0 ((0 ∷ 1 ∷ 2 ∷ []) ∷ []) false

abbrev pub writer : ℕ → List Need
writer node = record { root = record { 0 = 0 }; node = record { 0 = node }; field = 0; mode = Write } ∷ []

-- operations of main, which is 0
abbrev pub op : ℕ → OpNumber
op k = record { 0 = k }

abbrev pub write : ℕ → ℕ → Listed
write k node = listed quarters (op 0) (op k) (writer node)

-- writers on the first three colours
abbrev pub three_writers : List Listed
three_writers = write 1 2 ∷ write 2 3 ∷ write 3 4 ∷ []

abbrev pub steps_for : ℕ → ℕ
steps_for node = near_pairs quarters (writer node) (needs_of_context three_writers 0)

abbrev pub found_for : ℕ → List OpNumber
found_for node = earlier quarters three_writers 0 (writer node)

pub record WalkRows : Type 0 where
  pub fourth_colour : found_for 5 ≡ []
  pub fourth_colour_steps : steps_for 5 ≡ 0
  pub root : found_for 0 ≡ op 1 ∷ op 2 ∷ op 3 ∷ []
  pub root_steps : steps_for 0 ≡ 3
  pub aliased : found_for 7 ≡ op 1 ∷ op 2 ∷ []
  pub aliased_steps : steps_for 7 ≡ 3
