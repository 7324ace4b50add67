-- Worked rows, by which the definitions can be read.
use Rattle.std.specs.Prelude.{◌≡◌, ℕ, Bool, true, false, List, [], ◌∷◌}
use Rattle.lane_kernels.specs.declared.numbers.Mode.{Mode}
use Rattle.lane_kernels.specs.declared.numbers.Mode.TheVariants.{Read, Write, Reduce}
use Rattle.lane_kernels.specs.declared.numbers.Op.TheVariants.{Sum, Least}
use Rattle.region_tree.specs.Requirements.{Requirement, interfere, is_within, part_of}
use Rattle.region_tree.specs.Trees.{RegionTree, empty_tree, separated, with_partition, with_root}

-- a requirement of some points of root 0, in field 0
abbrev pub of_points : List ℕ → Mode → Requirement
of_points points m = record { root = 0; points = points; field = 0; mode = m }

-- the same of point 1 alone
abbrev pub of_one : Mode → List Requirement
of_one m = of_points (1 ∷ []) m ∷ []

pub record NeedRows : Type 0 where
  pub sum_in_write : is_within (of_one (Reduce Sum)) (of_one Write) ≡ true
  pub read_in_sum : is_within (of_one Read) (of_one (Reduce Sum)) ≡ false
  pub read_beside_sum :
      part_of (of_points (1 ∷ []) Read ∷ of_one (Reduce Sum)) 0 0 ≡ (1 ∷ [], Write) ∷ []
  pub read_meets_sum :
      part_of (of_points (1 ∷ 2 ∷ []) Read ∷ of_one (Reduce Sum)) 0 0
      ≡ (2 ∷ [], Read) ∷ (1 ∷ [], Write) ∷ []
  pub two_reads : interfere (of_one Read) (of_one Read) ≡ false
  pub two_sums : interfere (of_one (Reduce Sum)) (of_one (Reduce Sum)) ≡ false
  pub two_reductions : interfere (of_one (Reduce Sum)) (of_one (Reduce Least)) ≡ true

-- a root of two points, with a partition into one child for each
abbrev pub halves : Bool → RegionTree
halves disjoint =
    with_partition (with_root empty_tree (0 ∷ 1 ∷ [])) 0 ((0 ∷ []) ∷ (1 ∷ []) ∷ []) disjoint

-- the children are nodes 2 and 3, behind the root's node and the partition's
pub record TreeRows : Type 0 where
  pub children_apart : separated (halves true) 2 3 ≡ true
  pub aliased_children : separated (halves false) 2 3 ≡ false
  pub child_and_root : separated (halves true) 2 0 ≡ false
