-- What partition operations and new roots are, over regions and partitions that fit.
use Rattle.std.specs.Prelude.{Bool, List, [], length, ℕ, ℤ, ◌++◌, ◌∷◌, ◌≡◌, ◌≤◌}
use Rattle.plain_values.specs.Points.{points}
use Rattle.regent_tree.specs.Laws.{Shape, shape_of}
use Rattle.regent_tree.specs.Partitions.{both_flag, both_sets, by_field_flag, by_field_sets, either_flag, either_sets, equal_flag, equal_sets, image_flag, image_sets, minus_flag, minus_sets, preimage_flag, preimage_sets}
use Rattle.regent_tree.specs.StaticTypes.{field_kinds}
use Rattle.regent_tree.specs.Store.{Store, new_root}
use Rattle.regent_tree.specs.Syntax.{Tree}
use Rattle.regent_tree.specs.Values.{Partition, Region}
use Rattle.value_laws.specs.Shapes.{AreRootsOfSpaces, IsPartitionOf, IsRegionOf, StoreFits, most_colours, most_points}

-- a partition of a root
abbrev pub partition : ℕ → Bool → List (List ℕ) → Partition
partition root disjoint sets = record { root = root; disjoint = disjoint; sets = sets }

-- Each operation gives a partition of its parent's root, with the flag that the static type has too: it is true
-- of the sets. A union asks for two partitions of one root.
pub record AreOperationsTrue (roots : List Shape) (space other : ℕ) : Type 0 where
  pub equal : (q : Region) (n : ℕ) → IsRegionOf roots space q → n ≤ most_colours →
      IsPartitionOf roots space equal_flag (partition q.root equal_flag (equal_sets q.points n))
  pub by_field : (q : Region) (zs : List ℤ) (n : ℕ) → IsRegionOf roots space q → n ≤ most_colours →
      IsPartitionOf roots space by_field_flag (partition q.root by_field_flag (by_field_sets q.points zs n))
  pub image : (q : Region) (sets : List (List ℕ)) (r : List ℕ) (zs : List ℤ) (pointers : Bool) →
      IsRegionOf roots space q → length sets ≤ most_colours →
      IsPartitionOf roots space image_flag (partition q.root image_flag (image_sets q.points sets r zs pointers))
  pub preimage : (q r : Region) (old : Partition) (third : ℕ) (d : Bool) (zs : List ℤ) (pointers : Bool) →
      IsRegionOf roots space q → IsPartitionOf roots other d old → IsRegionOf roots third r →
      IsPartitionOf roots space (preimage_flag d)
      (partition q.root (preimage_flag old.disjoint) (preimage_sets q.points old.sets r.points zs pointers))
  pub both : (p q : Partition) (d f : Bool) → IsPartitionOf roots space d p → IsPartitionOf roots other f q →
      IsPartitionOf roots space (both_flag d f)
      (partition p.root (both_flag p.disjoint q.disjoint) (both_sets p.sets q.sets))
  pub difference : (p q : Partition) (d : Bool) → IsPartitionOf roots space d p →
      IsPartitionOf roots space (minus_flag d) (partition p.root (minus_flag p.disjoint) (minus_sets p.sets q.sets))
  pub either : (p q : Partition) (d f : Bool) → IsPartitionOf roots space d p → IsPartitionOf roots other f q →
      p.root ≡ q.root → IsPartitionOf roots space either_flag (partition p.root either_flag (either_sets p.sets q.sets))

abbrev pub OperationsAreTrue : Type 0
OperationsAreTrue = (tree : Tree) (roots : List Shape) → AreRootsOfSpaces tree roots → (space other : ℕ) →
    AreOperationsTrue roots space other

-- A new root has the columns of its field space, and its zeros are kept; its points are a region of it.
pub record IsRootMade (tree : Tree) (roots : List Shape) (store : Store) (space count : ℕ) : Type 0 where
  pub after : List Shape
  pub is : after ≡ roots ++ shape_of (new_root space count (field_kinds tree space)) ∷ []
  pub rooted : AreRootsOfSpaces tree after
  pub store_fits : StoreFits tree after (store ++ new_root space count (field_kinds tree space) ∷ [])
  pub region : IsRegionOf after space (record { root = length store; points = points count })

abbrev pub RootsAreMade : Type 0
RootsAreMade = (tree : Tree) (roots : List Shape) (store : Store) (space count : ℕ) → AreRootsOfSpaces tree roots →
    StoreFits tree roots store → count ≤ most_points → IsRootMade tree roots store space count
