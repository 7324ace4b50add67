-- Roots by their shapes, regions and partitions of roots with a field space, and the numbers that fields keep.
use Rattle.std.specs.List.{All}
use Rattle.std.specs.Prelude.{Bool, List, [], get_or, length, map, true, ℕ, ℤ, ◌<◌, ◌≡◌, ◌≤◌, ◌^◌}
use Rattle.lane_kernels.specs.Numbers.{FitsWidth, width_of}
use Rattle.partitions.specs.Laws.{NoneShared}
use Rattle.plain_values.specs.Points.{IsPoints}
use Rattle.regent_tree.specs.Laws.{Shape, shapes}
use Rattle.regent_tree.specs.StaticTypes.{field_kinds, field_term, kind_said}
use Rattle.regent_tree.specs.Store.{Store, no_root, read_at}
use Rattle.regent_tree.specs.Syntax.{Tree}
use Rattle.regent_tree.specs.Values.{Partition, Region, Target, kept_number, meant, null_target, point_target, target_of}
use Rattle.regent_tree.specs.declared.types.TypeTerm.{TypeTerm}
use Rattle.regent_tree.specs.declared.types.TypeTerm.TheVariants as typed

-- ---- roots

abbrev pub no_shape : Shape
no_shape = record { space = 0; count = 0; lengths = [] }

-- the most points that a root has, and the most colours of a partition
abbrev pub most_points : ℕ
most_points = 4194304

abbrev pub most_colours : ℕ
most_colours = 65536

-- a root has a number for each of its points in each field that its field space declares
pub record IsRootOfSpace (tree : Tree) (s : Shape) : Type 0 where
  pub bounded : s.count ≤ most_points
  pub columns : s.lengths ≡ map (λ k. s.count) (field_kinds tree s.space)

abbrev pub AreRootsOfSpaces : Tree → List Shape → Type 0
AreRootsOfSpaces tree roots = All (IsRootOfSpace tree) roots

-- ---- regions and partitions

-- points of a root with a field space
pub record IsRegionOf (roots : List Shape) (space : ℕ) (r : Region) : Type 0 where
  pub there : r.root < length roots
  pub of_space : (get_or roots r.root no_shape).space ≡ space
  pub points : IsPoints (get_or roots r.root no_shape).count r.points

-- A partition of a root with a field space: its flag is true of its sets, and it is set where the static
-- type says so.
pub record IsPartitionOf (roots : List Shape) (space : ℕ) (disjoint : Bool) (p : Partition) : Type 0 where
  pub there : p.root < length roots
  pub of_space : (get_or roots p.root no_shape).space ≡ space
  pub sets : All (IsPoints (get_or roots p.root no_shape).count) p.sets
  pub few : length p.sets ≤ most_colours
  pub flag : disjoint ≡ true → p.disjoint ≡ true
  pub apart : p.disjoint ≡ true → NoneShared p.sets

-- ---- pointers

-- null, or a point with a position from 0 to a count of regions. Position 0 is there for every type: a
-- view whose list has `wild` may have written it.
abbrev pub IsPosition : ℕ → Target → Type 0
IsPosition count null_target = Unit {0}
IsPosition count (point_target n i) = (n < 2 ^ 32) × (i ≤ count)

-- ---- what fields keep

-- how many regions a field's pointers may go into
abbrev pub regions_listed : TypeTerm → ℕ
regions_listed (typed.Pointer p) = length p.regions
regions_listed t = 0

-- a number that a field of a type may keep: it fits, a value has it, and a pointer's position is one of
-- the type's list
pub record IsKeptOf (t : TypeTerm) (z : ℤ) : Type 0 where
  pub fits : FitsWidth (width_of (kind_said t)) z
  pub same : kept_number (meant (kind_said t) [] z) ≡ z
  pub position : IsPosition (regions_listed t) (target_of (meant (kind_said t) [] z))

-- each field of each root keeps numbers of the type that the root's field space declares
abbrev pub KeepsNumbers : Tree → Store → Type 0
KeepsNumbers tree store = (root field point : ℕ) →
    IsKeptOf (field_term tree (get_or store root no_root).space field) (read_at store root field point)

-- a store has roots of these shapes, and keeps numbers of their fields' types
pub record StoreFits (tree : Tree) (roots : List Shape) (store : Store) : Type 0 where
  pub shapes_are : shapes store ≡ roots
  pub numbers : KeepsNumbers tree store
