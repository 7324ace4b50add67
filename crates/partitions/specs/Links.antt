-- Links between points, which the numbers of a field make, and what they lead to.
use Rattle.std.specs.Prelude.{ℕ, ℤ, ◌<◌, List, [], ◌∷◌, ◌++◌, All, map, filter, Bool, cond, nat_lt}
use Rattle.std.specs.Prelude.{◌==◌, Option, Some, None}
use Rattle.std.specs.List.{flat_map}
use Rattle.std.specs.List.Sorted.{IsNonDecreasingBy}
use Rattle.plain_values.specs.Points.{has, union_of}
use Rattle.point_sets.specs.declared.TheConstants.{POINT_LIMIT}
use Rattle.regent_tree.specs.Partitions.{point_named}
use Rattle.partitions.specs.declared.links.Link.{Link}
use Rattle.partitions.specs.declared.links.Direction.{Direction}
use Rattle.partitions.specs.declared.links.Direction.TheVariants.{Forward, Backward}

-- the rising list of the numbers of a list
abbrev pub set_of : List ℕ → List ℕ
set_of xs = union_of xs []

-- a number that a point can have
abbrev pub in_range : Option ℕ → Option ℕ
in_range None = None
in_range (Some x) = cond (nat_lt x POINT_LIMIT) (Some x) None

-- the link between a point and the one that is named
abbrev pub link : Direction → ℕ → ℕ → Link
link Forward point named = record { from = point; to = named }
link Backward point named = record { from = named; to = point }

-- the links of one point: at most one, which ends in the parent
abbrev pub links_at : Direction → List ℕ → ℕ → Option ℕ → List Link
links_at direction parent point None = []
links_at direction parent point (Some named) =
    let l = link direction point named in
    cond (has parent l.to) (l ∷ []) []

-- the links of a region's points
abbrev pub links_of : Direction → List ℕ → Bool → List ℕ → List ℤ → List Link
links_of direction parent pointers [] zs = []
links_of direction parent pointers (x ∷ xs) [] = []
links_of direction parent pointers (x ∷ xs) (z ∷ zs) =
    links_at direction parent x (in_range (point_named pointers z))
    ++ links_of direction parent pointers xs zs

-- whether a link goes from a point
abbrev pub leads_from : ℕ → Link → Bool
leads_from x l = l.from == x

-- the points to which links lead from a point, and from some point of a list
abbrev pub targets_at : List Link → ℕ → List ℕ
targets_at links x = map (λ (l : Link). l.to) (filter (leads_from x) links)

abbrev pub targets_of : List Link → List ℕ → List ℕ
targets_of links points = set_of (flat_map (targets_at links) points)

-- links in the order of the points from which they go, which lead to points
pub record AreLinks (links : List Link) : Type 0 where
  pub ordered : IsNonDecreasingBy (λ (l : Link). l.from) links
  pub below : All (λ (l : Link). l.to < POINT_LIMIT) links
