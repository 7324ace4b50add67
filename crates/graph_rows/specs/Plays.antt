-- What a play keeps: its graph lists needs of its forest, and it knows what was issued by which operation.
use Rattle.std.specs.Prelude.{◌≡◌, ◌<◌, ◌≤◌, ◌+◌, All, List, length, ℕ}
use Rattle.dependence_graph.specs.Entries.{Knot}
use Rattle.dependence_graph.specs.Graphs.{Waits}
use Rattle.dependence_graph.specs.Knots.{knot_at}
use Rattle.graph_rows.specs.declared.family.Family.{Family}
use Rattle.region_finder.specs.Listings.{IsListingOf}
use Rattle.region_tree.specs.Trees.{RegionTree}

-- a number is one of those that the issue gave to the parent
pub record IsOf (f : Family) (parent child : ℕ) : Type 0 where
  pub issuer : f.parent.0 ≡ parent
  pub from : f.children.first.0 ≤ child
  pub below : child < f.children.first.0 + f.children.count

-- all of these were issued by the parent
abbrev pub IsIssuedBy : List Knot → Family → Type 0
IsIssuedBy ks f =
    (child : ℕ) → IsOf f f.parent.0 child → (child < length ks) × ((knot_at ks child).parent.0 ≡ f.parent.0)

abbrev pub AreIssued : List Knot → List Family → Type 0
AreIssued ks fs = All (IsIssuedBy ks) fs

pub record IsPlay (t : RegionTree) (g : Waits) (fs : List Family) : Type 0 where
  pub listing : IsListingOf t g.listing
  pub issued : AreIssued g.knots fs
