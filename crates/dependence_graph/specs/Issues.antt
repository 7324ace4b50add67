-- What is asked of calls, and what they tell.
use Rattle.std.specs.Prelude.{◌≡◌, ◌<◌, All, Bool, List, false, length, nat_lt, true, ℕ}
use Rattle.region_finder.specs.Listings.{Listed}
use Rattle.region_tree.specs.Needs.{AreNeeds}
use Rattle.region_tree.specs.Trees.{RegionTree}
use Rattle.region_tree.specs.declared.needs.Needs.{Needs}
use Rattle.dependence_graph.specs.Entries.{Knot}
use Rattle.dependence_graph.specs.Graphs.{Waits}
use Rattle.dependence_graph.specs.Knots.{is_ready, knot_at}
use Rattle.dependence_graph.specs.declared.stage.Waiting.{Waiting}
use Rattle.dependence_graph.specs.declared.stage.Waiting.TheVariants.{Child, Nothing, Part}

abbrev pub AreAllNeeds : RegionTree → List Needs → Type 0
AreAllNeeds t ns = All (λ (n : Needs). AreNeeds t n.items) ns

-- what is waited for is no part, or one of needs of the tree
abbrev pub IsPartOf : RegionTree → Waiting → Type 0
IsPartOf t Nothing = Unit {0}
IsPartOf t (Part needs) = AreNeeds t needs.items
IsPartOf t (Child child) = Unit {0}

-- it is no child, or one that the operation has issued
abbrev pub IsOwn : List Knot → ℕ → Waiting → Type 0
IsOwn ks op Nothing = Unit {0}
IsOwn ks op (Part needs) = Unit {0}
IsOwn ks op (Child child) = (child.0 < length ks) × ((knot_at ks child.0).parent.0 ≡ op)

-- to wait for this takes no memory
abbrev pub TakesNone : Waiting → Type 0
TakesNone Nothing = Unit {0}
TakesNone (Part needs) = ⊥
TakesNone (Child child) = Unit {0}

-- it is ready, and none with a smaller number is
pub record IsFirstReady (ks : List Knot) (k : ℕ) : Type 0 where
  pub ready : is_ready ks k ≡ true
  pub least : (j : ℕ) → j < k → is_ready ks j ≡ false

-- operations with a listing
abbrev pub state : List Knot → List Listed → Waits
state ks ls = record { knots = ks; listing = ls }

-- whether an operation has a smaller number
abbrev pub is_below : ℕ → Listed → Bool
is_below first l = nat_lt l.op.0 first
