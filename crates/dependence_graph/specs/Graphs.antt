-- The graph: operations with what they wait for, and those that have not ended with their needs.
use Rattle.std.specs.Prelude.{◌∷◌, ◌++◌, List, [], cond, length, set, suc, ℕ}
use Rattle.region_finder.specs.Listings.{Listed, all_uncovered, earlier, inserted, listed, without}
use Rattle.region_tree.specs.Trees.{RegionTree}
use Rattle.region_tree.specs.declared.needs.Need.{Need}
use Rattle.region_tree.specs.declared.needs.Needs.{Needs}
use Rattle.region_tree.specs.declared.tree.OpNumber.{OpNumber}
use Rattle.dependence_graph.specs.Knots.{given_up, knot_at, number, some_failed, with_stage}
use Rattle.dependence_graph.specs.declared.stage.How.{How}
use Rattle.dependence_graph.specs.declared.stage.How.TheVariants as how
use Rattle.dependence_graph.specs.Entries.{Knot}
use Rattle.dependence_graph.specs.declared.stage.Stage.{Stage}
use Rattle.dependence_graph.specs.declared.stage.Stage.TheVariants as stage
use Rattle.dependence_graph.specs.declared.stage.Waiting.{Waiting}
use Rattle.dependence_graph.specs.declared.stage.Waiting.TheVariants as wait

-- each operation in order of issue, and what the finder lists: those that have not ended as Done
pub record Waits : Type 0 where
  pub knots : List Knot
  pub listing : List Listed

-- main alone, which has begun
abbrev pub new_graph : Waits
new_graph = record {
  knots = record { parent = number 0; on = []; stage = stage.Begun } ∷ [];
  listing = [];
}

-- ---- issue

-- an operation that waits for others, in one stage or, where one of them has failed, in another
abbrev pub knot_on : List Knot → OpNumber → List OpNumber → Stage → Stage → Knot
knot_on ks parent on good bad =
    record { parent = parent; on = on; stage = cond (some_failed ks on) bad good }

-- it waits for the earlier children of its parent that have not ended and that it interferes with
abbrev pub issued_one : RegionTree → Waits → OpNumber → List Need → Waits
issued_one t g parent needs = record {
  knots = g.knots ++ knot_on g.knots parent (earlier t g.listing parent.0 needs) stage.Waiting stage.Dropped ∷ [];
  listing = inserted (listed t parent (number (length g.knots)) needs) g.listing;
}

abbrev pub issued_each : RegionTree → Waits → OpNumber → List Needs → Waits
issued_each t g parent [] = g
issued_each t g parent (n ∷ ns) = issued_each t (issued_one t g parent n.items) parent ns

-- From a number on operations have these needs, and what one of them covers of earlier ones is listed no more.
abbrev pub covered_each : ℕ → List Needs → Waits → ℕ → Waits
covered_each context [] g k = g
covered_each context (n ∷ ns) g k =
    covered_each context ns
    (record { knots = g.knots; listing = all_uncovered context k n.items g.listing }) (suc k)

abbrev pub issued : RegionTree → Waits → OpNumber → List Needs → Waits
issued t g parent ns = covered_each parent.0 ns (issued_each t g parent ns) (length g.knots)

-- ---- the other steps

abbrev pub with_knots : Waits → List Knot → Waits
with_knots g ks = record { knots = ks; listing = g.listing }

abbrev pub begun : Waits → ℕ → Waits
begun g op = with_knots g (with_stage g.knots op stage.Begun)

-- what a parked operation waits for: nothing, its children that interfere with a part, or a child
abbrev pub waited : RegionTree → List Listed → ℕ → Waiting → List OpNumber
waited t ls op wait.Nothing = []
waited t ls op (wait.Part needs) = earlier t ls op needs.items
waited t ls op (wait.Child child) = child ∷ []

abbrev pub parked_on : Waits → ℕ → List OpNumber → Waits
parked_on g op on =
    with_knots g (set g.knots op (knot_on g.knots (knot_at g.knots op).parent on stage.Parked stage.Stopped))

abbrev pub parked : RegionTree → Waits → ℕ → Waiting → Waits
parked t g op on = parked_on g op (waited t g.listing op on)

-- one that ends as Done is listed no more, and after one that failed those that wait for it give up
abbrev pub ended : Waits → ℕ → How → Waits
ended g op how.Done = record {
  knots = with_stage g.knots op stage.Done;
  listing = without g.listing op;
}
ended g op how.Failed = with_knots g (given_up (with_stage g.knots op stage.Failed))
