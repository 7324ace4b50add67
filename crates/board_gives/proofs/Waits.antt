-- What operations may wait for.
use Rattle.std.proofs.Common.{◌≡◌, ℕ, zero, suc, List, [], ◌∷◌, All, None, Option, Some, filter, slice_get, subst, sym}
use Rattle.std.proofs.lemmas.List.Elements.{All-filter, All-head, All-tail}
use Rattle.region_tree.specs.Needs.{AreNeeds, IsNeed}
use Rattle.region_tree.specs.Trees.{RegionTree}
use Rattle.region_tree.specs.declared.needs.Need.{Need}
use Rattle.region_tree.specs.declared.tree.OpNumber.{OpNumber}
use Rattle.dependence_graph.specs.Entries.{Knot}
use Rattle.dependence_graph.specs.Issues.{IsOwn, TakesNone}
use Rattle.board_terms.specs.Gives.{is_on, waits_for}
use Rattle.board_gives.specs.Gives.{IsIssuedBy}

-- some needs of a tree's regions are such
pub some_needs : (t : RegionTree) (ns ms : List Need) (root field : ℕ) → AreNeeds t ns → ms ≡ filter (is_on root field) ns → AreNeeds t ms
some_needs t ns ms root field a e = subst (AreNeeds t) (sym e) (All-filter (is_on root field) (IsNeed t) ns a)

-- a child by its place
pub own_child : (ks : List Knot) (op place : ℕ) (cs : List OpNumber) → All (IsIssuedBy ks op) cs → IsOwn ks op (waits_for (slice_get cs place))
own_child ks op place [] a = tt
own_child ks op zero (c ∷ cs) a = All-head (IsIssuedBy ks op) c cs a
own_child ks op (suc place) (c ∷ cs) a = own_child ks op place cs (All-tail (IsIssuedBy ks op) c cs a)

pub child_takes_none : (o : Option OpNumber) → TakesNone (waits_for o)
child_takes_none None = tt
child_takes_none (Some c) = tt
