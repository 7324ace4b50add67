-- The graph behind several issues, where one operation's knot is another one: nothing else changes.
use Rattle.std.proofs.Common.{◌≡◌, ◌<◌, ◌++◌, ◌∷◌, ◌∙◌, ◌||◌, ℕ, suc, List, Some, None, [], ap, arith, cond, length, refl, sym}
use Rattle.std.specs.Prelude.{nat_lt, set}
use Rattle.std.proofs.lemmas.Bool.{lt-ltb}
use Rattle.std.proofs.lemmas.List.{get_or_append_left, get_or-set_other, get_or-set_same, length-append, length-set, set-append_left}
use Rattle.region_finder.specs.Listings.{Listed, all_uncovered, earlier, inserted, listed}
use Rattle.region_tree.specs.Trees.{RegionTree}
use Rattle.region_tree.specs.declared.needs.Need.{Need}
use Rattle.region_tree.specs.declared.needs.Needs.{Needs}
use Rattle.region_tree.specs.declared.tree.OpNumber.{OpNumber}
use Rattle.dependence_graph.specs.Entries.{Knot}
use Rattle.dependence_graph.specs.Graphs.{Waits, covered_each, issued_each, knot_on}
use Rattle.dependence_graph.specs.Knots.{has_failed, knot_at, no_knot, number, some_failed, stage_at}
use Rattle.dependence_graph.specs.declared.stage.Stage.TheVariants as stage
use Rattle.board_trees.proofs.Kept.{by_number}

abbrev graph : List Knot → List Listed → Waits
graph ks ls = record { knots = ks; listing = ls }

-- ---- another knot that hasn't failed either

module _ (ks : List Knot) (k : ℕ) (x : Knot) (there : k < length ks) (alike : has_failed (Some x.stage) ≡ has_failed (Some (knot_at ks k).stage)) where
  failed_alike : (j : ℕ) → has_failed (stage_at (set ks k x) j) ≡ has_failed (stage_at ks j)
  failed_alike = by_number k (λ j. has_failed (stage_at (set ks k x) j) ≡ has_failed (stage_at ks j))
      ((λ i. has_failed (cond (nat_lt k (length-set ks k x i)) (Some (get_or-set_same ks k x no_knot there i).stage) None))
      ∙ ap (λ q. has_failed (cond q (Some x.stage) None)) (lt-ltb k (length ks) there) ∙ alike
      ∙ sym (ap (λ q. has_failed (cond q (Some (knot_at ks k).stage) None)) (lt-ltb k (length ks) there)))
      (λ j n i. has_failed (cond (nat_lt j (length-set ks k x i)) (Some (get_or-set_other ks k j x no_knot n i).stage) None))

  some_alike : (on : List OpNumber) → some_failed (set ks k x) on ≡ some_failed ks on
  some_alike [] = refl
  some_alike (o ∷ on) = λ i. failed_alike o.0 i || some_alike on i

-- ---- several are issued

module _ (t : RegionTree) (parent : OpNumber) (k : ℕ) where
  abbrev new_knot : List Knot → List Listed → List Need → Knot
  new_knot ks ls n = knot_on ks parent (earlier t ls parent.0 n) stage.Waiting stage.Dropped

  longer : (ks : List Knot) (x : Knot) → k < length ks → k < length (ks ++ x ∷ [])
  longer ks x l = let e = length-append ks (x ∷ []) in omega (arith, e, l)

  pub still_there : (ns : List Needs) (ks : List Knot) (ls : List Listed) → k < length ks → k < length (issued_each t (graph ks ls) parent ns).knots
  still_there [] ks ls l = l
  still_there (n ∷ ns) ks ls l = still_there ns (ks ++ new_knot ks ls n.items ∷ []) (inserted (listed t parent (number (length ks)) n.items) ls) (longer ks (new_knot ks ls n.items) l)

  pub knot_stays : (ns : List Needs) (ks : List Knot) (ls : List Listed) → k < length ks → knot_at (issued_each t (graph ks ls) parent ns).knots k ≡ knot_at ks k
  knot_stays [] ks ls l = refl
  knot_stays (n ∷ ns) ks ls l =
      knot_stays ns (ks ++ new_knot ks ls n.items ∷ []) (inserted (listed t parent (number (length ks)) n.items) ls) (longer ks (new_knot ks ls n.items) l)
      ∙ get_or_append_left ks (new_knot ks ls n.items ∷ []) no_knot k l

  pub issued_set : (ns : List Needs) (ks : List Knot) (ls : List Listed) (x : Knot) → k < length ks → has_failed (Some x.stage) ≡ has_failed (Some (knot_at ks k).stage) →
      issued_each t (graph (set ks k x) ls) parent ns
      ≡ graph (set (issued_each t (graph ks ls) parent ns).knots k x) (issued_each t (graph ks ls) parent ns).listing
  issued_set [] ks ls x l e = refl
  issued_set (n ∷ ns) ks ls x l e =
      (λ i. issued_each t (graph
      (set ks k x ++ record { parent = parent; on = earlier t ls parent.0 n.items; stage = cond (some_alike ks k x l e (earlier t ls parent.0 n.items) i) stage.Dropped stage.Waiting } ∷ [])
      (inserted (listed t parent (number (length-set ks k x i)) n.items) ls)) parent ns)
      ∙ ap (λ ys. issued_each t (graph ys (inserted (listed t parent (number (length ks)) n.items) ls)) parent ns) (sym (set-append_left ks (new_knot ks ls n.items ∷ []) k x l))
      ∙ issued_set ns (ks ++ new_knot ks ls n.items ∷ []) (inserted (listed t parent (number (length ks)) n.items) ls) x (longer ks (new_knot ks ls n.items) l)
      (e ∙ ap (λ (y : Knot). has_failed (Some y.stage)) (sym (get_or_append_left ks (new_knot ks ls n.items ∷ []) no_knot k l)))

-- ---- what is covered

pub covered_knots : (context : ℕ) (ns : List Needs) (ks other : List Knot) (ls : List Listed) (m : ℕ) →
    covered_each context ns (graph ks ls) m ≡ graph ks (covered_each context ns (graph other ls) m).listing
covered_knots context [] ks other ls m = refl
covered_knots context (n ∷ ns) ks other ls m = covered_knots context ns ks other (all_uncovered context m n.items ls) (suc m)
