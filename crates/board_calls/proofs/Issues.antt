-- What children that are issued leave of what waits for what.
use Rattle.std.proofs.Common.{◌≡◌, ◌<◌, ◌∙◌, ◌+◌, ◌++◌, ℕ, List, [], ◌∷◌, All, ap, length, map, sym, ⊎_elim}
use Rattle.std.proofs.lemmas.Bool.{cases_lt, false≢true}
use Rattle.std.proofs.lemmas.List.{get_or_past, map-append}
use Rattle.std.proofs.lemmas.List.Elements.{All-map}
use Rattle.plain_values.specs.Points.{counted_from}
use Rattle.point_sets.proofs.Rising.{counted_from-+}
use Rattle.region_tree.specs.Trees.{RegionTree}
use Rattle.region_tree.specs.declared.needs.Needs.{Needs}
use Rattle.region_tree.specs.declared.tree.OpNumber.{OpNumber}
use Rattle.dependence_graph.proofs.Covering.{extends_covered}
use Rattle.dependence_graph.specs.Entries.{Knot}
use Rattle.dependence_graph.specs.Graphs.{Waits, issued}
use Rattle.dependence_graph.specs.Issues.{AreAllNeeds}
use Rattle.dependence_graph.specs.Knots.{is_in_progress, knot_at, no_knot, number}
use Rattle.dependence_graph.specs.declared.stage.Stage.TheVariants.{Begun}
use Rattle.region_tree.specs.Needs.{AreNeeds}
use Rattle.machine_terms.specs.declared.frame.Frame.{Frame}
use Rattle.board_terms.specs.Calls.{needs_of}
use Rattle.board_calls.specs.Calls.{HasNeedsOf, numbers_from}

pub all_need : (t : RegionTree) (fs : List Frame) → All (HasNeedsOf t) fs → AreAllNeeds t (needs_of fs)
all_need t fs a = All-map (λ (n : Needs). AreNeeds t n.items) (λ (f : Frame). f.needs) fs a

-- one that has begun is there
begun_there : (ks : List Knot) (k : ℕ) → (knot_at ks k).stage ≡ Begun → k < length ks
begun_there ks k e = ⊎_elim
    (λ b. b)
    (λ g. absurd (false≢true (sym (ap (λ (x : Knot). is_in_progress x.stage) (get_or_past ks k no_knot g)) ∙ ap is_in_progress e)))
    (cases_lt k (length ks))

pub begun_issued : (t : RegionTree) (op : OpNumber) (ns : List Needs) (g : Waits) → (knot_at g.knots op.0).stage ≡ Begun →
    (knot_at (issued t g op ns).knots op.0).stage ≡ Begun
begun_issued t op ns g h = ap (λ (x : Knot). x.stage) ((extends_covered t op ns g).same op.0 (begun_there g.knots op.0 h)) ∙ h

-- ---- numbers

pub numbers_more : (first n : ℕ) → numbers_from first (n + 1) ≡ numbers_from first n ++ number (first + n) ∷ []
numbers_more first n = ap (map number) (counted_from-+ first n 1) ∙ map-append number (counted_from first n) ((first + n) ∷ [])
