-- The operation behind its segment is seen in the tree as the table has it.
use Rattle.std.proofs.Common.{◌≡◌, ◌<◌, ◌++◌, ◌∷◌, ◌∙◌, ◌==◌, ℕ, ℤ, Bool, List, Some, [], ap, cond, false, length, map, refl, subst, sym, true}
use Rattle.std.specs.Prelude.{All}
use Rattle.std.proofs.lemmas.List.Elements.{All-cons, All-head, All-nil, All-tail, All-weaker}
use Rattle.region_tree.specs.Needs.{requirements_of}
use Rattle.region_tree.specs.Requirements.{Requirement}
use Rattle.region_tree.specs.Trees.{RegionTree}
use Rattle.region_tree.specs.declared.needs.Need.{Need}
use Rattle.region_tree.specs.declared.needs.Needs.{Needs}
use Rattle.region_tree.specs.declared.piece.Part.{Part}
use Rattle.region_tree.specs.declared.tree.RootId.{RootId}
use Rattle.logical_map.specs.Maps.{LogicalMap, columns_of, is_live}
use Rattle.task_code.specs.declared.job.Job.{Job}
use Rattle.machine_terms.specs.declared.frame.Before.{Before}
use Rattle.machine_terms.specs.declared.frame.Frame.{Frame}
use Rattle.machine_terms.specs.declared.outcome.After.{After}
use Rattle.machine_terms.specs.declared.value.Value.{Value}
use Rattle.machine_terms.specs.declared.value.Value.TheVariants as value
use Rattle.machine_terms.specs.Orders.{settled}
use Rattle.machine_terms.specs.Segments.{segment}
use Rattle.board_rules.specs.Running.{After as BoardAfter, Element}
use Rattle.regent_boards.specs.Frames as board
use Rattle.regent_boards.specs.RegentMachine.{regent_ground}
use Rattle.segment_renaming.specs.Renaming.{frame_to, part_to}
use Rattle.code_boards.specs.Views.{frame_in, parts_in, spaces_of}
use Rattle.board_terms.specs.declared.operation.Operation.{Operation}
use Rattle.board_terms.specs.declared.operation.Wait.{Wait}
use Rattle.board_terms.specs.declared.operation.Wait.TheVariants as wait
use Rattle.board_terms.specs.Claims.{before_of, frame_behind}
use Rattle.board_terms.specs.Gives.{behind_segment}
use Rattle.board_terms.specs.States.{State}
use Rattle.board_trees.specs.Frames.{FrameHasPlaces, HasEachOnce, HasFitting, HasPlaces, IsHeld, IsSeen}
use Rattle.board_trees.specs.Names.{IsNaming, named, pointed, requirement_named}
use Rattle.board_trees.specs.Places.{LeavesPlaces}
use Rattle.board_trees.proofs.Places.{places_stay}
use Rattle.given_trees.specs.Segments.{AreLeft}

-- ---- regions of what is handed out

settled_placed : (t : RegionTree) (n : ℕ) (z : ℤ) (v : Value) → HasPlaces t v → HasPlaces t (settled n z v)
settled_placed t n z (value.Pending j) h = by_test (n == j)
  where
    by_test : (b : Bool) → HasPlaces t (cond b (value.Number z) (value.Pending j))
    by_test true = tt
    by_test false = tt
settled_placed t n z (value.Number y) h = h
settled_placed t n z (value.Space y) h = h
settled_placed t n z (value.Region r) h = h
settled_placed t n z (value.Partition p) h = h

all_settled : (t : RegionTree) (n : ℕ) (z : ℤ) (vs : List Value) → All (HasPlaces t) vs → All (HasPlaces t) (map (settled n z) vs)
all_settled t n z [] h = All-nil (HasPlaces t)
all_settled t n z (v ∷ vs) h = All-cons (HasPlaces t) (settled n z v) (map (settled n z) vs)
    (settled_placed t n z v (All-head (HasPlaces t) v vs h)) (all_settled t n z vs (All-tail (HasPlaces t) v vs h))

-- with what was waited for, the frame has regions of the tree
pub behind_placed : (s : State) (t : RegionTree) (o : Operation) (w : Wait) → FrameHasPlaces t o.frame → FrameHasPlaces t (frame_behind s o w)
behind_placed s t o wait.Beginning h = h
behind_placed s t o wait.Nothing h = h
behind_placed s t o (wait.Part root field) h = h
behind_placed s t o (wait.Child n) h = record { slots = all_settled t n _ o.frame.slots h.slots; stack = h.stack; needs = h.needs }

-- so has what the segment leaves
pub left_places : (job : Job) (s : State) (o : Operation) (fill : _) → FrameHasPlaces s.tree o.frame → LeavesPlaces s.tree (segment (before_of job.code s o fill))
left_places job s o fill h = places_stay s.tree (before_of job.code s o fill) (behind_placed s s.tree o o.wait h)

-- ---- what is seen

module _ (job : Job) (s : State) (who : ℕ → ℕ) (roots : List RootId) (o : Operation) (N : List Requirement) (f from : board.Frame)
    (ps : List (Element (regent_ground (spaces_of job.code)))) (seen : IsSeen job.code s.tree s.map s.roots who roots o N f ps)
    (a : After) (b : BoardAfter (regent_ground (spaces_of job.code))) (left : AreLeft job s who roots o N from a b) (places : LeavesPlaces s.tree a)
    (g : Frame) (goes : a.frame ≡ Some g) where
  -- parts of the table, as the tree has them
  pub record AreHeld (es : List (Element (regent_ground (spaces_of job.code)))) (qs : List Part) : Type 0 where
    pub parts : (name : ℕ → ℕ) → IsNaming s.roots who roots name → parts_in job.code es ≡ map (part_to (named name)) qs
    pub held : All (IsHeld job.code) es
    pub fitting : All HasFitting qs
    pub once : All HasEachOnce qs

  pub left_held : AreHeld b.parts a.parts
  left_held = record { parts = left.parts; held = left.held; fitting = left.fitting; once = left.once }

  pub none_held : AreHeld [] []
  none_held = record { parts = λ name is. refl; held = All-nil (IsHeld job.code); fitting = All-nil HasFitting; once = All-nil HasEachOnce }

  -- it goes on with these parts, on a map that has the roots and fields that were there
  pub left_seen : (es : List (Element (regent_ground (spaces_of job.code)))) (qs : List Part) → AreHeld es qs → (live : LogicalMap) → ((r : ℕ) → is_live s.map r ≡ true → is_live live r ≡ true) →
      ((r field : ℕ) → field < length (columns_of s.map r) → field < length (columns_of live r)) →
      IsSeen job.code s.tree live s.roots who roots (record (behind_segment o a) { frame = g; parts = qs }) N b.frame es
  left_seen es qs held live there fields = record {
    frame = left.frame g goes;
    needs = left.needs;
    required = λ name is. seen.required name is
        ∙ ap (λ (ns : Needs). map (requirement_named name) (requirements_of s.tree ns.items)) (sym (left.kept g goes).0);
    parts = held.parts;
    held = held.held;
    fitting = held.fitting;
    once = held.once;
    placed = places.frame g goes;
    there = All-weaker (λ (r : RootId). is_live s.map r.0 ≡ true) (λ (r : RootId). is_live live r.0 ≡ true) (λ r l. there r.0 l) roots seen.there;
    fields = subst (λ (ns : Needs). All (λ (n : Need). n.field < length (columns_of live n.root.0)) ns.items) (sym (left.kept g goes).0)
        (All-weaker (λ (n : Need). n.field < length (columns_of s.map n.root.0)) (λ (n : Need). n.field < length (columns_of live n.root.0))
        (λ n l. fields n.root.0 n.field l) o.frame.needs.items seen.fields);
  }
