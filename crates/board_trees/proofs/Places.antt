-- A segment leaves regions of the tree where it had such ones.
use Rattle.std.proofs.Common.{ap, eq-eqb, length, subst, sym}
use Rattle.std.proofs.lemmas.Bool.{and_from, lt-ltb}
use Rattle.std.proofs.lemmas.List.Elements.{All-contains}
use Rattle.region_tree.specs.Needs.{AreNeeds}
use Rattle.region_tree.specs.Trees.{RegionTree, is_region, points_of_content, root_at}
use Rattle.region_tree.specs.declared.needs.Needs.{Needs}
use Rattle.segment_regions.proofs.Frames.{segments_keep_frames}
use Rattle.segment_regions.proofs.Values.{values_kept}
use Rattle.segment_regions.proofs.Words.{IsKept}
use Rattle.board_trees.specs.Frames.{HasPlaces, IsPlaced}
use Rattle.board_trees.specs.Places.{PlacedIsHere, PlacesStay}

places_kept : (t : RegionTree) → IsKept (HasPlaces t)
places_kept t = record {
  number = λ z. tt;
  space = λ n. tt;
  pending = λ i. tt;
  child = λ p r h c. All-contains (IsPlaced t) p.children r h c;
}

pub places_stay : PlacesStay
places_stay t b h =
    let left = values_kept (HasPlaces t) (places_kept t) b (record { slots = h.slots; stack = h.stack }) in
    record {
      frame = λ f e. record {
        slots = (left.frame f e).slots;
        stack = (left.frame f e).stack;
        needs = subst (λ (n : Needs). AreNeeds t n.items) (sym (segments_keep_frames b f e).needs) h.needs;
      };
      yields = left.yields;
    }

pub placed_is_here : PlacedIsHere
placed_is_here t r h = (
  and_from _ _ (lt-ltb r.node.0 (length t.nodes) h.there) (and_from _ _ (ap is_region h.points) (eq-eqb (root_at t r.node.0) r.root.0 h.root)),
  ap points_of_content h.points,
)
