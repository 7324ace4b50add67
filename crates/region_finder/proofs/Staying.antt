-- What stands in a tree stands in one that has grown from it.
use Rattle.std.specs.Prelude.{None, Option, Some, filter, ◌==◌, ◌&&◌}
use Rattle.std.proofs.Common.{◌≡◌, ◌<◌, ◌∷◌, [], ◌∙◌, ℕ, suc, zero, Bool, true, false, List, All, ap, sym, refl, subst, arith, cond, length, map}
use Rattle.std.proofs.lemmas.List.Elements.{All-cons, All-head, All-nil, All-tail, All-weaker}
use Rattle.region_finder.specs.Forests.{IsForest, Upward, above, above_content, and_on, climbed, way_up}
use Rattle.region_finder.specs.Laws.{AnswersStay, ListingsStay}
use Rattle.region_finder.specs.Listings.{ArePlaced, IsListingOf, IsPlaced, Listed, PlacedNeed, earlier, interferes_in, needs_in}
use Rattle.region_tree.specs.Entries.{TreeNode}
use Rattle.region_tree.specs.Kept.{Grows}
use Rattle.region_tree.specs.Needs.{AreNeeds, IsNeed, requirement_of, requirements_of}
use Rattle.region_tree.specs.Requirements.{Requirement, interfere}
use Rattle.region_tree.specs.Trees.{RegionTree, IsNode, is_region, node_at, points_of_content}
use Rattle.region_tree.specs.declared.needs.Need.{Need}
use Rattle.region_tree.specs.declared.tree.OpNumber.{OpNumber}

above_stays : (t u : RegionTree) (n : ℕ) → Grows t u → n < length t.nodes → above u n ≡ above t n
above_stays t u n g l = ap (λ (x : TreeNode). above_content x.content x.path) (g.same n l)

and_on_alike : (o : Option Upward) (f g : ℕ → List Upward) → ((s : Upward) → o ≡ Some s → f s.0.0 ≡ g s.0.0) →
    and_on o f ≡ and_on o g
and_on_alike None f g h = refl
and_on_alike (Some s) f g h = ap (λ (w : List Upward). s ∷ w) (h s refl)

climb_stays : (t u : RegionTree) (k n : ℕ) → IsForest t → Grows t u → n < length t.nodes → climbed k u n ≡ climbed k t n
climb_stays t u zero n f g l = refl
climb_stays t u (suc k) n f g l =
    ap (λ (o : Option Upward). and_on o (climbed k u)) (above_stays t u n g l)
    ∙ and_on_alike (above t n) (climbed k u) (climbed k t)
    (λ s e. climb_stays t u k s.0.0 f g (omega (arith, l, (f.upward n s l e).smaller)))

pub need_stays : (t u : RegionTree) (n : Need) → Grows t u → IsNeed t n → IsNeed u n
need_stays t u n g i = record {
  region = record {
    there = omega (arith, i.region.there, g.nodes);
    kind = ap (λ (x : TreeNode). is_region x.content) (g.same n.node.0 i.region.there) ∙ i.region.kind;
  };
  root = i.root ∙ ap (λ (x : TreeNode). x.root) (sym (g.same n.node.0 i.region.there));
}

placed_stays : (t u : RegionTree) (n : PlacedNeed) → IsForest t → Grows t u → IsPlaced t n → IsPlaced u n
placed_stays t u n f g i = record {
  there = need_stays t u n.need g i.there;
  way = i.way ∙ sym (climb_stays t u (suc n.need.node.0) n.need.node.0 f g i.there.region.there);
}

pub listings_stay : ListingsStay
listings_stay t u ls f g a =
    All-weaker (ArePlaced t) (ArePlaced u)
    (λ l p. All-weaker (IsPlaced t) (IsPlaced u) (λ n i. placed_stays t u n f g i) l.needs p) ls a

requirement_stays : (t u : RegionTree) (n : Need) → Grows t u → IsNeed t n → requirement_of u n ≡ requirement_of t n
requirement_stays t u n g i =
    ap (λ (ps : List ℕ). record { root = n.root.0; points = ps; field = n.field; mode = n.mode })
    (ap (λ (x : TreeNode). points_of_content x.content) (g.same n.node.0 i.region.there))

requirements_stay : (t u : RegionTree) (ns : List Need) → Grows t u → AreNeeds t ns → requirements_of u ns ≡ requirements_of t ns
requirements_stay t u [] g a = refl
requirements_stay t u (n ∷ ns) g a =
    ap (λ (r : Requirement). r ∷ requirements_of u ns) (requirement_stays t u n g (All-head (IsNeed t) n ns a))
    ∙ ap (λ (rs : List Requirement). requirement_of t n ∷ rs) (requirements_stay t u ns g (All-tail (IsNeed t) n ns a))

needs_there : (t : RegionTree) (ns : List PlacedNeed) → All (IsPlaced t) ns → AreNeeds t (map (λ (n : PlacedNeed). n.need) ns)
needs_there t [] a = All-nil (IsNeed t)
needs_there t (n ∷ ns) a = All-cons (IsNeed t) n.need (map (λ (m : PlacedNeed). m.need) ns)
    (All-head (IsPlaced t) n ns a).there (needs_there t ns (All-tail (IsPlaced t) n ns a))

interferes_stays : (t u : RegionTree) (context : ℕ) (needs : List Need) (l : Listed) → Grows t u → AreNeeds t needs →
    ArePlaced t l → interferes_in u context needs l ≡ interferes_in t context needs l
interferes_stays t u context needs l g a p =
    ap (λ (rs : List Requirement). (l.context.0 == context) && interfere rs (requirements_of u (needs_in l))) (requirements_stay t u needs g a)
    ∙ ap (λ (rs : List Requirement). (l.context.0 == context) && interfere (requirements_of t needs) rs)
    (requirements_stay t u (needs_in l) g (needs_there t l.needs p))

pub answers_stay : AnswersStay
answers_stay t u [] context needs g a n = refl
answers_stay t u (l ∷ ls) context needs g a n =
    ap (λ (b : Bool). map (λ (m : Listed). m.op) (cond b (l ∷ filter (interferes_in u context needs) ls) (filter (interferes_in u context needs) ls)))
    (interferes_stays t u context needs l g n (All-head (ArePlaced t) l ls a))
    ∙ step (interferes_in t context needs l)
    (answers_stay t u ls context needs g (All-tail (ArePlaced t) l ls a) n)
  where
    step : (b : Bool) → earlier u ls context needs ≡ earlier t ls context needs →
        map (λ (m : Listed). m.op) (cond b (l ∷ filter (interferes_in u context needs) ls) (filter (interferes_in u context needs) ls))
        ≡ map (λ (m : Listed). m.op) (cond b (l ∷ filter (interferes_in t context needs) ls) (filter (interferes_in t context needs) ls))
    step true e = ap (λ (os : List OpNumber). l.op ∷ os) e
    step false e = e
