-- What stays as needs that are covered are listed no more.
use Rattle.std.specs.Prelude.{◌==◌, ◌&&◌, filter, nat_lt, not}
use Rattle.std.proofs.Common.{◌≡◌, ◌<◌, ◌≤◌, ◌+◌, ◌∷◌, [], ◌∙◌, ℕ, suc, Bool, true, false, cond, List, All, ⊎_elim, ap, sym, refl, subst, arith, length}
use Rattle.std.proofs.lemmas.Bool.{cases_eq}
use Rattle.std.proofs.lemmas.List.{get_or_push, length_push}
use Rattle.std.proofs.lemmas.List.Elements.{All-filter, All-head, All-map, All-tail, All-weaker}
use Rattle.region_finder.specs.Listings.{ArePlaced, IsListingOf, IsPlaced, Listed, PlacedNeed, all_uncovered, earlier, is_covered, uncovered}
use Rattle.region_tree.specs.Needs.{AreNeeds}
use Rattle.region_tree.specs.Trees.{RegionTree}
use Rattle.region_tree.specs.declared.needs.Need.{Need}
use Rattle.region_tree.specs.declared.needs.Needs.{Needs}
use Rattle.region_tree.specs.declared.tree.OpNumber.{OpNumber}
use Rattle.dependence_graph.specs.Entries.{Knot}
use Rattle.dependence_graph.specs.Graphs.{Waits, covered_each, issued, issued_each, issued_one, knot_on}
use Rattle.dependence_graph.specs.Issues.{AreAllNeeds, state}
use Rattle.dependence_graph.specs.Knots.{knot_at, no_knot, number}
use Rattle.dependence_graph.specs.Links.{IsIssued}
use Rattle.dependence_graph.specs.declared.stage.Stage.TheVariants.{Dropped, Waiting}
use Rattle.dependence_graph.proofs.Extending.{Extends, extends_issued, listing_push, size_issued}

-- what is so of a listed operation, and also with some of its needs alone
abbrev OfSome : (Listed → Type 0) → Type 0
OfSome P = (p : PlacedNeed → Bool) (l : Listed) → P l → P (record l { needs = filter p l.needs })

-- is so of each that is left
stays : (P : Listed → Type 0) → OfSome P → (context op : ℕ) (needs : List Need) (ls : List Listed) →
    All P ls → All P (all_uncovered context op needs ls)
stays P some context op needs ls a =
    All-map P (uncovered context op needs) ls
    (All-weaker P (λ (l : Listed). P (uncovered context op needs l)) (λ l h. by l h ((l.context.0 == context) && nat_lt l.op.0 op)) ls a)
  where
    by : (l : Listed) → P l → (b : Bool) →
        P (cond b (record l { needs = filter (λ (m : PlacedNeed). not (is_covered needs m)) l.needs }) l)
    by l h true = some (λ (m : PlacedNeed). not (is_covered needs m)) l h
    by l h false = h

stays_each : (P : Listed → Type 0) → OfSome P → (context : ℕ) (ns : List Needs) (g : Waits) (k : ℕ) →
    All P g.listing → All P (covered_each context ns g k).listing
stays_each P some context [] g k a = a
stays_each P some context (n ∷ ns) g k a =
    stays_each P some context ns _ (suc k) (stays P some context k n.items g.listing a)

some_issued : (ks : List Knot) → OfSome (IsIssued ks)
some_issued ks p l i = record { there = i.there; parent = i.parent }

some_placed : (t : RegionTree) → OfSome (ArePlaced t)
some_placed t p l a = All-filter p (IsPlaced t) l.needs a

-- what is left of a listing has its needs in the tree
pub placed_uncovered : (t : RegionTree) (context op : ℕ) (needs : List Need) (ls : List Listed) →
    IsListingOf t ls → IsListingOf t (all_uncovered context op needs ls)
placed_uncovered t context op needs ls a = stays (ArePlaced t) (some_placed t) context op needs ls a

-- and its operations were issued
pub issued_covered : (us : List Knot) (context : ℕ) (ns : List Needs) (ls ms : List Listed) (k : ℕ) →
    state us ms ≡ covered_each context ns (state us ls) k → All (IsIssued us) ls → All (IsIssued us) ms
issued_covered us context ns ls ms k e a =
    subst (All (IsIssued us)) (sym (ap (λ (w : Waits). w.listing) e))
    (stays_each (IsIssued us) (some_issued us) context ns (state us ls) k a)

-- a loop that covers by one operation after the other
pub covered_more : (context : ℕ) (ns : List Needs) (ks : List Knot) (ls ms : List Listed) (n m : Needs) (first place : ℕ) →
    n ≡ m → ms ≡ all_uncovered context (first + place) n.items ls →
    covered_each context ns (state ks ms) (first + (place + 1)) ≡ covered_each context (m ∷ ns) (state ks ls) (first + place)
covered_more context ns ks ls ms n m first place e h =
    ap (λ (xs : List Listed). covered_each context ns (state ks xs) (first + (place + 1))) h
    ∙ ap (λ (x : Needs). covered_each context ns (state ks (all_uncovered context (first + place) x.items ls)) (first + (place + 1))) e
    ∙ ap (covered_each context ns (state ks (all_uncovered context (first + place) m.items ls)))
    (let f : first + (place + 1) ≡ suc (first + place) = omega arith in f)

-- what was issued, and then covered
pub issued_is : (t : RegionTree) (g : Waits) (us : List Knot) (ls ms : List Listed) (parent : OpNumber) (ns : List Needs) (k : ℕ) →
    state us ls ≡ issued_each t g parent ns → k ≡ length g.knots → state us ms ≡ covered_each parent.0 ns (state us ls) k →
    state us ms ≡ issued t g parent ns
issued_is t g us ls ms parent ns k e f h =
    h ∙ ap (λ (w : Waits). covered_each parent.0 ns w k) e ∙ ap (covered_each parent.0 ns (issued_each t g parent ns)) f

-- ---- operations are the same

pub covered_knots : (context : ℕ) (ns : List Needs) (g : Waits) (k : ℕ) → (covered_each context ns g k).knots ≡ g.knots
covered_knots context [] g k = refl
covered_knots context (n ∷ ns) g k = covered_knots context ns _ (suc k)

pub extends_covered : (t : RegionTree) (parent : OpNumber) (ns : List Needs) (g : Waits) → Extends g.knots (issued t g parent ns).knots
extends_covered t parent ns g =
    subst (Extends g.knots) (sym (covered_knots parent.0 ns (issued_each t g parent ns) (length g.knots)))
    (extends_issued t parent ns g)

pub size_covered : (t : RegionTree) (parent : OpNumber) (ns : List Needs) (g : Waits) →
    length (issued t g parent ns).knots ≡ length g.knots + length ns
size_covered t parent ns g =
    ap {B = ℕ} (λ (ks : List Knot). length ks) (covered_knots parent.0 ns (issued_each t g parent ns) (length g.knots))
    ∙ size_issued t parent ns g

-- ---- operations that are issued have their needs in the tree

listing_each : (t : RegionTree) (parent : OpNumber) (ns : List Needs) (g : Waits) → AreAllNeeds t ns →
    IsListingOf t g.listing → IsListingOf t (issued_each t g parent ns).listing
listing_each t parent [] g a l = l
listing_each t parent (n ∷ ns) g a l =
    listing_each t parent ns (issued_one t g parent n.items) (All-tail (λ (m : Needs). AreNeeds t m.items) n ns a)
    (listing_push t parent (number (length g.knots)) n.items g.listing (All-head (λ (m : Needs). AreNeeds t m.items) n ns a) l)

pub listing_issued : (t : RegionTree) (parent : OpNumber) (ns : List Needs) (g : Waits) → AreAllNeeds t ns →
    IsListingOf t g.listing → IsListingOf t (issued t g parent ns).listing
listing_issued t parent ns g a l =
    stays_each (ArePlaced t) (some_placed t) parent.0 ns (issued_each t g parent ns) (length g.knots) (listing_each t parent ns g a l)

-- and their parent

children_each : (t : RegionTree) (parent : OpNumber) (ns : List Needs) (g : Waits) (child : ℕ) → length g.knots ≤ child →
    child < length g.knots + length ns → (knot_at (issued_each t g parent ns).knots child).parent ≡ parent
children_each t parent [] g child first last = absurd (omega (arith, first, last))
children_each t parent (n ∷ ns) g child first last =
    let one = issued_one t g parent n.items in
    let size = length_push g.knots (knot_on g.knots parent (earlier t g.listing parent.0 n.items) Waiting Dropped) in
    ⊎_elim
    (λ e. ap (λ (y : Knot). y.parent) ((extends_issued t parent ns one).same child (omega (arith, e, size)))
    ∙ ap (λ (k : ℕ). (knot_at one.knots k).parent) e
    ∙ ap (λ (y : Knot). y.parent) (get_or_push g.knots (knot_on g.knots parent (earlier t g.listing parent.0 n.items) Waiting Dropped) no_knot (length g.knots) refl))
    (λ e. children_each t parent ns one child (omega (arith, first, e, size)) (omega (arith, last, size)))
    (cases_eq child (length g.knots))

pub children_issued : (t : RegionTree) (parent : OpNumber) (ns : List Needs) (g : Waits) (child : ℕ) → length g.knots ≤ child →
    child < length g.knots + length ns → (knot_at (issued t g parent ns).knots child).parent ≡ parent
children_issued t parent ns g child first last =
    ap (λ (ks : List Knot). (knot_at ks child).parent) (covered_knots parent.0 ns (issued_each t g parent ns) (length g.knots))
    ∙ children_each t parent ns g child first last
