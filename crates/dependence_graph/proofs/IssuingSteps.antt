-- How an issue goes on, and how it is taken back.
use Rattle.std.specs.Prelude.{Contains, filter}
use Rattle.std.proofs.Common.{◌≡◌, ◌<◌, ◌≤◌, ◌++◌, ◌∷◌, [], ◌∙◌, ℕ, List, All, ⊎_elim, ap, sym, subst, arith, length, take}
use Rattle.std.proofs.lemmas.Bool.{cases_lt}
use Rattle.std.proofs.lemmas.List.{get_or-take, get_or_past, length-take, take_all, take_at, take-append-le}
use Rattle.std.proofs.lemmas.List.Elements.{All-weaker}
use Rattle.region_finder.specs.Listings.{IsListingOf, Listed, earlier, inserted, listed}
use Rattle.region_tree.specs.Needs.{AreNeeds}
use Rattle.region_tree.specs.Trees.{RegionTree}
use Rattle.region_tree.specs.declared.needs.Need.{Need}
use Rattle.region_tree.specs.declared.tree.OpNumber.{OpNumber}
use Rattle.dependence_graph.specs.Entries.{Knot}
use Rattle.dependence_graph.specs.Graphs.{Waits, issued_one, knot_on}
use Rattle.dependence_graph.specs.Issues.{is_below, state}
use Rattle.dependence_graph.specs.Knots.{number}
use Rattle.dependence_graph.specs.Links.{AreGrown, AreTold, IsIssued, IsLinked, link_at, no_link}
use Rattle.dependence_graph.specs.declared.link.Link.{Link}
use Rattle.dependence_graph.specs.declared.stage.Stage.TheVariants.{Dropped, Waiting}
use Rattle.dependence_graph.proofs.Extending.{IsChild, IsIssuing, IsLeft, below_all, below_kept, extends_itself, extends_on, extends_push, found_children, issued_push, linked_push, listing_push, not_done_at_first, not_parked_at_first}
use Rattle.dependence_graph.proofs.Linked.{linked_grown}
use Rattle.dependence_graph.proofs.Refreshing.{grown_itself, grown_on}

-- ---- one operation

pub same_state : (ks us : List Knot) (ls ms : List Listed) → us ≡ ks → ms ≡ ls → state us ms ≡ state ks ls
same_state ks us ls ms e f = λ i. record { knots = e i; listing = f i }

pub one_is : (t : RegionTree) (ks us vs : List Knot) (ls ms ns : List Listed) (parent op : OpNumber) (needs : List Need) (on : List OpNumber) →
    us ≡ ks → vs ≡ us ++ knot_on us parent on Waiting Dropped ∷ [] → on ≡ earlier t ls parent.0 needs →
    op.0 ≡ length ks → ms ≡ ls → ns ≡ inserted (listed t parent op needs) ms →
    state vs ns ≡ issued_one t (state ks ls) parent needs
one_is t ks us vs ls ms ns parent op needs on e made found n f added =
    same_state _ vs _ ns
    (made ∙ ap (λ (xs : List Knot). xs ++ knot_on xs parent on Waiting Dropped ∷ []) e
    ∙ ap (λ (os : List OpNumber). ks ++ knot_on ks parent os Waiting Dropped ∷ []) found)
    (added ∙ ap (inserted (listed t parent op needs)) f
    ∙ ap (λ (k : ℕ). inserted (listed t parent (number k) needs) ls) n)

pub linked_one : (t : RegionTree) (ks : List Knot) (ls us : List Link) (listing : List Listed) (parent : OpNumber) (needs : List Need) (on : List OpNumber) →
    IsLinked ks ls → AreGrown ls us → All (IsIssued ks) listing → on ≡ earlier t listing parent.0 needs → AreTold us on (length ks) →
    IsLinked (ks ++ knot_on ks parent on Waiting Dropped ∷ []) (us ++ no_link ∷ [])
linked_one t ks ls us listing parent needs on l g a e told =
    linked_push ks (knot_on ks parent on Waiting Dropped) us (linked_grown ks ls us l g)
    (not_done_at_first ks on) (not_parked_at_first ks on)
    (subst (All (λ (o : OpNumber). o.0 < length ks)) (sym e)
    (All-weaker (IsChild ks parent.0) (λ (o : OpNumber). o.0 < length ks) (λ o c. c.there) _
    (found_children t ks parent.0 needs listing a))) told

pub grown_pushed : (ls us ms : List Link) → AreGrown ls us → ms ≡ us ++ no_link ∷ [] → AreGrown ls (take (length ls) ms)
grown_pushed ls us ms g e =
    subst (AreGrown ls) (sym (ap (take (length ls)) e ∙ take_at us (no_link ∷ []) (length ls) g.size)) g

pub grown_taken : (ls us : List Link) → AreGrown ls us → AreGrown ls (take (length ls) us)
grown_taken ls us g = subst (AreGrown ls) (sym (take_all (length ls) us (omega (arith, g.size)))) g

-- ---- the loop

link_taken : (ls : List Link) (n k : ℕ) → k < n → link_at (take n ls) k ≡ link_at ls k
link_taken ls n k l = get_or-take n ls k no_link l

link_past : (ls : List Link) (n k : ℕ) → n ≤ k → link_at (take n ls) k ≡ no_link
link_past ls n k g = get_or_past (take n ls) k no_link (omega (arith, g, length-take n ls))

grown_front : (ls ms : List Link) (n : ℕ) → n ≤ length ls → AreGrown ls (take (length ls) ms) →
    AreGrown (take n ls) (take n ms)
grown_front ls ms n b g = record {
  size = omega (arith, b, g.size, length-take n ls, length-take n ms, length-take (length ls) ms);
  passed = λ k. ⊎_elim
      (λ l. ap (λ (m : Link). m.passed) (link_taken ms n k l ∙ sym (link_taken ms (length ls) k (omega (arith, l, b)))) ∙ g.passed k
      ∙ ap (λ (m : Link). m.passed) (sym (link_taken ls n k l)))
      (λ a. ap (λ (m : Link). m.passed) (link_past ms n k a ∙ sym (link_past ls n k a)))
      (cases_lt k n);
  waiters = λ k w c. ⊎_elim
      (λ l. subst (λ (m : Link). Contains m.waiters w) (link_taken ms (length ls) k (omega (arith, l, b)) ∙ sym (link_taken ms n k l))
      (g.waiters k w (subst (λ (m : Link). Contains m.waiters w) (link_taken ls n k l) c)))
      (λ a. absurd (none_in w (link_at (take n ls) k) (link_past ls n k a) c))
      (cases_lt k n);
}
  where
    none_in : (w : ℕ) (m : Link) → m ≡ no_link → Contains m.waiters w → ⊥
    none_in w m e c = omega (arith, c.1, ap {B = ℕ} (λ (l : Link). length l.waiters) e)

pub issuing_start : (t : RegionTree) (ks : List Knot) (ls : List Link) (listing : List Listed) →
    All (IsIssued ks) listing → IsListingOf t listing → IsLinked ks ls → IsIssuing t ks ks ls ls listing listing
issuing_start t ks ls listing a p l = record {
  extends = extends_itself ks;
  before = take_all (length ks) ks (omega arith);
  below = below_all (length ks) listing (All-weaker (IsIssued ks) (λ (m : Listed). m.op.0 < length ks) (λ m i. i.there) listing a);
  issued = a;
  placed = p;
  linked = l;
  grown = grown_first;
}
  where
    grown_first : AreGrown ls (take (length ks) ls)
    grown_first = subst (AreGrown ls) (sym (take_all (length ks) ls (omega (arith, l.size)))) (grown_itself ls)

pub issuing_step : (t : RegionTree) (old ks us : List Knot) (known ls ms : List Link) (first listing more : List Listed) (parent : OpNumber) (needs : List Need) →
    IsIssuing t old ks known ls first listing → state us more ≡ issued_one t (state ks listing) parent needs → AreNeeds t needs →
    IsLinked us ms → AreGrown ls (take (length ls) ms) → IsIssuing t old us known ms first more
issuing_step t old ks us known ls ms first listing more parent needs s e n l g =
    subst (λ (w : Waits). IsIssuing t old w.knots known ms first w.listing) (sym e) (record {
      extends = extends_on old ks (ks ++ x ∷ []) s.extends (extends_push ks x (not_done_at_first ks (earlier t listing parent.0 needs)));
      before = take-append-le (length old) ks (x ∷ []) s.extends.size ∙ s.before;
      below = below_kept (length old) (listed t parent (number (length ks)) needs) listing s.extends.size ∙ s.below;
      issued = issued_push t ks x needs listing (not_done_at_first ks (earlier t listing parent.0 needs)) s.issued;
      placed = listing_push t parent (number (length ks)) needs listing n s.placed;
      linked = subst (λ (w : Waits). IsLinked w.knots ms) e l;
      grown = grown_on known (take (length old) ls) (take (length old) ms) s.grown
          (grown_front ls ms (length old) (omega (arith, s.linked.size, s.extends.size)) g);
    })
  where
    x : Knot
    x = knot_on ks parent (earlier t listing parent.0 needs) Waiting Dropped

-- ---- what is taken back

pub left_first : (first size : ℕ) (ls : List Listed) → All (λ (l : Listed). l.op.0 < size) ls → All (IsLeft first first size) ls
left_first first size ls a =
    All-weaker (λ (l : Listed). l.op.0 < size) (IsLeft first first size)
    (λ l b. record { range = cases_lt l.op.0 first; below = b }) ls a

pub left_last : (first place size : ℕ) (ls : List Listed) → size ≤ place → All (IsLeft first place size) ls →
    filter (is_below first) ls ≡ ls
left_last first place size ls e a = below_all first ls
    (All-weaker (IsLeft first place size) (λ (l : Listed). l.op.0 < first)
    (λ l i. ⊎_elim (λ b. b) (λ g. absurd (omega (arith, e, g, i.below))) i.range) ls a)

pub listed_below : (ks us : List Knot) (ls ms : List Listed) (n : ℕ) → state us ms ≡ state ks ls → n ≡ length us →
    All (IsIssued ks) ls → All (λ (l : Listed). l.op.0 < n) ms
listed_below ks us ls ms n e h a =
    subst (All (λ (l : Listed). l.op.0 < n)) (sym (ap (λ (w : Waits). w.listing) e))
    (All-weaker (IsIssued ks) (λ (l : Listed). l.op.0 < n)
    (λ l i. omega (arith, i.there, h, ap {B = ℕ} (λ (w : Waits). length w.knots) e)) ls a)

pub back_state : (t : RegionTree) (old ks us vs : List Knot) (known ls : List Link) (f listing ms ns : List Listed) (first : ℕ) →
    IsIssuing t old ks known ls f listing → state us ms ≡ state ks listing → first ≡ length old →
    vs ≡ take first us → ns ≡ filter (is_below first) ms → state vs ns ≡ state old f
back_state t old ks us vs known ls f listing ms ns first s e n k l =
    same_state old vs f ns
    (k ∙ ap (λ (w : Waits). take first w.knots) e ∙ ap (λ (i : ℕ). take i ks) n ∙ s.before)
    (l ∙ ap (λ (w : Waits). filter (is_below first) w.listing) e ∙ ap (λ (i : ℕ). filter (is_below i) listing) n ∙ s.below)

pub back_linked : (t : RegionTree) (old ks : List Knot) (known ls ms : List Link) (f listing : List Listed) (first : ℕ) →
    IsIssuing t old ks known ls f listing → IsLinked old known → first ≡ length old → AreGrown ls (take (length ls) ms) →
    IsLinked old (take first ms)
back_linked t old ks known ls ms f listing first s l n g =
    subst (λ (i : ℕ). IsLinked old (take i ms)) (sym n)
    (linked_grown old known (take (length old) ms) l
    (grown_on known (take (length old) ls) (take (length old) ms) s.grown
    (grown_front ls ms (length old) (omega (arith, s.linked.size, s.extends.size)) g)))
