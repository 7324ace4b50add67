-- What is so behind an operation that is issued.
use Rattle.std.specs.Prelude.{Contains, filter, Some, nat_lt, not, ◌==◌}
use Rattle.std.proofs.Common.{◌≡◌, ◌<◌, ◌≤◌, ◌+◌, ◌&&◌, ◌||◌, ◌⊎◌, ◌++◌, ◌∷◌, [], ◌∙◌, ℕ, Bool, true, false, cond, List, All, inl, inr, ⊎_elim, ap, sym, refl, subst, arith, length, take, map}
use Rattle.std.proofs.lemmas.Bool.{and_parts, cases_Bool, cases_eq, cases_lt, eq-eqb, eqb-true, false≢true, le-ltb, lt-ltb}
use Rattle.std.proofs.lemmas.List.{get_or_append_left, get_or_past, get_or_push, length_push}
use Rattle.std.proofs.lemmas.List.Elements.{All-cons, All-contains, All-head, All-nil, All-tail, All-weaker}
use Rattle.region_finder.specs.Listings.{IsListingOf, Listed, ArePlaced, IsPlaced, earlier, has_op, inserted, interferes_in, is_op, listed, placed, without}
use Rattle.region_tree.specs.Trees.{RegionTree}
use Rattle.region_tree.specs.declared.needs.Need.{Need}
use Rattle.region_tree.specs.declared.needs.Needs.{Needs}
use Rattle.region_tree.specs.declared.tree.OpNumber.{OpNumber}
use Rattle.region_tree.specs.Needs.{AreNeeds, IsNeed}
use Rattle.dependence_graph.specs.Entries.{Knot}
use Rattle.dependence_graph.specs.Graphs.{Waits, issued_each, issued_one, knot_on}
use Rattle.dependence_graph.specs.Issues.{is_below}
use Rattle.dependence_graph.specs.Knots.{all_done, is_done, is_idle, is_ready, knot_at, no_knot, number, some_failed, stage_at}
use Rattle.dependence_graph.specs.Links.{AreGrown, AreTold, IsIssued, IsLinked, WaitsFor, link_at, no_link, waiters_at}
use Rattle.dependence_graph.specs.declared.link.Link.{Link}
use Rattle.dependence_graph.specs.declared.stage.Stage.{Stage}
use Rattle.dependence_graph.specs.declared.stage.Stage.TheVariants.{Dropped, Parked, Waiting}
use Rattle.dependence_graph.proofs.Following.{all_done_same, stage_in, stage_past}

-- ---- what more operations leave

pub record Extends (ks us : List Knot) : Type 0 where
  pub size : length ks ≤ length us
  pub same : (k : ℕ) → k < length ks → knot_at us k ≡ knot_at ks k
  pub done : (k : ℕ) → is_done (stage_at us k) ≡ is_done (stage_at ks k)

pub extends_itself : (ks : List Knot) → Extends ks ks
extends_itself ks = record { size = omega arith; same = λ k l. refl; done = λ k. refl }

pub extends_on : (ks us ws : List Knot) → Extends ks us → Extends us ws → Extends ks ws
extends_on ks us ws e f = record {
  size = omega (arith, e.size, f.size);
  same = λ k l. f.same k (omega (arith, l, e.size)) ∙ e.same k l;
  done = λ k. f.done k ∙ e.done k;
}

pub extends_push : (ks : List Knot) (x : Knot) → is_done (Some x.stage) ≡ false → Extends ks (ks ++ x ∷ [])
extends_push ks x d = record {
  size = omega (arith, length_push ks x);
  same = λ k l. get_or_append_left ks (x ∷ []) no_knot k l;
  done = λ k. ⊎_elim
      (λ l. ap is_done (stage_in (ks ++ x ∷ []) k (omega (arith, l, length_push ks x))
      ∙ ap (λ (y : Knot). Some y.stage) (get_or_append_left ks (x ∷ []) no_knot k l) ∙ sym (stage_in ks k l)))
      (λ g. ⊎_elim
      (λ e. ap (λ (n : ℕ). is_done (stage_at (ks ++ x ∷ []) n)) e
      ∙ ap is_done (stage_in (ks ++ x ∷ []) (length ks) (omega (arith, length_push ks x))
      ∙ ap (λ (y : Knot). Some y.stage) (get_or_push ks x no_knot (length ks) refl))
      ∙ d ∙ sym (ap is_done (stage_past ks k g)))
      (λ n. ap is_done (stage_past (ks ++ x ∷ []) k (omega (arith, g, n, length_push ks x)) ∙ sym (stage_past ks k g)))
      (cases_eq k (length ks)))
      (cases_lt k (length ks));
}

pub ready_extends : (ks us : List Knot) (k : ℕ) → Extends ks us → k < length ks → is_ready us k ≡ is_ready ks k
ready_extends ks us k e l =
    ap (λ (x : Knot). is_idle x.stage && all_done us x.on) (e.same k l)
    ∙ ap (λ (b : Bool). is_idle (knot_at ks k).stage && b) (all_done_same ks us e.done (knot_at ks k).on)

-- ---- links

link_push : (ls : List Link) (k : ℕ) → link_at (ls ++ no_link ∷ []) k ≡ link_at ls k
link_push ls k = ⊎_elim
    (λ l. get_or_append_left ls (no_link ∷ []) no_link k l)
    (λ g. ⊎_elim
    (λ e. ap (λ (j : ℕ). link_at (ls ++ no_link ∷ []) j) e ∙ get_or_push ls no_link no_link (length ls) refl
    ∙ sym (get_or_past ls k no_link g))
    (λ n. get_or_past (ls ++ no_link ∷ []) k no_link (omega (arith, g, n, length_push ls no_link)) ∙ sym (get_or_past ls k no_link g))
    (cases_eq k (length ls)))
    (cases_lt k (length ls))

nothing_in : {X : Type 0} (x : X) (xs : List X) → xs ≡ [] → Contains xs x → ⊥
nothing_in x xs e c = omega (arith, c.1, ap {B = ℕ} length e)

module _ (ks : List Knot) (x : Knot) (ls : List Link) (l : IsLinked ks ls) (d : is_done (Some x.stage) ≡ false)
    (p : x.stage ≡ Parked → ⊥) (on : All (λ (o : OpNumber). o.0 < length ks) x.on) (told : AreTold ls x.on (length ks)) where
  abbrev more : List Knot
  more = ks ++ x ∷ []

  here : knot_at more (length ks) ≡ x
  here = get_or_push ks x no_knot (length ks) refl

  grown : Extends ks more
  grown = extends_push ks x d

  -- an operation was there, or is the new one, or is none
  by_place : (P : ℕ → Type 0) → ((k : ℕ) → k < length ks → P k) → P (length ks) →
      ((k : ℕ) → (knot_at more k).on ≡ [] → P k) → (k : ℕ) → P k
  by_place P old new none k = ⊎_elim (old k)
      (λ g. ⊎_elim (λ e. subst P (sym e) new)
      (λ n. none k (ap (λ (y : Knot). y.on) (get_or_past more k no_knot (omega (arith, g, n, length_push ks x)))))
      (cases_eq k (length ks)))
      (cases_lt k (length ks))

  still : (k j : ℕ) → k < length ks → WaitsFor more k j → WaitsFor ks k j
  still k j b w = record {
    on = subst (λ (y : Knot). Contains y.on (number j)) (grown.same k b) w.on;
    undone = sym (grown.done j) ∙ w.undone;
  }

  known_new : (j : ℕ) → Contains (knot_at more (length ks)).on (number j) → j < length ks
  known_new j c = All-contains (λ (o : OpNumber). o.0 < length ks) x.on (number j) on
      (subst (λ (y : Knot). Contains y.on (number j)) here c)

  pub linked_push : IsLinked (ks ++ x ∷ []) (ls ++ no_link ∷ [])
  linked_push = record {
    size = omega (arith, l.size, length_push ks x, length_push ls no_link);
    known = by_place (λ k. (j : ℕ) → Contains (knot_at more k).on (number j) → j < length more)
        (λ k b j c. omega (arith, length_push ks x, l.known k j (subst (λ (y : Knot). Contains y.on (number j)) (grown.same k b) c)))
        (λ j c. omega (arith, length_push ks x, known_new j c))
        (λ k e j c. absurd (nothing_in (number j) (knot_at more k).on e c));
    waiters = by_place (λ k. (j : ℕ) → (knot_at more k).stage ≡ Waiting → WaitsFor more k j → Contains (waiters_at (ls ++ no_link ∷ []) j) k)
        (λ k b j s w. subst (λ (m : Link). Contains m.waiters k) (sym (link_push ls j))
        (l.waiters k j (sym (ap (λ (y : Knot). y.stage) (grown.same k b)) ∙ s) (still k j b w)))
        (λ j s w. subst (λ (m : Link). Contains m.waiters (length ks)) (sym (link_push ls j))
        (told j (omega (arith, l.size, known_new j w.on)) (subst (λ (y : Knot). Contains y.on (number j)) here w.on)))
        (λ k e j s w. absurd (nothing_in (number j) (knot_at more k).on e w.on));
    children = by_place (λ k. (j : ℕ) → (knot_at more k).stage ≡ Parked → WaitsFor more k j → (knot_at more j).parent.0 ≡ k)
        (λ k b j s w. ap (λ (y : Knot). y.parent.0) (grown.same j (l.known k j (still k j b w).on))
        ∙ l.children k j (sym (ap (λ (y : Knot). y.stage) (grown.same k b)) ∙ s) (still k j b w))
        (λ j s w. absurd (p (sym (ap (λ (y : Knot). y.stage) here) ∙ s)))
        (λ k e j s w. absurd (nothing_in (number j) (knot_at more k).on e w.on));
    passed = λ k. ap (λ (m : Link). all_done more (take m.passed (knot_at more k).on)) (link_push ls k) ∙ seen k;
  }
    where
      seen : (k : ℕ) → all_done more (take (link_at ls k).passed (knot_at more k).on) ≡ true
      seen k = ⊎_elim
          (λ b. all_done_same ks more grown.done (take (link_at ls k).passed (knot_at more k).on)
          ∙ ap (λ (y : Knot). all_done ks (take (link_at ls k).passed y.on)) (grown.same k b) ∙ l.passed k)
          (λ g. ap (λ (m : Link). all_done more (take m.passed (knot_at more k).on)) (get_or_past ls k no_link (omega (arith, g, l.size))))
          (cases_lt k (length ks))

-- ---- listings

all_inserted : (P : Listed → Type 0) (e : Listed) (ls : List Listed) → P e → All P ls → All P (inserted e ls)
all_inserted P e [] p a = All-cons P e [] p a
all_inserted P e (l ∷ ls) p a = ⊎_elim
    (λ h. subst (All P) (sym (ap (λ (b : Bool). cond b (e ∷ l ∷ ls) (l ∷ inserted e ls)) h)) (All-cons P e (l ∷ ls) p a))
    (λ h. subst (All P) (sym (ap (λ (b : Bool). cond b (e ∷ l ∷ ls) (l ∷ inserted e ls)) h))
    (All-cons P l (inserted e ls) (All-head P l ls a) (all_inserted P e ls p (All-tail P l ls a))))
    (cases_Bool (nat_lt e.op.0 l.op.0))

pub issued_extends : (ks us : List Knot) → Extends ks us → (ls : List Listed) → All (IsIssued ks) ls → All (IsIssued us) ls
issued_extends ks us e ls a = All-weaker (IsIssued ks) (IsIssued us) (λ l i. record {
  there = omega (arith, i.there, e.size);
  parent = ap (λ (y : Knot). y.parent) (e.same l.op.0 i.there) ∙ i.parent;
}) ls a

pub issued_push : (t : RegionTree) (ks : List Knot) (x : Knot) (needs : List Need) (ls : List Listed) →
    is_done (Some x.stage) ≡ false → All (IsIssued ks) ls →
    All (IsIssued (ks ++ x ∷ [])) (inserted (listed t x.parent (number (length ks)) needs) ls)
issued_push t ks x needs ls d a =
    all_inserted (IsIssued (ks ++ x ∷ [])) (listed t x.parent (number (length ks)) needs) ls
    (record {
      there = omega (arith, length_push ks x);
      parent = ap (λ (y : Knot). y.parent) (get_or_push ks x no_knot (length ks) refl);
    })
    (issued_extends ks (ks ++ x ∷ []) (extends_push ks x d) ls a)

all_placed : (t : RegionTree) (needs : List Need) → AreNeeds t needs → All (IsPlaced t) (map (placed t) needs)
all_placed t [] a = All-nil (IsPlaced t)
all_placed t (n ∷ ns) a = All-cons (IsPlaced t) (placed t n) (map (placed t) ns)
    (record { there = All-head (IsNeed t) n ns a; way = refl }) (all_placed t ns (All-tail (IsNeed t) n ns a))

pub listing_push : (t : RegionTree) (context op : OpNumber) (needs : List Need) (ls : List Listed) →
    AreNeeds t needs → IsListingOf t ls → IsListingOf t (inserted (listed t context op needs) ls)
listing_push t context op needs ls n a =
    all_inserted (ArePlaced t) (listed t context op needs) ls (all_placed t needs n) a

-- what is found was issued in the context
pub record IsChild (ks : List Knot) (context : ℕ) (o : OpNumber) : Type 0 where
  pub there : o.0 < length ks
  pub parent : (knot_at ks o.0).parent.0 ≡ context

found_child : (t : RegionTree) (ks : List Knot) (context : ℕ) (needs : List Need) (l : Listed) → IsIssued ks l →
    interferes_in t context needs l ≡ true → IsChild ks context l.op
found_child t ks context needs l i h = record {
  there = i.there;
  parent = ap (λ (o : OpNumber). o.0) i.parent ∙ eqb-true l.context.0 context (and_parts (l.context.0 == context) _ h).0;
}

pub found_children : (t : RegionTree) (ks : List Knot) (context : ℕ) (needs : List Need) (ls : List Listed) →
    All (IsIssued ks) ls → All (IsChild ks context) (earlier t ls context needs)
found_children t ks context needs [] a = All-nil (IsChild ks context)
found_children t ks context needs (l ∷ ls) a =
    let rest = found_children t ks context needs ls (All-tail (IsIssued ks) l ls a) in
    ⊎_elim
    (λ h. subst (λ (ms : List Listed). All (IsChild ks context) (map (λ (m : Listed). m.op) ms))
    (sym (ap (λ (b : Bool). cond b (l ∷ filter (interferes_in t context needs) ls) (filter (interferes_in t context needs) ls)) h))
    (All-cons (IsChild ks context) l.op (earlier t ls context needs)
    (found_child t ks context needs l (All-head (IsIssued ks) l ls a) h) rest))
    (λ h. subst (λ (ms : List Listed). All (IsChild ks context) (map (λ (m : Listed). m.op) ms))
    (sym (ap (λ (b : Bool). cond b (l ∷ filter (interferes_in t context needs) ls) (filter (interferes_in t context needs) ls)) h))
    rest)
    (cases_Bool (interferes_in t context needs l))

-- an operation that isn't there yet isn't listed
pub not_listed : (ks : List Knot) (ls : List Listed) → All (IsIssued ks) ls → has_op ls (length ks) ≡ false
not_listed ks [] a = refl
not_listed ks (l ∷ ls) a = ⊎_elim
    (λ h. absurd (omega (arith, eqb-true l.op.0 (length ks) h, (All-head (IsIssued ks) l ls a).there)))
    (λ h. ap (λ (b : Bool). b || has_op ls (length ks)) h ∙ not_listed ks ls (All-tail (IsIssued ks) l ls a))
    (cases_Bool (is_op (length ks) l))

-- ---- what is taken back

pub below_all : (first : ℕ) (ls : List Listed) → All (λ (l : Listed). l.op.0 < first) ls →
    filter (is_below first) ls ≡ ls
below_all first [] a = refl
below_all first (l ∷ ls) a =
    ap (λ (b : Bool). cond b (l ∷ filter (is_below first) ls) (filter (is_below first) ls))
    (lt-ltb l.op.0 first (All-head (λ (m : Listed). m.op.0 < first) l ls a))
    ∙ ap (λ (ms : List Listed). l ∷ ms) (below_all first ls (All-tail (λ (m : Listed). m.op.0 < first) l ls a))

pub below_kept : (first : ℕ) (e : Listed) (ls : List Listed) → first ≤ e.op.0 →
    filter (is_below first) (inserted e ls) ≡ filter (is_below first) ls
below_kept first e [] h =
    ap (λ (b : Bool). cond b (e ∷ []) []) (le-ltb e.op.0 first h)
below_kept first e (l ∷ ls) h = ⊎_elim
    (λ c. ap (λ (b : Bool). filter (is_below first) (cond b (e ∷ l ∷ ls) (l ∷ inserted e ls))) c
    ∙ ap (λ (b : Bool). cond b (e ∷ filter (is_below first) (l ∷ ls)) (filter (is_below first) (l ∷ ls))) (le-ltb e.op.0 first h))
    (λ c. ap (λ (b : Bool). filter (is_below first) (cond b (e ∷ l ∷ ls) (l ∷ inserted e ls))) c
    ∙ ap (λ (ms : List Listed). cond (is_below first l) (l ∷ ms) ms) (below_kept first e ls h))
    (cases_Bool (nat_lt e.op.0 l.op.0))

-- an operation that is taken back
pub record IsLeft (first place size : ℕ) (l : Listed) : Type 0 where
  pub range : (l.op.0 < first) ⊎ (place ≤ l.op.0)
  pub below : l.op.0 < size

left_still : (first place size : ℕ) (l : Listed) → IsLeft first place size l → is_op place l ≡ false →
    IsLeft first (place + 1) size l
left_still first place size l i c = record {
  range = ⊎_elim (λ b. inl b) (λ g. ⊎_elim
      (λ e. absurd (false≢true (sym c ∙ eq-eqb l.op.0 place e)))
      (λ n. inr (omega (arith, g, n)))
      (cases_eq l.op.0 place)) i.range;
  below = i.below;
}

pub left_without : (first place size : ℕ) (ls : List Listed) → All (IsLeft first place size) ls →
    All (IsLeft first (place + 1) size) (without ls place)
left_without first place size [] a = All-nil (IsLeft first (place + 1) size)
left_without first place size (l ∷ ls) a =
    let rest = left_without first place size ls (All-tail (IsLeft first place size) l ls a) in
    ⊎_elim
    (λ c. subst (All (IsLeft first (place + 1) size)) (sym (ap (λ (b : Bool). cond (not b) (l ∷ without ls place) (without ls place)) c)) rest)
    (λ c. subst (All (IsLeft first (place + 1) size)) (sym (ap (λ (b : Bool). cond (not b) (l ∷ without ls place) (without ls place)) c))
    (All-cons (IsLeft first (place + 1) size) l (without ls place)
    (left_still first place size l (All-head (IsLeft first place size) l ls a) c) rest))
    (cases_Bool (is_op place l))

pub below_without : (first place : ℕ) (ls : List Listed) → first ≤ place →
    filter (is_below first) (without ls place) ≡ filter (is_below first) ls
below_without first place [] h = refl
below_without first place (l ∷ ls) h = ⊎_elim
    (λ c. ap (λ (b : Bool). filter (is_below first) (cond (not b) (l ∷ without ls place) (without ls place))) c
    ∙ below_without first place ls h
    ∙ sym (ap (λ (b : Bool). cond b (l ∷ filter (is_below first) ls) (filter (is_below first) ls))
    (le-ltb l.op.0 first (omega (arith, h, eqb-true l.op.0 place c)))))
    (λ c. ap (λ (b : Bool). filter (is_below first) (cond (not b) (l ∷ without ls place) (without ls place))) c
    ∙ ap (λ (ms : List Listed). cond (is_below first l) (l ∷ ms) ms) (below_without first place ls h))
    (cases_Bool (is_op place l))

-- ---- the way of an issue

-- how far it is: what stood before stands as it was, and what is known at the start is known still
pub record IsIssuing (t : RegionTree) (old ks : List Knot) (known ls : List Link) (first_listed listing : List Listed) : Type 0 where
  pub extends : Extends old ks
  pub before : take (length old) ks ≡ old
  pub below : filter (is_below (length old)) listing ≡ first_listed
  pub issued : All (IsIssued ks) listing
  pub placed : IsListingOf t listing
  pub linked : IsLinked ks ls
  pub grown : AreGrown known (take (length old) ls)

new_stage : (ks : List Knot) (on : List OpNumber) (P : Stage → Type 0) → P Waiting → P Dropped →
    P (cond (some_failed ks on) Dropped Waiting)
new_stage ks on P w d = ⊎_elim
    (λ e. subst (λ (b : Bool). P (cond b Dropped Waiting)) (sym e) d)
    (λ e. subst (λ (b : Bool). P (cond b Dropped Waiting)) (sym e) w)
    (cases_Bool (some_failed ks on))

pub not_done_at_first : (ks : List Knot) (on : List OpNumber) → is_done (Some (cond (some_failed ks on) Dropped Waiting)) ≡ false
not_done_at_first ks on = new_stage ks on (λ (s : Stage). is_done (Some s) ≡ false) refl refl

pub not_parked_at_first : (ks : List Knot) (on : List OpNumber) → cond (some_failed ks on) Dropped Waiting ≡ Parked → ⊥
not_parked_at_first ks on = new_stage ks on (λ (s : Stage). s ≡ Parked → ⊥) (λ e. absurd cc) (λ e. absurd cc)

-- all that is issued
pub extends_issued : (t : RegionTree) (parent : OpNumber) (ns : List Needs) (g : Waits) →
    Extends g.knots (issued_each t g parent ns).knots
extends_issued t parent [] g = extends_itself g.knots
extends_issued t parent (n ∷ ns) g =
    extends_on g.knots (issued_one t g parent n.items).knots _
    (extends_push g.knots _ (not_done_at_first g.knots (earlier t g.listing parent.0 n.items)))
    (extends_issued t parent ns (issued_one t g parent n.items))

pub size_issued : (t : RegionTree) (parent : OpNumber) (ns : List Needs) (g : Waits) →
    length (issued_each t g parent ns).knots ≡ length g.knots + length ns
size_issued t parent [] g = omega arith
size_issued t parent (n ∷ ns) g =
    omega (
      arith,
      size_issued t parent ns (issued_one t g parent n.items),
      length_push g.knots (knot_on g.knots parent (earlier t g.listing parent.0 n.items) Waiting Dropped),
    )
