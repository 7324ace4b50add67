-- What a state keeps behind calls that are issued.
use Rattle.std.specs.Prelude.{◌≢◌, IfSome, OnErr, OnOk, Result, Ok, Err}
use Rattle.std.proofs.Common.{◌≡◌, ◌<◌, ◌≤◌, ◌∙◌, ◌+◌, ◌-◌, ◌++◌, ℕ, zero, suc, Bool, true, false, List, [], ◌∷◌, All, ap, arith, get_or, inl, inr, length, map, refl, set, subst, sym, ⊎_elim}
use Rattle.std.proofs.lemmas.Bool.{cases_lt, false≢true}
use Rattle.std.proofs.lemmas.Bool.Decides.{eqb_tells}
use Rattle.std.proofs.lemmas.List.{get_or-append_right, get_or-set_other, get_or-set_same, get_or_append_left, length-append, length-map, length-set}
use Rattle.std.proofs.lemmas.List.Elements.{All-append, All-cons, All-map, All-nil, All-set, All-weaker}
use Rattle.region_finder.specs.Listings.{IsListingOf}
use Rattle.region_tree.specs.Needs.{AreNeeds}
use Rattle.region_tree.specs.Trees.{RegionTree}
use Rattle.region_tree.specs.declared.needs.Needs.{Needs}
use Rattle.region_tree.specs.declared.tree.OpNumber.{OpNumber}
use Rattle.logical_map.specs.Maps.{LogicalMap}
use Rattle.dependence_graph.proofs.Covering.{children_issued, extends_covered, listing_issued, size_covered}
use Rattle.dependence_graph.specs.Entries.{Knot}
use Rattle.dependence_graph.specs.Graphs.{Waits, issued, knot_on}
use Rattle.dependence_graph.specs.Knots.{knot_at, number}
use Rattle.dependence_graph.specs.declared.stage.Stage.TheVariants.{Begun, Parked, Stopped}
use Rattle.machine_terms.specs.declared.frame.Frame.{Frame}
use Rattle.machine_terms.specs.declared.outcome.After.{After}
use Rattle.machine_terms.specs.Segments.{segment}
use Rattle.task_code.specs.declared.code.Code.{Code}
use Rattle.board_terms.specs.Calls.{needs_of}
use Rattle.board_terms.specs.declared.operation.Activity.TheVariants.{Idle}
use Rattle.board_terms.specs.declared.operation.Operation.{Operation}
use Rattle.board_terms.specs.States.{State, called_by, no_operation, operation_at}
use Rattle.board_calls.proofs.Frames.{frames_of_need}
use Rattle.board_calls.proofs.Issues.{all_need}
use Rattle.board_calls.specs.Calls.{HasNeedsOf, activity_by, are_all, called_waits, calling, frames_of, numbers_from, waiting_by}
use Rattle.board_gives.specs.Gives.{IsIssuedBy}
use Rattle.board_gives.specs.Makes.{IsRootBelow}
use Rattle.board_state.proofs.Keeping.{StaysBut, stays_set}
use Rattle.board_state.proofs.Gives.{left_needs, left_there, out_needs, own_needs, run_from}
use Rattle.board_state.proofs.Roots.{live_with_parts}
use Rattle.board_state.proofs.Segments.{segment_needs}
use Rattle.board_state.specs.Kept.{HasNeeds, IsKept, IsLent, IsLentWith, is_claimed, state_of}
use Rattle.board_state.specs.Steps.{HasLeft, called_with}
use Rattle.board_terms.specs.Gives.{with_parts}
use Rattle.std.proofs.lemmas.Option.{IfSome_then}

-- ---- knots of new children

-- the first ones are as they were, and behind them stand so many of an operation
pub record HasMore (k count : ℕ) (ks us : List Knot) : Type 0 where
  pub counted : length us ≡ length ks + count
  pub parents : (j : ℕ) → j < length ks → (knot_at us j).parent ≡ (knot_at ks j).parent
  pub begun : (j : ℕ) → j ≢ k → j < length ks → (knot_at ks j).stage ≡ Begun → (knot_at us j).stage ≡ Begun
  pub new : (j : ℕ) → length ks ≤ j → j < length us → (knot_at us j).parent.0 ≡ k

pub more_issued : (t : RegionTree) (op : OpNumber) (ns : List Needs) (g : Waits) → HasMore op.0 (length ns) g.knots (issued t g op ns).knots
more_issued t op ns g = record {
  counted = size_covered t op ns g;
  parents = λ j b. ap (λ (x : Knot). x.parent) ((extends_covered t op ns g).same j b);
  begun = λ j other b h. ap (λ (x : Knot). x.stage) ((extends_covered t op ns g).same j b) ∙ h;
  new = λ j a b. ap (λ (o : OpNumber). o.0) (children_issued t op ns g j a (omega (arith, b, size_covered t op ns g)));
}

more_stays : (k count : ℕ) (ks us vs : List Knot) → HasMore k count ks us → StaysBut k us vs → HasMore k count ks vs
more_stays k count ks us vs h s = record {
  counted = s.counted ∙ h.counted;
  parents = λ j b. s.parents j ∙ h.parents j b;
  begun = λ j other b e. s.begun j other (h.begun j other b e);
  new = λ j a b. ap (λ (p : OpNumber). p.0) (s.parents j) ∙ h.new j a (subst (λ (n : ℕ). j < n) s.counted b);
}

pub more_waiting : (all : Bool) (count : ℕ) (ks : List Knot) (g : Waits) (k : ℕ) → k < length g.knots → HasMore k count ks g.knots →
    HasMore k count ks (waiting_by all g k).knots
more_waiting true count ks g k b h =
    more_stays k count ks g.knots _ h (stays_set g.knots k (knot_on g.knots (knot_at g.knots k).parent [] Parked Stopped) b refl)
more_waiting false count ks g k b h = h

-- ---- new operations

fresh_children : (op : OpNumber) (fs : List Frame) (i : ℕ) → (get_or (map (called_by op) fs) i no_operation).children ≡ []
fresh_children op [] i = refl
fresh_children op (f ∷ fs) zero = refl
fresh_children op (f ∷ fs) (suc i) = fresh_children op fs i

fresh_activity : (op : OpNumber) (fs : List Frame) (i : ℕ) → (get_or (map (called_by op) fs) i no_operation).activity ≡ Idle
fresh_activity op [] i = refl
fresh_activity op (f ∷ fs) zero = refl
fresh_activity op (f ∷ fs) (suc i) = fresh_activity op fs i

fresh_lent : (op : OpNumber) (fs : List Frame) → All IsLent (map (called_by op) fs)
fresh_lent op [] = All-nil IsLent
fresh_lent op (f ∷ fs) = All-cons IsLent (called_by op f) (map (called_by op) fs) tt (fresh_lent op fs)

numbers_issued : (ks : List Knot) (k first count : ℕ) → first + count ≤ length ks →
    ((j : ℕ) → first ≤ j → j < length ks → (knot_at ks j).parent.0 ≡ k) → All (IsIssuedBy ks k) (numbers_from first count)
numbers_issued ks k first zero b h = All-nil (IsIssuedBy ks k)
numbers_issued ks k first (suc count) b h =
    All-cons (IsIssuedBy ks k) (number first) (numbers_from (suc first) count)
    (omega (arith, b), h first (omega arith) (omega (arith, b)))
    (numbers_issued ks k (suc first) count (omega (arith, b)) (λ j a l. h j (omega (arith, a)) l))

-- ---- what is kept

module _ (s : State) (k : ℕ) (o : Operation) (fs : List Frame) (w : Waits) (kept : IsKept s) (there : k < length s.operations)
    (more : HasMore k (length fs) s.waits.knots w.knots) where
  abbrev front : List Operation
  front = set s.operations k o

  abbrev all : List Operation
  all = front ++ map (called_by (number k)) fs

  size : length front ≡ length s.operations
  size = length-set s.operations k o

  at_front : (j : ℕ) → j < length s.operations → get_or all j no_operation ≡ get_or front j no_operation
  at_front j b = get_or_append_left front (map (called_by (number k)) fs) no_operation j (omega (arith, b, size))

  at_back : (j : ℕ) → length s.operations ≤ j →
      get_or all j no_operation ≡ get_or (map (called_by (number k)) fs) (j - length s.operations) no_operation
  at_back j b = get_or-append_right front (map (called_by (number k)) fs) (length s.operations) j no_operation size b

  still : (j i : ℕ) → (c : OpNumber) → IsIssuedBy s.waits.knots i c → IsIssuedBy w.knots i c
  still j i c h = (
    omega (arith, h.0, more.counted),
    ap (λ (p : OpNumber). p.0) (more.parents c.0 h.0) ∙ h.1,
  )

  old_children : (j : ℕ) → All (IsIssuedBy w.knots j) (operation_at s j).children
  old_children j = All-weaker (IsIssuedBy s.waits.knots j) (IsIssuedBy w.knots j) (still j j) _ (kept.own j)

  here : (j : ℕ) → j ≡ k → get_or front j no_operation ≡ o
  here j e = ap (λ (i : ℕ). get_or front i no_operation) e ∙ get_or-set_same s.operations k o no_operation there

  begun_yet : is_claimed o.activity ≡ false → (j : ℕ) → is_claimed (get_or all j no_operation).activity ≡ true → (knot_at w.knots j).stage ≡ Begun
  begun_yet free j claimed = ⊎_elim
      (λ l. elim (eqb_tells j k) [
        | inl h ↦ absurd (false≢true (sym free ∙ sym (ap (λ (x : Operation). is_claimed x.activity) (at_front j l ∙ here j h.1)) ∙ claimed))
        | inr h ↦ more.begun j h.1 (subst (λ (n : ℕ). j < n) kept.counted l)
            (kept.begun j (sym (ap (λ (x : Operation). is_claimed x.activity) (at_front j l ∙ get_or-set_other s.operations k j o no_operation h.1)) ∙ claimed))
      ])
      (λ g. absurd (false≢true (sym (ap (λ (x : Operation). is_claimed x.activity) (at_back j g)
      ∙ ap is_claimed (fresh_activity (number k) fs (j - length s.operations))) ∙ claimed)))
      (cases_lt j (length s.operations))

  new_children : o.children ≡ (operation_at s k).children ++ numbers_from (length s.operations) (length fs) → All (IsIssuedBy w.knots k) o.children
  new_children e = subst (All (IsIssuedBy w.knots k)) (sym e)
      (All-append (IsIssuedBy w.knots k) (operation_at s k).children (numbers_from (length s.operations) (length fs)) (old_children k)
      (numbers_issued w.knots k (length s.operations) (length fs) (omega (arith, more.counted, kept.counted))
      (λ j a b. more.new j (subst (λ (n : ℕ). n ≤ j) kept.counted a) b)))

  own_yet : o.children ≡ (operation_at s k).children ++ numbers_from (length s.operations) (length fs) → (j : ℕ) →
      All (IsIssuedBy w.knots j) (get_or all j no_operation).children
  own_yet e j = ⊎_elim
      (λ l. elim (eqb_tells j k) [
        | inl h ↦ subst (λ (x : Operation). All (IsIssuedBy w.knots j) x.children) (sym (at_front j l ∙ here j h.1))
            (subst (λ (i : ℕ). All (IsIssuedBy w.knots i) o.children) (sym h.1) (new_children e))
        | inr h ↦ subst (λ (x : Operation). All (IsIssuedBy w.knots j) x.children)
            (sym (at_front j l ∙ get_or-set_other s.operations k j o no_operation h.1)) (old_children j)
      ])
      (λ g. subst (All (IsIssuedBy w.knots j))
      (sym (ap (λ (x : Operation). x.children) (at_back j g) ∙ fresh_children (number k) fs (j - length s.operations))) (All-nil (IsIssuedBy w.knots j)))
      (cases_lt j (length s.operations))

  pub called_kept : (roots : LogicalMap) → HasNeeds s.tree o → All (HasNeedsOf s.tree) fs → is_claimed o.activity ≡ false → IsLent o →
      o.children ≡ (operation_at s k).children ++ numbers_from (length s.operations) (length fs) → IsListingOf s.tree w.listing →
      All (IsRootBelow s.tree.roots) roots →
      IsKept (state_of s.tree s.roots roots all w s.turns)
  called_kept roots needs framed free lent e listing live = record {
    counted = omega (arith, length-append front (map (called_by (number k)) fs), size, length-map fs (called_by (number k)), kept.counted, more.counted);
    listing = listing;
    needs = All-append (HasNeeds s.tree) front (map (called_by (number k)) fs) (All-set (HasNeeds s.tree) s.operations k o needs kept.needs)
        (All-map (HasNeeds s.tree) (called_by (number k)) fs framed);
    begun = begun_yet free;
    lent = All-append IsLent front (map (called_by (number k)) fs) (All-set IsLent s.operations k o lent kept.lent) (fresh_lent (number k) fs);
    own = own_yet e;
    live = live;
  }

-- ---- calls of what is out

abbrev frames_given : Code → ℕ → State → After → List Frame
frames_given code turns s a = frames_of code turns s.tree s.map a

free_by : (all : Bool) → is_claimed (activity_by all) ≡ false
free_by true = refl
free_by false = refl

lent_by : (needs : Needs) (all : Bool) → IsLentWith needs (activity_by all)
lent_by needs true = tt
lent_by needs false = tt

listing_by : (all : Bool) (t : RegionTree) (g : Waits) (k : ℕ) → IsListingOf t g.listing → IsListingOf t (waiting_by all g k).listing
listing_by true t g k h = h
listing_by false t g k h = h

pub frame_needs : (s : State) (k : ℕ) (a : After) → IsKept s → HasLeft (operation_at s k).activity a →
    IfSome a.frame (HasNeedsOf s.tree)
frame_needs s k a kept l =
    let run = run_from (operation_at s k).activity a l in
    let b = run.0 in
    let framed : IfSome (segment b).frame (HasNeedsOf s.tree) = IfSome_then (segment b).frame (segment_needs b)
    (λ g h. subst (λ (n : Needs). AreNeeds s.tree n.items) (sym (h ∙ out_needs s k b kept run.1.0)) (own_needs s k kept (left_there s k a l))) in
    subst (λ (x : After). IfSome x.frame (HasNeedsOf s.tree)) (sym run.1.1) framed

waits_more : (s : State) (k : ℕ) (a : After) (fs : List Frame) (all : Bool) → IsKept s → HasLeft (operation_at s k).activity a →
    HasMore k (length fs) s.waits.knots (called_waits s.tree s.waits (number k) fs all).knots
waits_more s k a fs all kept l =
    let issued_knots = issued s.tree s.waits (number k) (needs_of fs) in
    let grown = size_covered s.tree (number k) (needs_of fs) s.waits in
    more_waiting all (length fs) s.waits.knots issued_knots k (omega (arith, grown, left_there s k a l, kept.counted))
    (subst (λ (n : ℕ). HasMore k n s.waits.knots issued_knots.knots) (length-map fs (λ (f : Frame). f.needs))
    (more_issued s.tree (number k) (needs_of fs) s.waits))

pub calls_kept : (code : Code) (turns : ℕ) (s : State) (k : ℕ) (a : After) → IsKept s → HasLeft (operation_at s k).activity a →
    IsKept (called_with code turns s k a)
calls_kept code turns s k a kept l =
    let fs = frames_given code turns s a in
    let all = are_all code turns s.tree s.map a in
    let framed = frames_of_need code turns s.tree s.map a in
    let o = calling (operation_at s k) a (length s.operations) (length fs) all in
    let w = called_waits s.tree s.waits (number k) fs all in
    called_kept s k o fs w kept (left_there s k a l) (waits_more s k a fs all kept l) (with_parts a.parts s.map)
    (left_needs s k a kept l) framed (free_by all) (lent_by o.frame.needs all) refl
    (listing_by all s.tree (issued s.tree s.waits (number k) (needs_of fs)) k
    (listing_issued s.tree (number k) (needs_of fs) s.waits (all_need s.tree fs framed) kept.listing))
    (live_with_parts s.tree.roots a.parts s.map kept.live)

-- the same by its parts
pub calls_stay : {A E : Type 0} (code : Code) (turns : ℕ) (s : State) (k : ℕ) (a : After) (r : Result A E) (os : List Operation) (w : Waits)
    (roots : LogicalMap) → IsKept s → HasLeft (operation_at s k).activity a →
    OnOk r (os ≡ (called_with code turns s k a).operations) → OnOk r (w ≡ (called_with code turns s k a).waits) →
    OnOk r (roots ≡ (called_with code turns s k a).map) → OnErr r (os ≡ s.operations) → OnErr r ((w ≡ s.waits) × (roots ≡ s.map)) →
    IsKept (state_of s.tree s.roots roots os w s.turns)
calls_stay code turns s k a (Ok v) os w roots kept l f g h x y =
    let t = called_with code turns s k a in
    subst (λ (us : List Operation). IsKept (state_of s.tree s.roots roots us w s.turns)) (sym f)
    (subst (λ (v : Waits). IsKept (state_of s.tree s.roots roots t.operations v s.turns)) (sym g)
    (subst (λ (m : LogicalMap). IsKept (state_of s.tree s.roots m t.operations t.waits s.turns)) (sym h)
    (calls_kept code turns s k a kept l)))
calls_stay code turns s k a (Err c) os w roots kept l f g h x y =
    subst (λ (us : List Operation). IsKept (state_of s.tree s.roots roots us w s.turns)) (sym x)
    (subst (λ (v : Waits). IsKept (state_of s.tree s.roots roots s.operations v s.turns)) (sym y.0)
    (subst (λ (m : LogicalMap). IsKept (state_of s.tree s.roots m s.operations s.waits s.turns)) (sym y.1) kept))
