-- What a step on an operation keeps of a board: other operations, the points of regions, who is over, and that the graph
-- lists no old operation anew.
use Rattle.std.proofs.Common.{◌≡◌, ◌<◌, ◌≤◌, ◌⊎◌, ◌++◌, ◌∷◌, ◌∙◌, ◌==◌, ◌&&◌, ⊎_elim, ℕ, zero, suc, Bool, List, [], ap, arith, cond, false, inl, inr, length, map, refl, set, subst, sym, true}
use Rattle.std.specs.Prelude.{filter, get_or, nat_lt, not}
use Rattle.std.specs.List.{Contains}
use Rattle.std.proofs.lemmas.Bool.{and_parts, false≢true}
use Rattle.std.proofs.lemmas.List.{get_or_append_left, get_or-set_other, length-append, length-set}
use Rattle.region_finder.specs.Listings.{Listed, PlacedNeed, all_uncovered, earlier, inserted, is_covered, is_op, listed, uncovered}
use Rattle.region_tree.specs.Entries.{TreeNode}
use Rattle.region_tree.specs.Trees.{RegionTree, no_node, points_of_content, set_at}
use Rattle.region_tree.specs.declared.needs.Need.{Need}
use Rattle.region_tree.specs.declared.needs.Needs.{Needs}
use Rattle.region_tree.specs.declared.tree.OpNumber.{OpNumber}
use Rattle.dependence_graph.specs.Entries.{Knot}
use Rattle.dependence_graph.specs.Graphs.{Waits, covered_each, ended, issued, issued_each, issued_one, knot_on, with_knots}
use Rattle.dependence_graph.specs.Knots.{give_up, give_up_each, given_up, knot_at, no_knot, number, same_stage, some_failed, with_stage}
use Rattle.dependence_graph.specs.declared.stage.How.{How}
use Rattle.dependence_graph.specs.declared.stage.How.TheVariants as how
use Rattle.dependence_graph.specs.declared.stage.Stage.{Stage as Knotted}
use Rattle.dependence_graph.specs.declared.stage.Stage.TheVariants as knot
use Rattle.dependence_graph.proofs.Following.{all_give_up}
use Rattle.plain_values.specs.Points.{points}
use Rattle.machine_terms.specs.declared.frame.Frame.{Frame}
use Rattle.board_terms.specs.declared.operation.Activity.{Activity}
use Rattle.board_terms.specs.declared.operation.Operation.{Operation}
use Rattle.board_terms.specs.declared.operation.Wait.{Wait}
use Rattle.board_terms.specs.Closings.{closed_up, may_close, over, up_from}
use Rattle.board_terms.specs.Stages.{is_over, stage_of}
use Rattle.board_terms.specs.States.{State, called_by, no_operation, operation_at}
use Rattle.board_trees.proofs.Settled.{activity_open, wait_open}
use Rattle.changed_trees.proofs.Contained.{contains_cases, contains_first, contains_later, none_in}

-- ---- operations

-- one is as it was, or has no children
abbrev pub IsSame : Operation → Operation → Type 0
IsSame o q = (q ≡ o) ⊎ (q.children ≡ [])

-- so are all but one
abbrev pub OthersStay : ℕ → List Operation → List Operation → Type 0
OthersStay k os qs = (j : ℕ) → ¬ (j ≡ k) → IsSame (get_or os j no_operation) (get_or qs j no_operation)

pub others_itself : (k : ℕ) (os : List Operation) → OthersStay k os os
others_itself k os j n = inl refl

pub others_on : (k : ℕ) (os ps qs : List Operation) → OthersStay k os ps → OthersStay k ps qs → OthersStay k os qs
others_on k os ps qs h g j n = ⊎_elim (λ e. ⊎_elim (λ d. inl (e ∙ d)) (λ d. inr (ap (λ (o : Operation). o.children) e ∙ d)) (h j n)) (λ e. inr e) (g j n)

pub others_set : (os : List Operation) (k : ℕ) (o : Operation) → OthersStay k os (set os k o)
others_set os k o j n = inl (get_or-set_other os k j o no_operation n)

-- more behind them
same_more : (os more : List Operation) → ((j : ℕ) → (get_or more j no_operation).children ≡ []) → (j : ℕ) → IsSame (get_or os j no_operation) (get_or (os ++ more) j no_operation)
same_more [] more h j = inr (h j)
same_more (x ∷ os) more h zero = inl refl
same_more (x ∷ os) more h (suc j) = same_more os more h j

pub called_childless : (parent : OpNumber) (fs : List Frame) (j : ℕ) → (get_or (map (called_by parent) fs) j no_operation).children ≡ []
called_childless parent [] j = refl
called_childless parent (f ∷ fs) zero = refl
called_childless parent (f ∷ fs) (suc j) = called_childless parent fs j

pub others_called : (os : List Operation) (k : ℕ) (o : Operation) (parent : OpNumber) (fs : List Frame) → OthersStay k os (set os k o ++ map (called_by parent) fs)
others_called os k o parent fs = others_on k os (set os k o) (set os k o ++ map (called_by parent) fs) (others_set os k o)
    (λ j n. same_more (set os k o) (map (called_by parent) fs) (called_childless parent fs) j)

-- ---- regions

pub record PointsStay (t v : RegionTree) : Type 0 where
  pub size : length t.nodes ≤ length v.nodes
  pub same : (n : ℕ) → n < length t.nodes → set_at t n ≡ set_at v n

pub points_itself : (t : RegionTree) → PointsStay t t
points_itself t = record { size = omega arith; same = λ n l. refl }

pub points_on : (t v w : RegionTree) → PointsStay t v → PointsStay v w → PointsStay t w
points_on t v w h g =
    let size = h.size in
    let more = g.size in
    record { size = omega (arith, size, more); same = λ n l. h.same n l ∙ g.same n (omega (arith, l, size)) }

pub points_more : (t : RegionTree) (roots : ℕ) (more : List TreeNode) → PointsStay t (record { roots = roots; nodes = t.nodes ++ more })
points_more t roots more = record {
  size = omega (arith, length-append t.nodes more);
  same = λ n l. ap (λ (x : TreeNode). points_of_content x.content) (sym (get_or_append_left t.nodes more no_node n l));
}

-- ---- the graph

abbrev pub is_past : Knotted → Bool
is_past knot.Done = true
is_past knot.Failed = true
is_past knot.Dropped = true
is_past _ = false

pub over_is : (kn : Knotted) (w : Wait) (a : Activity) → is_over (stage_of kn w a) ≡ is_past kn
over_is knot.Waiting w a = refl
over_is knot.Begun w a = activity_open a
over_is knot.Parked w a = wait_open w
over_is knot.Stopped w a = refl
over_is knot.Done w a = refl
over_is knot.Failed w a = refl
over_is knot.Dropped w a = refl

-- an operation is listed there, as issued with these needs
pub record IsFrom (ls : List Listed) (x : Listed) : Type 0 where
  pub one : Listed
  pub there : Contains ls one
  pub op_is : x.op ≡ one.op
  pub issued : x.issued ≡ one.issued

-- all are there still; an entry was there, maybe with more needs open, or is that of a new one; and what is over stays so, but for one
pub record WaitsStay (k : ℕ) (g h : Waits) : Type 0 where
  pub size : length g.knots ≤ length h.knots
  pub entries : (x : Listed) → Contains h.listing x → IsFrom g.listing x ⊎ (length g.knots ≤ x.op.0)
  pub past : (j : ℕ) → ¬ (j ≡ k) → j < length g.knots → is_past (knot_at g.knots j).stage ≡ true → is_past (knot_at h.knots j).stage ≡ true

pub from_itself : (ls : List Listed) (x : Listed) → Contains ls x → IsFrom ls x
from_itself ls x c = record { one = x; there = c; op_is = refl; issued = refl }

pub waits_itself : (k : ℕ) (g : Waits) → WaitsStay k g g
waits_itself k g = record { size = omega arith; entries = λ x c. inl (from_itself g.listing x c); past = λ j n l e. e }

pub waits_on : (k : ℕ) (g h i : Waits) → WaitsStay k g h → WaitsStay k h i → WaitsStay k g i
waits_on k g h i a b =
    let size = a.size in
    let more = b.size in
    record {
      size = omega (arith, size, more);
      entries = λ x c. ⊎_elim
          (λ d. ⊎_elim
          (λ e. inl (record {
            one = e.one;
            there = e.there;
            op_is = d.op_is ∙ e.op_is;
            issued = d.issued ∙ e.issued;
          }))
          (λ l. inr (subst (λ (o : OpNumber). length g.knots ≤ o.0) (sym d.op_is) l))
          (a.entries d.one d.there))
          (λ l. inr (omega (arith, l, size))) (b.entries x c);
      past = λ j n l e. b.past j n (omega (arith, l, size)) (a.past j n l e);
    }

pub waits_set : (g : Waits) (k : ℕ) (x : Knot) → WaitsStay k g (with_knots g (set g.knots k x))
waits_set g k x = record {
  size = omega (arith, length-set g.knots k x);
  entries = λ y c. inl (from_itself g.listing y c);
  past = λ j n l e. subst (λ (z : Knot). is_past z.stage ≡ true) (sym (get_or-set_other g.knots k j x no_knot n)) e;
}

-- ---- calls

pub inserted_entry : (e : Listed) (ls : List Listed) (x : Listed) → Contains (inserted e ls) x → (e ≡ x) ⊎ Contains ls x
inserted_entry e [] x c = contains_cases e [] x c
inserted_entry e (l ∷ ls) x c = chosen (nat_lt e.op.0 l.op.0) (inserted_entry e ls x) c
  where
    chosen : (b : Bool) → (Contains (inserted e ls) x → (e ≡ x) ⊎ Contains ls x) → Contains (cond b (e ∷ l ∷ ls) (l ∷ inserted e ls)) x → (e ≡ x) ⊎ Contains (l ∷ ls) x
    chosen true more d = contains_cases e (l ∷ ls) x d
    chosen false more d = ⊎_elim (λ q. inr (subst (λ z. Contains (z ∷ ls) x) (sym q) (contains_first x ls)))
        (λ r. ⊎_elim (λ q. inl q) (λ m. inr (contains_later l ls x m)) (more r)) (contains_cases l (inserted e ls) x d)

one_issued : (k : ℕ) (t : RegionTree) (g : Waits) (parent : OpNumber) (needs : List Need) → WaitsStay k g (issued_one t g parent needs)
one_issued k t g parent needs =
    let new : Knot = knot_on g.knots parent (earlier t g.listing parent.0 needs) knot.Waiting knot.Dropped in
    let last : length g.knots ≤ length g.knots = omega arith in
    record {
      size = omega (arith, length-append g.knots (new ∷ []));
      entries = λ x c. ⊎_elim (λ e. inr (subst (λ (y : Listed). length g.knots ≤ y.op.0) e last)) (λ d. inl (from_itself g.listing x d))
          (inserted_entry (listed t parent (number (length g.knots)) needs) g.listing x c);
      past = λ j n l e. subst (λ (z : Knot). is_past z.stage ≡ true) (sym (get_or_append_left g.knots (new ∷ []) no_knot j l)) e;
    }

each_issued : (k : ℕ) (t : RegionTree) (g : Waits) (parent : OpNumber) (ns : List Needs) → WaitsStay k g (issued_each t g parent ns)
each_issued k t g parent [] = waits_itself k g
each_issued k t g parent (n ∷ ns) =
    let next = issued_one t g parent n.items in
    waits_on k g next (issued_each t next parent ns) (one_issued k t g parent n.items) (each_issued k t next parent ns)

uncovered_from : (context n : ℕ) (needs : List Need) (ls : List Listed) (x : Listed) → Contains (all_uncovered context n needs ls) x → IsFrom ls x
uncovered_from context n needs [] x c = absurd (none_in x c)
uncovered_from context n needs (l ∷ ls) x c = ⊎_elim
    (λ e. subst (IsFrom (l ∷ ls)) e (chosen ((l.context.0 == context) && nat_lt l.op.0 n)))
    (λ m. let f = uncovered_from context n needs ls x m in record { one = f.one; there = contains_later l ls f.one f.there; op_is = f.op_is; issued = f.issued })
    (contains_cases (uncovered context n needs l) (all_uncovered context n needs ls) x c)
  where
    chosen : (b : Bool) → IsFrom (l ∷ ls) (cond b (record l { needs = filter (λ (m : PlacedNeed). not (is_covered needs m)) l.needs }) l)
    chosen true = record { one = l; there = contains_first l ls; op_is = refl; issued = refl }
    chosen false = from_itself (l ∷ ls) l (contains_first l ls)

pub covered_from : (context : ℕ) (ns : List Needs) (g : Waits) (n : ℕ) (x : Listed) → Contains (covered_each context ns g n).listing x → IsFrom g.listing x
covered_from context [] g n x c = from_itself g.listing x c
covered_from context (m ∷ ns) g n x c =
    let next : Waits = record { knots = g.knots; listing = all_uncovered context n m.items g.listing } in
    let later = covered_from context ns next (suc n) x c in
    let f = uncovered_from context n m.items g.listing later.one later.there in
    record { one = f.one; there = f.there; op_is = later.op_is ∙ f.op_is; issued = later.issued ∙ f.issued }

each_covered : (k context : ℕ) (ns : List Needs) (g : Waits) (n : ℕ) → WaitsStay k g (covered_each context ns g n)
each_covered k context [] g n = waits_itself k g
each_covered k context (m ∷ ns) g n =
    let next : Waits = record { knots = g.knots; listing = all_uncovered context n m.items g.listing } in
    waits_on k g next (covered_each context ns next (suc n))
    (record { size = omega arith; entries = λ x c. inl (uncovered_from context n m.items g.listing x c); past = λ j d l e. e })
    (each_covered k context ns next (suc n))

pub all_issued : (k : ℕ) (t : RegionTree) (g : Waits) (parent : OpNumber) (ns : List Needs) → WaitsStay k g (issued t g parent ns)
all_issued k t g parent ns = waits_on k g (issued_each t g parent ns) (issued t g parent ns) (each_issued k t g parent ns)
    (each_covered k parent.0 ns (issued_each t g parent ns) (length g.knots))

-- ---- ends

-- what is over stays over where one that isn't changes, or one ends
past_beside : (ks : List Knot) (k : ℕ) (x : Knot) → is_past (knot_at ks k).stage ≡ false → (j : ℕ) → is_past (knot_at ks j).stage ≡ true → is_past (knot_at (set ks k x) j).stage ≡ true
past_beside [] k x f j e = e
past_beside (y ∷ ks) zero x f zero e = absurd (false≢true (sym f ∙ e))
past_beside (y ∷ ks) zero x f (suc j) e = e
past_beside (y ∷ ks) (suc k) x f zero e = e
past_beside (y ∷ ks) (suc k) x f (suc j) e = past_beside ks k x f j e

past_ended : (ks : List Knot) (k : ℕ) (x : Knot) → is_past x.stage ≡ true → (j : ℕ) → is_past (knot_at ks j).stage ≡ true → is_past (knot_at (set ks k x) j).stage ≡ true
past_ended [] k x f j e = e
past_ended (y ∷ ks) zero x f zero e = f
past_ended (y ∷ ks) zero x f (suc j) e = e
past_ended (y ∷ ks) (suc k) x f zero e = e
past_ended (y ∷ ks) (suc k) x f (suc j) e = past_ended ks k x f j e

waits_unpast : (a from : Knotted) → same_stage a from ≡ true → is_past a ≡ false
waits_unpast knot.Waiting from e = refl
waits_unpast knot.Begun from e = refl
waits_unpast knot.Parked from e = refl
waits_unpast knot.Stopped from e = refl
waits_unpast knot.Done from e = absurd (false≢true e)
waits_unpast knot.Failed from e = absurd (false≢true e)
waits_unpast knot.Dropped from e = absurd (false≢true e)

module _ (from to : Knotted) where
  past_one : (ks : List Knot) (n j : ℕ) → is_past (knot_at ks j).stage ≡ true → is_past (knot_at (give_up from to ks n) j).stage ≡ true
  past_one ks n j e = chosen (same_stage (knot_at ks n).stage from && some_failed ks (knot_at ks n).on) refl
    where
      chosen : (b : Bool) → (same_stage (knot_at ks n).stage from && some_failed ks (knot_at ks n).on) ≡ b → is_past (knot_at (cond b (with_stage ks n to) ks) j).stage ≡ true
      chosen true q = past_beside ks n (record { parent = (knot_at ks n).parent; on = (knot_at ks n).on; stage = to })
          (waits_unpast (knot_at ks n).stage from (and_parts (same_stage (knot_at ks n).stage from) (some_failed ks (knot_at ks n).on) q).0) j e
      chosen false q = e

  past_each : (ns : List ℕ) (ks : List Knot) (j : ℕ) → is_past (knot_at ks j).stage ≡ true → is_past (knot_at (give_up_each from to ks ns) j).stage ≡ true
  past_each [] ks j e = e
  past_each (n ∷ ns) ks j e = past_each ns (give_up from to ks n) j (past_one ks n j e)

past_all : (ks : List Knot) (j : ℕ) → is_past (knot_at ks j).stage ≡ true → is_past (knot_at (given_up ks) j).stage ≡ true
past_all ks j e =
    let some = give_up_each knot.Waiting knot.Dropped ks (points (length ks)) in
    past_each knot.Parked knot.Stopped (points (length ks)) some j (past_each knot.Waiting knot.Dropped (points (length ks)) ks j e)

pub filtered_entry : (p : Listed → Bool) (ls : List Listed) (x : Listed) → Contains (filter p ls) x → Contains ls x
filtered_entry p [] x c = c
filtered_entry p (l ∷ ls) x c = chosen (p l) (filtered_entry p ls x) c
  where
    chosen : (b : Bool) → (Contains (filter p ls) x → Contains ls x) → Contains (cond b (l ∷ filter p ls) (filter p ls)) x → Contains (l ∷ ls) x
    chosen true more d = ⊎_elim (λ q. subst (λ z. Contains (z ∷ ls) x) (sym q) (contains_first x ls)) (λ r. contains_later l ls x (more r)) (contains_cases l (filter p ls) x d)
    chosen false more d = contains_later l ls x (more d)

abbrev at_stage : List Knot → ℕ → Knotted → Knot
at_stage ks k st = record { parent = (knot_at ks k).parent; on = (knot_at ks k).on; stage = st }

pub waits_ended : (k : ℕ) (g : Waits) (j : ℕ) (h : How) → WaitsStay k g (ended g j h)
waits_ended k g j how.Done = record {
  size = omega (arith, length-set g.knots j (at_stage g.knots j knot.Done));
  entries = λ x c. inl (from_itself g.listing x (filtered_entry (λ l. not (is_op j l)) g.listing x c));
  past = λ i n l e. past_ended g.knots j (at_stage g.knots j knot.Done) refl i e;
}
waits_ended k g j how.Failed =
    let failed = with_stage g.knots j knot.Failed in
    let size = (all_give_up failed).follows.size in
    record {
      size = omega (arith, size, length-set g.knots j (at_stage g.knots j knot.Failed));
      entries = λ x c. inl (from_itself g.listing x c);
      past = λ i n l e. past_all failed i (past_ended g.knots j (at_stage g.knots j knot.Failed) refl i e);
    }

-- ---- states

abbrev pub Kept : State → ℕ → State → Type 0
Kept s k u = OthersStay k s.operations u.operations × PointsStay s.tree u.tree × WaitsStay k s.waits u.waits

pub kept_itself : (s : State) (k : ℕ) → Kept s k s
kept_itself s k = (others_itself k s.operations, points_itself s.tree, waits_itself k s.waits)

-- of one operation that something is said of, too, whatever follows
module _ (s : State) (k : ℕ) (P : Operation → Type 0) where
  abbrev pub Stays : State → Type 0
  Stays u = Kept s k u × P (operation_at u k)

  over_stays : (u : State) (j : ℕ) → Stays u → Stays (over u j)
  over_stays u j h = ((h.0.0, h.0.1, waits_on k s.waits u.waits (over u j).waits h.0.2 (waits_ended k u.waits j _)), h.1)

  up_stays : (j : ℕ) (close : State → ℕ → State) (u : State) → ((v : State) (i : ℕ) → Stays v → Stays (close v i)) → Stays u → Stays (up_from j close u)
  up_stays zero close u more h = h
  up_stays (suc j) close u more h = more u (operation_at u (suc j)).parent.0 h

  pub closed_stays : (n : ℕ) (u : State) (j : ℕ) → Stays u → Stays (closed_up n u j)
  closed_stays zero u j h = h
  closed_stays (suc n) u j h = chosen (may_close u j) (closed_stays n)
    where
      chosen : (c : Bool) → ((v : State) (i : ℕ) → Stays v → Stays (closed_up n v i)) → Stays (cond c (up_from j (closed_up n) (over u j)) u)
      chosen true more = up_stays j (closed_up n) (over u j) more (over_stays u j h)
      chosen false more = h
