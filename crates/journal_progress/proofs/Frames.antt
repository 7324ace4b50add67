-- What a give leaves of its operation's frame: the roots that it made stay, and while its own work goes on it needs what it
-- needed, and what it makes; and which entries are new.
use Rattle.std.proofs.Common.{◌≡◌, ◌<◌, ◌⊎◌, ◌+◌, ◌++◌, ◌∷◌, ◌∙◌, ◌==◌, ◌&&◌, ⊎_elim, ℕ, zero, suc, Bool, List, None, Some, [], ap, append-nil, arith, cond, false, inl, inr, length, map, refl, set, subst, sym, true}
use Rattle.std.specs.Prelude.{All, get_or, not, slice_get}
use Rattle.std.specs.List.{Contains}
use Rattle.std.proofs.lemmas.List.{get_or-set_same, length-append, length-set, set-set}
use Rattle.std.proofs.lemmas.List.Elements.{All-append, All-cons, All-nil, Contains-append_left, Contains-push}
use Rattle.std.proofs.lemmas.Option.{none-some, same_Some}
use Rattle.region_finder.specs.Listings.{Listed, is_op, listed}
use Rattle.region_tree.specs.Trees.{RegionTree, set_at}
use Rattle.region_tree.specs.declared.needs.Need.{Need}
use Rattle.region_tree.specs.declared.needs.Needs.{Needs}
use Rattle.region_tree.specs.declared.tree.OpNumber.{OpNumber}
use Rattle.region_tree.specs.declared.tree.RootId.{RootId}
use Rattle.dependence_graph.specs.Entries.{Knot}
use Rattle.dependence_graph.specs.Graphs.{Waits, ended, issued, issued_each, issued_one}
use Rattle.dependence_graph.specs.Knots.{number}
use Rattle.dependence_graph.specs.declared.stage.How.{How}
use Rattle.dependence_graph.specs.declared.stage.How.TheVariants as how
use Rattle.dependence_graph.specs.declared.stage.Waiting.{Waiting}
use Rattle.dependence_graph.specs.declared.stage.Waiting.TheVariants as graph
use Rattle.task_code.specs.declared.job.Job.{Job}
use Rattle.machine_terms.specs.declared.frame.Before.{Before}
use Rattle.machine_terms.specs.declared.frame.Frame.{Frame}
use Rattle.machine_terms.specs.declared.outcome.Made.{Made}
use Rattle.machine_terms.specs.declared.outcome.Made.TheVariants as made
use Rattle.machine_terms.specs.declared.outcome.Yield.{Yield}
use Rattle.machine_terms.specs.declared.outcome.Yield.TheVariants as yield
use Rattle.machine_terms.specs.declared.value.RegionValue.{RegionValue}
use Rattle.machine_terms.specs.declared.value.Value.TheVariants as value
use Rattle.machine_terms.specs.Makes.{fields_needed, is_sound, pushed}
use Rattle.machine_terms.specs.Segments.{frame_after, segment, stop_of}
use Rattle.machine_terms.proofs.Kept.{stop_fixed}
use Rattle.board_terms.specs.declared.operation.Activity.{Activity}
use Rattle.board_terms.specs.declared.operation.Activity.TheVariants as activity
use Rattle.board_terms.specs.declared.operation.Ending.{Ending}
use Rattle.board_terms.specs.declared.operation.Ending.TheVariants as ending
use Rattle.board_terms.specs.declared.operation.Operation.{Operation}
use Rattle.board_terms.specs.declared.operation.Wait.{Wait}
use Rattle.board_terms.specs.declared.operation.Wait.TheVariants as wait
use Rattle.board_terms.specs.Calls.{called_in, caller_of, frames_before, needs_of}
use Rattle.board_terms.specs.Closings.{closed_up, how_closed, may_close, over, up_from}
use Rattle.board_terms.specs.Gives.{behind_segment, ended_by, frame_left, given_after, making, needs_on, parked_for, parts_given, waits_for, yielded}
use Rattle.board_terms.specs.Makes.{children_from, frame_with_root, is_here, needs_of_root, next_node, next_root, partition_made, root_made}
use Rattle.board_terms.specs.States.{State, called_by, no_operation, operation_at, with_operation}
use Rattle.journal_progress.proofs.Kept.{IsFrom, covered_from, filtered_entry, from_itself, inserted_entry}

-- ---- new entries

-- an entry of the operation with so many before it behind the old ones, with its needs
abbrev IsNewOf : ℕ → List Needs → Listed → Type 0
IsNewOf base ns x = (i : ℕ) × (x.op.0 ≡ base + i) × (m : Needs) × (slice_get ns i ≡ Some m) × (m.items ≡ x.issued)

new_each : (t : RegionTree) (g : Waits) (parent : OpNumber) (ns : List Needs) (x : Listed) → Contains (issued_each t g parent ns).listing x → IsFrom g.listing x ⊎ IsNewOf (length g.knots) ns x
new_each t g parent [] x c = inl (from_itself g.listing x c)
new_each t g parent (n ∷ ns) x c =
    let next = issued_one t g parent n.items in
    ⊎_elim
    (λ f. ⊎_elim
    (λ q. inr (0, ap (λ (o : OpNumber). o.0) (f.op_is ∙ ap (λ (y : Listed). y.op) (sym q)) ∙ omega arith, n, refl, ap (λ (y : Listed). y.issued) q ∙ sym f.issued))
    (λ d. inl (record { one = f.one; there = d; op_is = f.op_is; issued = f.issued }))
    (inserted_entry (listed t parent (number (length g.knots)) n.items) g.listing f.one f.there))
    (λ r. inr (suc r.0, r.1 ∙ further g.knots _ r.0, r.2, r.3, r.4))
    (new_each t next parent ns x c)
  where
    further : (ks : List Knot) (y : Knot) (i : ℕ) → length (ks ++ y ∷ []) + i ≡ length ks + suc i
    further ks y i = omega (arith, length-append ks (y ∷ []))

new_all : (t : RegionTree) (g : Waits) (parent : OpNumber) (ns : List Needs) (x : Listed) → Contains (issued t g parent ns).listing x → IsFrom g.listing x ⊎ IsNewOf (length g.knots) ns x
new_all t g parent ns x c =
    let f = covered_from parent.0 ns (issued_each t g parent ns) (length g.knots) x c in
    ⊎_elim
    (λ e. inl (record { one = e.one; there = e.there; op_is = f.op_is ∙ e.op_is; issued = f.issued ∙ e.issued }))
    (λ r. inr (r.0, ap (λ (o : OpNumber). o.0) f.op_is ∙ r.1, r.2, r.3, r.4 ∙ sym f.issued))
    (new_each t g parent ns f.one f.there)

-- an entry of the operation that begins in one of these frames
abbrev pub IsNew : ℕ → List Frame → Listed → Type 0
IsNew base fs x = (i : ℕ) × (x.op.0 ≡ base + i) × (f : Frame) × (slice_get fs i ≡ Some f) × (f.needs.items ≡ x.issued)

framed : (fs : List Frame) (i : ℕ) (m : Needs) → slice_get (needs_of fs) i ≡ Some m → (f : Frame) × (slice_get fs i ≡ Some f) × (f.needs ≡ m)
framed [] i m e = absurd (none-some m e)
framed (f ∷ fs) zero m e = (f, refl, same_Some f.needs m e)
framed (f ∷ fs) (suc i) m e = framed fs i m e

new_of : (base : ℕ) (fs : List Frame) (x : Listed) → IsNewOf base (needs_of fs) x → IsNew base fs x
new_of base fs x r = let f = framed fs r.0 r.2 r.3 in (r.0, r.1, f.0, f.1, ap (λ (n : Needs). n.items) f.2 ∙ r.4)

ended_from : (g : Waits) (j : ℕ) (w : How) (x : Listed) → Contains (ended g j w).listing x → Contains g.listing x
ended_from g j how.Done x c = filtered_entry (λ l. not (is_op j l)) g.listing x c
ended_from g j how.Failed x c = c

-- ---- frames

-- its own work hasn't ended
abbrev pub has_work : Activity → Bool
has_work (activity.Closing e) = false
has_work _ = true

-- beside such needs it needs some of roots that it made
abbrev pub NeedsGrow : List Need → Frame → Type 0
NeedsGrow ns f = (more : List Need) × (f.needs.items ≡ ns ++ more) × All (λ (m : Need). Contains f.own m.root) more

-- or it needs nothing any more, since its own work has ended
abbrev pub NeedsLeft : List Need → Activity → Frame → Type 0
NeedsLeft ns a f = NeedsGrow ns f ⊎ ((has_work a ≡ false) × (f.needs.items ≡ []))

abbrev pub OwnGrow : List RootId → Frame → Type 0
OwnGrow own f = (r : RootId) → Contains own r → Contains f.own r

-- the needs of a new root are of that root
root_needs : (P : Need → Type 0) (root : RootId) (node fields : ℕ) → ((m : Need) → m.root ≡ root → P m) → All P (needs_of_root root node fields)
root_needs P root node zero h = All-nil P
root_needs P root node (suc n) h = All-append P (needs_of_root root node n) _ (root_needs P root node n h) (All-cons P _ [] (h _ refl) (All-nil P))

module _ (job : Job) (s : State) (k : ℕ) (within : k < length s.operations) where
  abbrev o : Operation
  o = operation_at s k

  -- behind the give: the operation alone is changed, and others come behind the old ones
  pub record Leaves (u : State) : Type 0 where
    pub now : Operation
    pub calls : List Frame
    pub operations : u.operations ≡ set s.operations k now ++ map (called_by (number k)) calls
    pub own : OwnGrow o.frame.own now.frame
    pub needs : NeedsLeft o.frame.needs.items now.activity now.frame
    pub entries : (x : Listed) → Contains u.waits.listing x → IsFrom s.waits.listing x ⊎ IsNew (length s.waits.knots) calls x

  -- ---- one operation is set

  record Simple (u : State) (n : Operation) : Type 0 where
    operations : u.operations ≡ set s.operations k n
    listing : u.waits.listing ≡ s.waits.listing
    knots : length u.waits.knots ≡ length s.waits.knots

  at_k : (u : State) (n : Operation) → Simple u n → operation_at u k ≡ n
  at_k u n h = ap (λ os. get_or os k no_operation) h.operations ∙ get_or-set_same s.operations k n no_operation within

  set_on : (u : State) (n m : Operation) → Simple u n → Simple (with_operation u k m) m
  set_on u n m h = record { operations = ap (λ os. set os k m) h.operations ∙ set-set s.operations k n m; listing = h.listing; knots = h.knots }

  as_simple : (u : State) (n : Operation) → Simple u n → OwnGrow o.frame.own n.frame → NeedsLeft o.frame.needs.items n.activity n.frame → Leaves u
  as_simple u n h own needs = record {
    now = n;
    calls = [];
    operations = h.operations ∙ sym (append-nil (set s.operations k n));
    own = own;
    needs = needs;
    entries = λ x c. inl (from_itself s.waits.listing x (subst (λ ls. Contains ls x) h.listing c));
  }

  -- where the operation keeps its frame
  pub simply_leaves : (u : State) (n : Operation) → u.operations ≡ set s.operations k n → u.waits.listing ≡ s.waits.listing → n.frame.own ≡ o.frame.own → n.frame.needs ≡ o.frame.needs → Leaves u
  simply_leaves u n ops listing own needs = record {
    now = n;
    calls = [];
    operations = ops ∙ sym (append-nil (set s.operations k n));
    own = λ r c. subst (λ rs. Contains rs r) (sym own) c;
    needs = inl ([], ap (λ (m : Needs). m.items) needs ∙ sym (append-nil o.frame.needs.items), All-nil (λ (m : Need). Contains n.frame.own m.root));
    entries = λ x c. inl (from_itself s.waits.listing x (subst (λ ls. Contains ls x) listing c));
  }

  parked : (u : State) (n : Operation) (w : Wait) (on : Waiting) → Simple u n → Simple (parked_for u k w on) (record n { wait = w })
  parked u n w on h =
      let p = set_on u n (record (operation_at u k) { wait = w }) h in
      subst (λ m. Simple (parked_for u k w on) (record m { wait = w })) (at_k u n h)
      (record { operations = p.operations; listing = h.listing; knots = length-set u.waits.knots k _ ∙ h.knots })

  -- the frame that a segment leaves
  record Kept (f : Frame) : Type 0 where
    own : f.own ≡ o.frame.own
    needs : f.needs ≡ o.frame.needs

  kept_own : (f : Frame) → f.own ≡ o.frame.own → OwnGrow o.frame.own f
  kept_own f e r c = subst (λ rs. Contains rs r) (sym e) c

  kept_needs : (f : Frame) → Kept f → NeedsGrow o.frame.needs.items f
  kept_needs f h = ([], ap (λ (n : Needs). n.items) h.needs ∙ sym (append-nil o.frame.needs.items), All-nil (λ (m : Need). Contains f.own m.root))

  given : (u : State) (n : Operation) → Simple u n → Simple (parts_given u k) (record n { parts = [] })
  given u n h =
      let p = set_on u n (record (operation_at u k) { parts = [] }) h in
      subst (λ m. Simple (parts_given u k) (record m { parts = [] })) (at_k u n h) (record { operations = p.operations; listing = h.listing; knots = h.knots })

  ended_so : (u : State) (n : Operation) (e : Ending) → Simple u n → OwnGrow o.frame.own n.frame → NeedsGrow o.frame.needs.items n.frame ⊎ (n.frame.needs.items ≡ []) → Leaves (ended_by u k e)
  ended_so u n e h own rest =
      let p = set_on u n (record (operation_at u k) { parts = []; activity = activity.Closing e }) h in
      as_simple (ended_by u k e) (record n { parts = []; activity = activity.Closing e })
      (subst (λ m. Simple (ended_by u k e) (record m { parts = []; activity = activity.Closing e })) (at_k u n h) p) own (⊎_elim inl (λ q. inr (refl, q)) rest)

  parked_so : (u : State) (n : Operation) (w : Wait) (on : Waiting) → Simple u n → OwnGrow o.frame.own n.frame → NeedsGrow o.frame.needs.items n.frame → Leaves (parked_for u k w on)
  parked_so u n w on h own needs = as_simple (parked_for u k w on) (record n { wait = w }) (parked u n w on h) own (inl needs)

  -- ---- each yield

  module _ (before : Before) (same_own : before.frame.own ≡ o.frame.own) (same_needs : before.frame.needs ≡ o.frame.needs) where
    abbrev left : Operation
    left = behind_segment o (segment before)

    abbrev behind : State
    behind = with_operation s k left

    abbrev stopped : Frame
    stopped = (stop_of before).machine.frame

    stopped_kept : Kept stopped
    stopped_kept = record { own = (stop_fixed before).own ∙ same_own; needs = (stop_fixed before).needs ∙ same_needs }

    simple : Simple behind left
    simple = record { operations = refl; listing = refl; knots = refl }

    left_is : (y : Yield) → (stop_of before).ends ≡ y → left.frame ≡ frame_left o.frame (frame_after y stopped)
    left_is y e = ap (λ z. frame_left o.frame (frame_after z stopped)) e

    goes_on : left.frame ≡ stopped → Kept left.frame
    goes_on e = record { own = ap (λ (f : Frame). f.own) e ∙ stopped_kept.own; needs = ap (λ (f : Frame). f.needs) e ∙ stopped_kept.needs }

    over_own : left.frame ≡ frame_left o.frame None → OwnGrow o.frame.own left.frame
    over_own e = kept_own left.frame (ap (λ (f : Frame). f.own) e)

    over_needs : left.frame ≡ frame_left o.frame None → NeedsGrow o.frame.needs.items left.frame ⊎ (left.frame.needs.items ≡ [])
    over_needs e = inr (ap (λ (f : Frame). f.needs.items) e)

    by_calls : Kept left.frame → (fs : List Frame) (c : Bool) → Leaves (called_in (parts_given behind k) k fs c)
    by_calls h fs c = by_all c
      where
        frame_is : (operation_at (parts_given behind k) k).frame ≡ left.frame
        frame_is = ap (λ (n : Operation). n.frame) (at_k (parts_given behind k) (record left { parts = [] }) (given behind left simple))

        here : Kept (operation_at (parts_given behind k) k).frame
        here = record { own = ap (λ (f : Frame). f.own) frame_is ∙ h.own; needs = ap (λ (f : Frame). f.needs) frame_is ∙ h.needs }

        ops : (n : Operation) → set (parts_given behind k).operations k n ++ map (called_by (number k)) fs ≡ set s.operations k n ++ map (called_by (number k)) fs
        ops n = ap (λ os. set os k n ++ map (called_by (number k)) fs) (given behind left simple).operations
            ∙ ap (λ os. os ++ map (called_by (number k)) fs) (set-set s.operations k (record left { parts = [] }) n)

        entries : (x : Listed) → Contains (issued (parts_given behind k).tree (parts_given behind k).waits (number k) (needs_of fs)).listing x → IsFrom s.waits.listing x ⊎ IsNew (length s.waits.knots) fs x
        entries x c = ⊎_elim inl (λ r. inr (new_of (length s.waits.knots) fs x r)) (new_all (parts_given behind k).tree s.waits (number k) (needs_of fs) x c)

        by_all : (c : Bool) → Leaves (called_in (parts_given behind k) k fs c)
        by_all true =
            let n = caller_of (parts_given behind k) (operation_at (parts_given behind k) k) fs activity.Idle in
            record { now = n; calls = fs; operations = ops n; own = kept_own n.frame here.own; needs = inl (kept_needs n.frame here); entries = entries }
        by_all false =
            let n = caller_of (parts_given behind k) (operation_at (parts_given behind k) k) fs (activity.Closing ending.Broken) in
            record { now = n; calls = fs; operations = ops n; own = kept_own n.frame here.own; needs = inl (kept_needs n.frame here); entries = entries }

    -- one whose frame is another now
    framed_so : (u : State) (n : Operation) → Simple u n → OwnGrow o.frame.own n.frame → NeedsGrow o.frame.needs.items n.frame → Leaves (parked_for u k wait.Nothing graph.Nothing)
    framed_so u n h own needs = parked_so u n wait.Nothing graph.Nothing h own needs

    by_root : (size space : ℕ) → Kept left.frame → Leaves (parked_for (root_made job.code size space behind k) k wait.Nothing graph.Nothing)
    by_root size space h =
        let root = next_root behind in
        let more = needs_of_root root (next_node behind) (fields_needed job.code size space) in
        framed_so (root_made job.code size space behind k) made_now
        (record { operations = (set_on behind left made_now simple).operations; listing = refl; knots = refl })
        (λ r c. Contains-append_left (operation_at behind k).frame.own (root ∷ []) r (subst (λ (f : Frame). Contains f.own r) (sym there) (kept_own left.frame h.own r c))) (
          more,
          ap (λ ns. ns ++ more) (ap (λ (f : Frame). f.needs.items) there ∙ ap (λ (ns : Needs). ns.items) h.needs),
          root_needs (λ (m : Need). Contains ((operation_at behind k).frame.own ++ root ∷ []) m.root) root (next_node behind) (fields_needed job.code size space)
              (λ m q. subst (λ r. Contains ((operation_at behind k).frame.own ++ root ∷ []) r) (sym q) (Contains-push (operation_at behind k).frame.own root)),
        )
      where
        made_now : Operation
        made_now = record (operation_at behind k) { frame = frame_with_root job.code (next_root behind) (next_node behind) size space (operation_at behind k).frame }

        there : (operation_at behind k).frame ≡ left.frame
        there = ap (λ (n : Operation). n.frame) (at_k behind left simple)

    by_partition : (r : RegionValue) (sets : List (List ℕ)) (disjoint : Bool) → Kept left.frame → Leaves (parked_for (partition_made r sets disjoint behind k) k wait.Nothing graph.Nothing)
    by_partition r sets disjoint h =
        let u = partition_made r sets disjoint behind k in
        let kept : Kept (operation_at behind k).frame = subst (λ (n : Operation). Kept n.frame) (sym (at_k behind left simple)) h in
        let v = value.Partition (record { root = r.root; disjoint = disjoint; children = children_from r.root (next_node behind) 0 sets }) in
        let n = record (operation_at behind k) { frame = pushed v (operation_at behind k).frame } in
        framed_so u n (record { operations = (set_on behind left n simple).operations; listing = refl; knots = refl })
        (kept_own n.frame kept.own) (kept_needs n.frame (record { own = kept.own; needs = kept.needs }))

    by_make : Kept left.frame → (m : Made) → Leaves (making job.code m behind k)
    by_make h (made.Root size space) = by_root size space h
    by_make h (made.Partition r sets disjoint) = chosen (is_here behind.tree r && is_sound (set_at behind.tree r.node.0) sets disjoint)
      where
        chosen : (c : Bool) → Leaves (cond c (parked_for (partition_made r sets disjoint behind k) k wait.Nothing graph.Nothing) (ended_by behind k ending.Broken))
        chosen true = by_partition r sets disjoint h
        chosen false = ended_so behind left ending.Broken simple (kept_own left.frame h.own) (inl (kept_needs left.frame h))

    by_yield : (y : Yield) → (stop_of before).ends ≡ y → Leaves (yielded job.code job.turns behind k y)
    by_yield (yield.Calls cs) e =
        let v = parts_given behind k in
        let fs = frames_before job.code job.turns v (operation_at v k) cs in
        by_calls (goes_on (left_is (yield.Calls cs) e)) fs (length fs == length cs)
    by_yield (yield.Want root field) e =
        let h = goes_on (left_is (yield.Want root field) e) in
        parked_so behind left (wait.Part root field) (graph.Part (needs_on (operation_at behind k).frame root.0 field)) simple (kept_own left.frame h.own) (kept_needs left.frame h)
    by_yield (yield.Await n) e =
        let h = goes_on (left_is (yield.Await n) e) in
        parked_so behind left (wait.Child n) (waits_for (slice_get (operation_at behind k).children n)) simple (kept_own left.frame h.own) (kept_needs left.frame h)
    by_yield (yield.Make m) e = by_make (goes_on (left_is (yield.Make m) e)) m
    by_yield (yield.End v) e = ended_so (parts_given behind k) (record left { parts = [] }) (ending.Value v) (given behind left simple) (over_own (left_is (yield.End v) e)) (over_needs (left_is (yield.End v) e))
    by_yield (yield.Fault f) e = ended_so behind left (ending.Fault f) simple (over_own (left_is (yield.Fault f) e)) (over_needs (left_is (yield.Fault f) e))
    by_yield yield.MachineFault e = ended_so behind left ending.Broken simple (over_own (left_is yield.MachineFault e)) (over_needs (left_is yield.MachineFault e))

    -- ---- and what closes behind it

    closed_leaves : (n : ℕ) (u : State) (j : ℕ) → Leaves u → Leaves (closed_up n u j)
    closed_leaves zero u j h = h
    closed_leaves (suc n) u j h = chosen (may_close u j) (closed_leaves n)
      where
        over_leaves : Leaves (over u j)
        over_leaves = record { now = h.now; calls = h.calls; operations = h.operations; own = h.own; needs = h.needs; entries = λ x c. h.entries x (ended_from u.waits j (how_closed u j) x c) }

        up : (i : ℕ) (close : State → ℕ → State) → ((v : State) (l : ℕ) → Leaves v → Leaves (close v l)) → Leaves (up_from i close (over u j))
        up zero close more = over_leaves
        up (suc i) close more = more (over u j) (operation_at (over u j) (suc i)).parent.0 over_leaves

        chosen : (c : Bool) → ((v : State) (i : ℕ) → Leaves v → Leaves (closed_up n v i)) → Leaves (cond c (up_from j (closed_up n) (over u j)) u)
        chosen true more = up j (closed_up n) more
        chosen false more = h

    pub give_leaves : Leaves (given_after job.code job.turns s k (segment before))
    give_leaves = closed_leaves _ (yielded job.code job.turns behind k (segment before).ends) k (by_yield (segment before).ends refl)
