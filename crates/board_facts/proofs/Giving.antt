-- What a segment leaves that is given back.
use Rattle.std.proofs.Common.{◌≡◌, ◌<◌, ◌≤◌, ◌∙◌, ◌+◌, ◌++◌, ◌==◌, ◌&&◌, ℕ, zero, suc, Bool, true, false, List, [], ◌∷◌, Option, None, Some, All, ap, arith, cond, get_or, inl, length, map, refl, set, slice_get, subst, sym}
use Rattle.std.specs.Prelude.{nat_le}
use Rattle.std.proofs.lemmas.List.{append-nil, get_or-set_same, length-set}
use Rattle.std.proofs.lemmas.List.Elements.{All-cons, All-nil}
use Rattle.region_tree.specs.declared.tree.RootId.{RootId}
use Rattle.region_tree.specs.Trees.{set_at}
use Rattle.dependence_graph.specs.Knots.{number}
use Rattle.dependence_graph.specs.declared.stage.Waiting.{Waiting}
use Rattle.dependence_graph.specs.declared.stage.Waiting.TheVariants as graph
use Rattle.plain_values.specs.Points.{counted_from}
use Rattle.logical_map.specs.Maps.{LogicalMap, columns_of}
use Rattle.task_code.specs.declared.code.Code.{Code}
use Rattle.task_code.specs.declared.code.TaskCode.{TaskCode}
use Rattle.machine_terms.specs.Contents.{kinds_of}
use Rattle.machine_terms.specs.Makes.{is_sound, pushed}
use Rattle.machine_terms.specs.declared.frame.Frame.{Frame}
use Rattle.machine_terms.specs.declared.outcome.After.{After}
use Rattle.machine_terms.specs.declared.outcome.CallOut.{CallOut}
use Rattle.machine_terms.specs.declared.outcome.Made.TheVariants as made
use Rattle.machine_terms.specs.declared.outcome.Yield.{Yield}
use Rattle.machine_terms.specs.declared.outcome.Yield.TheVariants as yield
use Rattle.machine_terms.specs.declared.value.RegionValue.{RegionValue}
use Rattle.machine_terms.specs.declared.value.Value.TheVariants as value
use Rattle.board_terms.specs.Calls.{are_declared, called, called_in, caller_of, first_opens, frames_before, needs_within, opening_of, opens, with_children}
use Rattle.board_terms.specs.Closings.{closed_up, followed, may_close, over, up_from}
use Rattle.board_terms.specs.Gives.{behind_segment, ended_by, frame_left, needs_on, parked_for, parts_given, waits_for, yielded}
use Rattle.board_terms.specs.Makes.{children_from, frame_with_root, is_here, next_node, next_root, partition_made, root_made}
use Rattle.board_terms.specs.States.{State, called_by, no_operation, operation_at, with_operation}
use Rattle.board_terms.specs.declared.extent.Extent.{Extent}
use Rattle.board_terms.specs.declared.operation.Activity.{Activity}
use Rattle.board_terms.specs.declared.operation.Activity.TheVariants as activity
use Rattle.board_terms.specs.declared.operation.Ending.{Ending}
use Rattle.board_terms.specs.declared.operation.Ending.TheVariants as ending
use Rattle.board_terms.specs.declared.operation.Operation.{Operation}
use Rattle.board_terms.specs.declared.operation.Wait.{Wait}
use Rattle.board_terms.specs.declared.operation.Wait.TheVariants as wait
use Rattle.board_terms.specs.Gives.{also_said}
use Rattle.board_facts.proofs.Held.{all_closed_shape, made_shape, nothing_held, others_shape, parts_shape, shaped_behind}
use Rattle.board_facts.proofs.Lists.{set_twice}
use Rattle.board_facts.specs.Given.{IsGiven, IsHeldBehind, IsMadeIn, IsUnclaimed}
use Rattle.board_facts.specs.Laws.{SegmentsAreGiven}
use Rattle.board_facts.specs.Rooms.{IsShaped, shape_made, shape_of}

-- ---- one operation again

again : (s u : State) (k : ℕ) (o : Operation) (f : Operation → Operation) → k < length s.operations → u.operations ≡ set s.operations k o →
    set u.operations k (f (operation_at u k)) ≡ set s.operations k (f o)
again s u k o f b e =
    ap (λ (os : List Operation). set os k (f (get_or os k no_operation))) e
    ∙ ap (λ (x : Operation). set (set s.operations k o) k (f x)) (get_or-set_same s.operations k o no_operation b)
    ∙ set_twice s.operations k o (f o)

-- a state in which one operation is as a segment left it, more or less
record Left (s : State) (k : ℕ) (a : After) (u : State) : Type 0 where
  operation : Operation
  operations : u.operations ≡ set s.operations k operation
  children : operation.children ≡ (operation_at s k).children
  said : operation.said ≡ also_said (length (operation_at s k).children) a.text (operation_at s k).said
  unclaimed : IsUnclaimed operation.activity
  own : operation.frame.own ≡ (frame_left (operation_at s k).frame a.frame).own
  roots : u.tree.roots ≡ s.tree.roots
  extents : u.roots ≡ s.roots
  held : (root : ℕ) → IsHeldBehind s.map u.map root

-- a change of an operation that neither calls, says, claims nor makes
record IsQuiet (f : Operation → Operation) : Type 0 where
  children : (o : Operation) → (f o).children ≡ o.children
  said : (o : Operation) → (f o).said ≡ o.said
  unclaimed : (o : Operation) → IsUnclaimed o.activity → IsUnclaimed (f o).activity
  own : (o : Operation) → (f o).frame.own ≡ o.frame.own

module _ (code : Code) (turns : ℕ) (s : State) (k : ℕ) (a : After) (there : k < length s.operations) where
  first : Left s k a (with_operation s k (behind_segment (operation_at s k) a))
  first = record {
    operation = behind_segment (operation_at s k) a;
    operations = refl;
    children = refl;
    said = refl;
    unclaimed = tt;
    own = refl;
    roots = refl;
    extents = refl;
    held = λ root. inl refl;
  }

  changed : (f : Operation → Operation) (u v : State) → IsQuiet f → Left s k a u → v.operations ≡ set u.operations k (f (operation_at u k)) →
      v.tree.roots ≡ u.tree.roots → v.roots ≡ u.roots → ((root : ℕ) → IsHeldBehind u.map v.map root) → Left s k a v
  changed f u v quiet l e r x h = record {
    operation = f l.operation;
    operations = e ∙ again s u k l.operation f there l.operations;
    children = quiet.children l.operation ∙ l.children;
    said = quiet.said l.operation ∙ l.said;
    unclaimed = quiet.unclaimed l.operation l.unclaimed;
    own = quiet.own l.operation ∙ l.own;
    roots = r ∙ l.roots;
    extents = x ∙ l.extents;
    held = λ root. shaped_behind (shape_of s.map root) u.map v.map root (l.held root) (h root);
  }

  parked : (w : Wait) (on : Waiting) (u : State) → Left s k a u → Left s k a (parked_for u k w on)
  parked w on u l = changed (λ o. record o { wait = w }) u (parked_for u k w on)
      (record { children = λ o. refl; said = λ o. refl; unclaimed = λ o x. x; own = λ o. refl }) l refl refl refl (λ root. inl refl)

  ended : (e : Ending) (u : State) → Left s k a u → Left s k a (ended_by u k e)
  ended e u l = changed (λ o. record o { parts = []; activity = activity.Closing e }) u (ended_by u k e)
      (record { children = λ o. refl; said = λ o. refl; unclaimed = λ o x. tt; own = λ o. refl }) l refl refl refl (λ root. inl refl)

  without_parts : (u : State) → Left s k a u → Left s k a (parts_given u k)
  without_parts u l = changed (λ o. record o { parts = [] }) u (parts_given u k)
      (record { children = λ o. refl; said = λ o. refl; unclaimed = λ o x. x; own = λ o. refl }) l refl refl refl
      (λ root. inl (parts_shape (operation_at u k).parts u.map root))

  partitioned : (r : RegionValue) (sets : List (List ℕ)) (disjoint : Bool) (u : State) → Left s k a u →
      Left s k a (partition_made r sets disjoint u k)
  partitioned r sets disjoint u l = changed (λ o. record o {
    frame = pushed (value.Partition (record {
      root = r.root;
      disjoint = disjoint;
      children = children_from r.root (next_node u) 0 sets;
    })) o.frame;
  }) u (partition_made r sets disjoint u k)
      (record { children = λ o. refl; said = λ o. refl; unclaimed = λ o x. x; own = λ o. refl }) l refl refl refl (λ root. inl refl)

  -- no child is called
  alone : (y : Yield) (u : State) (l : Left s k a u) → IsMadeIn code y s (frame_left (operation_at s k).frame a.frame).own u l.operation.frame.own →
      IsGiven code s k (record a { ends = y }) u
  alone y u l made = record {
    operation = l.operation;
    frames = [];
    operations = l.operations ∙ sym (append-nil (set s.operations k l.operation));
    children = l.children ∙ sym (append-nil (operation_at s k).children);
    said = l.said;
    unclaimed = l.unclaimed;
    own = All-nil (λ (f : Frame). f.own ≡ []);
    held = λ root other. l.held root;
    made = made;
  }

  -- ---- calls

  opens_own : (s : State) (o : Operation) (c : CallOut) (t : Option TaskCode) (rest : List Frame) → All (λ (f : Frame). f.own ≡ []) rest →
      All (λ (f : Frame). f.own ≡ []) (first_opens (opens code turns s o c t) rest)
  opens_own s o c None rest h = All-nil (λ (f : Frame). f.own ≡ [])
  opens_own s o c (Some t) rest h = by_case (nat_le (length c.args) t.slots
      && (are_declared s t.needs c.args && needs_within s (opening_of code turns o c t) o))
    where
      by_case : (b : Bool) → All (λ (f : Frame). f.own ≡ []) (first_opens (cond b (Some (opening_of code turns o c t)) None) rest)
      by_case true = All-cons (λ (f : Frame). f.own ≡ []) (opening_of code turns o c t) rest refl h
      by_case false = All-nil (λ (f : Frame). f.own ≡ [])

  frames_own : (s : State) (o : Operation) (cs : List CallOut) → All (λ (f : Frame). f.own ≡ []) (frames_before code turns s o cs)
  frames_own s o [] = All-nil (λ (f : Frame). f.own ≡ [])
  frames_own s o (c ∷ cs) = opens_own s o c (slice_get code.tasks c.task) (frames_before code turns s o cs) (frames_own s o cs)

  issued_at : (cs : List CallOut) (fs : List Frame) (st : Activity) (u v : State) → IsUnclaimed st → All (λ (f : Frame). f.own ≡ []) fs → Left s k a u →
      v.operations ≡ (with_children u k fs st).operations → v.tree.roots ≡ u.tree.roots → v.roots ≡ u.roots → v.map ≡ u.map →
      IsGiven code s k (record a { ends = yield.Calls cs }) v
  issued_at cs fs st u v free own l e r x m = record {
    operation = caller_of u l.operation fs st;
    frames = fs;
    operations = e ∙ ap (λ (os : List Operation). os ++ map (called_by (number k)) fs)
        (again s u k l.operation (λ o. caller_of u o fs st) there l.operations);
    children = ap (λ cs. cs ++ map number (counted_from (length u.operations) (length fs))) l.children
        ∙ ap (λ (n : ℕ). (operation_at s k).children ++ map number (counted_from n (length fs)))
        (ap length l.operations ∙ length-set s.operations k l.operation);
    said = l.said;
    unclaimed = free;
    own = own;
    held = λ root other. subst (λ (x : LogicalMap). IsHeldBehind s.map x root) (sym m) (l.held root);
    made = (r ∙ l.roots, (x ∙ l.extents, (l.own, subst (λ (x : LogicalMap). IsHeldBehind s.map x s.tree.roots) (sym m) (l.held s.tree.roots))));
  }

  calling : (cs : List CallOut) (u : State) → Left s k a u → IsGiven code s k (record a { ends = yield.Calls cs }) (called code turns u k cs)
  calling cs u l = by_case (length fs == length cs)
    where
      fs : List Frame
      fs = frames_before code turns u (operation_at u k) cs

      by_case : (b : Bool) → IsGiven code s k (record a { ends = yield.Calls cs }) (called_in u k fs b)
      by_case true = issued_at cs fs activity.Idle u (called_in u k fs true) tt (frames_own u (operation_at u k) cs) l refl refl refl refl
      by_case false = issued_at cs fs (activity.Closing ending.Broken) u (called_in u k fs false) tt (frames_own u (operation_at u k) cs) l refl refl refl refl

  -- ---- roots

  rooting : (size space : ℕ) (u : State) → ((root : ℕ) → s.tree.roots ≤ root → columns_of s.map root ≡ []) → Left s k a u →
      IsGiven code s k (record a { ends = yield.Make (made.Root size space) }) (parked_for (root_made code size space u k) k wait.Nothing graph.Nothing)
  rooting size space u live l = record {
    operation = record (rooted l.operation) { wait = wait.Nothing };
    frames = [];
    operations = again s v k (rooted l.operation) (λ o. record o { wait = wait.Nothing }) there (again s u k l.operation rooted there l.operations)
        ∙ sym (append-nil (set s.operations k (record (rooted l.operation) { wait = wait.Nothing })));
    children = l.children ∙ sym (append-nil (operation_at s k).children);
    said = l.said;
    unclaimed = l.unclaimed;
    own = All-nil (λ (f : Frame). f.own ≡ []);
    held = λ root other. shaped_behind (shape_of s.map root) u.map v.map root (l.held root)
        (others_shape u.tree.roots size (kinds_of code space) u.map root (λ e. other (e ∙ l.roots)));
    made = (
      ap (λ (n : ℕ). n + 1) l.roots,
      (
        ap (λ (xs : List Extent). xs ++ record { space = space; count = size } ∷ []) l.extents,
        (
          ap (λ (rs : List RootId). rs ++ next_root u ∷ []) l.own
              ∙ ap (λ (n : ℕ). (frame_left (operation_at s k).frame a.frame).own ++ record { 0 = n } ∷ []) l.roots,
          subst (λ (n : ℕ). IsShaped (shape_made code size space) v.map n) l.roots
              (made_shape code u.tree.roots size space u.map
              (nothing_held s.map u.map u.tree.roots (l.held u.tree.roots) (live u.tree.roots (omega (arith, l.roots))))),
        ),
      ),
    );
  }
    where
      v : State
      v = root_made code size space u k

      rooted : Operation → Operation
      rooted o = record o { frame = frame_with_root code (next_root u) (next_node u) size space o.frame }

  -- ---- each yield

  by_yield : (y : Yield) (u : State) → ((root : ℕ) → s.tree.roots ≤ root → columns_of s.map root ≡ []) → Left s k a u →
      IsGiven code s k (record a { ends = y }) (yielded code turns u k y)
  by_yield (yield.Calls cs) u live l = calling cs (parts_given u k) (without_parts u l)
  by_yield (yield.Want root field) u live l =
      let p = parked (wait.Part root field) (graph.Part (needs_on (operation_at u k).frame root.0 field)) u l in
      alone (yield.Want root field) (yielded code turns u k (yield.Want root field)) p (p.roots, (p.extents, (p.own, p.held s.tree.roots)))
  by_yield (yield.Await n) u live l =
      let p = parked (wait.Child n) (waits_for (slice_get (operation_at u k).children n)) u l in
      alone (yield.Await n) (yielded code turns u k (yield.Await n)) p (p.roots, (p.extents, (p.own, p.held s.tree.roots)))
  by_yield (yield.Make (made.Root size space)) u live l = rooting size space u live l
  by_yield (yield.Make (made.Partition r sets disjoint)) u live l = by_case (is_here u.tree r && is_sound (set_at u.tree r.node.0) sets disjoint)
    where
      good : Left s k a (parked_for (partition_made r sets disjoint u k) k wait.Nothing graph.Nothing)
      good = parked wait.Nothing graph.Nothing (partition_made r sets disjoint u k) (partitioned r sets disjoint u l)

      bad : Left s k a (ended_by u k ending.Broken)
      bad = ended ending.Broken u l

      by_case : (b : Bool) → IsGiven code s k (record a { ends = yield.Make (made.Partition r sets disjoint) })
          (cond b (parked_for (partition_made r sets disjoint u k) k wait.Nothing graph.Nothing) (ended_by u k ending.Broken))
      by_case true = alone (yield.Make (made.Partition r sets disjoint)) (parked_for (partition_made r sets disjoint u k) k wait.Nothing graph.Nothing) good
          (good.roots, (good.extents, (good.own, good.held s.tree.roots)))
      by_case false = alone (yield.Make (made.Partition r sets disjoint)) (ended_by u k ending.Broken) bad (bad.roots, (bad.extents, (bad.own, bad.held s.tree.roots)))
  by_yield (yield.End v) u live l =
      let p = ended (ending.Value v) (parts_given u k) (without_parts u l) in
      alone (yield.End v) (yielded code turns u k (yield.End v)) p (p.roots, (p.extents, (p.own, p.held s.tree.roots)))
  by_yield (yield.Fault f) u live l =
      let p = ended (ending.Fault f) u l in
      alone (yield.Fault f) (yielded code turns u k (yield.Fault f)) p (p.roots, (p.extents, (p.own, p.held s.tree.roots)))
  by_yield yield.MachineFault u live l =
      let p = ended ending.Broken u l in
      alone yield.MachineFault (yielded code turns u k yield.MachineFault) p (p.roots, (p.extents, (p.own, p.held s.tree.roots)))

-- ---- what follows

record IsFollowed (u t : State) : Type 0 where
  operations : t.operations ≡ u.operations
  roots : t.tree.roots ≡ u.tree.roots
  extents : t.roots ≡ u.roots
  held : (root : ℕ) → IsHeldBehind u.map t.map root

one_over : (u : State) (k : ℕ) → IsFollowed u (over u k)
one_over u zero = record { operations = refl; roots = refl; extents = refl; held = λ root. inl refl }
one_over u (suc k) = record { operations = refl; roots = refl; extents = refl; held = all_closed_shape (operation_at u (suc k)).frame.own u.map }

then_followed : (u v t : State) → IsFollowed u v → IsFollowed v t → IsFollowed u t
then_followed u v t a b = record {
  operations = b.operations ∙ a.operations;
  roots = b.roots ∙ a.roots;
  extents = b.extents ∙ a.extents;
  held = λ root. shaped_behind (shape_of u.map root) v.map t.map root (a.held root) (b.held root);
}

up : (k : ℕ) (close : State → ℕ → State) (u : State) → ((v : State) (j : ℕ) → IsFollowed v (close v j)) → IsFollowed u (up_from k close u)
up zero close u f = record { operations = refl; roots = refl; extents = refl; held = λ root. inl refl }
up (suc k) close u f = f u (operation_at u (suc k)).parent.0

closings : (n : ℕ) (u : State) (k : ℕ) → IsFollowed u (closed_up n u k)
closings zero u k = record { operations = refl; roots = refl; extents = refl; held = λ root. inl refl }
closings (suc n) u k = by_case (may_close u k) (up k (closed_up n) (over u k) (closings n))
  where
    by_case : (b : Bool) → IsFollowed (over u k) (up_from k (closed_up n) (over u k)) → IsFollowed u (cond b (up_from k (closed_up n) (over u k)) u)
    by_case true rest = then_followed u (over u k) (up_from k (closed_up n) (over u k)) (one_over u k) rest
    by_case false rest = record { operations = refl; roots = refl; extents = refl; held = λ root. inl refl }

none_followed : (s u t : State) (left own : List RootId) → IsFollowed u t →
    (u.tree.roots ≡ s.tree.roots) × ((u.roots ≡ s.roots) × ((own ≡ left) × IsHeldBehind s.map u.map s.tree.roots)) →
    (t.tree.roots ≡ s.tree.roots) × ((t.roots ≡ s.roots) × ((own ≡ left) × IsHeldBehind s.map t.map s.tree.roots))
none_followed s u t left own f m = (
  f.roots ∙ m.0,
  (
    f.extents ∙ m.1.0,
    (
      m.1.1.0,
      shaped_behind (shape_of s.map s.tree.roots) u.map t.map s.tree.roots m.1.1.1 (f.held s.tree.roots),
    ),
  ),
)

made_followed : (code : Code) (y : Yield) (s u t : State) (left own : List RootId) → IsFollowed u t → IsMadeIn code y s left u own → IsMadeIn code y s left t own
made_followed code (yield.Make (made.Root size space)) s u t left own f m =
    (f.roots ∙ m.0, (f.extents ∙ m.1.0, (m.1.1.0, shaped_behind (shape_made code size space) u.map t.map s.tree.roots m.1.1.1 (f.held s.tree.roots))))
made_followed code (yield.Make (made.Partition r sets disjoint)) s u t left own f m = none_followed s u t left own f m
made_followed code (yield.Calls cs) s u t left own f m = none_followed s u t left own f m
made_followed code (yield.Want root field) s u t left own f m = none_followed s u t left own f m
made_followed code (yield.Await n) s u t left own f m = none_followed s u t left own f m
made_followed code (yield.End v) s u t left own f m = none_followed s u t left own f m
made_followed code (yield.Fault x) s u t left own f m = none_followed s u t left own f m
made_followed code yield.MachineFault s u t left own f m = none_followed s u t left own f m

followed_given : (code : Code) (s : State) (k : ℕ) (a : After) (u t : State) → IsGiven code s k a u → IsFollowed u t → IsGiven code s k a t
followed_given code s k a u t g f = record {
  operation = g.operation;
  frames = g.frames;
  operations = f.operations ∙ g.operations;
  children = g.children;
  said = g.said;
  unclaimed = g.unclaimed;
  own = g.own;
  held = λ root other. shaped_behind (shape_of s.map root) u.map t.map root (g.held root other) (f.held root);
  made = made_followed code a.ends s u t (frame_left (operation_at s k).frame a.frame).own g.operation.frame.own f g.made;
}

pub segments_are_given : SegmentsAreGiven
segments_are_given code turns s k a sound there =
    let u = yielded code turns (with_operation s k (behind_segment (operation_at s k) a)) k a.ends in
    followed_given code s k a u (followed u k)
    (by_yield code turns s k a there a.ends (with_operation s k (behind_segment (operation_at s k) a)) sound.live (first code turns s k a there))
    (closings (length u.operations) u k)
