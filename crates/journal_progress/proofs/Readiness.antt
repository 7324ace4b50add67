-- Which operations are ready, of a state that shows a board of the laws: by what hasn't ended.
use Rattle.std.proofs.Common.{◌≡◌, ◌<◌, ◌≤◌, ◌⊎◌, ◌++◌, ◌∙◌, ◌&&◌, ⊎_elim, ℕ, Bool, List, [], ap, arith, false, filter, inl, inr, length, map, refl, subst, sym, true}
use Rattle.std.specs.Prelude.{All}
use Rattle.std.specs.List.{Contains}
use Rattle.std.proofs.lemmas.Bool.{cases_lt, false≢true}
use Rattle.std.proofs.lemmas.List.{get_or_past}
use Rattle.std.proofs.lemmas.List.Elements.{All-append, All-contains, All-nil}
use Rattle.region_finder.specs.Listings.{Listed}
use Rattle.region_tree.specs.Needs.{requirements_of}
use Rattle.region_tree.specs.Requirements.{Requirement, is_of}
use Rattle.region_tree.specs.declared.tree.OpNumber.{OpNumber}
use Rattle.region_tree.specs.declared.tree.RootId.{RootId}
use Rattle.dependence_graph.specs.Entries.{Knot}
use Rattle.dependence_graph.specs.Knots.{all_done, is_idle, knot_at, no_knot, number}
use Rattle.dependence_graph.specs.declared.stage.Stage.{Stage as Knotted}
use Rattle.dependence_graph.specs.declared.stage.Stage.TheVariants as knot
use Rattle.task_code.specs.declared.job.Job.{Job}
use Rattle.board_rules.specs.Boards.{Items, Operation as Node, Wait as BoardWait, child, closing, dropped, filling, first, idle, nothing, op, out, over, part}
use Rattle.board_rules.specs.Ground.{Ground}
use Rattle.board_rules.specs.NumberedBoards.{Board}
use Rattle.board_rules.specs.Running.{Element}
use Rattle.regent_boards.specs.Frames as board
use Rattle.regent_boards.specs.RegentMachine.{regent_ground}
use Rattle.regent_boards.proofs.NeedRenaming.{filter_to}
use Rattle.segment_renaming.proofs.Alike.{same_root}
use Rattle.code_boards.specs.Views.{spaces_of}
use Rattle.board_terms.specs.declared.operation.Activity.{Activity}
use Rattle.board_terms.specs.declared.operation.Activity.TheVariants as activity
use Rattle.board_terms.specs.declared.operation.Operation.{Operation}
use Rattle.board_terms.specs.declared.operation.Wait.{Wait}
use Rattle.board_terms.specs.declared.operation.Wait.TheVariants as wait
use Rattle.board_terms.specs.Stages.{Stage, is_good, may_be_claimed, parked, stage_at, stage_of, waiting}
use Rattle.board_terms.specs.States.{State, operation_at}
use Rattle.board_trees.specs.Names.{named, pointed, requirement_named}
use Rattle.board_trees.specs.Shows.{Shows, ShowsBoard, needs_issued, siblings}
use Rattle.board_trees.specs.Stages.{IsKey, IsWait}
use Rattle.board_trees.specs.Told.{AreOrdered, WaitsTell, some_bad}
use Rattle.board_trees.specs.Waits.{Sibling, WaitsForChild, all_clear, has_ended}
use Rattle.board_trees.proofs.Ordered.{children_ordered}
use Rattle.board_trees.proofs.Told.{waits_are_told}
use Rattle.journal_progress.specs.Ready.{EarlierHaveEnded, IsChildOf, IsEarlier, IsEntry, IsOwnChild, IsReady, ListsUnended, NoneInterferes, NoneOverInterferes, WaitsForOpen, part_needed}
use Rattle.journal_progress.proofs.Awaited.{all_left, child_open, child_told, ended_is, knots_there, none_in_vain, none_left, pointed_of, required_filter}
use Rattle.journal_progress.proofs.Callers.{WereMade, child_at, place_of}
use Rattle.journal_progress.proofs.Places.{Placed, has_children, issued_child, placed, name, naming}
use Rattle.journal_progress.proofs.Siblings.{Called, IsKnown, IsOf, called, is_open, kids_all, kids_known, one}

-- both, or neither
abbrev Both : Type 0 → Bool → Type 0
Both A b = (b ≡ true → A) × (A → b ≡ true)

module _ (job : Job) (s : State) (b : Board (regent_ground (spaces_of job.code))) (h : ShowsBoard job s b) where
  abbrev G : Ground
  G = regent_ground (spaces_of job.code)

  abbrev to : ℕ → ℕ
  to = name job s b h

  -- ---- the graph's list

  pub entry_is : (x : Listed) → Contains s.waits.listing x → IsEntry s x
  entry_is x c =
      let open_x = is_open job s b h x c in
      let at : Called job s b h x.op.0 = called job s b h x.op.0 open_x.within open_x.later in
      let e = at.among.entry open_x.unended in
      let same : e.0 ≡ x = one job s b h e.0 x e.1.there c e.1.op_is in
      let context : x.context ≡ number at.caller = ap (λ (y : Listed). y.context) (sym same) ∙ e.1.context in
      record {
        child = subst (λ (o : OpNumber). Contains (operation_at s o.0).children x.op) (sym context) at.is_child;
        caller = at.among.child.parent ∙ sym context;
        unended = sym (ended_is s x.op.0 (knots_there job s b h x.op.0 open_x.within)) ∙ open_x.unended;
        one = λ y d q. one job s b h y x d c q;
      }

  entry_there : (k : ℕ) → k < length s.operations → has_ended s.waits.knots k ≡ false → (k ≡ 0) ⊎ ((x : Listed) × Contains s.waits.listing x × (x.op ≡ number k))
  entry_there k l e = ⊎_elim
      (λ pos. let f = (called job s b h k l pos).among.entry e in inr (f.0, f.1.there, f.1.op_is))
      (λ zero_is. inl (omega (arith, zero_is))) (cases_lt 0 k)

  child_is : (j : ℕ) (c : OpNumber) → Contains (operation_at s j).children c → IsChildOf s j c.0
  child_is j c there =
      let at : Placed job s b h j = placed job s b h j (has_children job s b h j c there) in
      let issued = issued_child job s b h j c there in
      record { caller = by_node at at.there.node at.there.shows; later = issued.0; issued = issued.1 }
    where
      by_node : (at : Placed job s b h j) (n : Node G) → Shows job s h.who b.ways at.there.at j at.there.earlier at.there.above n → (operation_at s c.0).parent ≡ number j
      by_node at (op D N i f ps st is) r =
          let place = place_of job s h.who b.ways (operation_at s j).children c there in
          (child_at job s h.who b.ways place.0 at.there.at j 0 [] (at.there.above ++ (operation_at s j).frame.own) (operation_at s j).children is c.0 r.1 r.0.listed place.1).child.parent

  pub lists_unended : ListsUnended s
  lists_unended = record {
    entries = entry_is;
    listed = λ k l e. entry_there k l (ended_is s k (knots_there job s b h k l) ∙ e);
    children = child_is;
  }

  -- ---- an operation behind its earlier siblings

  pub record Stood (k : ℕ) : Type 0 where
    pub at : List ℕ
    pub earlier : List Sibling
    pub above : List RootId
    pub node : Node G
    pub shows : Shows job s h.who b.ways at k earlier above node
    pub made : WereMade job s h.who b.ways above
    pub ordered : AreOrdered s.waits.knots earlier
    pub come : has_ended s.waits.knots k ≡ false → Both (EarlierHaveEnded s k) (all_clear s.waits.knots (needs_issued job node) earlier)
    pub fine : has_ended s.waits.knots k ≡ false → some_bad s.waits.knots (needs_issued job node) earlier ≡ false →
        (x : Listed) → Contains s.waits.listing x → x.op ≡ number k → NoneOverInterferes s (IsEarlier s k) (requirements_of s.tree x.issued)

  no_entry : (x : Listed) → Contains s.waits.listing x → x.op ≡ number 0 → ⊥
  no_entry x c e = let later = (is_open job s b h x c).later in omega (arith, later, ap (λ (o : OpNumber). o.0) e)

  main_stood : Stood 0
  main_stood = record {
    at = [];
    earlier = [];
    above = [];
    node = b.state.tree;
    shows = h.shows;
    made = All-nil (λ (r : RootId). r.0 < length s.roots);
    ordered = tt;
    come = λ e. (λ t x c q. absurd (no_entry x c q), λ f. refl);
    fine = λ e t x c q. absurd (no_entry x c q);
  }

  child_stood : (k : ℕ) → Called job s b h k → Stood k
  child_stood k at = record {
    at = at.among.at;
    earlier = at.among.earlier;
    above = at.roots;
    node = at.among.node;
    shows = at.among.shows;
    made = at.made;
    ordered = at.among.ordered;
    come = λ e. (
      λ t x c q. none_left job s b h at.roots at.made at.caller at.among.earlier at.among.known (needs_issued job at.among.node) (requirements_of s.tree x.issued) (named_is e x c q)
          (IsEarlier s k) of_each each_of t,
      λ f. let y = at.among.entry e in
          all_left job s b h at.roots at.made at.caller at.among.earlier at.among.known (needs_issued job at.among.node) (requirements_of s.tree y.0.issued) y.1.needs
          (IsEarlier s k) of_each each_of (f y.0 y.1.there y.1.op_is),
    );
    fine = λ e t x c q. none_in_vain job s b h at.roots at.made at.caller at.among.earlier at.among.known (needs_issued job at.among.node) (requirements_of s.tree x.issued) (named_is e x c q)
        (IsEarlier s k) of_each each_of t;
  }
    where
      named_is : has_ended s.waits.knots k ≡ false → (x : Listed) → Contains s.waits.listing x → x.op ≡ number k →
          pointed (needs_issued job at.among.node) ≡ map (requirement_named to) (requirements_of s.tree x.issued)
      named_is e x c q =
          let y = at.among.entry e in
          y.1.needs ∙ ap (λ (z : Listed). map (requirement_named to) (requirements_of s.tree z.issued)) (one job s b h y.0 x y.1.there c (y.1.op_is ∙ sym q))

      of_each : (z : Sibling) → Contains at.among.earlier z → (y : Listed) → IsOf job s b h at.caller z y → IsEarlier s k y
      of_each z c y o = (
        o.context ∙ sym at.among.child.parent,
        subst (λ (m : OpNumber). m.0 < k) (sym o.op_is) (All-contains (λ (x : Sibling). x.op < k) at.among.earlier z at.among.before c),
      )

      each_of : (y : Listed) → Contains s.waits.listing y → IsEarlier s k y → (z : Sibling) × Contains at.among.earlier z × (z.op ≡ y.op.0)
      each_of y c a =
          let f = at.among.all y.op.0 (subst (λ (o : OpNumber). Contains (operation_at s o.0).children y.op) (a.0 ∙ at.among.child.parent) (entry_is y c).child) a.1 in
          (record { op = y.op.0; needs = f.0 }, f.1, refl)

  pub stood : (k : ℕ) → k < length s.operations → Stood k
  stood k l = ⊎_elim (λ pos. child_stood k (called job s b h k l pos)) (λ none. subst Stood (zero_is none) main_stood) (cases_lt 0 k)
    where
      zero_is : k ≤ 0 → 0 ≡ k
      zero_is none = omega (arith, none)

  -- ---- what is told

  module _ (k : ℕ) where
    abbrev kn : Knotted
    kn = (knot_at s.waits.knots k).stage

    abbrev o : Operation
    o = operation_at s k

    pub record Told : Type 0 where
      pub ready : Both (IsReady s k (stage_at s k) o.wait) (may_be_claimed s k)
      pub waits : WaitsForOpen s k (stage_at s k) o.wait

    told_as : (st : Stage) (w : Wait) → stage_at s k ≡ st → o.wait ≡ w → (c : Bool) → may_be_claimed s k ≡ c → Both (IsReady s k st w) c → WaitsForOpen s k st w → Told
    told_as st w e q c m ready waits = record {
      ready = subst (λ x. Both (IsReady s k x o.wait) (may_be_claimed s k)) (sym e) (subst (λ x. Both (IsReady s k st x) (may_be_claimed s k)) (sym q) (subst (Both (IsReady s k st w)) (sym m) ready));
      waits = subst (λ x. WaitsForOpen s k x o.wait) (sym e) (subst (WaitsForOpen s k st) (sym q) waits);
    }

    -- one that is neither Waiting nor Parked isn't ready
    unready : (x : Knotted) (w : Wait) (a : Activity) (v : Wait) → is_idle x ≡ false → (IsReady s k (stage_of x w a) v → ⊥) × WaitsForOpen s k (stage_of x w a) v
    unready knot.Waiting w a v e = absurd (false≢true (sym e))
    unready knot.Begun w activity.Idle v e = (λ f. f, tt)
    unready knot.Begun w (activity.Filling c f) v e = (λ f. f, tt)
    unready knot.Begun w (activity.Out c f) v e = (λ f. f, tt)
    unready knot.Begun w (activity.Closing x) v e = (λ f. f, tt)
    unready knot.Parked w a v e = absurd (false≢true (sym e))
    unready knot.Stopped w a v e = (λ f. f, tt)
    unready knot.Done w a v e = (λ f. f, tt)
    unready knot.Failed w a v e = (λ f. f, tt)
    unready knot.Dropped w a v e = (λ f. f, tt)

    pub busy : is_idle kn ≡ false → Told
    busy e =
        let none = unready kn o.wait o.activity o.wait e in
        told_as (stage_at s k) o.wait refl refl false (ap (λ c. c && all_done s.waits.knots (knot_at s.waits.knots k).on) e) (λ t. absurd (false≢true t), λ r. absurd (none.0 r)) none.1

    busy_as : (x : Knotted) → kn ≡ x → is_idle x ≡ false → Told
    busy_as x e f = busy (ap is_idle e ∙ f)

  -- ---- its own children

  module _ (k : ℕ) (g : Stood k) where
    abbrev roots : List RootId
    roots = g.above ++ (operation_at s k).frame.own

    made : WereMade job s h.who b.ways roots
    made = All-append (λ (r : RootId). r.0 < length s.roots) g.above (operation_at s k).frame.own g.made (h.own_made k)

    abbrev kids : Items G → List Sibling
    kids is = siblings job (operation_at s k).children is

    module _ (D N : List Requirement) (i : ℕ) (f : board.Frame) (ps : List (Element G)) (x : BoardWait G) (is : Items G) (r : Shows job s h.who b.ways g.at k g.earlier g.above (op D N i f ps (idle x) is)) where
      known : All (IsKnown job s b h k) (kids is)
      known = kids_known job s b h roots made k (operation_at s k).children is r.0.listed (λ o c. c)

      of_each : (z : Sibling) → Contains (kids is) z → (y : Listed) → IsOf job s b h k z y → IsOwnChild k y
      of_each z c y o = o.context

      each_of : (y : Listed) → Contains s.waits.listing y → IsOwnChild k y → (z : Sibling) × Contains (kids is) z × (z.op ≡ y.op.0)
      each_of y c a =
          let q = kids_all job s b h roots made k g.at 0 [] (operation_at s k).children is r.1 y.op.0
          (subst (λ (o : OpNumber). Contains (operation_at s o.0).children y.op) a (entry_is y c).child) in
          (record { op = y.op.0; needs = q.0 }, q.1, refl)

      part_is : (root : RootId) (field : ℕ) (K : board.Key) → IsKey job.code s.roots h.who roots root.0 field K →
          pointed (filter (is_of K.root K.field) N) ≡ map (requirement_named to) (part_needed s k root.0 field)
      part_is root field K key =
          pointed_of K.root K.field N
          ∙ (λ i. filter (is_of (sym (key.1 to (naming job s b h roots made)) i) (sym key.0 i)) (r.0.seen.required to (naming job s b h roots made) i))
          ∙ filter_to to (same_root (named to) (naming job s b h roots made).one) root.0 field (requirements_of s.tree (operation_at s k).frame.needs.items)
          ∙ ap (map (requirement_named to)) (required_filter s.tree root.0 field (operation_at s k).frame.needs.items)

      -- ---- what an idle operation waits for

      abbrev on : List OpNumber
      on = (knot_at s.waits.knots k).on

      part_come : (root : RootId) (field : ℕ) (K : board.Key) → IsKey job.code s.roots h.who roots root.0 field K →
          Both (NoneInterferes s (IsOwnChild k) (part_needed s k root.0 field)) (all_clear s.waits.knots (filter (is_of K.root K.field) N) (kids is))
      part_come root field K key = (
        none_left job s b h roots made k (kids is) known (filter (is_of K.root K.field) N) (part_needed s k root.0 field) (part_is root field K key) (IsOwnChild k) of_each each_of,
        all_left job s b h roots made k (kids is) known (filter (is_of K.root K.field) N) (part_needed s k root.0 field) (part_is root field K key) (IsOwnChild k) of_each each_of,
      )

      kids_there : (o : OpNumber) → Contains (operation_at s k).children o → o.0 < length s.operations
      kids_there o c = (issued_child job s b h k o c).1

      part_fine : (root : RootId) (field : ℕ) (K : board.Key) → IsKey job.code s.roots h.who roots root.0 field K →
          some_bad s.waits.knots (filter (is_of K.root K.field) N) (kids is) ≡ false → NoneOverInterferes s (IsOwnChild k) (part_needed s k root.0 field)
      part_fine root field K key =
          none_in_vain job s b h roots made k (kids is) known (filter (is_of K.root K.field) N) (part_needed s k root.0 field) (part_is root field K key) (IsOwnChild k) of_each each_of

    abbrev Is : Wait → BoardWait G → Type 0
    Is w x = IsWait job.code s.roots h.who roots (operation_at s k).frame.needs.items (operation_at s k).parts (operation_at s k).children w x

    module _ (l : k < length s.operations) where
      by_node : (n : Node G) → Shows job s h.who b.ways g.at k g.earlier g.above n →
          (has_ended s.waits.knots k ≡ false → Both (EarlierHaveEnded s k) (all_clear s.waits.knots (needs_issued job n) g.earlier)) →
          (has_ended s.waits.knots k ≡ false → some_bad s.waits.knots (needs_issued job n) g.earlier ≡ false →
          (x : Listed) → Contains s.waits.listing x → x.op ≡ number k → NoneOverInterferes s (IsEarlier s k) (requirements_of s.tree x.issued)) → Told k
      by_node (op D N i f ps (idle first) is) r come fine = by_wait (operation_at s k).wait refl r.0.stands.1.1
        where
          told : WaitsTell s.waits.knots D g.earlier (knot_at s.waits.knots k).on
          told = waits_are_told s.waits.knots D g.earlier (knot_at s.waits.knots k).on g.ordered r.0.waits.0

          idle_is : is_idle (knot_at s.waits.knots k).stage ≡ true
          idle_is = ⊎_elim (λ e. ap is_idle e) (λ e. ap is_idle e) r.0.stands.0

          by_wait : (w : Wait) → (operation_at s k).wait ≡ w → Is w first → Told k
          by_wait wait.Beginning q e =
              let stands : stage_at s k ≡ waiting = ⊎_elim (λ m i. stage_of (m i) (q i) (operation_at s k).activity) (λ m i. stage_of (m i) (q i) (operation_at s k).activity) r.0.stands.0 in
              let unended = ended_is s k (knots_there job s b h k l) ∙ ap is_good stands in
              told_as k waiting wait.Beginning stands q (all_clear s.waits.knots D g.earlier) ((λ i. idle_is i && told.ready i)) (come unended) (fine unended (sym told.failed ∙ r.0.waits.1))
          by_wait wait.Nothing q e = absurd e
          by_wait (wait.Part root field) q e = absurd e
          by_wait (wait.Child n) q e = absurd e
      by_node (op D N i f ps (idle nothing) is) r come fine = by_wait (operation_at s k).wait refl r.0.stands.1.1
        where
          by_wait : (w : Wait) → (operation_at s k).wait ≡ w → Is w nothing → Told k
          by_wait wait.Beginning q e = absurd e
          by_wait wait.Nothing q e = told_as k parked wait.Nothing (λ i. stage_of (r.0.stands.0 i) (q i) (operation_at s k).activity) q true
              (λ i. is_idle (r.0.stands.0 i) && all_done s.waits.knots (r.0.waits.0 i)) (λ t. tt, λ t. refl) tt
          by_wait (wait.Part root field) q e = absurd e
          by_wait (wait.Child n) q e = absurd e
      by_node (op D N i f ps (idle (part K)) is) r come fine = by_wait (operation_at s k).wait refl r.0.stands.1.1
        where
          told : WaitsTell s.waits.knots (filter (is_of K.root K.field) N) (kids is) (knot_at s.waits.knots k).on
          told = waits_are_told s.waits.knots (filter (is_of K.root K.field) N) (kids is) (knot_at s.waits.knots k).on
              (children_ordered job s h.who b.ways g.at k 0 [] roots (operation_at s k).children is r.1 tt) r.0.waits.0

          by_wait : (w : Wait) → (operation_at s k).wait ≡ w → Is w (part K) → Told k
          by_wait wait.Beginning q e = absurd e
          by_wait wait.Nothing q e = absurd e
          by_wait (wait.Part root field) q e = told_as k parked (wait.Part root field) (λ i. stage_of (r.0.stands.0 i) (q i) (operation_at s k).activity) q
              (all_clear s.waits.knots (filter (is_of K.root K.field) N) (kids is)) (λ i. is_idle (r.0.stands.0 i) && told.ready i)
              (part_come D N i f ps (part K) is r root field K e.2) (part_fine D N i f ps (part K) is r root field K e.2 (sym told.failed ∙ r.0.waits.1))
          by_wait (wait.Child n) q e = absurd e
      by_node (op D N i f ps (idle (child c)) is) r come fine = by_wait (operation_at s k).wait refl r.0.stands.1.1
        where
          by_wait : (w : Wait) → (operation_at s k).wait ≡ w → Is w (child c) → Told k
          by_wait wait.Beginning q e = absurd e
          by_wait wait.Nothing q e = absurd e
          by_wait (wait.Part root field) q e = absurd e
          by_wait (wait.Child n) q e =
              let there = kids_there D N i f ps (child c) is r in
              let waits : WaitsForChild s.waits.knots n (kids is) (knot_at s.waits.knots k).on = subst (λ m. WaitsForChild s.waits.knots m (kids is) (knot_at s.waits.knots k).on) (sym e) r.0.waits.0 in
              told_as k parked (wait.Child n) (λ i. stage_of (r.0.stands.0 i) (q i) (operation_at s k).activity) q (all_done s.waits.knots (knot_at s.waits.knots k).on)
              (λ i. is_idle (r.0.stands.0 i) && all_done s.waits.knots (knot_at s.waits.knots k).on)
              (child_told job s b h roots n (knot_at s.waits.knots k).on g.at k 0 [] (operation_at s k).children is there r.1 waits)
              (child_open job s b h roots n (knot_at s.waits.knots k).on g.at k 0 [] (operation_at s k).children is there r.1 waits r.0.waits.1)
      by_node (op D N i f ps (filling x d m) is) r come fine = busy_as k knot.Begun r.0.stands.0 refl
      by_node (op D N i f ps (out x d) is) r come fine = busy_as k knot.Begun r.0.stands.0 refl
      by_node (op D N i f ps (closing e) is) r come fine = ⊎_elim (λ q. busy_as k knot.Begun q.0 refl) (λ q. busy_as k knot.Stopped q.0 refl) r.0.stands
      by_node (op D N i f ps (over e) is) r come fine = ⊎_elim (λ q. busy_as k knot.Done q.0 refl) (λ q. busy_as k knot.Failed q.0 refl) r.0.stands
      by_node (op D N i f ps dropped is) r come fine = busy_as k knot.Dropped r.0.stands.0 refl

      told_here : Told k
      told_here = by_node g.node g.shows g.come g.fine

  pub told : (k : ℕ) → Told k
  told k = ⊎_elim (λ l. told_here k (stood k l) l)
      (λ l. busy k (ap (λ (x : Knot). is_idle x.stage) (get_or_past s.waits.knots k no_knot (subst (λ n. n ≤ k) (sym h.knots) l)))) (cases_lt k (length s.operations))
