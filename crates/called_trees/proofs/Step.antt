-- One call more is issued: behind the children of its caller comes one more, which waits, or is dropped at once.
use Rattle.std.proofs.Common.{◌≡◌, ◌<◌, ◌+◌, ◌++◌, ◌∷◌, ◌∙◌, ⊎_elim, inl, ℕ, Bool, List, None, Some, [], ap, append-nil, append_assoc, arith, cond, false, length, map, refl, subst, sym, true}
use Rattle.std.specs.Prelude.{All}
use Rattle.std.proofs.lemmas.Bool.{false≢true}
use Rattle.std.proofs.lemmas.List.Elements.{All-append, All-contains, All-cons, All-head, All-nil, All-tail, All-weaker}
use Rattle.region_tree.specs.Requirements.{Requirement}
use Rattle.region_tree.specs.declared.needs.Need.{Need}
use Rattle.region_tree.specs.declared.tree.OpNumber.{OpNumber}
use Rattle.region_tree.specs.declared.tree.RootId.{RootId}
use Rattle.logical_map.specs.Maps.{is_live}
use Rattle.dependence_graph.specs.Entries.{Knot}
use Rattle.dependence_graph.specs.Knots.{knot_at, number, some_failed}
use Rattle.dependence_graph.specs.declared.stage.Stage.TheVariants as knot
use Rattle.task_code.specs.declared.job.Job.{Job}
use Rattle.machine_terms.specs.declared.frame.Frame.{Frame}
use Rattle.board_rules.specs.Boards.{Items, ◌+++◌, child_count, child_op, idle, no_item, nothing, op}
use Rattle.board_rules.specs.Ground.{Ground}
use Rattle.board_rules.specs.NumberedBoards.{Board}
use Rattle.board_rules.specs.RootNumbers.{made_in}
use Rattle.board_rules.specs.Running.{Element}
use Rattle.regent_boards.specs.Frames as board
use Rattle.regent_boards.specs.RegentMachine.{regent_ground}
use Rattle.code_boards.specs.Laws.{machine_of}
use Rattle.code_boards.specs.Views.{required_all, spaces_of, value_out}
use Rattle.order_boards.proofs.Calls.{values}
use Rattle.board_terms.specs.declared.operation.Operation.{Operation}
use Rattle.board_terms.specs.States.{State, called_by, operation_at}
use Rattle.board_trees.specs.Frames.{HasPlaces, IsSeen}
use Rattle.board_trees.specs.Names.{IsNaming}
use Rattle.board_trees.specs.Shows.{AreListed, IfRuns, IsChild, Row, Shows, ShowsBoard, ShowsChildren, siblings}
use Rattle.board_trees.specs.Stages.{ChildrenAre, Stands, WaitsWell, was_begun}
use Rattle.board_trees.specs.Told.{some_bad}
use Rattle.board_trees.specs.Waits.{Sibling, WaitsFor}
use Rattle.board_trees.proofs.Along.{not_above}
use Rattle.board_trees.proofs.Kept.{seen_as}
use Rattle.board_trees.proofs.Ordered.{children_ordered}
use Rattle.board_trees.proofs.Told.{waits_are_told}
use Rattle.changed_trees.specs.Changes.{Change, IsAt, IsWider}
use Rattle.changed_trees.proofs.Below.{children_kept}
use Rattle.changed_trees.proofs.Kept.{back, clear_kept, seen_kept, shown_match, waits_for_kept, wider_on}
use Rattle.changed_trees.proofs.Listed.{waits_are_listed}
use Rattle.yielded_trees.proofs.Trees.{many_children}
use Rattle.called_trees.proofs.Changes.{change, ended_same, entry_there, knot_kept, others_there, row_here, row_new, size_more, some_failed_same, there, way_last, within}
use Rattle.called_trees.proofs.Child.{child_seen}
use Rattle.called_trees.proofs.Covered.{placed_upward}
use Rattle.called_trees.proofs.Entries.{listed_behind}
use Rattle.called_trees.proofs.Grown.{need_listed, said_more, shows_more, siblings_more}
use Rattle.called_trees.proofs.Issued.{knot_new, length_more, new_unbegun, not_parked}
use Rattle.called_trees.proofs.Opens.{all_declared, all_required}
use Rattle.called_trees.proofs.Calling.{IsAlike, IsAmong, IsCalling, NewCall, NewChild, caller, child_knot, child_on, entry, frame_of, items_of, needs_of, node_of, sibling_of, stage_by, still_waits, tree_frame, with_child}
use Rattle.called_trees.proofs.Within.{siblings_within, waits_within}

module _ (job : Job) (s : State) (b : Board (regent_ground (spaces_of job.code))) (h : ShowsBoard job s b) (k : ℕ) (v : List ℕ) (at : IsAt job b.ways k v)
    (name : ℕ → ℕ) (naming : (roots : List RootId) → All (λ (r : RootId). r.0 < length s.roots) roots → IsNaming s.roots h.who roots name) (depth : ℕ) (c : NewCall)
    (placed : All (HasPlaces s.tree) c.out.args) (declared : all_declared s.tree s.map c.task.needs c.out.args ≡ true) (rest : List NewCall) (done : List NewChild) where
  abbrev pub G : Ground
  G = regent_ground (spaces_of job.code)

  abbrev pub o : Operation
  o = operation_at s k

  abbrev pub n : ℕ
  n = length s.operations

  abbrev pub begin : Frame
  begin = frame_of job depth c

  abbrev pub u : State
  u = with_child s k begin

  abbrev child : Operation
  child = called_by (number k) begin

  abbrev on : List OpNumber
  on = child_on s k begin

  -- the way to the child
  abbrev last : List ℕ
  last = v ++ length o.children ∷ []

  abbrev pub ways : List (List ℕ)
  ways = b.ways ++ last ∷ []

  pub changes : Change job s u h.who h.who b.ways ways (λ w. w ≡ v)
  changes = change job s b h k v at begin (last ∷ [])

  here : operation_at u k ≡ caller s k
  here = row_here job s b h k v at begin

  fresh : operation_at u n ≡ child
  fresh = row_new job s b h k v at begin

  here_knot : knot_at u.waits.knots k ≡ knot_at s.waits.knots k
  here_knot = knot_kept job s b h k v at begin k (within job s b h k v at begin)

  fresh_knot : knot_at u.waits.knots n ≡ child_knot s k begin
  fresh_knot = ap (knot_at u.waits.knots) (sym h.knots) ∙ knot_new s.waits.knots (child_knot s k begin)

  -- ---- the child

  abbrev Q : List Requirement
  Q = needs_of job name c

  abbrev F : board.Frame
  F = tree_frame job name depth c

  abbrev items : List Need
  items = items_of job depth c

  abbrev args : List board.Value
  args = map value_out (values job.code name c.out.args)

  abbrev makings : ℕ
  makings = made_in G (machine_of job) b.state.tree

  module _ (roots : List RootId) (below : All (λ (r : RootId). r.0 < length s.roots) roots) (live : All (λ (r : RootId). is_live s.map r.0 ≡ true) roots) (alike : IsAlike job s h.who b.ways k v name depth roots c) where
    needs_are : required_all job.code c.task.needs args ≡ Some Q
    needs_are = all_required job s.tree s.map s.roots h.who makings h.made b.state.map h.held roots below live c.out.args placed name (naming roots below)
        (λ other z. alike name other (naming roots below) z) c.task.needs
        ∙ ap (λ q. cond q (Some Q) None) declared

    pub begins : IsSeen job.code s.tree s.map s.roots h.who roots child Q F []
    begins = child_seen job s.tree s.map s.roots h.who makings h.made b.state.map h.held roots below live c.out.args placed job.turns depth c.out.task c.task declared args
        (λ one z. ap (map value_out) (alike name one (naming roots below) z)) Q needs_are
        (λ one z other y. alike one other z y) (number k)

  -- ---- the caller

  module _ (earlier : List Sibling) (above more : List RootId) (D N : List Requirement) (i : ℕ) (f : board.Frame) (ps : List (Element G)) (is : Items G) (wider : IsWider u above more)
      (r : IsCalling job s h.who b.ways k v name depth (c ∷ rest) done earlier above D N i f ps (idle nothing) is) where
    abbrev roots : List RootId
    roots = above ++ o.frame.own

    abbrev wide : List RootId
    wide = more ++ o.frame.own

    abbrev xs : List Sibling
    xs = siblings job o.children is

    abbrev fails : Bool
    fails = some_failed s.waits.knots on

    abbrev js : Items G
    js = ◌+++◌ G is (child_op (node_of job name depth fails c) no_item)

    wide_roots : IsWider u roots wide
    wide_roots = wider_on u above more o.frame.own wider

    under : All (λ (r : RootId). r.0 < length s.roots) roots
    under = All-append (λ (r : RootId). r.0 < length s.roots) above o.frame.own r.below (h.own_made k)

    live : All (λ (r : RootId). is_live s.map r.0 ≡ true) roots
    live = r.shown.0.seen.there

    back_name : (one : ℕ → ℕ) → IsNaming s.roots h.who wide one → IsNaming s.roots h.who roots one
    back_name = back job s u h.who h.who b.ways ways (λ w. w ≡ v) changes roots wide wide_roots under

    wide_live : All (λ (r : RootId). is_live s.map r.0 ≡ true) wide
    wide_live = λ z e l. ⊎_elim (λ y. All-contains (λ (r : RootId). is_live s.map r.0 ≡ true) roots _ live y) (λ y. y) (wide_roots.added z e l)

    wide_below : All (λ (r : RootId). r.0 < length s.roots) wide
    wide_below = All-weaker (λ (r : RootId). is_live s.map r.0 ≡ true) (λ (r : RootId). r.0 < length s.roots) (λ r l. (h.held r.0 l).made) wide wide_live

    alike : IsAlike job s h.who b.ways k v name depth roots c
    alike = All-head (IsAlike job s h.who b.ways k v name depth roots) c rest r.alike

    begins_wide : IsSeen job.code s.tree s.map s.roots h.who wide child Q F []
    begins_wide = begins wide wide_below wide_live (λ one other z y. alike one other (back_name one z) (back_name other y))

    begins_here : IsSeen job.code s.tree s.map s.roots h.who roots child Q F []
    begins_here = begins roots under live alike

    shown_children : ShowsChildren job s h.who b.ways v k 0 [] roots o.children is
    shown_children = r.shown.1

    -- what it waits for
    awaits : WaitsFor s.waits.knots Q xs on
    awaits = waits_are_listed job s b h v k earlier above D N i f ps (idle nothing) is r.shown r.below items Q begins_here.required

    on_issued : All (λ (y : OpNumber). y.0 < n) on
    on_issued = waits_within job s h.who b.ways Q xs on (siblings_within job s h.who b.ways v k 0 [] roots o.children is shown_children) awaits

    fails_same : some_failed u.waits.knots on ≡ some_failed s.waits.knots on
    fails_same = some_failed_same job s b h k v at begin on on_issued

    pub fails_bad : some_failed s.waits.knots on ≡ some_bad s.waits.knots Q xs
    fails_bad = (waits_are_told s.waits.knots Q xs on (children_ordered job s h.who b.ways v k 0 [] roots o.children is shown_children tt) awaits).failed

    child_runs : (q : Bool) → {A : Type 0} → A → IfRuns job (stage_by job name q) A
    child_runs true z = tt
    child_runs false z = z

    child_stands : (q : Bool) → Stands job.code u.roots h.who wide u (cond q knot.Dropped knot.Waiting) child Q (stage_by job name q)
    child_stands true = (refl, (refl, refl))
    child_stands false = (inl refl, (refl, refl))

    child_waits : (q : Bool) → some_failed s.waits.knots on ≡ q → WaitsWell job.code u.waits.knots Q Q xs [] on (stage_by job name q)
    child_waits true e = tt
    child_waits false e = (waits_for_kept job s u h.who h.who b.ways ways (λ w. w ≡ v) changes Q xs on awaits, fails_same ∙ e)

    child_leaf : (q : Bool) → ChildrenAre job.code u [] (stage_by job name q)
    child_leaf true = refl
    child_leaf false = tt

    fresh_roots : wide ++ (operation_at u n).frame.own ≡ wide
    fresh_roots = ap (λ (x : Operation). wide ++ x.frame.own) fresh ∙ append-nil wide

    child_row : (q : Bool) → some_failed s.waits.knots on ≡ q → Row job u h.who ways last n xs wide Q Q F [] (stage_by job name q) no_item
    child_row q e = record {
      within = let l = size_more job s b h k v at begin in omega (arith, l);
      knot = let l = length_more s.waits.knots (child_knot s k begin) in omega (arith, l, h.knots);
      way_is = subst (λ x. IsAt job ways x last) h.ways (way_last job b.ways last);
      own = λ name z. ap (λ (x : Operation). map (λ (r : RootId). name r.0) x.frame.own) (sym fresh);
      seen = subst (λ (x : Operation). IfRuns job (stage_by job name q) (IsSeen job.code u.tree u.map u.roots h.who wide x Q F [])) (sym fresh) (child_runs q begins_wide);
      said_is = ap (λ (x : Operation). x.said) (sym fresh);
      stands = subst (λ (x : Knot). Stands job.code u.roots h.who wide u x.stage (operation_at u n) Q (stage_by job name q)) (sym fresh_knot)
          (subst (λ (x : Operation). Stands job.code u.roots h.who wide u (child_knot s k begin).stage x Q (stage_by job name q)) (sym fresh)
          (subst (λ y. Stands job.code u.roots h.who wide u (cond y knot.Dropped knot.Waiting) child Q (stage_by job name q)) (sym e) (child_stands q)));
      free = λ p y. absurd (not_parked fails (sym (ap (λ (x : Knot). x.stage) fresh_knot) ∙ p));
      waits = subst (λ (x : Knot). WaitsWell job.code u.waits.knots Q Q xs (siblings job (operation_at u n).children no_item) x.on (stage_by job name q)) (sym fresh_knot) (child_waits q e);
      begun = λ z. absurd (false≢true (sym (new_unbegun fails) ∙ ap (λ (x : Knot). was_begun x.stage) (sym fresh_knot) ∙ z));
      listed = tt;
      children_are = subst (λ (x : Operation). ChildrenAre job.code u x.children (stage_by job name q)) (sym fresh) (child_leaf q);
    }

    child_shows : (q : Bool) → some_failed s.waits.knots on ≡ q → Shows job u h.who ways last n xs wide (node_of job name depth q c)
    child_shows q e = (
      subst (λ rs. Row job u h.who ways last n xs rs Q Q F [] (stage_by job name q) no_item) (sym fresh_roots) (child_row q e),
      ap (λ (x : Operation). x.children) fresh,
    )

    child_is : IsChild job u h.who ways k n
    child_is = record { parent = ap (λ (x : Operation). x.parent) fresh; later = within job s b h k v at begin }

    -- ---- the caller's row

    earlier_ones : All (λ (y : Sibling). y.op < n) xs
    earlier_ones = siblings_within job s h.who b.ways v k 0 [] roots o.children is shown_children

    all_listed : AreListed job u h.who wide k (xs ++ sibling_of job name (record { number = n; call = c }) ∷ [])
    all_listed = listed_behind job s h.who roots wide k n Q (entry s k begin) u.operations u.waits back_name begins_wide.required begins_wide.placed.needs (need_listed s.tree items)
        (placed_upward job s.tree (λ x l. (h.regions x l).higher) items begins_wide.placed.needs)
        (entry_there job s b h k v at begin) (ap number h.knots) refl (others_there job s b h k v at begin) (ended_same job s b h k v at begin) xs earlier_ones r.shown.0.listed

    siblings_are : siblings job (operation_at u k).children js ≡ xs ++ sibling_of job name (record { number = n; call = c }) ∷ []
    siblings_are = ap (λ (x : Operation). siblings job x.children js) here
        ∙ siblings_more job o.children (number n ∷ []) is (child_op (node_of job name depth fails c) no_item) (shown_match job s h.who b.ways v k 0 [] roots o.children is shown_children)

    from_none : 0 + child_count G is ≡ length o.children
    from_none = let many = many_children job o.children is (shown_match job s h.who b.ways v k 0 [] roots o.children is shown_children) in omega (arith, many)

    stands : Stands job.code u.roots h.who wide u (knot_at s.waits.knots k).stage (caller s k) N (idle nothing)
    stands = (r.shown.0.stands.0, (r.shown.0.stands.1.0, still_waits job s h.who o o.wait roots wide (caller s k).children r.shown.0.stands.1.1))

    waits : WaitsWell job.code u.waits.knots D N earlier (siblings job (operation_at u k).children js) (knot_at s.waits.knots k).on (idle nothing)
    waits = (r.shown.0.waits.0, ap (some_failed u.waits.knots) r.shown.0.waits.0)

    row : Row job u h.who ways v k earlier wide D N f ps (idle nothing) js
    row = record {
      within = changes.size k (within job s b h k v at begin);
      knot = changes.knots k (there job s b h k v at begin);
      way_is = changes.way k v at;
      own = λ name z. r.shown.0.own name (back_name name z) ∙ ap (λ (x : Operation). map (λ (r : RootId). name r.0) x.frame.own) (sym here);
      seen = subst (λ (x : Operation). IsSeen job.code u.tree u.map u.roots h.who wide x N f ps) (sym here)
          (seen_kept job s u h.who h.who b.ways ways (λ w. w ≡ v) changes roots wide wide_roots under (caller s k) N f ps (seen_as job s h.who roots o (caller s k) N f ps r.shown.0.seen));
      said_is = said_more job 0 is (child_op (node_of job name depth fails c) no_item) ∙ append-nil _ ∙ r.shown.0.said_is ∙ ap (λ (x : Operation). x.said) (sym here);
      stands = subst (λ (x : Knot). Stands job.code u.roots h.who wide u x.stage (operation_at u k) N (idle nothing)) (sym here_knot)
          (subst (λ (x : Operation). Stands job.code u.roots h.who wide u (knot_at s.waits.knots k).stage x N (idle nothing)) (sym here) stands);
      free = λ p e. absurd cc;
      waits = subst (λ (x : Knot). WaitsWell job.code u.waits.knots D N earlier (siblings job (operation_at u k).children js) x.on (idle nothing)) (sym here_knot) waits;
      begun = λ z. clear_kept job s u h.who h.who b.ways ways (λ w. w ≡ v) changes D earlier (r.shown.0.begun (ap (λ (x : Knot). was_begun x.stage) (sym here_knot) ∙ z));
      listed = subst (AreListed job u h.who wide k) (sym siblings_are) all_listed;
      children_are = tt;
    }

    kids : ShowsChildren job u h.who ways v k 0 [] wide (o.children ++ number n ∷ []) js
    kids = shows_more job u h.who ways v k 0 [] wide o.children (number n ∷ []) is (child_op (node_of job name depth fails c) no_item)
        (children_kept job s u h.who h.who b.ways ways (λ w. w ≡ v) changes makings h.made h.own_made v k 0 [] roots wide o.children is wide_roots under
        (λ x l z e. not_above v x z (sym e ∙ append_assoc v (x ∷ []) z)) shown_children)
        (child_is, subst (λ x. Shows job u h.who ways (v ++ x ∷ []) n xs wide (node_of job name depth fails c)) (sym from_none) (child_shows fails refl), refl)

    shown : Shows job u h.who ways v k earlier more (op D N i f ps (idle nothing) js)
    shown = subst (λ (x : Operation). Row job u h.who ways v k earlier (more ++ x.frame.own) D N f ps (idle nothing) js × ShowsChildren job u h.who ways v k 0 [] (more ++ x.frame.own) x.children js)
        (sym here) (row, kids)

    -- ---- what is known of it

    among_more : (d : NewChild) → IsAmong job s h.who b.ways k v name depth roots xs d → IsAmong job u h.who ways k v name depth wide (xs ++ sibling_of job name (record { number = n; call = c }) ∷ []) d
    among_more d x = record {
      before = x.before;
      after = x.after ++ sibling_of job name (record { number = n; call = c }) ∷ [];
      split = ap (λ ys. ys ++ sibling_of job name (record { number = n; call = c }) ∷ []) x.split ∙ append_assoc x.before (sibling_of job name d ∷ x.after) (sibling_of job name (record { number = n; call = c }) ∷ []);
      later = All-append (λ (y : Sibling). ¬ (y.op < d.number)) x.after (sibling_of job name (record { number = n; call = c }) ∷ []) x.later
          (All-cons (λ (y : Sibling). ¬ (y.op < d.number)) (sibling_of job name (record { number = n; call = c })) [] (λ l. omega (arith, l, number_below d x)) (All-nil (λ (y : Sibling). ¬ (y.op < d.number))));
      required = λ one z. x.required one (back_name one z);
      placed = x.placed;
    }
      where
        number_below : (d : NewChild) → IsAmong job s h.who b.ways k v name depth roots xs d → d.number < n
        number_below d x = All-head (λ (y : Sibling). y.op < n) (sibling_of job name d) x.after (All-behind x.before (sibling_of job name d ∷ x.after) (subst (All (λ (y : Sibling). y.op < n)) x.split earlier_ones))
          where
            All-behind : (ys zs : List Sibling) → All (λ (y : Sibling). y.op < n) (ys ++ zs) → All (λ (y : Sibling). y.op < n) zs
            All-behind [] zs h = h
            All-behind (y ∷ ys) zs h = All-behind ys zs (All-tail (λ (y : Sibling). y.op < n) y (ys ++ zs) h)

    among_new : IsAmong job u h.who ways k v name depth wide (xs ++ sibling_of job name (record { number = n; call = c }) ∷ []) (record { number = n; call = c })
    among_new = record {
      before = xs;
      after = [];
      split = refl;
      later = All-nil (λ (y : Sibling). ¬ (y.op < n));
      required = begins_wide.required;
      placed = begins_wide.placed.needs;
    }

    pub calling : IsCalling job u h.who ways k v name depth rest (done ++ record { number = n; call = c } ∷ []) earlier more D N i f ps (idle nothing) js
    calling = record {
      below = more_below;
      stage_is = refl;
      shown = shown;
      alike = subst (λ (x : Operation). All (IsAlike job u h.who ways k v name depth (more ++ x.frame.own)) rest) (sym here)
          (All-weaker (IsAlike job s h.who b.ways k v name depth roots) (IsAlike job u h.who ways k v name depth wide)
          (λ d a one other z y. a one other (back_name one z) (back_name other y)) rest (All-tail (IsAlike job s h.who b.ways k v name depth roots) c rest r.alike));
      among = subst (λ (x : Operation). All (IsAmong job u h.who ways k v name depth (more ++ x.frame.own) (siblings job (operation_at u k).children js)) (done ++ record { number = n; call = c } ∷ [])) (sym here)
          (subst (λ ys. All (IsAmong job u h.who ways k v name depth wide ys) (done ++ record { number = n; call = c } ∷ [])) (sym siblings_are)
          (All-append (IsAmong job u h.who ways k v name depth wide (xs ++ sibling_of job name (record { number = n; call = c }) ∷ [])) done (record { number = n; call = c } ∷ [])
          (All-weaker (IsAmong job s h.who b.ways k v name depth roots xs) (IsAmong job u h.who ways k v name depth wide (xs ++ sibling_of job name (record { number = n; call = c }) ∷ [])) among_more done r.among)
          (All-cons (IsAmong job u h.who ways k v name depth wide (xs ++ sibling_of job name (record { number = n; call = c }) ∷ [])) (record { number = n; call = c }) [] among_new (All-nil (IsAmong job u h.who ways k v name depth wide (xs ++ sibling_of job name (record { number = n; call = c }) ∷ []))))));
    }
      where
        more_below : All (λ (r : RootId). r.0 < length s.roots) more
        more_below = λ z e l. ⊎_elim (λ y. All-contains (λ (r : RootId). r.0 < length s.roots) above _ r.below y) (λ y. (h.held _ y).made) (wider.added z e l)
