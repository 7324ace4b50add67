-- Behind its calls an operation goes on, or is broken: then the board is open at it.
use Rattle.std.proofs.Common.{◌≡◌, ◌<◌, ◌+◌, ◌++◌, ◌∷◌, ◌∙◌, inl, ℕ, Bool, List, Some, [], ap, append_assoc, arith, cond, false, length, map, refl, subst, sym, true}
use Rattle.std.specs.Prelude.{All}
use Rattle.std.proofs.lemmas.List.Elements.{All-append}
use Rattle.region_tree.specs.Requirements.{Requirement}
use Rattle.region_tree.specs.declared.tree.RootId.{RootId}
use Rattle.logical_map.specs.Maps.{is_live}
use Rattle.dependence_graph.specs.Entries.{Knot}
use Rattle.dependence_graph.specs.Knots.{has_failed, is_done, knot_at, some_failed}
use Rattle.dependence_graph.specs.declared.stage.Stage.{Stage as Knotted}
use Rattle.dependence_graph.specs.declared.stage.Stage.TheVariants as knot
use Rattle.task_code.specs.declared.job.Job.{Job}
use Rattle.board_rules.specs.Boards.{Items, Operation as Node, Stage as BoardStage, at_fault, closing, first, idle, nothing, op}
use Rattle.board_rules.specs.Boards as tree
use Rattle.board_rules.specs.Ground.{Ground}
use Rattle.board_rules.specs.NumberedBoards.{Board, without}
use Rattle.board_rules.specs.RootNumbers.{made_among, made_in}
use Rattle.board_rules.specs.Running.{Element}
use Rattle.regent_boards.specs.Frames as board
use Rattle.regent_boards.specs.RegentMachine.{regent_ground}
use Rattle.code_boards.specs.Laws.{machine_of}
use Rattle.code_boards.specs.Views.{spaces_of}
use Rattle.board_terms.specs.declared.operation.Activity.{Activity}
use Rattle.board_terms.specs.declared.operation.Activity.TheVariants as activity
use Rattle.board_terms.specs.declared.operation.Ending.TheVariants.{Broken}
use Rattle.board_terms.specs.declared.operation.Operation.{Operation}
use Rattle.board_terms.specs.Stages.{is_over, stage_of}
use Rattle.board_terms.specs.States.{State, operation_at}
use Rattle.board_trees.specs.Frames.{IsSeen}
use Rattle.board_trees.specs.Names.{AreMade}
use Rattle.board_trees.specs.Shows.{AreListed, IfRuns, ShowsBoard, ShowsChildren, is_claimed, needs_issued, siblings}
use Rattle.board_trees.specs.Stages.{Stands, WaitsWell, was_begun}
use Rattle.board_trees.specs.Waits.{Sibling}
use Rattle.board_trees.proofs.Along.{not_above}
use Rattle.board_trees.proofs.Kept.{seen_as}
use Rattle.board_trees.proofs.Settled.{wait_open}
use Rattle.board_trees.proofs.Told.{stage_there}
use Rattle.changed_trees.specs.Changes.{Change, IsAt, IsWider}
use Rattle.changed_trees.specs.Edits.{edited}
use Rattle.changed_trees.specs.Open.{Asked, HasAt, IsOpen, OpenBoard, OpenRow}
use Rattle.changed_trees.proofs.Below.{children_kept}
use Rattle.changed_trees.proofs.Kept.{back, clear_kept, listed_kept, seen_kept, wider_on}
use Rattle.changed_trees.proofs.One.{IsOngoing, knot_is, one_changed, row_is}
use Rattle.changed_trees.proofs.Walks.{OfAll}
use Rattle.yielded_trees.proofs.Builder.{OpenHere, change, opens_with, own_apart_same, own_made_same, own_same}
use Rattle.yielded_trees.proofs.Found.{found_at}
use Rattle.called_trees.proofs.Edits.{none_behind}
use Rattle.called_trees.proofs.Calling.{IsCalling, NewChild, Calling, by_calling, calling_shows, still_waits}
use Rattle.called_trees.proofs.Stepped.{kids_more}

-- ---- it goes on, or is broken

abbrev pub activity_by : Bool → Activity
activity_by q = cond q activity.Idle (activity.Closing Broken)

-- in the tree
abbrev pub stage_last : (job : Job) → Bool → BoardStage (regent_ground (spaces_of job.code))
stage_last job q = cond q (idle nothing) (closing (at_fault board.broken))

abbrev pub row_last : State → ℕ → Bool → Operation
row_last s k q = record (operation_at s k) { activity = activity_by q }

-- where it is broken, its knot is what it was before
abbrev pub knot_last : State → ℕ → Knot → Bool → Knot
knot_last s k was q = cond q (knot_at s.waits.knots k) was

module _ (job : Job) (s : State) (b : Board (regent_ground (spaces_of job.code))) (h : ShowsBoard job s b) (k : ℕ) (v : List ℕ) (at : IsAt job b.ways k v)
    (name : ℕ → ℕ) (depth : ℕ) (done : List NewChild) (here : HasAt job s h.who b.ways (Calling job s h.who b.ways k v name depth [] done) v [] 0 [] [] b.state.tree)
    (q : Bool) (was : Knot) (begun : was.stage ≡ knot.Begun) where
  abbrev G : Ground
  G = regent_ground (spaces_of job.code)

  abbrev o : Operation
  o = operation_at s k

  abbrev Before : Asked job
  Before = Calling job s h.who b.ways k v name depth [] done

  known : {P : Type 0} → ((earlier : List Sibling) (above : List RootId) (D N : List Requirement) (i : ℕ) (f : board.Frame) (ps : List (Element G)) (is : Items G) →
      IsCalling job s h.who b.ways k v name depth [] done earlier above D N i f ps (idle nothing) is → P) → P
  known {P} own =
      let x = found_at job s h.who b.ways Before v [] 0 [] [] b.state.tree here in
      by_calling job s h.who b.ways k v name depth [] done (λ w j earlier above n. P) own x.way x.number x.earlier x.above x.node x.is

  record Parks : Type 0 where
    within : k < length s.operations
    there : k < length s.waits.knots
    parked : (knot_at s.waits.knots k).stage ≡ knot.Parked
    rests : o.activity ≡ activity.Idle

  parks : Parks
  parks = known (λ earlier above D N i f ps is r. record { within = r.shown.0.within; there = r.shown.0.knot; parked = r.shown.0.stands.0; rests = r.shown.0.stands.1.0 })

  abbrev row : Operation
  row = row_last s k q

  abbrev knotted : Knot
  knotted = knot_last s k was q

  -- what holds of the knot and the row either way
  of_knot : (P : Knotted → Type 0) → P knot.Parked → P knot.Begun → (q : Bool) → P (knot_last s k was q).stage
  of_knot P one two true = subst P (sym parks.parked) one
  of_knot P one two false = subst P (sym begun) two

  ongoing : IsOngoing s s.tree s.roots s.map k row knotted parks.within parks.there
  ongoing = record {
    before = ap is_done (stage_there s.waits.knots k parks.there ∙ ap Some parks.parked);
    unfailed = ap has_failed (stage_there s.waits.knots k parks.there ∙ ap Some parks.parked);
    runs = ap (λ x. is_over (stage_of x o.wait o.activity)) parks.parked ∙ wait_open o.wait;
    now = of_knot (λ x. is_done (Some x) ≡ false) refl refl q;
    fails = of_knot (λ x. has_failed (Some x) ≡ false) refl refl q;
    open_now = open_by q;
  }
    where
      open_by : (q : Bool) → is_over (stage_of (knot_last s k was q).stage o.wait (activity_by q)) ≡ false
      open_by true = ap (λ x. is_over (stage_of x o.wait activity.Idle)) parks.parked ∙ wait_open o.wait
      open_by false = ap (λ x. is_over (stage_of x o.wait (activity.Closing Broken))) begun

  abbrev pub u : State
  u = one_changed s s.tree s.roots s.map k row knotted

  changes : Change job s u h.who h.who b.ways b.ways (λ w. v ≡ w)
  changes = change job s b h k v at s.tree s.roots s.map row knotted parks.within parks.there ongoing refl h.who (λ n l. (l, refl)) (λ r l. refl) (λ r l. l) (λ r field l. l)

  row_here : operation_at u k ≡ row
  row_here = row_is s s.tree s.roots s.map k row knotted parks.within parks.there

  knot_here : knot_at u.waits.knots k ≡ knotted
  knot_here = knot_is s s.tree s.roots s.map k row knotted parks.within parks.there

  -- ---- the operation

  module _ (earlier : List Sibling) (above more : List RootId) (D N : List Requirement) (i : ℕ) (f : board.Frame) (ps : List (Element G)) (is : Items G) (wider : IsWider u above more)
      (r : IsCalling job s h.who b.ways k v name depth [] done earlier above D N i f ps (idle nothing) is) where
    abbrev roots : List RootId
    roots = above ++ o.frame.own

    abbrev wide : List RootId
    wide = more ++ o.frame.own

    abbrev xs : List Sibling
    xs = siblings job o.children is

    wide_roots : IsWider u roots wide
    wide_roots = wider_on u above more o.frame.own wider

    under : All (λ (r : RootId). r.0 < length s.roots) roots
    under = All-append (λ (r : RootId). r.0 < length s.roots) above o.frame.own r.below (h.own_made k)

    seen_by : (q : Bool) → IfRuns job (stage_last job q) (IsSeen job.code u.tree u.map u.roots h.who wide (row_last s k q) N f ps)
    seen_by true = seen_kept job s u h.who h.who b.ways b.ways (λ w. v ≡ w) changes roots wide wide_roots under (row_last s k true) N f ps (seen_as job s h.who roots o (row_last s k true) N f ps r.shown.0.seen)
    seen_by false = tt

    stands_by : (q : Bool) → Stands job.code u.roots h.who wide u (knot_last s k was q).stage (row_last s k q) N (stage_last job q)
    stands_by true = (parks.parked, (refl, still_waits job s h.who o o.wait roots wide o.children r.shown.0.stands.1.1))
    stands_by false = inl (begun, record { own = Broken; activity_is = refl; ends = tt })

    waits_by : (q : Bool) → WaitsWell job.code u.waits.knots D N earlier xs (knot_last s k was q).on (stage_last job q)
    waits_by true = (r.shown.0.waits.0, ap (some_failed u.waits.knots) r.shown.0.waits.0)
    waits_by false = tt

    goes_by : (q : Bool) → tree.is_over G (stage_last job q) ≡ false
    goes_by true = refl
    goes_by false = refl

    never_first : (q : Bool) → stage_last job q ≡ idle first → ⊥
    never_first true e = absurd cc
    never_first false e = absurd cc

    row_opens : OpenRow job u h.who b.ways v k earlier wide D N f ps (stage_last job q) is
    row_opens = record {
      within = changes.size k parks.within;
      knot = changes.knots k parks.there;
      way_is = at;
      going = goes_by q;
      own = λ name z. r.shown.0.own name (back job s u h.who h.who b.ways b.ways (λ w. v ≡ w) changes roots wide wide_roots under name z) ∙ ap (λ (x : Operation). map (λ (r : RootId). name r.0) x.frame.own) (sym row_here);
      seen = subst (λ (x : Operation). IfRuns job (stage_last job q) (IsSeen job.code u.tree u.map u.roots h.who wide x N f ps)) (sym row_here) (seen_by q);
      said_is = r.shown.0.said_is ∙ ap (λ (x : Operation). x.said) (sym row_here);
      stands = subst (λ (x : Knot). Stands job.code u.roots h.who wide u x.stage (operation_at u k) N (stage_last job q)) (sym knot_here)
          (subst (λ (x : Operation). Stands job.code u.roots h.who wide u knotted.stage x N (stage_last job q)) (sym row_here) (stands_by q));
      free = λ p e. absurd (never_first q e);
      waits = subst (λ (x : Knot). WaitsWell job.code u.waits.knots D N earlier (siblings job (operation_at u k).children is) x.on (stage_last job q)) (sym knot_here)
          (subst (λ (x : Operation). WaitsWell job.code u.waits.knots D N earlier (siblings job x.children is) knotted.on (stage_last job q)) (sym row_here) (waits_by q));
      begun = λ z. clear_kept job s u h.who h.who b.ways b.ways (λ w. v ≡ w) changes D earlier (r.shown.0.begun (ap was_begun parks.parked));
      listed = subst (λ (x : Operation). AreListed job u h.who wide k (siblings job x.children is)) (sym row_here)
          (listed_kept job s u h.who h.who b.ways b.ways (λ w. v ≡ w) changes roots wide wide_roots under k (λ x z n c. c) xs r.shown.0.listed);
    }

    kids : ShowsChildren job u h.who b.ways v k 0 [] wide o.children is
    kids = children_kept job s u h.who h.who b.ways b.ways (λ w. v ≡ w) changes (made_in G (machine_of job) b.state.tree) h.made h.own_made v k 0 [] roots wide o.children is wide_roots under
        (λ c l z e. not_above v c z (e ∙ append_assoc v (c ∷ []) z)) r.shown.1

    opens_here : IsOpen job u h.who b.ways v k earlier more (kids_more job name depth (stage_last job q) [] (op D N i f ps (idle nothing) is))
    opens_here = subst (λ js. IsOpen job u h.who b.ways v k earlier more (op D N i f ps (stage_last job q) js)) (sym (none_behind G is))
        (subst (λ (x : Operation). OpenRow job u h.who b.ways v k earlier (more ++ x.frame.own) D N f ps (stage_last job q) is × ShowsChildren job u h.who b.ways v k 0 [] (more ++ x.frame.own) x.children is)
        (sym row_here) (row_opens, kids))

  -- ---- the board

  abbrev g : Node G → Node G
  g = kids_more job name depth (stage_last job q) []

  needs_stay : (n : Node G) → needs_issued job (g n) ≡ needs_issued job n
  needs_stay (op D N i f ps st is) = refl

  own : (w : List ℕ) (j : ℕ) (earlier : List Sibling) (above more : List RootId) (n : Node G) → v ≡ w → IsWider u above more → Before w j earlier above n → (j ≡ k) × IsOpen job u h.who b.ways w j earlier more (g n)
  own w j earlier above more n e wider y = by_calling job s h.who b.ways k v name depth [] done
      (λ w j earlier above n. (more : List RootId) → IsWider u above more → (j ≡ k) × IsOpen job u h.who b.ways w j earlier more (g n))
      (λ earlier above D N i f ps is r more wider. (refl, opens_here earlier above more D N i f ps is wider r)) w j earlier above n y more wider

  makes : OfAll job s h.who b.ways Before (λ n. made_in G (machine_of job) (g n) ≡ made_in G (machine_of job) n + 0)
  makes w j earlier above (op D N i f ps st is) y = ap (λ js. i + made_among G (machine_of job) js) (none_behind G is) ∙ omega arith

  none_more : made_in G (machine_of job) b.state.tree ≡ made_in G (machine_of job) b.state.tree + 0
  none_more = omega arith

  unclaimed : (q : Bool) (seat : ℕ) → is_claimed job seat (activity_by q) ≡ false
  unclaimed true seat = refl
  unclaimed false seat = refl

  pub last_opens : OpenBoard job u (record { state = record { tree = edited G v g b.state.tree; map = b.state.map }; ways = b.ways; claims = without G (machine_of job) k b.claims; turns = b.turns }) k v
  last_opens = opens_with job s b h k v at s.tree s.roots s.map row knotted parks.within parks.there ongoing refl h.who (λ n l. (l, refl)) (λ r l. refl) (λ r l. l) (λ r field l. l) refl
      Before (OpenHere job s b h k v at s.tree s.roots s.map row knotted parks.within parks.there ongoing refl h.who (λ n l. (l, refl)) (λ r l. refl) (λ r l. l) (λ r field l. l))
      here (calling_shows job s h.who b.ways k v name depth [] done) g needs_stay 0 makes own (subst (λ n. AreMade (length s.roots) h.who n) none_more h.made)
      b.state.map (unclaimed q) h.extents h.regions h.held
      (subst (λ rs. All (λ (r : RootId). is_live s.map r.0 ≡ true) rs)
      (sym (own_same job s b h k v at s.tree s.roots s.map row knotted parks.within parks.there ongoing refl h.who (λ n l. (l, refl)) (λ r l. refl) (λ r l. l) (λ r field l. l) refl 0)) h.first)
      (own_made_same job s b h k v at s.tree s.roots s.map row knotted parks.within parks.there ongoing refl h.who (λ n l. (l, refl)) (λ r l. refl) (λ r l. l) (λ r field l. l) refl)
      (own_apart_same job s b h k v at s.tree s.roots s.map row knotted parks.within parks.there ongoing refl h.who (λ n l. (l, refl)) (λ r l. refl) (λ r l. l) (λ r field l. l) refl)
      (λ w j earlier above n y. y)
