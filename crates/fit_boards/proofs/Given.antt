-- What a segment leaves of an operation that is out: its parts go back, and it waits again or has ended.
use Rattle.std.proofs.Common.{◌≡◌, ℕ, ◌<◌, ℤ, List, [], Some, Option, refl, sym, ap, ◌∙◌, subst, length}
use Rattle.std.specs.Prelude.{get_or, set, slice_get}
use Rattle.std.proofs.lemmas.List.{get_or-set_same, set-set}
use Rattle.region_tree.specs.Needs.{requirements_of}
use Rattle.region_tree.specs.declared.needs.Need.{Need}
use Rattle.region_tree.specs.declared.needs.Needs.{Needs}
use Rattle.region_tree.specs.declared.piece.Part.{Part}
use Rattle.dependence_graph.specs.Graphs.{Waits}
use Rattle.machine_terms.specs.declared.frame.Frame.{Frame}
use Rattle.machine_terms.specs.declared.outcome.CallOut.{CallOut}
use Rattle.board_terms.specs.declared.operation.Activity.TheVariants as activity
use Rattle.board_terms.specs.declared.operation.Ending.{Ending}
use Rattle.board_terms.specs.declared.operation.Ending.TheVariants as ending
use Rattle.board_terms.specs.declared.operation.Operation.{Operation}
use Rattle.board_terms.specs.declared.operation.Said.{Said}
use Rattle.board_terms.specs.declared.operation.Wait.{Wait}
use Rattle.board_terms.specs.Gives.{ended_by, frame_left, parts_given, with_parts}
use Rattle.board_terms.specs.States.{State, no_operation, operation_at, with_operation}
use Rattle.logical_map.specs.Maps.{LogicalMap}
use Rattle.fit_rules.specs.Shapes.{Each, KnowsRoots, Shape}
use Rattle.fit_rules.specs.Fits.{PartsFit, Program}
use Rattle.fit_rules.specs.Ends.{ResultIs}
use Rattle.fit_boards.specs.Fitting.{AreOnce, fits_by, Gives, gives_by, Going, MapFits, MayGoOn, StateFits}
use Rattle.fit_boards.proofs.Putting.{parts_back, parts_hold}
use Rattle.fit_boards.proofs.Rows.{IsOpen, one_fits, one_stays, open_gives, results_of}
use Rattle.fit_boards.proofs.Staying.{known_stay, needs_stay, nodes_same, results_stay, roots_same, Stays}

-- a row that changes again, by what it was
pub row_again : (s v : State) (k : ℕ) (o : Operation) → k < length s.operations → v.operations ≡ set s.operations k o → (F : Operation → Operation) →
    set v.operations k (F (operation_at v k)) ≡ set s.operations k (F o)
row_again s v k o l e F =
    let row : operation_at v k ≡ o = ap (λ os. get_or os k no_operation) e ∙ get_or-set_same s.operations k o no_operation l in
    (λ i. set (e i) k (F (row i))) ∙ set-set s.operations k o (F o)

pub row_there : (s v : State) (k : ℕ) (o : Operation) → k < length s.operations → v.operations ≡ set s.operations k o → operation_at v k ≡ o
row_there s v k o l e = ap (λ os. get_or os k no_operation) e ∙ get_or-set_same s.operations k o no_operation l

-- the needs of what goes on are those from before
abbrev pub IsLike : Operation → Frame → Type 0
IsLike o f = (f.needs ≡ o.frame.needs) × (f.task ≡ o.frame.task)

-- behind a segment it holds the parts that are left, and has a frame where there is one
abbrev pub left_of : Operation → List Part → List Said → Option Frame → Operation
left_of o ps said fo = record o { frame = frame_left o.frame fo; parts = ps; said = said; activity = activity.Idle }

abbrev pub behind_of : State → ℕ → List Part → List Said → Option Frame → State
behind_of s k ps said fo = with_operation s k (left_of (operation_at s k) ps said fo)

-- an operation that was out and whose segment was run, on a board that fits, and the parts that it left
pub record HasRun (g : Program) (log : List CallOut) (s : State) (k : ℕ) (ps : List Part) : Type 0 where
  pub fits : StateFits g log s
  pub within : k < length s.operations
  pub was : IsOpen (operation_at s k).activity
  pub going : Going g log s k (operation_at s k)
  pub knows : KnowsRoots going.world
  pub once : AreOnce ps
  pub parts : PartsFit g going.world going.task ps

module _ (g : Program) (log : List CallOut) (s : State) (k : ℕ) (ps : List Part) (run : HasRun g log s k ps) (said : List Said) where
  abbrev o : Operation
  o = operation_at s k

  abbrev left : Option Frame → Operation
  left = left_of o ps said

  abbrev behind : Option Frame → State
  behind = behind_of s k ps said

  -- what the roots hold when the parts are back
  pub map_given : MapFits g s.roots (with_parts ps s.map)
  map_given = parts_back g s.roots ps (parts_hold g s.roots run.going.world run.going.task (λ r e. (run.going.roots r e).1) ps run.once run.parts) s.map run.fits.map

  -- ---- it ends

  gives_end : (e : Ending) → ((v : Option ℤ) → e ≡ ending.Value v → ResultIs (g.results o.frame.task) v) → (q : Operation) → q.activity ≡ activity.Closing e →
      (sh : Shape) → Gives g sh o → Gives g sh q
  gives_end e result q is sh a = (a.0, subst (gives_by g sh q.frame.task) (sym is) (of e (λ v d. subst (λ n. ResultIs n v) (sym (results_of g sh o run.was a)) (result v d))))
    where
      of : (e : Ending) → ((v : Option ℤ) → e ≡ ending.Value v → ResultIs sh v) → gives_by g sh q.frame.task (activity.Closing e)
      of (ending.Value v) r = r v refl
      of (ending.Fault f) r = tt
      of ending.Broken r = tt

  closing_fits : (e : Ending) → ((v : Option ℤ) → e ≡ ending.Value v → ResultIs (g.results o.frame.task) v) → (q : Operation) → q.activity ≡ activity.Closing e →
      (os : List Operation) → os ≡ set s.operations k q → (m : LogicalMap) → MapFits g s.roots m → StateFits g log (record s { operations = os; map = m })
  closing_fits e result q is os rows m map =
      one_fits g log s (record s { operations = os; map = m }) k q run.within rows (nodes_same s.tree) (roots_same s.roots) (gives_end e result q is) run.fits run.fits.counted map
      (subst (fits_by g log (record s { operations = os; map = m }) k q) (sym is) tt)

  no_value : (e : Ending) → ((v : Option ℤ) → e ≡ ending.Value v → ⊥) → (v : Option ℤ) → e ≡ ending.Value v → ResultIs (g.results o.frame.task) v
  no_value e none v d = absurd (none v d)

  -- it ends where it stands
  pub ends_fit : (e : Ending) → ((v : Option ℤ) → e ≡ ending.Value v → ⊥) → (fo : Option Frame) → StateFits g log (ended_by (behind fo) k e)
  ends_fit e none fo = closing_fits e (no_value e none) (record (left fo) { parts = []; activity = activity.Closing e }) refl
      (ended_by (behind fo) k e).operations
      (row_again s (behind fo) k (left fo) run.within refl (λ q. record q { parts = []; activity = activity.Closing e })) s.map run.fits.map

  -- or when its parts are back
  given_rows : (fo : Option Frame) → (parts_given (behind fo) k).operations ≡ set s.operations k (record (left fo) { parts = [] })
  given_rows fo = row_again s (behind fo) k (left fo) run.within refl (λ q. record q { parts = [] })

  pub map_back : (fo : Option Frame) → MapFits g s.roots (parts_given (behind fo) k).map
  map_back fo = subst (λ (q : Operation). MapFits g s.roots (with_parts q.parts s.map)) (sym (row_there s (behind fo) k (left fo) run.within refl)) map_given

  pub value_fits : (v : Option ℤ) → ResultIs (g.results o.frame.task) v → (fo : Option Frame) → StateFits g log (ended_by (parts_given (behind fo) k) k (ending.Value v))
  value_fits v r fo = closing_fits (ending.Value v) (λ y e. of y e) (record (left fo) { parts = []; activity = activity.Closing (ending.Value v) }) refl
      (ended_by (parts_given (behind fo) k) k (ending.Value v)).operations
      (row_again s (parts_given (behind fo) k) k (record (left fo) { parts = [] }) run.within (given_rows fo) (λ q. record q { parts = []; activity = activity.Closing (ending.Value v) }))
      (parts_given (behind fo) k).map (map_back fo)
    where
      of : (y : Option ℤ) → ending.Value v ≡ ending.Value y → ResultIs (g.results o.frame.task) y
      of y e = let same : v ≡ y = cc in subst (ResultIs (g.results o.frame.task)) same r

  -- ---- it goes on

  module _ (f : Frame) (like : IsLike o f) where
    -- in a frame like the one that it had, with its children
    pub goes_on : (u : State) → Stays g log log s u → (w : Wait) → MayGoOn g run.going.world run.going.task o.frame.task w (record { frame = f; parts = ps }) → Going g log u k (record (left (Some f)) { wait = w })
    goes_on u stays w met =
        let needs = needs_stay s.tree u.tree stays.nodes o.frame.needs.items run.going.nodes in record {
          world = run.going.world;
          task = run.going.task;
          there = ap (slice_get g.code.tasks) like.1 ∙ run.going.there;
          call = run.going.call;
          issued = run.going.issued;
          named = like.1 ∙ run.going.named;
          args = run.going.args;
          roots = known_stay g log log s u stays run.going.world run.going.roots;
          nodes = subst (λ (n : Needs). Each (λ (m : Need). m.node.0 < length u.tree.nodes) n.items) (sym like.0) needs.0;
          required = ap (λ (n : Needs). requirements_of u.tree n.items) like.0 ∙ needs.1 ∙ run.going.required;
          once = run.once;
          count = run.going.count;
          results = results_stay g log log s u stays o.children run.going.world.children run.going.world.results run.going.results;
          waits = subst (λ n. MayGoOn g run.going.world run.going.task n w (record { frame = f; parts = ps })) (sym like.1) met;
          does = tt;
        }

    pub going_gives : (q : Operation) → q.frame ≡ f → IsOpen q.activity → (sh : Shape) → Gives g sh o → Gives g sh q
    going_gives q is b sh a = open_gives g sh o q run.was b (ap (λ (n : Frame). n.task) is ∙ like.1) a

    -- it waits again
    pub waits_fit : (w : Wait) → MayGoOn g run.going.world run.going.task o.frame.task w (record { frame = f; parts = ps }) → (v : Waits) →
        StateFits g log (record (with_operation (behind (Some f)) k (record (operation_at (behind (Some f)) k) { wait = w })) { waits = v })
    waits_fit w met v =
        let u = record (with_operation (behind (Some f)) k (record (operation_at (behind (Some f)) k) { wait = w })) { waits = v } in
        let q = record (left (Some f)) { wait = w } in
        let rows = row_again s (behind (Some f)) k (left (Some f)) run.within refl (λ (z : Operation). record z { wait = w }) in
        let stays = one_stays g log s u k q run.within rows (nodes_same s.tree) (roots_same s.roots) (going_gives q refl tt) in
        one_fits g log s u k q run.within rows (nodes_same s.tree) (roots_same s.roots) (going_gives q refl tt) run.fits run.fits.counted run.fits.map (goes_on u stays w met)
