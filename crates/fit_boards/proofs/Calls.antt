-- An operation calls: it goes on beside its children, or is broken, and each that is called begins in a frame that fits.
use Rattle.std.proofs.Common.{◌≡◌, ⊎_elim, ℕ, suc, ◌<◌, ◌^◌, ◌+◌, pos, List, [], ◌++◌, Bool, true, false, Some, refl, sym, ap, ◌∙◌, subst, arith, length, map, eqb-true}
use Rattle.std.specs.Prelude.{get_or, set, slice_get, take, ◌==◌}
use Rattle.std.proofs.lemmas.Bool.{cases_eq}
use Rattle.std.proofs.lemmas.List.{get_or_append_left, get_or-set_other, get_or-set_same, length-append, length-map, length-set}
use Rattle.plain_values.specs.Points.{counted_from}
use Rattle.region_tree.specs.Needs.{requirements_of}
use Rattle.region_tree.specs.Trees.{set_at}
use Rattle.region_tree.specs.declared.needs.Need.{Need}
use Rattle.region_tree.specs.declared.needs.Needs.{Needs}
use Rattle.region_tree.specs.declared.piece.Part.{Part}
use Rattle.dependence_graph.specs.Knots.{number}
use Rattle.machine_terms.specs.declared.frame.Frame.{Frame}
use Rattle.machine_terms.specs.declared.outcome.CallOut.{CallOut}
use Rattle.board_terms.specs.declared.operation.Activity.{Activity}
use Rattle.board_terms.specs.declared.operation.Activity.TheVariants as activity
use Rattle.board_terms.specs.declared.operation.Ending.TheVariants as ending
use Rattle.board_terms.specs.declared.operation.Operation.{Operation}
use Rattle.board_terms.specs.declared.operation.Said.{Said}
use Rattle.board_terms.specs.Calls.{called, called_in, caller_of, frames_before}
use Rattle.board_terms.specs.Gives.{parts_given}
use Rattle.board_terms.specs.States.{State, called_by, no_operation, operation_at}
use Rattle.fit_rules.specs.Shapes.{Each, NumberIs, Shape}
use Rattle.fit_rules.specs.Fits.{Fits, Program}
use Rattle.fit_rules.specs.Ends.{CallsWell, grown_by}
use Rattle.fit_boards.specs.Fitting.{DoesFit, Gives, Going, MapFits, OperationFits, points_at, space_at, StateFits}
use Rattle.fit_boards.specs.Steps.{ArePlaced}
use Rattle.fit_boards.proofs.Children.{all_more, are_issued, AreIssued, AreOpened, children_fit, claims_by, frames_opened, HasChildren, known_by, many_issued, rows_are, RowsAre}
use Rattle.fit_boards.proofs.Given.{behind_of, HasRun, IsLike, left_of, map_back, row_again}
use Rattle.fit_boards.proofs.Rows.{open_gives}
use Rattle.fit_boards.proofs.Staying.{calls_more, known_stay, needs_stay, nodes_same, results_stay, roots_same, state_fits, Stays}

module _ (g : Program) (zeros : (n : ℕ) → NumberIs (g.results n) (pos 0)) (turns : ℕ) (few : turns < 2 ^ 64) (log : List CallOut) (s : State) (k : ℕ) (ps : List Part) (run : HasRun g log s k ps)
    (said : List Said) (f : Frame) (like : IsLike (operation_at s k) f) (cs : List CallOut) (well : Each (CallsWell g run.going.world run.going.task) cs)
    (placed : Each (λ (c : CallOut). ArePlaced s.tree c.args) cs)
    (met : Fits g (grown_by g run.going.world cs) run.going.task (operation_at s k).frame.task (record { frame = f; parts = [] })) where
  abbrev o : Operation
  o = operation_at s k

  abbrev now : State
  now = behind_of s k ps said (Some f)

  -- its parts are back
  abbrev back : State
  back = parts_given now k

  abbrev stopped : Operation
  stopped = record (left_of o ps said (Some f)) { parts = [] }

  back_rows : back.operations ≡ set s.operations k stopped
  back_rows = row_again s now k (left_of o ps said (Some f)) run.within refl (λ q. record q { parts = [] })

  back_long : length back.operations ≡ length s.operations
  back_long = ap length back_rows ∙ length-set s.operations k stopped

  abbrev opened : List Frame
  opened = frames_before g.code turns back (operation_at back k) cs

  are_opened : AreOpened g turns (suc (operation_at back k).frame.depth) opened cs
  are_opened = frames_opened g turns back (operation_at back k) cs

  -- the calls by which operations are issued
  abbrev pub issued_now : List CallOut
  issued_now = take (length opened) cs

  -- ---- the calls are issued

  module _ (a : Activity) (u : State) (tree : u.tree ≡ s.tree) (roots : u.roots ≡ s.roots) (live : u.map ≡ back.map)
      (rows : u.operations ≡ set back.operations k (caller_of back (operation_at back k) opened a) ++ map (called_by (number k)) opened) where
    abbrev caller : Operation
    caller = caller_of back stopped opened a

    known_rows : u.operations ≡ set s.operations k caller ++ map (called_by (number k)) opened
    known_rows = rows ∙ ap (λ os. os ++ map (called_by (number k)) opened) (row_again s back k stopped run.within back_rows (λ q. caller_of back q opened a))

    long : length u.operations ≡ length s.operations + length opened
    long =
        let all = ap length known_rows ∙ length-append (set s.operations k caller) (map (called_by (number k)) opened) in
        let front = length-set s.operations k caller in
        let rest = length-map opened (called_by (number k)) in omega (arith, all, front, rest)

    in_front : (j : ℕ) → j < length s.operations → operation_at u j ≡ get_or (set s.operations k caller) j no_operation
    in_front j l = ap (λ os. get_or os j no_operation) known_rows
        ∙ get_or_append_left (set s.operations k caller) (map (called_by (number k)) opened) no_operation j (let front = length-set s.operations k caller in omega (arith, l, front))

    row_here : operation_at u k ≡ caller
    row_here = in_front k run.within ∙ get_or-set_same s.operations k caller no_operation run.within

    row_old : (j : ℕ) → j < length s.operations → ¬ (j ≡ k) → operation_at u j ≡ operation_at s j
    row_old j l n = in_front j l ∙ get_or-set_other s.operations k j caller no_operation n

    new_rows : RowsAre u k (length s.operations) opened
    new_rows = subst (λ n. RowsAre u k n opened) (length-set s.operations k caller) (rows_are u k (set s.operations k caller) opened known_rows)

    module _ (gives : (sh : Shape) → Gives g sh o → Gives g sh caller) where
      -- with the calls by which these are issued
      abbrev more : List CallOut
      more = log ++ issued_now

      stays : Stays g log more s u
      stays = record {
        calls = calls_more log issued_now;
        nodes = subst (λ v. (n : ℕ) → n < length s.tree.nodes → (n < length v.nodes) × (set_at v n ≡ set_at s.tree n)) (sym tree) (nodes_same s.tree);
        roots = subst (λ es. (r : ℕ) → r < length s.roots → (r < length es) × (space_at es r ≡ space_at s.roots r) × (points_at es r ≡ points_at s.roots r)) (sym roots) (roots_same s.roots);
        gives = λ j l. (
          omega (arith, l, long),
          λ sh q. ⊎_elim
              (λ e. subst (λ n. Gives g sh (operation_at u n)) (sym e)
              (subst (λ (z : Operation). Gives g sh z) (sym row_here) (gives sh (subst (λ n. Gives g sh (operation_at s n)) e q))))
              (λ n. subst (λ (z : Operation). Gives g sh z) (sym (row_old j l n)) q) (cases_eq j k),
        );
      }

      issued_here : AreIssued more (length s.operations) opened cs
      issued_here = subst (λ n. AreIssued more n opened cs) run.fits.issued
          (are_issued g turns (suc (operation_at back k).frame.depth) log opened cs are_opened)

      many : length more ≡ length u.operations
      many =
          let both = length-append log issued_now in
          let new = many_issued g turns (suc (operation_at back k).frame.depth) opened cs are_opened in omega (arith, long, both, new, run.fits.issued)

      all_fit : OperationFits g more u k caller → StateFits g more u
      all_fit here = state_fits g log more s u stays run.fits many k
          ((λ i. (tree i).roots) ∙ run.fits.counted ∙ ap length (sym roots))
          (subst (λ es. MapFits g es u.map) (sym roots) (subst (MapFits g s.roots) (sym live) (map_back g log s k ps run said (Some f))))
          row_old (subst (λ (z : Operation). OperationFits g more u k z) (sym row_here) here)
          (λ j l m. children_fit u k g zeros turns (suc (operation_at back k).frame.depth) few more run.going.world run.going.task (known_stay g log more s u stays run.going.world run.going.roots) (length s.operations) opened cs are_opened issued_here well
          (subst (λ v. Each (λ (c : CallOut). ArePlaced v c.args) cs) (sym tree) placed) new_rows j l (omega (arith, m, long)))

      -- it goes on where all of them are
      goes_on : a ≡ activity.Idle → length opened ≡ length cs → Going g more u k caller
      goes_on idle each =
          let needs = needs_stay s.tree u.tree stays.nodes o.frame.needs.items run.going.nodes in
          let first : HasChildren u k g zeros turns (suc (operation_at back k).frame.depth) few more run.going.world o.children = (run.going.count, results_stay g log more s u stays o.children run.going.world.children run.going.world.results run.going.results) in
          let all = all_more u k g zeros turns (suc (operation_at back k).frame.depth) few more (length s.operations) opened cs each are_opened issued_here new_rows run.going.world o.children first in
          let kids = subst (λ n. HasChildren u k g zeros turns (suc (operation_at back k).frame.depth) few more (grown_by g run.going.world cs) (o.children ++ map number (counted_from n (length opened)))) (sym back_long) all in
          record {
            world = grown_by g run.going.world cs;
            task = run.going.task;
            there = ap (slice_get g.code.tasks) like.1 ∙ run.going.there;
            call = run.going.call;
            issued = calls_more log issued_now k run.going.call run.going.issued;
            named = like.1 ∙ run.going.named;
            args = known_by g (λ there spaces points args. args ≡ run.going.call.args) cs run.going.world run.going.args;
            roots = known_by g (λ there spaces points args. (r : ℕ) → there r ≡ true → (r < length u.roots) × (spaces r ≡ space_at u.roots r) × (points r ≡ points_at u.roots r)) cs run.going.world
                (known_stay g log more s u stays run.going.world run.going.roots);
            nodes = subst (λ (n : Needs). Each (λ (m : Need). m.node.0 < length u.tree.nodes) n.items) (sym like.0) needs.0;
            required = ap (λ (n : Needs). requirements_of u.tree n.items) like.0 ∙ needs.1 ∙ run.going.required ∙ sym (claims_by g run.going.task cs run.going.world);
            once = tt;
            count = kids.0;
            results = kids.1;
            waits = subst (λ n. Fits g (grown_by g run.going.world cs) run.going.task n (record { frame = f; parts = [] })) (sym like.1) met;
            does = subst (DoesFit g (grown_by g run.going.world cs) run.going.task caller) (sym idle) tt;
          }

  -- ---- both

  pub these_issued : issued_now ≡ take (length issued_now) cs
  these_issued = ap (λ n. take n cs) (sym (many_issued g turns (suc (operation_at back k).frame.depth) opened cs are_opened))

  pub calls_fit : StateFits g (log ++ issued_now) (called g.code turns back k cs)
  calls_fit = of (length opened == length cs) refl
    where
      of : (b : Bool) → length opened == length cs ≡ b → StateFits g (log ++ issued_now) (called_in back k opened b)
      of true e =
          let gives : (sh : Shape) → Gives g sh o → Gives g sh (caller_of back stopped opened activity.Idle) = λ sh q. open_gives g sh o (caller_of back stopped opened activity.Idle) run.was tt like.1 q in
          all_fit activity.Idle (called_in back k opened true) refl refl refl refl gives
          (goes_on activity.Idle (called_in back k opened true) refl refl refl refl gives refl (eqb-true (length opened) (length cs) e))
      of false e = all_fit (activity.Closing ending.Broken) (called_in back k opened false) refl refl refl refl (λ sh q. (q.0, tt)) tt
