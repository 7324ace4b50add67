-- Of boards: a step of one operation that goes on, on both sides.
use Rattle.std.proofs.Common.{◌≡◌, ◌<◌, ◌-◌, ◌++◌, ◌∷◌, ◌∙◌, ℕ, Bool, List, None, Option, Some, [], ap, length, map, not, refl, subst, sym, true, arith}
use Rattle.std.specs.Prelude.{All, filter, slice_get}
use Rattle.std.proofs.lemmas.List.{append-nil}
use Rattle.std.proofs.lemmas.List.Elements.{All-nil}
use Rattle.plain_values.specs.Points.{counted_from}
use Rattle.region_finder.specs.Listings.{AreRising}
use Rattle.region_tree.specs.declared.tree.RootId.{RootId}
use Rattle.logical_map.specs.Maps.{is_live}
use Rattle.dependence_graph.specs.Entries.{Knot}
use Rattle.dependence_graph.specs.Knots.{number}
use Rattle.task_code.specs.declared.job.Job.{Job}
use Rattle.board_rules.specs.Boards.{Kind, Operation as Node, step_in}
use Rattle.board_rules.specs.Ground.{Ground}
use Rattle.board_rules.specs.Journals.{stepped}
use Rattle.board_rules.specs.NumberedBoards.{Board, Step, by_way, children_at, claims_after, holds_claim, more_ways, moved, turns_after, way_of}
use Rattle.board_rules.specs.RootNumbers.{made_in}
use Rattle.regent_boards.specs.RegentMachine.{regent_ground}
use Rattle.code_boards.specs.Laws.{machine_of}
use Rattle.code_boards.specs.Views.{spaces_of}
use Rattle.board_terms.specs.declared.operation.Activity.{Activity}
use Rattle.board_terms.specs.declared.operation.Operation.{Operation}
use Rattle.board_terms.specs.States.{State, operation_at}
use Rattle.board_trees.specs.Laws.{BothShow}
use Rattle.board_trees.specs.Names.{AreMade}
use Rattle.board_trees.specs.Shows.{Leads, Shows, ShowsBoard, is_claimed}
use Rattle.board_trees.specs.Waits.{Sibling}
use Rattle.board_trees.proofs.Along.{Leaves, along}
use Rattle.board_trees.proofs.Found.{OwnRefuses, refused}
use Rattle.board_trees.proofs.Kept.{by_number}
use Rattle.claimed_trees.proofs.Changed.{GoesOn, changed, changes, knots, others, row_is, rows}
use Rattle.board_trees.proofs.Open.{IsTold}

module _ (job : Job) where
  abbrev G : Ground
  G = regent_ground (spaces_of job.code)

  -- what the step makes of the operation itself
  abbrev pub OwnLeaves : (s : State) (b : Board G) → ShowsBoard job s b → (k : ℕ) (act : Activity) (kn : Knot) (turns : ℕ) → GoesOn s k act kn turns → Kind → (v : List ℕ) →
      way_of G (machine_of job) b.ways k ≡ Some v → Type 0
  OwnLeaves s b h k act kn turns on kind v way_is = (w : List ℕ) (earlier : List Sibling) (above : List RootId) (p : List ℕ) (before : Bool) (n : Node G) → v ≡ w →
      Shows job s h.who b.ways w k earlier above n → IsTold job s earlier above before n →
      Leaves job s h.who b.ways k on.runs (rows s k act kn turns) (knots s k act kn turns) turns (changes s k act kn turns on) v way_is kind (made_in G (machine_of job) b.state.tree) b.state.map
      [] w k earlier above n (step_in G (machine_of job (made_in G (machine_of job) b.state.tree)) kind [] p before b.state.map n)

  module _ (s : State) (b : Board G) (h : ShowsBoard job s b) (k seat : ℕ) (act : Activity) (kn : Knot) (turns : ℕ) (on : GoesOn s k act kn turns) (kind : Kind) where
    abbrev u : State
    u = changed s k act kn turns

    abbrev step : Step
    step = record { kind = kind; number = k; seat = seat }

    abbrev one : (P : ℕ → Type 0) → P k → ((j : ℕ) → ¬ (j ≡ k) → P j) → (j : ℕ) → P j
    one = by_number k

    children_same : (j : ℕ) → (operation_at u j).children ≡ (operation_at s j).children
    children_same = one (λ j. (operation_at u j).children ≡ (operation_at s j).children)
        (ap (λ (o : Operation). o.children) (row_is s k act kn turns on)) (λ j n. ap (λ (o : Operation). o.children) (others s k act kn turns on j n))

    own_same : (j : ℕ) → (operation_at u j).frame.own ≡ (operation_at s j).frame.own
    own_same = one (λ j. (operation_at u j).frame.own ≡ (operation_at s j).frame.own)
        (ap (λ (o : Operation). o.frame.own) (row_is s k act kn turns on)) (λ j n. ap (λ (o : Operation). o.frame.own) (others s k act kn turns on j n))

    leads_kept : (way : List ℕ) (j x : ℕ) → Leads job s j way x → Leads job u j way x
    leads_kept [] j x l = l
    leads_kept (c ∷ way) j x l = (l.0, ap (λ ks. slice_get ks c) (children_same j) ∙ l.1, leads_kept way l.0 x l.2)

    module _ (v : List ℕ) (way_is : way_of G (machine_of job) b.ways k ≡ Some v) (own : OwnLeaves s b h k act kn turns on kind v way_is) where
      abbrev makings : ℕ
      makings = made_in G (machine_of job) b.state.tree

      left : Leaves job s h.who b.ways k on.runs (rows s k act kn turns) (knots s k act kn turns) turns (changes s k act kn turns on) v way_is kind makings b.state.map
          v [] 0 [] [] b.state.tree (step_in G (machine_of job makings) kind v [] true b.state.map b.state.tree)
      left = along job s h.who b.ways k on.runs (rows s k act kn turns) (knots s k act kn turns) turns (changes s k act kn turns on) v way_is kind makings b.state.map
          h.own_made own v [] 0 [] [] [] true b.state.tree h.shows (h.leads k v way_is) refl (record { ordered = tt; clear = refl; made = All-nil (λ (r : RootId). r.0 < length s.roots) })

      abbrev behind : Board G
      behind = record {
        state = record { tree = left.left; map = b.state.map };
        ways = b.ways;
        claims = claims_after G (machine_of job) step b.turns b.claims;
        turns = turns_after G (machine_of job) kind b.turns;
      }

      ways_same : b.ways ++ more_ways G (machine_of job) v (children_at G (machine_of job) v b.state.tree) (children_at G (machine_of job) v left.left - children_at G (machine_of job) v b.state.tree) ≡ b.ways
      ways_same =
          let none : children_at G (machine_of job) v left.left - children_at G (machine_of job) v b.state.tree ≡ 0 = omega (arith, left.children) in
          ap (λ x. b.ways ++ more_ways G (machine_of job) v (children_at G (machine_of job) v b.state.tree) x) none ∙ append-nil b.ways

      moved_is : by_way G (machine_of job) b step (Some v) ≡ Some behind
      moved_is = ap (λ o. moved G (machine_of job) b step v (stepped G (machine_of job makings) b.state.map o)) left.steps
          ∙ (λ i. Some (record {
            state = record { tree = left.left; map = b.state.map };
            ways = ways_same i;
            claims = claims_after G (machine_of job) step b.turns b.claims;
            turns = turns_after G (machine_of job) kind b.turns;
          }))

      module _ (claims : (j x : ℕ) → holds_claim G (machine_of job) j x (claims_after G (machine_of job) step b.turns b.claims) ≡ is_claimed job x (operation_at u j).activity)
          (turned : turns_after G (machine_of job) kind b.turns ≡ turns) where
        behind_shows : ShowsBoard job u behind
        behind_shows =
            let change = changes s k act kn turns on in
            record {
              who = h.who;
              extents = h.extents;
              made = subst (λ n. AreMade (length s.roots) h.who n) (sym left.made) h.made;
              regions = h.regions;
              held = h.held;
              rising = λ j. subst AreRising (sym (children_same j)) (h.rising j);
              first = subst (λ rs. All (λ (r : RootId). is_live s.map r.0 ≡ true) rs) (sym (own_same 0)) h.first;
              own_made = λ j. subst (λ rs. All (λ (r : RootId). r.0 < length s.roots) rs) (sym (own_same j)) (h.own_made j);
              own_apart = λ i j n. subst (λ rs. All (λ (r : RootId). All (λ (q : RootId). ¬ (r ≡ q)) rs) (operation_at u i).frame.own) (sym (own_same j))
                  (subst (λ rs. All (λ (r : RootId). All (λ (q : RootId). ¬ (r ≡ q)) (operation_at s j).frame.own) rs) (sym (own_same i)) (h.own_apart i j n));
              shows = left.shows;
              leads = λ j way e. leads_kept way 0 j (h.leads j way e);
              ways = h.ways ∙ sym change.size;
              knots = change.knots ∙ h.knots ∙ sym change.size;
              listed = h.listed ∙ (λ i. map number (filter (λ j. not (sym (change.done j) i)) (counted_from 1 (sym change.size i - 1))));
              claims = claims;
              turns = turned;
            }

        -- the step is made on both, and what results shows
        pub goes_on : BothShow job (Some u) (by_way G (machine_of job) b step (Some v))
        goes_on = subst (λ o. BothShow job (Some u) o) (sym moved_is) behind_shows

  -- a step that the operation refuses isn't made
  pub refuses : (s : State) (b : Board G) (h : ShowsBoard job s b) (k seat : ℕ) (kind : Kind) (v : List ℕ) → way_of G (machine_of job) b.ways k ≡ Some v →
      OwnRefuses job s h.who b.ways k kind (made_in G (machine_of job) b.state.tree) b.state.map → by_way G (machine_of job) b (record { kind = kind; number = k; seat = seat }) (Some v) ≡ None
  refuses s b h k seat kind v way_is own =
      ap (λ o. moved G (machine_of job) b (record { kind = kind; number = k; seat = seat }) v (stepped G (machine_of job (made_in G (machine_of job) b.state.tree)) b.state.map o))
      (refused job s h.who b.ways k kind (made_in G (machine_of job) b.state.tree) b.state.map h.own_made own v [] 0 [] [] [] true b.state.tree h.shows (h.leads k v way_is)
      (record { ordered = tt; clear = refl; made = All-nil (λ (r : RootId). r.0 < length s.roots) }))

  -- both are refused
  pub neither : (o : Option (Board G)) → o ≡ None → BothShow job None o
  neither o e = subst (λ x. BothShow job None x) (sym e) tt
