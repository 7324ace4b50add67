-- One operation is changed: along the way to it rows stay, and so does all beside the way.
use Rattle.std.proofs.Common.{◌≡◌, ◌<◌, ◌+◌, ◌++◌, ◌∷◌, ◌∙◌, ℕ, suc, zero, Bool, List, None, Some, [], ap, arith, cond, false, length, not, refl, subst, sym, append-nil, append_assoc}
use Rattle.std.specs.Prelude.{All, slice_get}
use Rattle.std.proofs.lemmas.List.Elements.{All-append}
use Rattle.std.proofs.lemmas.Option.{none-some}
use Rattle.region_tree.specs.Requirements.{Requirement}
use Rattle.region_tree.specs.declared.tree.OpNumber.{OpNumber}
use Rattle.region_tree.specs.declared.tree.RootId.{RootId}
use Rattle.dependence_graph.specs.Knots.{knot_at, number}
use Rattle.task_code.specs.declared.job.Job.{Job}
use Rattle.board_rules.specs.Boards.{Items, Kind, Operation as Node, Stepped, as_child, behind, child_op, in_op, no_item, op, said, step_among, step_in, still_open}
use Rattle.board_rules.specs.Boards as tree
use Rattle.board_rules.specs.Ground.{Ground}
use Rattle.board_rules.specs.Processes.{Effect, Map}
use Rattle.board_rules.specs.Running.{Machine}
use Rattle.regent_boards.specs.RegentMachine.{regent_ground}
use Rattle.code_boards.specs.Laws.{machine_of}
use Rattle.code_boards.specs.Views.{spaces_of}
use Rattle.board_terms.specs.declared.operation.Operation.{Operation}
use Rattle.board_terms.specs.Stages.{is_over}
use Rattle.board_terms.specs.Stages as table
use Rattle.board_terms.specs.States.{State, operation_at}
use Rattle.board_trees.specs.Names.{AreMade}
use Rattle.board_trees.specs.Shows.{AreListed, Leads, Row, Shows, ShowsChildren, needs_issued, printed, said_in, siblings}
use Rattle.board_trees.specs.Stages.{WaitsWell}
use Rattle.board_trees.specs.Waits.{Sibling}
use Rattle.board_trees.proofs.Along.{not_above, open_above, places_same, some_same}
use Rattle.board_trees.proofs.Settled.{node_told, settled}
use Rattle.changed_trees.specs.Changes.{Change, IsWider}
use Rattle.changed_trees.specs.Open.{Asked, HasAmong, HasAt}
use Rattle.changed_trees.specs.Edits.{edited, edited_among, told_among, told_at, up, up_among}
use Rattle.changed_trees.proofs.Below.{children_kept, is_child_kept, node_within, row_kept, shows_kept}
use Rattle.changed_trees.proofs.Kept.{Matches, shown_match, wider_on}

module _ (job : Job) where
  abbrev pub G : Ground
  G = regent_ground (spaces_of job.code)

  among_match : (s : State) (who : ℕ → ℕ) (ways : List (List ℕ)) (B : Asked job) (c : ℕ) (way w : List ℕ) (j d : ℕ) (earlier : List Sibling) (roots : List RootId) (ks : List OpNumber) (is : Items G) →
      HasAmong job s who ways B c way w j d earlier roots ks is → Matches job ks is
  among_match s who ways B c way w j d earlier roots ks no_item h = absurd h
  among_match s who ways B c way w j d earlier roots ks (said t is) h = among_match s who ways B c way w j d earlier roots ks is h
  among_match s who ways B c way w j d earlier roots [] (child_op n is) h = absurd h
  among_match s who ways B zero way w j d earlier roots (k ∷ ks) (child_op n is) h =
      shown_match job s who ways w j (suc d) (earlier ++ record { op = k.0; needs = needs_issued job n } ∷ []) roots ks is h.2
  among_match s who ways B (suc c) way w j d earlier roots (k ∷ ks) (child_op n is) h =
      among_match s who ways B c way w j (suc d) (earlier ++ record { op = k.0; needs = needs_issued job n } ∷ []) roots ks is h.2

  -- ---- from what shows

  module _ (s : State) (who : ℕ → ℕ) (ways : List (List ℕ)) (own_made : (k : ℕ) → All (λ (r : RootId). r.0 < length s.roots) (operation_at s k).frame.own) (k : ℕ) (v : List ℕ) where
    abbrev Below : List RootId → Type 0
    Below roots = All (λ (r : RootId). r.0 < length s.roots) roots

    -- the operation at the way is this one, and shows
    abbrev pub IsShown : Asked job
    IsShown w j earlier above n = (v ≡ w) × (j ≡ k) × Below above × Shows job s who ways w j earlier above n

    mutual
      pub shown_at : (way w : List ℕ) (j : ℕ) (earlier : List Sibling) (above : List RootId) (n : Node G) → v ≡ w ++ way → Below above → Leads job s j way k →
          Shows job s who ways w j earlier above n → HasAt job s who ways IsShown way w j earlier above n
      shown_at [] w j earlier above n e below l h = (e ∙ append-nil w, l, below, h)
      shown_at (c ∷ way) w j earlier above (op D N i f ps st is) e below l h =
          let from : c ≡ 0 + c = omega arith in (
            h.0,
            shown_among c way w j 0 [] (above ++ (operation_at s j).frame.own) (operation_at s j).children is l.0
                (e ∙ sym (append_assoc w (c ∷ []) way) ∙ ap (λ z. (w ++ z ∷ []) ++ way) from)
                (All-append (λ (r : RootId). r.0 < length s.roots) above (operation_at s j).frame.own below (own_made j)) l.1 l.2 h.1,
          )

      shown_among : (c : ℕ) (way w : List ℕ) (j d : ℕ) (earlier : List Sibling) (roots : List RootId) (ks : List OpNumber) (is : Items G) (x : ℕ) → v ≡ (w ++ (d + c) ∷ []) ++ way → Below roots →
          slice_get ks c ≡ Some (number x) → Leads job s x way k → ShowsChildren job s who ways w j d earlier roots ks is → HasAmong job s who ways IsShown c way w j d earlier roots ks is
      shown_among c way w j d earlier roots ks no_item x e below q l h = absurd (none-some (number x) (ap (λ ks. slice_get ks c) (sym h) ∙ q))
      shown_among c way w j d earlier roots ks (said t is) x e below q l h = shown_among c way w j d earlier roots ks is x e below q l h
      shown_among c way w j d earlier roots [] (child_op n is) x e below q l h = absurd h
      shown_among zero way w j d earlier roots (y ∷ ys) (child_op n is) x e below q l h =
          let here : d + 0 ≡ d = omega arith in (
            h.0,
            shown_at way (w ++ d ∷ []) y.0 earlier roots n (e ∙ ap (λ z. (w ++ z ∷ []) ++ way) here) below
                (subst (λ (z : OpNumber). Leads job s z.0 way k) (sym (some_same y (number x) q)) l) h.1,
            h.2,
          )
      shown_among (suc c) way w j d earlier roots (y ∷ ys) (child_op n is) x e below q l h =
          let there : d + suc c ≡ suc d + c = omega arith in (
            h.0,
            h.1,
            shown_among c way w j (suc d) (earlier ++ record { op = y.0; needs = needs_issued job n } ∷ []) roots ys is x (e ∙ ap (λ z. (w ++ z ∷ []) ++ way) there) below q l h.2,
          )

  -- ---- where a state changes at the operation or below it

  edited_says : (c : ℕ) (way : List ℕ) (g : Node G → Node G) (is : Items G) (e : ℕ) → said_in job e (edited_among G c way g is) ≡ said_in job e is
  edited_says c way g no_item e = refl
  edited_says c way g (said t is) e = ap (printed job e t) (edited_says c way g is e)
  edited_says zero way g (child_op n is) e = refl
  edited_says (suc c) way g (child_op n is) e = edited_says c way g is (suc e)

  module _ (g : Node G → Node G) (needs : (n : Node G) → needs_issued job (g n) ≡ needs_issued job n) where
    edited_needs : (way : List ℕ) (n : Node G) → needs_issued job (edited G way g n) ≡ needs_issued job n
    edited_needs [] n = needs n
    edited_needs (c ∷ way) (op D N i f ps st is) = refl

    edited_siblings : (c : ℕ) (way : List ℕ) (ks : List OpNumber) (is : Items G) → siblings job ks (edited_among G c way g is) ≡ siblings job ks is
    edited_siblings c way ks no_item = refl
    edited_siblings c way ks (said t is) = edited_siblings c way ks is
    edited_siblings zero way [] (child_op n is) = refl
    edited_siblings (suc c) way [] (child_op n is) = refl
    edited_siblings zero way (k ∷ ks) (child_op n is) = ap (λ D. record { op = k.0; needs = D } ∷ siblings job ks is) (edited_needs way n)
    edited_siblings (suc c) way (k ∷ ks) (child_op n is) = ap (λ xs. record { op = k.0; needs = needs_issued job n } ∷ xs) (edited_siblings c way ks is)

    module _ (s u : State) (who now : ℕ → ℕ) (ways later : List (List ℕ)) (At : List ℕ → Type 0) (change : Change job s u who now ways later At) (makings : ℕ)
        (made : AreMade (length s.roots) who makings) (own_made : (k : ℕ) → All (λ (r : RootId). r.0 < length s.roots) (operation_at s k).frame.own)
        (v : List ℕ) (only : (w : List ℕ) → At w → (z : List ℕ) × (w ≡ v ++ z)) (B C : Asked job)
        (within : (w : List ℕ) (k : ℕ) (earlier : List Sibling) (above : List RootId) (n : Node G) → B w k earlier above n → k < length s.operations)
        (own : (w : List ℕ) (k : ℕ) (earlier : List Sibling) (above more : List RootId) (n : Node G) → v ≡ w → IsWider u above more → B w k earlier above n → C w k earlier more (g n)) where
      abbrev Under : List RootId → Type 0
      Under roots = All (λ (r : RootId). r.0 < length s.roots) roots

      not_there : (w : List ℕ) (c : ℕ) (way : List ℕ) → v ≡ w ++ c ∷ way → ¬ At w
      not_there w c way e a =
          let z = only w a in
          not_above w c (way ++ z.0) (z.1 ∙ ap (λ y. y ++ z.0) e ∙ append_assoc w (c ∷ way) z.0)

      beside : (w : List ℕ) (c d : ℕ) (way : List ℕ) → v ≡ (w ++ c ∷ []) ++ way → ¬ (c ≡ d) → (z : List ℕ) → ¬ At ((w ++ d ∷ []) ++ z)
      beside w c d way e n z a =
          let y = only ((w ++ d ∷ []) ++ z) a in
          n (places_same w c d (way ++ y.0) z (sym (append_assoc (w ++ c ∷ []) way y.0) ∙ ap (λ x. x ++ y.0) (sym e) ∙ sym y.1))

      has_within : (way w : List ℕ) (j : ℕ) (earlier : List Sibling) (above : List RootId) (n : Node G) → HasAt job s who ways B way w j earlier above n → j < length s.operations
      has_within [] w j earlier above n h = within w j earlier above n h
      has_within (c ∷ way) w j earlier above (op D N i f ps st is) h = h.0.within

      mutual
        pub has_edited : (way w : List ℕ) (j : ℕ) (earlier : List Sibling) (above more : List RootId) (n : Node G) → v ≡ w ++ way → IsWider u above more → Under above →
            HasAt job s who ways B way w j earlier above n → HasAt job u now later C way w j earlier more (edited G way g n)
        has_edited [] w j earlier above more n e wider below h = own w j earlier above more n (e ∙ append-nil w) wider h
        has_edited (c ∷ way) w j earlier above more (op D N i f ps st is) e wider below h =
            let roots = (operation_at s j).frame.own in
            let away = not_there w c way e in
            let under = All-append (λ (r : RootId). r.0 < length s.roots) above roots below (own_made j) in
            let from : c ≡ 0 + c = omega arith in
            let row = row_kept job s u who now ways later At change makings made own_made w j earlier (above ++ roots) (more ++ roots) D N f ps st is (wider_on u above more roots wider) under away
            (among_match s who ways B c way w j 0 [] (above ++ roots) (operation_at s j).children is h.1) h.0 in
            subst (λ (o : Operation). Row job u now later w j earlier (more ++ o.frame.own) D N f ps st (edited_among G c way g is)
            × HasAmong job u now later C c way w j 0 [] (more ++ o.frame.own) o.children (edited_among G c way g is)) (sym (change.row j w h.0.way_is away)) (
              record {
                within = row.within;
                knot = row.knot;
                way_is = row.way_is;
                own = row.own;
                seen = row.seen;
                said_is = edited_says c way g is 0 ∙ row.said_is;
                stands = row.stands;
                free = row.free;
                waits = subst (λ xs. WaitsWell job.code u.waits.knots D N earlier xs (knot_at u.waits.knots j).on st)
                    (sym (edited_siblings c way (operation_at u j).children is)) row.waits;
                begun = row.begun;
                listed = subst (AreListed job u now (more ++ roots) j) (sym (edited_siblings c way (operation_at u j).children is)) row.listed;
                children_are = row.children_are;
              },
              among_edited c way w j 0 [] (above ++ roots) (more ++ roots) (operation_at s j).children is
                  (e ∙ sym (append_assoc w (c ∷ []) way) ∙ ap (λ z. (w ++ z ∷ []) ++ way) from) (wider_on u above more roots wider) under h.1,
            )

        among_edited : (c : ℕ) (way w : List ℕ) (j d : ℕ) (earlier : List Sibling) (roots more : List RootId) (ks : List OpNumber) (is : Items G) → v ≡ (w ++ (d + c) ∷ []) ++ way →
            IsWider u roots more → Under roots → HasAmong job s who ways B c way w j d earlier roots ks is → HasAmong job u now later C c way w j d earlier more ks (edited_among G c way g is)
        among_edited c way w j d earlier roots more ks no_item e wider below h = absurd h
        among_edited c way w j d earlier roots more ks (said t is) e wider below h = among_edited c way w j d earlier roots more ks is e wider below h
        among_edited c way w j d earlier roots more [] (child_op n is) e wider below h = absurd h
        among_edited zero way w j d earlier roots more (k ∷ ks) (child_op n is) e wider below h =
            let here : d + 0 ≡ d = omega arith in
            let at : v ≡ (w ++ d ∷ []) ++ way = e ∙ ap (λ z. (w ++ z ∷ []) ++ way) here in
            let same = edited_needs way n in (
              is_child_kept job s u who now ways later At change makings made own_made j k.0 (has_within way (w ++ d ∷ []) k.0 earlier roots n h.1) h.0,
              has_edited way (w ++ d ∷ []) k.0 earlier roots more n at wider below h.1,
              subst (λ D. ShowsChildren job u now later w j (suc d) (earlier ++ record { op = k.0; needs = D } ∷ []) more ks is) (sym same)
                  (children_kept job s u who now ways later At change makings made own_made w j (suc d) (earlier ++ record { op = k.0; needs = needs_issued job n } ∷ []) roots more ks is wider below
                  (λ x b z. beside w d x way at (λ q. absurd (omega (arith, b, q))) z) h.2),
            )
        among_edited (suc c) way w j d earlier roots more (k ∷ ks) (child_op n is) e wider below h =
            let there : d + suc c ≡ suc d + c = omega arith in
            let at : v ≡ (w ++ (suc d + c) ∷ []) ++ way = e ∙ ap (λ z. (w ++ z ∷ []) ++ way) there in (
              is_child_kept job s u who now ways later At change makings made own_made j k.0
                  (node_within job s u who now ways later At change makings made own_made (w ++ d ∷ []) k.0 earlier roots n h.1) h.0,
              shows_kept job s u who now ways later At change makings made own_made (w ++ d ∷ []) k.0 earlier roots more n wider below
                  (beside w (suc d + c) d way at (λ q. absurd (omega (arith, q)))) h.1,
              among_edited c way w j (suc d) (earlier ++ record { op = k.0; needs = needs_issued job n } ∷ []) roots more ks is at wider below h.2,
            )

  -- ---- all of it shows

  module _ (s : State) (who : ℕ → ℕ) (ways : List (List ℕ)) (B : Asked job)
      (shows : (w : List ℕ) (k : ℕ) (earlier : List Sibling) (above : List RootId) (n : Node G) → B w k earlier above n → Shows job s who ways w k earlier above n) where
    mutual
      pub all_shows : (way w : List ℕ) (j : ℕ) (earlier : List Sibling) (above : List RootId) (n : Node G) → HasAt job s who ways B way w j earlier above n → Shows job s who ways w j earlier above n
      all_shows [] w j earlier above n h = shows w j earlier above n h
      all_shows (c ∷ way) w j earlier above (op D N i f ps st is) h = (
        h.0,
        among_shows c way w j 0 [] (above ++ (operation_at s j).frame.own) (operation_at s j).children is h.1,
      )

      among_shows : (c : ℕ) (way w : List ℕ) (j d : ℕ) (earlier : List Sibling) (roots : List RootId) (ks : List OpNumber) (is : Items G) →
          HasAmong job s who ways B c way w j d earlier roots ks is → ShowsChildren job s who ways w j d earlier roots ks is
      among_shows c way w j d earlier roots ks no_item h = absurd h
      among_shows c way w j d earlier roots ks (said t is) h = among_shows c way w j d earlier roots ks is h
      among_shows c way w j d earlier roots [] (child_op n is) h = absurd h
      among_shows zero way w j d earlier roots (k ∷ ks) (child_op n is) h = (h.0, all_shows way (w ++ d ∷ []) k.0 earlier roots n h.1, h.2)
      among_shows (suc c) way w j d earlier roots (k ∷ ks) (child_op n is) h =
          (h.0, h.1, among_shows c way w j (suc d) (earlier ++ record { op = k.0; needs = needs_issued job n } ∷ []) roots ks is h.2)

  -- ---- what shows is settled all the way up

  module _ (s : State) (who : ℕ → ℕ) (ways : List (List ℕ)) (makings : ℕ) where
    abbrev M : Machine G
    M = machine_of job makings

    mutual
      pub up_settled : (way w : List ℕ) (j : ℕ) (earlier : List Sibling) (above : List RootId) (n : Node G) → Shows job s who ways w j earlier above n → up G M way n ≡ n
      up_settled [] w j earlier above n h = settled job s who ways makings w j earlier above n h
      up_settled (c ∷ way) w j earlier above (op D N i f ps st is) h =
          ap (λ is. tree.settle G M (op D N i f ps st is)) (among_settled c way w j 0 [] (above ++ (operation_at s j).frame.own) (operation_at s j).children is h.1)
          ∙ settled job s who ways makings w j earlier above (op D N i f ps st is) h

      among_settled : (c : ℕ) (way w : List ℕ) (j d : ℕ) (earlier : List Sibling) (roots : List RootId) (ks : List OpNumber) (is : Items G) →
          ShowsChildren job s who ways w j d earlier roots ks is → up_among G M c way is ≡ is
      among_settled c way w j d earlier roots ks no_item h = refl
      among_settled c way w j d earlier roots ks (said t is) h = ap (λ is. said t is) (among_settled c way w j d earlier roots ks is h)
      among_settled c way w j d earlier roots [] (child_op n is) h = absurd h
      among_settled zero way w j d earlier roots (k ∷ ks) (child_op n is) h = ap (λ n. child_op n is) (up_settled way (w ++ d ∷ []) k.0 earlier roots n h.1)
      among_settled (suc c) way w j d earlier roots (k ∷ ks) (child_op n is) h =
          ap (λ is. child_op n is) (among_settled c way w j (suc d) (earlier ++ record { op = k.0; needs = needs_issued job n } ∷ []) roots ks is h.2)

    -- ---- a step along the way

    module _ (k : ℕ) (runs : is_over (table.stage_at s k) ≡ false) (kind : Kind) (m : Map G) (g : Node G → Node G) (es : Node G → List (Effect G))
        (own : (p : List ℕ) (before : Bool) (w : List ℕ) (earlier : List Sibling) (above : List RootId) (n : Node G) → Shows job s who ways w k earlier above n →
        step_in G M kind [] p before m n ≡ Some (record { left = tree.settle G M (g n); effects = es n })) where
      mutual
        pub step_along : (way w : List ℕ) (j : ℕ) (earlier : List Sibling) (above : List RootId) (p : List ℕ) (before : Bool) (n : Node G) → Leads job s j way k →
            Shows job s who ways w j earlier above n → step_in G M kind way p before m n ≡ Some (record { left = up G M way (edited G way g n); effects = told_at G way es n })
        step_along [] w j earlier above p before n l h = own p before w earlier above n (subst (λ x. Shows job s who ways w x earlier above n) l h)
        step_along (c ∷ way) w j earlier above p before (op D N i f ps st is) l h =
            let goes : tree.is_over G st ≡ false =
            sym (node_told job s who ways w j earlier above (op D N i f ps st is) h).is_over ∙ open_above job s who ways k runs (c ∷ way) w j earlier above (op D N i f ps st is) h l in
            ap (λ b. cond b None (in_op G M D N i f ps st (step_among G M kind c way p 0 [] m is))) goes
            ∙ ap (in_op G M D N i f ps st) (step_beside c way w j 0 [] (above ++ (operation_at s j).frame.own) (operation_at s j).children is p 0 [] l.0 l.1 l.2 h.1)

        step_beside : (c : ℕ) (way w : List ℕ) (j d : ℕ) (earlier : List Sibling) (roots : List RootId) (ks : List OpNumber) (is : Items G) (p : List ℕ) (place : ℕ) (Ns : List (List Requirement)) (x : ℕ) →
            slice_get ks c ≡ Some (number x) → Leads job s x way k → ShowsChildren job s who ways w j d earlier roots ks is →
            step_among G M kind c way p place Ns m is ≡ Some (record { left = up_among G M c way (edited_among G c way g is); effects = told_among G c way es is })
        step_beside c way w j d earlier roots ks no_item p place Ns x q l h = absurd (none-some (number x) (ap (λ ks. slice_get ks c) (sym h) ∙ q))
        step_beside c way w j d earlier roots ks (said t is) p place Ns x q l h = ap (behind G M (said t)) (step_beside c way w j d earlier roots ks is p place Ns x q l h)
        step_beside c way w j d earlier roots [] (child_op n is) p place Ns x q l h = absurd h
        step_beside zero way w j d earlier roots (y ∷ ys) (child_op n is) p place Ns x q l h =
            ap (as_child G M is) (step_along way (w ++ d ∷ []) y.0 earlier roots (place ∷ p) (not (tree.meets_any G M Ns (tree.needs_of G n))) n
            (subst (λ (z : OpNumber). Leads job s z.0 way k) (sym (some_same y (number x) q)) l) h.1)
        step_beside (suc c) way w j d earlier roots (y ∷ ys) (child_op n is) p place Ns x q l h =
            ap (behind G M (child_op n)) (step_beside c way w j (suc d) (earlier ++ record { op = y.0; needs = needs_issued job n } ∷ []) roots ys is p (suc place) (still_open G M n Ns) x q l h.2)
