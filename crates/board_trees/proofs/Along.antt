-- A step of one operation that goes on, along the way to it: the tree is settled again, which changes nothing.
use Rattle.std.proofs.Common.{◌≡◌, ◌+◌, ◌++◌, ◌∷◌, ◌∙◌, ℕ, zero, suc, Bool, List, None, Option, Some, [], ap, cond, false, refl, subst, sym, true, arith, append_assoc}
use Rattle.std.specs.Prelude.{◌<◌, length, slice_get}
use Rattle.std.proofs.lemmas.Bool.{and_parts, true≢false}
use Rattle.std.proofs.lemmas.List.{append-nil, append_cancel_left}
use Rattle.std.proofs.lemmas.List.Elements.{All-append}
use Rattle.std.proofs.lemmas.Option.{none-some}
use Rattle.region_tree.specs.Requirements.{Requirement}
use Rattle.region_tree.specs.declared.tree.OpNumber.{OpNumber}
use Rattle.region_tree.specs.declared.tree.RootId.{RootId}
use Rattle.dependence_graph.specs.Entries.{Knot}
use Rattle.dependence_graph.specs.Knots.{knot_at, number}
use Rattle.task_code.specs.declared.job.Job.{Job}
use Rattle.board_rules.specs.Boards.{Items, Kind, Operation as Node, Stage as BoardStage, Stepped, as_child, behind, child_op, closing, dropped, filling, idle, in_op, no_item, op, out, over, said, settle, step_among, step_in, still_open}
use Rattle.board_rules.specs.Boards as tree
use Rattle.board_rules.specs.Ground.{Ground}
use Rattle.board_rules.specs.NumberedBoards.{children_among, children_at, way_of}
use Rattle.board_rules.specs.Processes.{Map}
use Rattle.board_rules.specs.RootNumbers.{made_among, made_in}
use Rattle.board_rules.specs.Running.{Machine}
use Rattle.regent_boards.specs.RegentMachine.{regent_ground}
use Rattle.code_boards.specs.Laws.{machine_of}
use Rattle.code_boards.specs.Views.{spaces_of}
use Rattle.board_terms.specs.declared.operation.Operation.{Operation}
use Rattle.board_terms.specs.Closings.{all_over}
use Rattle.board_terms.specs.Stages.{is_over}
use Rattle.board_terms.specs.Stages as table
use Rattle.board_terms.specs.States.{State, operation_at}
use Rattle.board_trees.specs.Shows.{AreListed, Leads, Row, Shows, ShowsChildren, needs_issued, said_in, siblings}
use Rattle.board_trees.specs.Stages.{WaitsWell}
use Rattle.board_trees.specs.Told.{AreOrdered}
use Rattle.board_trees.specs.Waits.{Sibling}
use Rattle.board_trees.proofs.Kept.{ChangesOne, children_kept, is_child_kept, row_kept, shows_kept, with_rows}
use Rattle.board_trees.proofs.Open.{IsTold, IsToldOpen, WereMade, open_tells}
use Rattle.board_trees.proofs.Ordered.{node_ordered}
use Rattle.board_trees.proofs.Settled.{node_told, settled}

pub places_same : (w : List ℕ) (c d : ℕ) (u x : List ℕ) → (w ++ c ∷ []) ++ u ≡ (w ++ d ∷ []) ++ x → c ≡ d
places_same w c d u x e =
    let same : w ++ c ∷ u ≡ w ++ d ∷ x = sym (append_assoc w (c ∷ []) u) ∙ e ∙ append_assoc w (d ∷ []) x in
    let rest : c ∷ u ≡ d ∷ x = append_cancel_left w (c ∷ u) (d ∷ x) same in
    cc

-- something is left behind
pub not_above : (w : List ℕ) (c : ℕ) (u : List ℕ) → ¬ (w ≡ w ++ c ∷ u)
not_above w c u e =
    let ends : [] ≡ c ∷ u = append_cancel_left w [] (c ∷ u) (append-nil w ∙ e) in
    absurd cc

pub some_same : (x y : OpNumber) → Some x ≡ Some y → x ≡ y
some_same x y e = cc

module _ (job : Job) (s : State) (who : ℕ → ℕ) (ways : List (List ℕ)) (k : ℕ) (runs : is_over (table.stage_at s k) ≡ false) where
  abbrev G : Ground
  G = regent_ground (spaces_of job.code)

  -- ---- above what goes on nothing is over

  over_all : (ks : List OpNumber) (c : ℕ) (o : OpNumber) → slice_get ks c ≡ Some o → all_over s ks ≡ true → is_over (table.stage_at s o.0) ≡ true
  over_all [] c o e h = absurd (none-some o e)
  over_all (x ∷ xs) zero o e h = ap (λ (y : OpNumber). is_over (table.stage_at s y.0)) (sym (some_same x o e)) ∙ (and_parts (is_over (table.stage_at s x.0)) (all_over s xs) h).0
  over_all (x ∷ xs) (suc c) o e h = over_all xs c o e (and_parts (is_over (table.stage_at s x.0)) (all_over s xs) h).1

  mutual
    pub open_above : (way w : List ℕ) (j : ℕ) (earlier : List Sibling) (above : List RootId) (n : Node G) → Shows job s who ways w j earlier above n → Leads job s j way k →
        is_over (table.stage_at s j) ≡ false
    open_above [] w j earlier above n h l = ap (λ x. is_over (table.stage_at s x)) l ∙ runs
    open_above (c ∷ way) w j earlier above (op D N i f ps st is) h l =
        let below = open_among c way w j 0 [] (above ++ (operation_at s j).frame.own) (operation_at s j).children is l.0 h.1 l.1 l.2 in
        (node_told job s who ways w j earlier above (op D N i f ps st is) h).is_over ∙ not_over st h.0.children_are below
      where
        not_over : (st : BoardStage G) → Rattle.board_trees.specs.Stages.ChildrenAre job.code s (operation_at s j).children st → is_over (table.stage_at s l.0) ≡ false → tree.is_over G st ≡ false
        not_over (idle x) a b = refl
        not_over (filling x d y) a b = refl
        not_over (out x d) a b = refl
        not_over (closing x) a b = refl
        not_over (over x) a b = absurd (true≢false (sym (over_all (operation_at s j).children c (number l.0) l.1 a) ∙ b))
        not_over dropped a b = absurd (none-some (number l.0) (ap (λ ks. slice_get ks c) (sym a) ∙ l.1))

    open_among : (c : ℕ) (way w : List ℕ) (j d : ℕ) (earlier : List Sibling) (roots : List RootId) (ks : List OpNumber) (is : Items G) (x : ℕ) → ShowsChildren job s who ways w j d earlier roots ks is →
        slice_get ks c ≡ Some (number x) → Leads job s x way k → is_over (table.stage_at s x) ≡ false
    open_among c way w j d earlier roots ks no_item x h e l = absurd (none-some (number x) (ap (λ ks. slice_get ks c) (sym h) ∙ e))
    open_among c way w j d earlier roots ks (said t is) x h e l = open_among c way w j d earlier roots ks is x h e l
    open_among c way w j d earlier roots [] (child_op n is) x h e l = absurd h
    open_among zero way w j d earlier roots (y ∷ ys) (child_op n is) x h e l =
        let same = some_same y (number x) e in
        subst (λ (z : OpNumber). is_over (table.stage_at s z.0) ≡ false) same
        (open_above way (w ++ d ∷ []) y.0 earlier roots n h.1 (subst (λ (z : OpNumber). Leads job s z.0 way k) (sym same) l))
    open_among (suc c) way w j d earlier roots (y ∷ ys) (child_op n is) x h e l =
        open_among c way w j (suc d) (earlier ++ record { op = y.0; needs = needs_issued job n } ∷ []) roots ys is x h.2 e l

  -- ---- the step

  module _ (os : List Operation) (knots : List Knot) (turns : ℕ) (change : ChangesOne s os knots turns k) (v : List ℕ) (way_is : way_of G (machine_of job) ways k ≡ Some v)
      (kind : Kind) (makings : ℕ) (m : Map G) where
    abbrev u : State
    u = with_rows s os knots turns

    abbrev M : Machine G
    M = machine_of job makings

    -- what the step leaves shows again, and has the children and makings that there were
    pub record Leaves (way w : List ℕ) (j : ℕ) (earlier : List Sibling) (above : List RootId) (n : Node G) (o : Option (Stepped G (Node G))) : Type 0 where
      pub left : Node G
      pub steps : o ≡ Some (record { left = left; effects = [] })
      pub shows : Shows job u who ways w j earlier above left
      pub needs : needs_issued job left ≡ needs_issued job n
      pub children : children_at G (machine_of job) way left ≡ children_at G (machine_of job) way n
      pub made : made_in G (machine_of job) left ≡ made_in G (machine_of job) n

    record LeavesAmong (c : ℕ) (way w : List ℕ) (j d : ℕ) (earlier : List Sibling) (roots : List RootId) (ks : List OpNumber) (is : Items G) (o : Option (Stepped G (Items G))) : Type 0 where
      left : Items G
      steps : o ≡ Some (record { left = left; effects = [] })
      shows : ShowsChildren job u who ways w j d earlier roots ks left
      same : siblings job ks left ≡ siblings job ks is
      says : (e : ℕ) → said_in job e left ≡ said_in job e is
      children : children_among G (machine_of job) c way left ≡ children_among G (machine_of job) c way is
      made : made_among G (machine_of job) left ≡ made_among G (machine_of job) is

    module _ (own_made : (j : ℕ) → WereMade job s (operation_at s j).frame.own)
        (own : (w : List ℕ) (earlier : List Sibling) (above : List RootId) (p : List ℕ) (before : Bool) (n : Node G) → v ≡ w → Shows job s who ways w k earlier above n →
        IsTold job s earlier above before n → Leaves [] w k earlier above n (step_in G M kind [] p before m n)) where
      mutual
        pub along : (way w : List ℕ) (j : ℕ) (earlier : List Sibling) (above : List RootId) (p : List ℕ) (before : Bool) (n : Node G) → Shows job s who ways w j earlier above n → Leads job s j way k →
            v ≡ w ++ way → IsTold job s earlier above before n → Leaves way w j earlier above n (step_in G M kind way p before m n)
        along [] w j earlier above p before n h l e t =
            subst (λ x. Shows job s who ways w x earlier above n → Leaves [] w x earlier above n (step_in G M kind [] p before m n)) (sym l)
            (λ g. own w earlier above p before n (e ∙ append-nil w) g t) h
        along (c ∷ way) w j earlier above p before (op D N i f ps st is) h l e t =
            let roots = above ++ (operation_at s j).frame.own in
            let from : c ≡ 0 + c = omega arith in
            let a = among c way w j 0 [] roots (operation_at s j).children is p 0 [] l.0
            (All-append (λ (r : RootId). r.0 < length s.roots) above (operation_at s j).frame.own t.made (own_made j)) h.1 l.1 l.2
            (e ∙ sym (append_assoc w (c ∷ []) way) ∙ ap (λ z. (w ++ z ∷ []) ++ way) from) tt (λ Q. refl) in
            let goes : tree.is_over G st ≡ false =
            sym (node_told job s who ways w j earlier above (op D N i f ps st is) h).is_over ∙ open_above (c ∷ way) w j earlier above (op D N i f ps st is) h l in
            let other : ¬ (j ≡ k) = λ q. not_above w c way (way_same w v (sym h.0.way_is ∙ ap (way_of G (machine_of job) ways) q ∙ way_is) ∙ e) in
            let kept = row_kept job s os knots turns k change who ways w j earlier roots D N f ps st is other h.0 in
            let shown : Shows job u who ways w j earlier above (op D N i f ps st a.left) =
            subst (λ (o : Operation). Row job u who ways w j earlier (above ++ o.frame.own) D N f ps st a.left
            × ShowsChildren job u who ways w j 0 [] (above ++ o.frame.own) o.children a.left) (sym (change.others j other)) (
              record {
                within = kept.within;
                knot = kept.knot;
                way_is = kept.way_is;
                own = kept.own;
                seen = kept.seen;
                said_is = a.says 0 ∙ kept.said_is;
                stands = kept.stands;
                free = kept.free;
                waits = subst (λ (o : Operation). WaitsWell job.code knots D N earlier (siblings job o.children a.left) (knot_at knots j).on st) (sym (change.others j other))
                    (subst (λ xs. WaitsWell job.code knots D N earlier xs (knot_at knots j).on st) (sym a.same)
                    (subst (λ (o : Operation). WaitsWell job.code knots D N earlier (siblings job o.children is) (knot_at knots j).on st) (change.others j other) kept.waits));
                begun = kept.begun;
                listed = subst (λ (o : Operation). AreListed job u who roots j (siblings job o.children a.left)) (sym (change.others j other))
                    (subst (AreListed job u who roots j) (sym a.same)
                    (subst (λ (o : Operation). AreListed job u who roots j (siblings job o.children is)) (change.others j other) kept.listed));
                children_are = kept.children_are;
              },
              a.shows,
            ) in
            record {
              left = op D N i f ps st a.left;
              steps = ap (λ b. cond b None (in_op G M D N i f ps st (step_among G M kind c way p 0 [] m is))) goes
                  ∙ ap (in_op G M D N i f ps st) a.steps
                  ∙ ap (λ x. Some (record { left = x; effects = [] })) (settled job u who ways makings w j earlier above (op D N i f ps st a.left) shown);
              shows = shown;
              needs = refl;
              children = a.children;
              made = ap (λ x. i + x) a.made;
            }
          where
            way_same : (x y : List ℕ) → Some x ≡ Some y → x ≡ y
            way_same x y q = cc

        among : (c : ℕ) (way w : List ℕ) (j d : ℕ) (earlier : List Sibling) (roots : List RootId) (ks : List OpNumber) (is : Items G) (p : List ℕ) (place : ℕ) (Ns : List (List Requirement)) (x : ℕ) →
            WereMade job s roots → ShowsChildren job s who ways w j d earlier roots ks is → slice_get ks c ≡ Some (number x) → Leads job s x way k → v ≡ (w ++ (d + c) ∷ []) ++ way →
            AreOrdered s.waits.knots earlier → ((Q : List Requirement) → IsToldOpen job makings s.waits.knots earlier Ns Q) → LeavesAmong c way w j d earlier roots ks is (step_among G M kind c way p place Ns m is)
        among c way w j d earlier roots ks no_item p place Ns x g h e l q o tells = absurd (none-some (number x) (ap (λ ks. slice_get ks c) (sym h) ∙ e))
        among c way w j d earlier roots ks (said t is) p place Ns x g h e l q o tells =
            let a = among c way w j d earlier roots ks is p place Ns x g h e l q o tells in
            record {
              left = said t a.left;
              steps = ap (behind G M (said t)) a.steps;
              shows = a.shows;
              same = a.same;
              says = λ y. ap (Rattle.board_trees.specs.Shows.printed job y t) (a.says y);
              children = a.children;
              made = a.made;
            }
        among c way w j d earlier roots [] (child_op n is) p place Ns x g h e l q o tells = absurd h
        among zero way w j d earlier roots (y ∷ ys) (child_op n is) p place Ns x g h e l q o tells =
            let here : d + 0 ≡ d = omega arith in
            let at : v ≡ (w ++ d ∷ []) ++ way = q ∙ ap (λ z. (w ++ z ∷ []) ++ way) here in
            let a = along way (w ++ d ∷ []) y.0 earlier roots (place ∷ p) (Rattle.std.specs.Prelude.not (tree.meets_any G M Ns (tree.needs_of G n))) n h.1
            (subst (λ (z : OpNumber). Leads job s z.0 way k) (sym (some_same y (number x) e)) l) at (record { ordered = o; clear = tells (tree.needs_of G n); made = g }) in
            record {
              left = child_op a.left is;
              steps = ap (as_child G M is) a.steps;
              shows = (
                is_child_kept job s os knots turns k change who ways j y.0 h.0,
                a.shows,
                subst (λ D. ShowsChildren job u who ways w j (suc d) (earlier ++ record { op = y.0; needs = D } ∷ []) roots ys is) (sym a.needs)
                    (children_kept job s os knots turns k change who ways v w j (suc d) (earlier ++ record { op = y.0; needs = needs_issued job n } ∷ []) roots ys is way_is
                    (λ z b r o. absurd (omega (arith, b, places_same w d z way r (sym at ∙ o)))) h.2),
              );
              same = ap (λ D. record { op = y.0; needs = D } ∷ siblings job ys is) a.needs;
              says = λ z. refl;
              children = a.children;
              made = ap (λ z. z + made_among G (machine_of job) is) a.made;
            }
        among (suc c) way w j d earlier roots (y ∷ ys) (child_op n is) p place Ns x g h e l q o tells =
            let there : d + suc c ≡ suc d + c = omega arith in
            let at : v ≡ (w ++ (suc d + c) ∷ []) ++ way = q ∙ ap (λ z. (w ++ z ∷ []) ++ way) there in
            let a = among c way w j (suc d) (earlier ++ record { op = y.0; needs = needs_issued job n } ∷ []) roots ys is p (suc place) (still_open G M n Ns) x g h.2 e l at
            (node_ordered job s who ways (w ++ d ∷ []) y.0 earlier roots n h.1 o)
            (λ Q. open_tells job s who ways makings earlier Ns y.0 n (node_told job s who ways (w ++ d ∷ []) y.0 earlier roots n h.1) Q (tells Q)) in
            record {
              left = child_op n a.left;
              steps = ap (behind G M (child_op n)) a.steps;
              shows = (
                is_child_kept job s os knots turns k change who ways j y.0 h.0,
                shows_kept job s os knots turns k change who ways v (w ++ d ∷ []) y.0 earlier roots n way_is
                    (λ r o. let z = places_same w (suc d + c) d way r (sym at ∙ o) in absurd (omega (arith, z))) h.1,
                a.shows,
              );
              same = ap (λ xs. record { op = y.0; needs = needs_issued job n } ∷ xs) a.same;
              says = λ z. a.says (suc z);
              children = a.children;
              made = ap (λ z. made_in G (machine_of job) n + z) a.made;
            }
