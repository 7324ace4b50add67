-- Children behind one that is over: those that wait for one that failed are dropped, and all others go on to show.
use Rattle.std.proofs.Common.{◌≡◌, ◌<◌, ◌+◌, ◌⊎◌, ◌++◌, ◌∷◌, ◌∙◌, ◌&&◌, ℕ, zero, suc, Bool, List, [], ap, arith, cond, false, inl, inr, length, refl, subst, sym, true, ⊎_elim, append-nil}
use Rattle.std.specs.Prelude.{All}
use Rattle.std.proofs.lemmas.Bool.{false≢true, true≢false}
use Rattle.std.proofs.lemmas.List.Elements.{All-append}
use Rattle.region_tree.specs.Requirements.{Requirement}
use Rattle.region_tree.specs.declared.needs.Need.{Need}
use Rattle.region_tree.specs.declared.piece.Part.{Part}
use Rattle.region_tree.specs.declared.tree.OpNumber.{OpNumber}
use Rattle.region_tree.specs.declared.tree.RootId.{RootId}
use Rattle.dependence_graph.specs.Entries.{Knot}
use Rattle.dependence_graph.specs.Knots.{knot_at, number, some_failed}
use Rattle.dependence_graph.specs.Laws.{GaveUp}
use Rattle.dependence_graph.specs.declared.stage.Stage.TheVariants as knot
use Rattle.task_code.specs.declared.job.Job.{Job}
use Rattle.board_rules.specs.Boards.{Items, Operation as Node, Stage as BoardStage, child, child_op, closing, dropped, filling, first, idle, no_item, nothing, op, out, over, part, said}
use Rattle.board_rules.specs.Boards as tree
use Rattle.board_rules.specs.Ground.{Ground}
use Rattle.board_rules.specs.Running.{Element, Machine}
use Rattle.regent_boards.specs.Frames as board
use Rattle.regent_boards.specs.RegentMachine.{regent_ground}
use Rattle.code_boards.specs.Laws.{machine_of}
use Rattle.code_boards.specs.Views.{spaces_of}
use Rattle.board_terms.specs.declared.extent.Extent.{Extent}
use Rattle.board_terms.specs.declared.operation.Wait.{Wait}
use Rattle.board_terms.specs.declared.operation.Wait.TheVariants as wait
use Rattle.board_terms.specs.Closings.{all_over, how_closed}
use Rattle.board_terms.specs.Stages.{is_closing}
use Rattle.board_terms.specs.Stages as table
use Rattle.board_terms.specs.States.{State, operation_at}
use Rattle.board_trees.specs.Shows.{IsChild, Shows, ShowsChildren, needs_issued, siblings}
use Rattle.board_trees.specs.Stages.{IsWait, was_begun}
use Rattle.board_trees.specs.Told.{AreOrdered, some_bad}
use Rattle.board_trees.specs.Waits.{Sibling}
use Rattle.board_trees.proofs.Along.{not_above, places_same}
use Rattle.board_trees.proofs.Ordered.{node_ordered}
use Rattle.board_trees.proofs.Settled.{node_told, unmet, worse_tells}
use Rattle.board_trees.proofs.Told.{waits_are_told}
use Rattle.changed_trees.specs.Changes.{Change, IsAt, IsWider}
use Rattle.changed_trees.specs.Open.{Asked, HasAmong, IsOpen}
use Rattle.changed_trees.specs.Edits.{up_among}
use Rattle.changed_trees.proofs.Below.{children_kept, is_child_kept, node_within, shows_kept}
use Rattle.changed_trees.proofs.Kept.{awaits_kept, back, has_wait_kept, listed_kept, wider_on}
use Rattle.closed_trees.proofs.Graph.{Ends, ended_as}
use Rattle.closed_trees.proofs.Over.{over_shows}
use Rattle.closed_trees.proofs.Places.{At, deep_apart, family_changes, here_apart}
use Rattle.closed_trees.proofs.Reached.{Leaving, Standing, ends_so, entries_kept, one_way}
use Rattle.closed_trees.proofs.Reached as reached

-- the operation may be over
abbrev pub IsIt : (job : Job) (s : State) (who : ℕ → ℕ) (ways : List (List ℕ)) (k : ℕ) → Asked job
IsIt job s who ways k z i earlier above n = (i ≡ k) × IsOpen job s who ways z i earlier above n

-- one that waits for its beginning has no children
pub childless : (job : Job) (extents : List Extent) (who : ℕ → ℕ) (roots : List RootId) (needs : List Need) (parts : List Part) (children : List OpNumber) (w : Wait) →
    IsWait job.code extents who roots needs parts children w first → children ≡ []
childless job extents who roots needs parts children wait.Beginning h = h
childless job extents who roots needs parts children wait.Nothing h = absurd h
childless job extents who roots needs parts children (wait.Part root field) h = absurd h
childless job extents who roots needs parts children (wait.Child n) h = absurd h

module _ (job : Job) (makings : ℕ) where
  abbrev G : Ground
  G = regent_ground (spaces_of job.code)

  abbrev M : Machine G
  M = machine_of job makings

  over_unwaiting : (st : BoardStage G) → tree.is_over G st ≡ true → tree.is_waiting G st ≡ false
  over_unwaiting (idle w) e = absurd (false≢true e)
  over_unwaiting (filling w d l) e = refl
  over_unwaiting (out w d) e = refl
  over_unwaiting (closing x) e = refl
  over_unwaiting (over x) e = refl
  over_unwaiting dropped e = refl

  -- the needs of those that failed tell what some sibling that interferes has failed
  abbrev pub Tells : List Knot → List Sibling → List (List Requirement) → Type 0
  Tells knots earlier bad = (Q : List Requirement) → tree.meets_any G M bad Q ≡ some_bad knots Q earlier

  off : (a b : Bool) → (a ≡ true → b ≡ false) → (a && b) ≡ false
  off true b h = h refl
  off false b h = refl

  module _ (s : State) (who : ℕ → ℕ) (ways : List (List ℕ)) (root : Node G) (stand : Standing job s who ways root) (k : ℕ) (v : List ℕ) (it : Leaving job s ways k v)
      (closing_k : is_closing (table.stage_at s k) ≡ true) (over_k : all_over s (operation_at s k).children ≡ true)
      (j : ℕ) (w : List ℕ) (c : ℕ) (v_is : v ≡ w ++ c ∷ []) (at_j : IsAt job ways j w) (parent_is : (operation_at s k).parent ≡ number j) where
    abbrev ks : List Knot
    ks = s.waits.knots

    abbrev us : List Knot
    us = reached.us job s who ways root stand k v it (how_closed s k)

    abbrev u : State
    u = reached.u job s who ways root stand k v it (how_closed s k)

    abbrev Here : List ℕ → Type 0
    Here = At job s who ways root stand k v it (how_closed s k) j w c v_is at_j parent_is

    abbrev change : Change job s u who who ways ways Here
    change = family_changes job s who ways root stand k v it (how_closed s k) j w c v_is at_j parent_is

    abbrev facts : Ends ks us k (ended_as (how_closed s k))
    facts = ends_so job s who ways root stand k v it (how_closed s k)

    deep : (d e : ℕ) (z : List ℕ) → ¬ Here (((w ++ d ∷ []) ++ e ∷ []) ++ z)
    deep = deep_apart job s who ways root stand k v it (how_closed s k) j w c v_is at_j parent_is

    abbrev Below : List RootId → Type 0
    Below roots = All (λ (r : RootId). r.0 < length s.roots) roots

    other : (d x : ℕ) → ¬ (c ≡ d) → IsAt job ways x (w ++ d ∷ []) → ¬ (x ≡ k)
    other d x n a e = n (places_same w c d [] []
        (append-nil (w ++ c ∷ []) ∙ sym v_is ∙ one_way job ways k v (w ++ d ∷ []) it.at (subst (λ y. IsAt job ways y (w ++ d ∷ [])) e a) ∙ sym (append-nil (w ++ d ∷ []))))

    -- ---- a child

    abbrev IsGivenUp : List (List Requirement) → Node G → Bool
    IsGivenUp bad n = tree.is_waiting G (tree.stage_of G n) && tree.meets_any G M bad (tree.needs_of G n)

    -- it goes on to show
    goes_on : (bad : List (List Requirement)) (way : List ℕ) (x : ℕ) (earlier : List Sibling) (above : List RootId) (n : Node G) → Shows job u who ways way x earlier above n → AreOrdered us earlier → Tells us earlier bad →
        IsGivenUp bad n ≡ false
    goes_on bad way x earlier above n h o tells = off (tree.is_waiting G (tree.stage_of G n)) (tree.meets_any G M bad (tree.needs_of G n)) (unmet job u who ways makings bad way x earlier above n h o tells)

    -- or it gave up before it began
    record IsDropped (bad : List (List Requirement)) (way : List ℕ) (x : ℕ) (earlier : List Sibling) (above : List RootId) (n : Node G) : Type 0 where
      shows : Shows job u who ways way x earlier above (tree.as_dropped G M n)
      given_up : IsGivenUp bad n ≡ true

    module _ (roots more : List RootId) (wider : IsWider u roots more) (below : Below roots) (earlier : List Sibling) (ordered : AreOrdered us earlier) (bad : List (List Requirement)) (tells : Tells us earlier bad) (d x : ℕ) (n : ¬ (c ≡ d)) where
      drop_first : (D N : List Requirement) (i : ℕ) (f : board.Frame) (ps : List (Element G)) (is : Items G) → Shows job s who ways (w ++ d ∷ []) x earlier roots (op D N i f ps (idle first) is) →
          GaveUp ks us x → (knot_at us x).stage ≡ knot.Dropped → IsDropped bad (w ++ d ∷ []) x earlier more (op D N i f ps (idle first) is)
      drop_first D N i f ps is h g e =
          let own = (operation_at s x).frame.own in
          let wide = wider_on u roots more own wider in
          let under = All-append (λ (r : RootId). r.0 < length s.roots) roots own below (stand.own_made x) in
          let waits = has_wait_kept job s u who who ways ways Here change (roots ++ own) (more ++ own) wide under (operation_at s x) first h.0.stands.1.1 in
          let on : (knot_at ks x).on ≡ (knot_at us x).on = sym g.on in
          record {
            shows = (
              record {
                within = h.0.within;
                knot = change.knots x h.0.knot;
                way_is = h.0.way_is;
                own = λ name is. h.0.own name (back job s u who who ways ways Here change (roots ++ own) (more ++ own) wide under name is);
                seen = tt;
                said_is = h.0.said_is;
                stands = (e, (h.0.stands.1.0, waits));
                free = λ p q. absurd (true≢false (ap (tree.is_over G) q));
                waits = tt;
                begun = λ b. absurd (true≢false (sym b ∙ ap was_begun e));
                listed = listed_kept job s u who who ways ways Here change (roots ++ own) (more ++ own) wide under x
                    (λ y q f c. entries_kept job s who ways root stand k v it (how_closed s k) y f c) (siblings job (operation_at s x).children is) h.0.listed;
                children_are = childless job s.roots who (roots ++ own) (operation_at s x).frame.needs.items (operation_at s x).parts (operation_at s x).children (operation_at s x).wait h.0.stands.1.1;
              },
              children_kept job s u who who ways ways Here change stand.makings stand.made stand.own_made (w ++ d ∷ []) x 0 [] (roots ++ own) (more ++ own) (operation_at s x).children is wide under
                  (λ y l z. deep d y z) h.1,
            );
            given_up = tells D
                ∙ sym (waits_are_told us D earlier (knot_at ks x).on ordered (awaits_kept job s u who who ways ways Here change D N earlier [] first (knot_at ks x).on h.0.waits.0)).failed
                ∙ ap (some_failed us) on ∙ g.vain;
          }

      drops : (D N : List Requirement) (i : ℕ) (f : board.Frame) (ps : List (Element G)) (st : BoardStage G) (is : Items G) → Shows job s who ways (w ++ d ∷ []) x earlier roots (op D N i f ps st is) →
          GaveUp ks us x → (knot_at ks x).stage ≡ knot.Waiting → (knot_at us x).stage ≡ knot.Dropped → IsDropped bad (w ++ d ∷ []) x earlier more (op D N i f ps st is)
      drops D N i f ps (idle first) is h g b e = drop_first D N i f ps is h g e
      drops D N i f ps (idle nothing) is h g b e = let q : knot.Waiting ≡ knot.Parked = sym b ∙ h.0.stands.0 in absurd cc
      drops D N i f ps (idle (part y)) is h g b e = let q : knot.Waiting ≡ knot.Parked = sym b ∙ h.0.stands.0 in absurd cc
      drops D N i f ps (idle (child y)) is h g b e = let q : knot.Waiting ≡ knot.Parked = sym b ∙ h.0.stands.0 in absurd cc
      drops D N i f ps (filling y z l) is h g b e = let q : knot.Waiting ≡ knot.Begun = sym b ∙ h.0.stands.0 in absurd cc
      drops D N i f ps (out y z) is h g b e = let q : knot.Waiting ≡ knot.Begun = sym b ∙ h.0.stands.0 in absurd cc
      drops D N i f ps (closing y) is h g b e = ⊎_elim
          (λ z. let q : knot.Waiting ≡ knot.Begun = sym b ∙ z.0 in absurd cc) (λ z. let q : knot.Waiting ≡ knot.Stopped = sym b ∙ z.0 in absurd cc) h.0.stands
      drops D N i f ps (over y) is h g b e = ⊎_elim
          (λ z. let q : knot.Waiting ≡ knot.Done = sym b ∙ z.0 in absurd cc) (λ z. let q : knot.Waiting ≡ knot.Failed = sym b ∙ z.0 in absurd cc) h.0.stands
      drops D N i f ps dropped is h g b e = let q : knot.Waiting ≡ knot.Dropped = sym b ∙ h.0.stands.0 in absurd cc

      -- one that is parked has children, and none of these is the one that failed
      child_left : (m : Node G) → Shows job s who ways (w ++ d ∷ []) x earlier roots m →
          (Shows job u who ways (w ++ d ∷ []) x earlier more m × (IsGivenUp bad m ≡ false)) ⊎ IsDropped bad (w ++ d ∷ []) x earlier more m
      child_left (op D N i f ps st is) h = ⊎_elim
          (λ same.
          let shown = shows_kept job s u who who ways ways Here change stand.makings stand.made stand.own_made (w ++ d ∷ []) x earlier roots more (op D N i f ps st is) wider below
          (here_apart job s who ways root stand k v it (how_closed s k) j w c v_is at_j parent_is d x n h.0.way_is same) h in
          inl (shown, goes_on bad (w ++ d ∷ []) x earlier more (op D N i f ps st is) shown ordered tells))
          (λ g. ⊎_elim
          (λ b. inr (drops D N i f ps st is h g b.0 b.1))
          (λ b. absurd (unparked g b.0)) g.stages)
          (facts.others x (other d x n h.0.way_is))
        where
          unparked : GaveUp ks us x → (knot_at ks x).stage ≡ knot.Parked → ⊥
          unparked g b =
              let called = reached.caller_so job s who ways root stand k v it (how_closed s k) x (other d x n h.0.way_is) g b in
              not_above w d []
              (one_way job ways j w (w ++ d ∷ []) at_j (subst (λ y. IsAt job ways y (w ++ d ∷ [])) (ap (λ (o : OpNumber). o.0) (sym called.0 ∙ parent_is)) h.0.way_is))

    -- ---- all children

    module _ (roots more : List RootId) (wider : IsWider u roots more) (below : Below roots) where
      abbrev Left : ℕ → List Sibling → List OpNumber → Items G → Type 0
      Left d earlier xs is = ShowsChildren job u who ways w j d earlier more xs is

      child_kept : (x : ℕ) → x < length s.operations → IsChild job s who ways j x → IsChild job u who ways j x
      child_kept x l h = is_child_kept job s u who who ways ways Here change stand.makings stand.made stand.own_made j x l h

      -- one that isn't the one that is over, and those behind it
      one_swept : (bad : List (List Requirement)) (d : ℕ) (earlier : List Sibling) (x : OpNumber) (xs : List OpNumber) (n : Node G) (is : Items G) → ¬ (c ≡ d) → AreOrdered us earlier → Tells us earlier bad →
          IsChild job s who ways j x.0 → Shows job s who ways (w ++ d ∷ []) x.0 earlier roots n →
          ((more : List (List Requirement)) → AreOrdered us (earlier ++ record { op = x.0; needs = needs_issued job n } ∷ []) → Tells us (earlier ++ record { op = x.0; needs = needs_issued job n } ∷ []) more →
          Left (suc d) (earlier ++ record { op = x.0; needs = needs_issued job n } ∷ []) xs (tree.sweep G M more is)) →
          Left d earlier (x ∷ xs) (tree.sweep G M bad (child_op n is))
      one_swept bad d earlier x xs (op D N i f ps st js) is n ordered tells called h rest = ⊎_elim
          (λ a.
          let told = node_told job u who ways (w ++ d ∷ []) x.0 earlier more (op D N i f ps st js) a.0 in
          subst (λ b. Left d earlier (x ∷ xs) (cond b (child_op (op D N i f ps dropped js) (tree.sweep G M (D ∷ bad) is)) (child_op (op D N i f ps st js) (tree.sweep G M (cond (tree.has_failed G st) (D ∷ bad) bad) is))))
          (sym a.1)
          (kept, a.0, rest (cond (tree.has_failed G st) (D ∷ bad) bad) (node_ordered job u who ways (w ++ d ∷ []) x.0 earlier more (op D N i f ps st js) a.0 ordered) (λ Q. worse_tells job u who ways makings bad earlier x.0 (op D N i f ps st js) told Q (tells Q))))
          (λ a.
          let told = node_told job u who ways (w ++ d ∷ []) x.0 earlier more (op D N i f ps dropped js) a.shows in
          subst (λ b. Left d earlier (x ∷ xs) (cond b (child_op (op D N i f ps dropped js) (tree.sweep G M (D ∷ bad) is)) (child_op (op D N i f ps st js) (tree.sweep G M (cond (tree.has_failed G st) (D ∷ bad) bad) is))))
          (sym a.given_up)
          (kept, a.shows, rest (D ∷ bad) (node_ordered job u who ways (w ++ d ∷ []) x.0 earlier more (op D N i f ps dropped js) a.shows ordered) (λ Q. worse_tells job u who ways makings bad earlier x.0 (op D N i f ps dropped js) told Q (tells Q))))
          (child_left roots more wider below earlier ordered bad tells d x.0 n (op D N i f ps st js) h)
        where
          kept : IsChild job u who ways j x.0
          kept = child_kept x.0 (node_within job s u who who ways ways Here change stand.makings stand.made stand.own_made (w ++ d ∷ []) x.0 earlier roots (op D N i f ps st js) h) called

      -- behind it
      rest_swept : (bad : List (List Requirement)) (d : ℕ) (earlier : List Sibling) (xs : List OpNumber) (is : Items G) → c < d → AreOrdered us earlier → Tells us earlier bad →
          ShowsChildren job s who ways w j d earlier roots xs is → Left d earlier xs (tree.sweep G M bad is)
      rest_swept bad d earlier xs no_item l o tells h = h
      rest_swept bad d earlier xs (said t is) l o tells h = rest_swept bad d earlier xs is l o tells h
      rest_swept bad d earlier [] (child_op n is) l o tells h = absurd h
      rest_swept bad d earlier (x ∷ xs) (child_op n is) l o tells h =
          one_swept bad d earlier x xs n is (λ e. absurd (omega (arith, l, e))) o tells h.0 h.1
          (λ worse o t. rest_swept worse (suc d) (earlier ++ record { op = x.0; needs = needs_issued job n } ∷ []) xs is (omega (arith, l)) o t h.2)

      -- it itself
      it_swept : (bad : List (List Requirement)) (d : ℕ) (earlier : List Sibling) (x : OpNumber) (xs : List OpNumber) (n : Node G) (is : Items G) → v ≡ w ++ d ∷ [] → c < suc d → AreOrdered us earlier → Tells us earlier bad →
          IsChild job s who ways j x.0 → IsIt job s who ways k (w ++ d ∷ []) x.0 earlier roots n →
          ShowsChildren job s who ways w j (suc d) (earlier ++ record { op = x.0; needs = needs_issued job n } ∷ []) roots xs is → Left d earlier (x ∷ xs) (tree.sweep G M bad (child_op (tree.settle G M n) is))
      it_swept bad d earlier x xs (op D N i f ps st js) is e l ordered tells called h rest =
          let n : Node G = op D N i f ps st js in
          let shown = over_shows job s who ways root stand k v it Here change (λ y z a. deep c y z (subst (λ q. Here ((q ++ y ∷ []) ++ z)) v_is a)) makings earlier roots more wider below n
          (subst (λ z. IsOpen job s who ways z k earlier roots n) (sym e) (subst (λ y. IsOpen job s who ways (w ++ d ∷ []) y earlier roots n) h.0 h.1)) closing_k over_k in
          let there = subst (λ z. Shows job u who ways z x.0 earlier more (tree.settle G M n)) e (subst (λ y. Shows job u who ways v y earlier more (tree.settle G M n)) (sym h.0) shown.0) in
          let told = node_told job u who ways (w ++ d ∷ []) x.0 earlier more (tree.settle G M n) there in
          let now = tree.stage_of G (tree.settle G M n) in
          subst (λ b. Left d earlier (x ∷ xs) (cond b (child_op (op D N i f ps dropped (tree.sweep G M [] js)) (tree.sweep G M (D ∷ bad) is)) (child_op (tree.settle G M n) (tree.sweep G M (cond (tree.has_failed G now) (D ∷ bad) bad) is))))
          (sym (ap (λ b. b && tree.meets_any G M bad D) (over_unwaiting now shown.1))) (
            child_kept x.0 h.1.0.within called,
            there,
            rest_swept (cond (tree.has_failed G now) (D ∷ bad) bad) (suc d) (earlier ++ record { op = x.0; needs = D } ∷ []) xs is l
                (node_ordered job u who ways (w ++ d ∷ []) x.0 earlier more (tree.settle G M n) there ordered)
                (λ Q. worse_tells job u who ways makings bad earlier x.0 (tree.settle G M n) told Q (tells Q)) rest,
          )

      pub among_swept : (c1 : ℕ) (bad : List (List Requirement)) (d : ℕ) (earlier : List Sibling) (xs : List OpNumber) (is : Items G) → d + c1 ≡ c → AreOrdered us earlier → Tells us earlier bad →
          HasAmong job s who ways (IsIt job s who ways k) c1 [] w j d earlier roots xs is → Left d earlier xs (tree.sweep G M bad (up_among G M c1 [] is))
      among_swept c1 bad d earlier xs no_item e o tells h = absurd h
      among_swept c1 bad d earlier xs (said t is) e o tells h = among_swept c1 bad d earlier xs is e o tells h
      among_swept c1 bad d earlier [] (child_op n is) e o tells h = absurd h
      among_swept zero bad d earlier (x ∷ xs) (child_op n is) e o tells h =
          it_swept bad d earlier x xs n is (v_is ∙ ap (λ z. w ++ z ∷ []) (sym (here e))) (omega (arith, here e)) o tells h.0 h.1 h.2
        where
          here : d + 0 ≡ c → d ≡ c
          here q = omega (arith, q)
      among_swept (suc c1) bad d earlier (x ∷ xs) (child_op n is) e o tells h =
          one_swept bad d earlier x xs n (up_among G M c1 [] is) (λ q. absurd (omega (arith, e, q))) o tells h.0 h.1
          (λ worse o t. among_swept c1 worse (suc d) (earlier ++ record { op = x.0; needs = needs_issued job n } ∷ []) xs is (omega (arith, e)) o t h.2)
