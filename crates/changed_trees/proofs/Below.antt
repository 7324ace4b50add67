-- A row, and all below it, where nothing changes there.
use Rattle.std.proofs.Common.{◌≡◌, ◌<◌, ◌≤◌, ◌++◌, ◌∷◌, ◌∙◌, ℕ, suc, List, [], ap, arith, length, map, subst, sym, true, append-nil, append_assoc}
use Rattle.std.specs.Prelude.{All}
use Rattle.std.specs.List.{Contains}
use Rattle.std.proofs.lemmas.List.Elements.{All-append}
use Rattle.region_tree.specs.Requirements.{Requirement}
use Rattle.region_tree.specs.declared.tree.OpNumber.{OpNumber}
use Rattle.region_tree.specs.declared.tree.RootId.{RootId}
use Rattle.dependence_graph.specs.Entries.{Knot}
use Rattle.dependence_graph.specs.Knots.{knot_at}
use Rattle.dependence_graph.specs.declared.stage.Stage.TheVariants as knot
use Rattle.task_code.specs.declared.job.Job.{Job}
use Rattle.board_rules.specs.Boards.{Items, Operation as Node, Stage as BoardStage, child_op, first, idle, no_item, op, said}
use Rattle.board_rules.specs.Ground.{Ground}
use Rattle.board_rules.specs.Running.{Element}
use Rattle.regent_boards.specs.Frames as board
use Rattle.regent_boards.specs.RegentMachine.{regent_ground}
use Rattle.code_boards.specs.Views.{spaces_of}
use Rattle.board_terms.specs.declared.operation.Operation.{Operation}
use Rattle.board_terms.specs.States.{State, operation_at}
use Rattle.board_trees.specs.Frames.{IsSeen}
use Rattle.board_trees.specs.Names.{AreMade, IsNaming}
use Rattle.board_trees.specs.Shows.{AreListed, IfRuns, IsChild, Row, Shows, ShowsChildren, needs_issued, siblings}
use Rattle.board_trees.specs.Stages.{ChildrenAre, Stands, WaitsWell, was_begun}
use Rattle.board_trees.specs.Waits.{Sibling, all_clear}
use Rattle.changed_trees.specs.Changes.{Change, ChangesKeep, IsWider}
use Rattle.changed_trees.proofs.Kept.{Matches, back, children_are_kept, clear_kept, if_runs, listed_kept, out_answers, seen_kept, shown_match, stands_kept, waits_well_kept, wider_on}

module _ (job : Job) (s u : State) (who now : ℕ → ℕ) (ways later : List (List ℕ)) (At : List ℕ → Type 0) (change : Change job s u who now ways later At)
    (makings : ℕ) (made : AreMade (length s.roots) who makings) (own_made : (k : ℕ) → All (λ (r : RootId). r.0 < length s.roots) (operation_at s k).frame.own) where
  abbrev G : Ground
  G = regent_ground (spaces_of job.code)

  abbrev Below : List RootId → Type 0
  Below roots = All (λ (r : RootId). r.0 < length s.roots) roots

  pub row_kept : (way : List ℕ) (j : ℕ) (earlier : List Sibling) (roots more : List RootId) (D N : List Requirement) (f : board.Frame) (ps : List (Element G)) (st : BoardStage G) (is : Items G) →
      IsWider u roots more → Below roots → ¬ At way → Matches job (operation_at s j).children is →
      Row job s who ways way j earlier roots D N f ps st is → Row job u now later way j earlier more D N f ps st is
  row_kept way j earlier roots more D N f ps st is wider below n children h =
      let same : operation_at s j ≡ operation_at u j = sym (change.row j way h.way_is n) in
      let knot_same : knot_at s.waits.knots j ≡ knot_at u.waits.knots j = sym (change.knot j way h.way_is n) in
      record {
        within = change.size j h.within;
        knot = change.knots j h.knot;
        way_is = change.way j way h.way_is;
        own = subst (λ (o : Operation). (name : ℕ → ℕ) → IsNaming u.roots now more name → f.own ≡ map (λ (r : RootId). name r.0) o.frame.own) same
            (λ name is. h.own name (back job s u who now ways later At change roots more wider below name is));
        seen = subst (λ (o : Operation). IfRuns job st (IsSeen job.code u.tree u.map u.roots now more o N f ps)) same
            (if_runs job s u who now ways later At change st (seen_kept job s u who now ways later At change roots more wider below (operation_at s j) N f ps) h.seen);
        said_is = h.said_is ∙ ap (λ (o : Operation). o.said) same;
        stands = subst (λ (x : Knot). Stands job.code u.roots now more u x.stage (operation_at u j) N st) knot_same
            (subst (λ (o : Operation). Stands job.code u.roots now more u (knot_at s.waits.knots j).stage o N st) same
            (stands_kept job s u who now ways later At change roots more wider below (knot_at s.waits.knots j).stage (operation_at s j) N st
            (out_answers job s u who now ways later At change D N earlier (operation_at s j) (knot_at s.waits.knots j).on is st children h.waits) h.stands));
        free = subst (λ (x : Knot). x.stage ≡ knot.Parked → st ≡ idle first → x.on ≡ []) knot_same h.free;
        waits = subst (λ (x : Knot). WaitsWell job.code u.waits.knots D N earlier (siblings job (operation_at u j).children is) x.on st) knot_same
            (subst (λ (o : Operation). WaitsWell job.code u.waits.knots D N earlier (siblings job o.children is) (knot_at s.waits.knots j).on st) same
            (waits_well_kept job s u who now ways later At change roots (knot_at s.waits.knots j).stage (operation_at s j) D N earlier (siblings job (operation_at s j).children is)
            (knot_at s.waits.knots j).on st (change.failed j way h.way_is n) h.stands h.waits));
        begun = subst (λ (x : Knot). was_begun x.stage ≡ true → all_clear u.waits.knots D earlier ≡ true) knot_same (λ b. clear_kept job s u who now ways later At change D earlier (h.begun b));
        listed = subst (λ (o : Operation). AreListed job u now more j (siblings job o.children is)) same
            (listed_kept job s u who now ways later At change roots more wider below j (change.entries j way h.way_is n) (siblings job (operation_at s j).children is) h.listed);
        children_are = subst (λ (o : Operation). ChildrenAre job.code u o.children st) same
            (children_are_kept job s u who now ways later At change (operation_at s j).children st (change.over j way h.way_is n) h.children_are);
      }

  pub is_child_kept : (j k : ℕ) → k < length s.operations → IsChild job s who ways j k → IsChild job u now later j k
  is_child_kept j k there h = record { parent = change.parent k there ∙ h.parent; later = h.later }

  pub node_within : (way : List ℕ) (k : ℕ) (earlier : List Sibling) (above : List RootId) (n : Node G) → Shows job s who ways way k earlier above n → k < length s.operations
  node_within way k earlier above (op D N i f ps st is) h = h.0.within

  mutual
    pub shows_kept : (way : List ℕ) (k : ℕ) (earlier : List Sibling) (above more : List RootId) (n : Node G) → IsWider u above more → Below above → ((z : List ℕ) → ¬ At (way ++ z)) →
        Shows job s who ways way k earlier above n → Shows job u now later way k earlier more n
    shows_kept way k earlier above more (op D N i f ps st is) wider below apart h =
        let here : ¬ At way = λ a. apart [] (subst At (sym (append-nil way)) a) in
        let own = (operation_at s k).frame.own in
        let under = All-append (λ (r : RootId). r.0 < length s.roots) above own below (own_made k) in
        subst (λ (o : Operation). Row job u now later way k earlier (more ++ o.frame.own) D N f ps st is
        × ShowsChildren job u now later way k 0 [] (more ++ o.frame.own) o.children is) (sym (change.row k way h.0.way_is here)) (
          row_kept way k earlier (above ++ own) (more ++ own) D N f ps st is (wider_on u above more own wider) under here
              (shown_match job s who ways way k 0 [] (above ++ own) (operation_at s k).children is h.1) h.0,
          children_kept way k 0 [] (above ++ own) (more ++ own) (operation_at s k).children is (wider_on u above more own wider) under
              (λ d b z a. apart (d ∷ z) (subst At (append_assoc way (d ∷ []) z) a)) h.1,
        )

    pub children_kept : (way : List ℕ) (j c : ℕ) (earlier : List Sibling) (roots more : List RootId) (ks : List OpNumber) (is : Items G) → IsWider u roots more → Below roots →
        ((d : ℕ) → c ≤ d → (z : List ℕ) → ¬ At ((way ++ d ∷ []) ++ z)) → ShowsChildren job s who ways way j c earlier roots ks is → ShowsChildren job u now later way j c earlier more ks is
    children_kept way j c earlier roots more ks no_item wider below apart h = h
    children_kept way j c earlier roots more ks (said t is) wider below apart h = children_kept way j c earlier roots more ks is wider below apart h
    children_kept way j c earlier roots more [] (child_op n is) wider below apart h = absurd h
    children_kept way j c earlier roots more (x ∷ xs) (child_op n is) wider below apart h = (
      is_child_kept j x.0 (node_within (way ++ c ∷ []) x.0 earlier roots n h.1) h.0,
      shows_kept (way ++ c ∷ []) x.0 earlier roots more n wider below (apart c (omega arith)) h.1,
      children_kept way j (suc c) (earlier ++ record { op = x.0; needs = needs_issued job n } ∷ []) roots more xs is wider below (λ d b. apart d (omega (arith, b))) h.2,
    )

pub changes_keep : ChangesKeep
changes_keep job s u who now ways later changed makings change made own_made way k earlier above more n wider below apart h =
    shows_kept job s u who now ways later (Contains changed) change makings made own_made way k earlier above more n wider below apart h
