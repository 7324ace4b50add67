-- Down the way to an operation: it is shown where the way ends, and a step that it refuses is refused.
use Rattle.std.proofs.Common.{◌≡◌, ◌++◌, ◌∷◌, ◌∙◌, ℕ, zero, suc, Bool, List, None, Some, [], ap, cond, false, not, refl, subst, sym, true}
use Rattle.std.specs.Prelude.{◌<◌, length, slice_get}
use Rattle.std.proofs.lemmas.List.Elements.{All-append}
use Rattle.std.proofs.lemmas.Option.{none-some}
use Rattle.region_tree.specs.Requirements.{Requirement}
use Rattle.region_tree.specs.declared.tree.OpNumber.{OpNumber}
use Rattle.region_tree.specs.declared.tree.RootId.{RootId}
use Rattle.dependence_graph.specs.Knots.{number}
use Rattle.task_code.specs.declared.job.Job.{Job}
use Rattle.board_rules.specs.Boards.{Items, Kind, Operation as Node, Stepped, as_child, behind, child_op, in_op, no_item, op, said, step_among, step_in, still_open}
use Rattle.board_rules.specs.Boards as tree
use Rattle.board_rules.specs.Ground.{Ground}
use Rattle.board_rules.specs.Processes.{Map}
use Rattle.board_rules.specs.Running.{Machine}
use Rattle.regent_boards.specs.RegentMachine.{regent_ground}
use Rattle.code_boards.specs.Laws.{machine_of}
use Rattle.code_boards.specs.Views.{spaces_of}
use Rattle.board_terms.specs.States.{State, operation_at}
use Rattle.board_trees.specs.Shows.{Leads, Shows, ShowsChildren, needs_issued}
use Rattle.board_trees.specs.Told.{AreOrdered}
use Rattle.board_trees.specs.Waits.{Sibling}
use Rattle.board_trees.proofs.Along.{some_same}
use Rattle.board_trees.proofs.Open.{IsTold, IsToldOpen, WereMade, open_tells}
use Rattle.board_trees.proofs.Ordered.{node_ordered}
use Rattle.board_trees.proofs.Settled.{node_told}

either_same : {A : Type 0} (a : A) (b : Bool) → cond b a a ≡ a
either_same a true = refl
either_same a false = refl

module _ (job : Job) (s : State) (who : ℕ → ℕ) (ways : List (List ℕ)) (k : ℕ) where
  abbrev G : Ground
  G = regent_ground (spaces_of job.code)

  -- the operation as the tree has it
  pub record Found : Type 0 where
    pub way : List ℕ
    pub earlier : List Sibling
    pub above : List RootId
    pub node : Node G
    pub shows : Shows job s who ways way k earlier above node

  mutual
    pub found : (way w : List ℕ) (j : ℕ) (earlier : List Sibling) (above : List RootId) (n : Node G) → Shows job s who ways w j earlier above n → Leads job s j way k → Found
    found [] w j earlier above n h l = record { way = w; earlier = earlier; above = above; node = n; shows = subst (λ x. Shows job s who ways w x earlier above n) l h }
    found (c ∷ way) w j earlier above (op D N i f ps st is) h l =
        found_among c way w j 0 [] (above ++ (operation_at s j).frame.own) (operation_at s j).children is l.0 h.1 l.1 l.2

    found_among : (c : ℕ) (way w : List ℕ) (j d : ℕ) (earlier : List Sibling) (roots : List RootId) (ks : List OpNumber) (is : Items G) (x : ℕ) → ShowsChildren job s who ways w j d earlier roots ks is →
        slice_get ks c ≡ Some (number x) → Leads job s x way k → Found
    found_among c way w j d earlier roots ks no_item x h e l = absurd (none-some (number x) (ap (λ ks. slice_get ks c) (sym h) ∙ e))
    found_among c way w j d earlier roots ks (said t is) x h e l = found_among c way w j d earlier roots ks is x h e l
    found_among c way w j d earlier roots [] (child_op n is) x h e l = absurd h
    found_among zero way w j d earlier roots (y ∷ ys) (child_op n is) x h e l =
        found way (w ++ d ∷ []) y.0 earlier roots n h.1 (subst (λ (z : OpNumber). Leads job s z.0 way k) (sym (some_same y (number x) e)) l)
    found_among (suc c) way w j d earlier roots (y ∷ ys) (child_op n is) x h e l =
        found_among c way w j (suc d) (earlier ++ record { op = y.0; needs = needs_issued job n } ∷ []) roots ys is x h.2 e l

  module _ (kind : Kind) (makings : ℕ) (m : Map G) where
    abbrev M : Machine G
    M = machine_of job makings

    -- what the step makes of the operation itself: nothing
    abbrev pub OwnRefuses : Type 0
    OwnRefuses = (w : List ℕ) (earlier : List Sibling) (above : List RootId) (p : List ℕ) (before : Bool) (n : Node G) → Shows job s who ways w k earlier above n →
        IsTold job s earlier above before n → step_in G M kind [] p before m n ≡ None

    module _ (own_made : (j : ℕ) → WereMade job s (operation_at s j).frame.own) (own : OwnRefuses) where
      mutual
        pub refused : (way w : List ℕ) (j : ℕ) (earlier : List Sibling) (above : List RootId) (p : List ℕ) (before : Bool) (n : Node G) → Shows job s who ways w j earlier above n → Leads job s j way k →
            IsTold job s earlier above before n → step_in G M kind way p before m n ≡ None
        refused [] w j earlier above p before n h l t = own w earlier above p before n (subst (λ x. Shows job s who ways w x earlier above n) l h) t
        refused (c ∷ way) w j earlier above p before (op D N i f ps st is) h l t =
            ap (λ o. cond (tree.is_over G st) None (in_op G M D N i f ps st o))
            (refused_among c way w j 0 [] (above ++ (operation_at s j).frame.own) (operation_at s j).children is p 0 [] l.0
            (All-append (λ (r : RootId). r.0 < length s.roots) above (operation_at s j).frame.own t.made (own_made j)) h.1 l.1 l.2 tt (λ Q. refl))
            ∙ either_same None (tree.is_over G st)

        refused_among : (c : ℕ) (way w : List ℕ) (j d : ℕ) (earlier : List Sibling) (roots : List RootId) (ks : List OpNumber) (is : Items G) (p : List ℕ) (place : ℕ) (Ns : List (List Requirement)) (x : ℕ) →
            WereMade job s roots → ShowsChildren job s who ways w j d earlier roots ks is → slice_get ks c ≡ Some (number x) → Leads job s x way k →
            AreOrdered s.waits.knots earlier → ((Q : List Requirement) → IsToldOpen job makings s.waits.knots earlier Ns Q) → step_among G M kind c way p place Ns m is ≡ None
        refused_among c way w j d earlier roots ks no_item p place Ns x g h e l o tells = refl
        refused_among c way w j d earlier roots ks (said t is) p place Ns x g h e l o tells = ap (behind G M (said t)) (refused_among c way w j d earlier roots ks is p place Ns x g h e l o tells)
        refused_among c way w j d earlier roots [] (child_op n is) p place Ns x g h e l o tells = absurd h
        refused_among zero way w j d earlier roots (y ∷ ys) (child_op n is) p place Ns x g h e l o tells =
            ap (as_child G M is) (refused way (w ++ d ∷ []) y.0 earlier roots (place ∷ p) (not (tree.meets_any G M Ns (tree.needs_of G n))) n h.1
            (subst (λ (z : OpNumber). Leads job s z.0 way k) (sym (some_same y (number x) e)) l) (record { ordered = o; clear = tells (tree.needs_of G n); made = g }))
        refused_among (suc c) way w j d earlier roots (y ∷ ys) (child_op n is) p place Ns x g h e l o tells =
            ap (behind G M (child_op n)) (refused_among c way w j (suc d) (earlier ++ record { op = y.0; needs = needs_issued job n } ∷ []) roots ys is p (suc place) (still_open G M n Ns) x g h.2 e l
            (node_ordered job s who ways (w ++ d ∷ []) y.0 earlier roots n h.1 o)
            (λ Q. open_tells job s who ways makings earlier Ns y.0 n (node_told job s who ways (w ++ d ∷ []) y.0 earlier roots n h.1) Q (tells Q)))
