-- What a segment makes of its operation in the tree, and how that is settled.
use Rattle.std.proofs.Common.{◌≡◌, ◌+◌, ◌++◌, ◌∷◌, ◌∙◌, ◌||◌, ◌&&◌, ℕ, suc, zero, Bool, List, [], ap, arith, cond, false, length, refl, sym, true}
use Rattle.region_tree.specs.Requirements.{Requirement}
use Rattle.region_tree.specs.declared.tree.OpNumber.{OpNumber}
use Rattle.region_tree.specs.declared.tree.RootId.{RootId}
use Rattle.task_code.specs.declared.job.Job.{Job}
use Rattle.board_rules.specs.Boards.{Items, Operation as Node, Stage as BoardStage, Wait as BoardWait, ◌+++◌, child, child_count, child_op, closing, dropped, filling, first, idle, no_item, nothing, op, out, over, part, said, stopped}
use Rattle.board_rules.specs.Boards as tree
use Rattle.board_rules.specs.Ground.{Ground}
use Rattle.board_rules.specs.RootNumbers.{made_among, made_in}
use Rattle.board_rules.specs.Running.{Element, Machine, Yield, await, calls, ends, make, stops, want}
use Rattle.regent_boards.specs.Frames as board
use Rattle.regent_boards.specs.RegentMachine.{regent_ground}
use Rattle.code_boards.specs.Laws.{machine_of}
use Rattle.code_boards.specs.Views.{spaces_of}
use Rattle.board_terms.specs.declared.operation.Said.{Said}
use Rattle.board_terms.specs.Gives.{also_said}
use Rattle.board_terms.specs.States.{State}
use Rattle.board_trees.specs.Shows.{Shows, ShowsChildren, needs_issued, printed, said_in, siblings}
use Rattle.board_trees.specs.Waits.{Sibling}
use Rattle.board_trees.proofs.Settled.{settled, stop_twice}
use Rattle.changed_trees.specs.Given.{left_of}
use Rattle.changed_trees.proofs.Kept.{Matches}

module _ (job : Job) where
  abbrev G : Ground
  G = regent_ground (spaces_of job.code)

  -- ---- text behind the children

  abbrev pub with_text : Items G → List ℕ → Items G
  with_text is t = ◌+++◌ G is (said t no_item)

  pub text_siblings : (ks : List OpNumber) (is : Items G) (t : List ℕ) → siblings job ks (with_text is t) ≡ siblings job ks is
  text_siblings ks no_item t = refl
  text_siblings ks (said x is) t = text_siblings ks is t
  text_siblings [] (child_op n is) t = refl
  text_siblings (k ∷ ks) (child_op n is) t = ap (λ xs. record { op = k.0; needs = needs_issued job n } ∷ xs) (text_siblings ks is t)

  pub text_count : (is : Items G) (t : List ℕ) → child_count G (with_text is t) ≡ child_count G is
  text_count no_item t = refl
  text_count (said x is) t = text_count is t
  text_count (child_op n is) t = ap (λ c. suc c) (text_count is t)

  pub text_made : (K : ℕ → Machine G) (is : Items G) (t : List ℕ) → made_among G K (with_text is t) ≡ made_among G K is
  text_made K no_item t = refl
  text_made K (said x is) t = text_made K is t
  text_made K (child_op n is) t = ap (λ c. made_in G K n + c) (text_made K is t)

  pub text_shows : (s : State) (who : ℕ → ℕ) (ways : List (List ℕ)) (way : List ℕ) (j c : ℕ) (earlier : List Sibling) (roots : List RootId) (ks : List OpNumber) (is : Items G) (t : List ℕ) →
      ShowsChildren job s who ways way j c earlier roots ks is → ShowsChildren job s who ways way j c earlier roots ks (with_text is t)
  text_shows s who ways way j c earlier roots ks no_item t h = h
  text_shows s who ways way j c earlier roots ks (said x is) t h = text_shows s who ways way j c earlier roots ks is t h
  text_shows s who ways way j c earlier roots [] (child_op n is) t h = absurd h
  text_shows s who ways way j c earlier roots (k ∷ ks) (child_op n is) t h =
      (h.0, h.1, text_shows s who ways way j (suc c) (earlier ++ record { op = k.0; needs = needs_issued job n } ∷ []) roots ks is t h.2)

  pub many_children : (ks : List OpNumber) (is : Items G) → Matches job ks is → child_count G is ≡ length ks
  many_children ks no_item h = ap length (sym h)
  many_children ks (said x is) h = many_children ks is h
  many_children [] (child_op n is) h = absurd h
  many_children (k ∷ ks) (child_op n is) h = ap (λ c. suc c) (many_children ks is h)

  also_behind : (c : ℕ) (t : List ℕ) (p : Said) (ps : List Said) → p ∷ also_said c t ps ≡ also_said c t (p ∷ ps)
  also_behind c [] p ps = refl
  also_behind c (x ∷ xs) p ps = refl

  printed_behind : (e c : ℕ) (x t : List ℕ) (ps : List Said) → printed job e x (also_said c t ps) ≡ also_said c t (printed job e x ps)
  printed_behind e c [] t ps = refl
  printed_behind e c (y ∷ ys) t ps = also_behind c t (record { children = e; text = y ∷ ys }) ps

  printed_last : (c : ℕ) (t : List ℕ) → printed job c t [] ≡ also_said c t []
  printed_last c [] = refl
  printed_last c (x ∷ xs) = refl

  pub text_said : (e : ℕ) (is : Items G) (t : List ℕ) → said_in job e (with_text is t) ≡ also_said (e + child_count G is) t (said_in job e is)
  text_said e no_item t =
      let none : e ≡ e + 0 = omega arith in
      printed_last e t ∙ ap (λ c. also_said c t []) none
  text_said e (said x is) t = ap (printed job e x) (text_said e is t) ∙ printed_behind e (e + child_count G is) x t (said_in job e is)
  text_said e (child_op n is) t =
      let more : suc e + child_count G is ≡ e + suc (child_count G is) = omega arith in
      text_said (suc e) is t ∙ ap (λ c. also_said c t (said_in job (suc e) is)) more

  -- ---- settling

  module _ (makings : ℕ) where
    abbrev M : Machine G
    M = machine_of job makings

    -- stopped where it waits for one that failed, but not closed
    abbrev pub restop : Node G → Node G
    restop (op D N i f ps st is) = op D N i f ps (tree.stop G M N st is) is

    abbrev pub paused_of : Node G → Node G
    paused_of n = restop (left_of job makings n)

    given_needs : (D N : List Requirement) (i : ℕ) (is : Items G) (t : List ℕ) (f : board.Frame) (ps : List (Element G)) (y : Yield G) →
        needs_issued job (restop (tree.given G M [] D N i is t f ps y).left) ≡ D
    given_needs D N i is t f ps (calls xs) = refl
    given_needs D N i is t f ps (want k) = refl
    given_needs D N i is t f ps (await c) = refl
    given_needs D N i is t f ps (make d) = chosen (M.sound d)
      where
        chosen : (b : Bool) → needs_issued job (restop (cond {A = tree.Stepped G (Node G)} b
            (record { left = op D (M.grown [] i d N) (suc i) (M.pushed [] i d f) ps (idle nothing) (with_text is t); effects = M.zeros [] i d })
            (record { left = op D N i f [] (closing (tree.at_fault G.broken)) (with_text is t); effects = [] })).left) ≡ D
        chosen true = refl
        chosen false = refl
    given_needs D N i is t f ps (ends v) = refl
    given_needs D N i is t f ps (stops x) = refl

    pub paused_needs : (n : Node G) → needs_issued job (paused_of n) ≡ needs_issued job n
    paused_needs (op D N i f ps (out w d) is) =
        let a = M.segment (tree.met_by G M w f (tree.awaited G M w is)) (ps ++ d) in
        given_needs D N i is a.text a.frame a.parts a.yields
    paused_needs (op D N i f ps (idle w) is) = refl
    paused_needs (op D N i f ps (filling w d l) is) = refl
    paused_needs (op D N i f ps (closing e) is) = refl
    paused_needs (op D N i f ps (over e) is) = refl
    paused_needs (op D N i f ps dropped is) = refl

    -- what shows is swept
    abbrev items_of : Node G → Items G
    items_of (op D N i f ps st is) = is

    pub shown_swept : (s : State) (who : ℕ → ℕ) (ways : List (List ℕ)) (way : List ℕ) (k : ℕ) (earlier : List Sibling) (above : List RootId) (D N : List Requirement) (i : ℕ) (f : board.Frame)
        (ps : List (Element G)) (st : BoardStage G) (is : Items G) → Shows job s who ways way k earlier above (op D N i f ps st is) → tree.sweep G M [] is ≡ is
    shown_swept s who ways way k earlier above D N i f ps st is h = ap items_of (settled job s who ways makings way k earlier above (op D N i f ps st is) h)

    pub text_swept : (bad : List (List Requirement)) (is : Items G) (t : List ℕ) → tree.sweep G M bad (with_text is t) ≡ with_text (tree.sweep G M bad is) t
    text_swept bad no_item t = refl
    text_swept bad (said x is) t = ap (λ js. said x js) (text_swept bad is t)
    text_swept bad (child_op n is) t = chosen (tree.is_waiting G (tree.stage_of G n)) (tree.meets_any G M bad (tree.needs_of G n))
        (text_swept (tree.needs_of G n ∷ bad) is t) (text_swept (cond (tree.has_failed G (tree.stage_of G n)) (tree.needs_of G n ∷ bad) bad) is t)
      where
        chosen : (a b : Bool) → tree.sweep G M (tree.needs_of G n ∷ bad) (with_text is t) ≡ with_text (tree.sweep G M (tree.needs_of G n ∷ bad) is) t →
            tree.sweep G M (cond (tree.has_failed G (tree.stage_of G n)) (tree.needs_of G n ∷ bad) bad) (with_text is t)
            ≡ with_text (tree.sweep G M (cond (tree.has_failed G (tree.stage_of G n)) (tree.needs_of G n ∷ bad) bad) is) t →
            cond (a && b) (child_op (tree.as_dropped G M n) (tree.sweep G M (tree.needs_of G n ∷ bad) (with_text is t)))
            (child_op n (tree.sweep G M (cond (tree.has_failed G (tree.stage_of G n)) (tree.needs_of G n ∷ bad) bad) (with_text is t)))
            ≡ with_text (cond (a && b) (child_op (tree.as_dropped G M n) (tree.sweep G M (tree.needs_of G n ∷ bad) is))
            (child_op n (tree.sweep G M (cond (tree.has_failed G (tree.stage_of G n)) (tree.needs_of G n ∷ bad) bad) is))) t
        chosen true true p q = ap (λ js. child_op (tree.as_dropped G M n) js) p
        chosen true false p q = ap (λ js. child_op n js) q
        chosen false b p q = ap (λ js. child_op n js) q

    pub settle_restop : (D N : List Requirement) (i : ℕ) (f : board.Frame) (ps : List (Element G)) (st : BoardStage G) (is : Items G) → tree.sweep G M [] is ≡ is →
        tree.settle G M (restop (op D N i f ps st is)) ≡ tree.settle G M (op D N i f ps st is)
    settle_restop D N i f ps st is e = ap (tree.settled G M D N i f ps (tree.stop G M N st is)) e
        ∙ ap (λ x. op D N i f ps (tree.close G M x is) is) (stop_twice G M N st is)
        ∙ ap (tree.settled G M D N i f ps st) (sym e)

    -- ---- who waits for one that failed

    text_failed : (Q : List Requirement) (is : Items G) (t : List ℕ) → tree.failed_on G M Q (with_text is t) ≡ tree.failed_on G M Q is
    text_failed Q no_item t = refl
    text_failed Q (said x is) t = text_failed Q is t
    text_failed Q (child_op n is) t = ap (λ b. tree.has_failed G (tree.stage_of G n) && M.meets (tree.needs_of G n) Q || b) (text_failed Q is t)

    text_failed_at : (is : Items G) (t : List ℕ) (c : ℕ) → tree.failed_at G M (with_text is t) c ≡ tree.failed_at G M is c
    text_failed_at no_item t c = refl
    text_failed_at (said x is) t c = text_failed_at is t c
    text_failed_at (child_op n is) t zero = refl
    text_failed_at (child_op n is) t (suc c) = text_failed_at is t c

    pub text_waits : (N : List Requirement) (w : BoardWait G) (is : Items G) (t : List ℕ) → tree.waits_for_failed G M N w (with_text is t) ≡ tree.waits_for_failed G M N w is
    text_waits N first is t = refl
    text_waits N nothing is t = refl
    text_waits N (part k) is t = text_failed (M.narrowed N k) is t
    text_waits N (child c) is t = text_failed_at is t c
