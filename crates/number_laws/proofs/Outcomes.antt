-- A finished board with roots by numbers has the outcome of the order run with roots by numbers.
use Rattle.std.proofs.Common.{◌≡◌, ◌+◌, ◌∷◌, ◌∙◌, ◌<◌, List, None, Option, Some, [], ap, arith, refl, subst, suc, sym, true, zero, ℕ}
use Rattle.board_rules.specs.Processes.{Map, Result, done, fails, spent}
use Rattle.board_rules.specs.Running.{Laws, Machine, run_on}
use Rattle.board_rules.specs.Boards.{is_over, stage_of}
use Rattle.board_rules.specs.Journals.{Entry, Job, Outcome, State, answered, faulted, finished, order_run, outcome_with, shown, told, unfinished}
use Rattle.board_rules.specs.Renaming.{Base, Renamed, Renames, Roots, ground_over}
use Rattle.board_rules.specs.RootNumbers.{replay_numbered}
use Rattle.board_rules.specs.RootNames.{pick, total}
use Rattle.board_rules.specs.ByNumber.{Agrees, Renamable, in_order, made_in_order, on_board, run_maker, run_making}
use Rattle.board_rules.specs.NumberedRuns.{Making, numbered_order_run, numbered_run}
use Rattle.number_laws.proofs.Naming.{numbers_as_ordered}
use Rattle.number_laws.proofs.RunNames.{Differ, Each, Other, run_names}
use Rattle.number_laws.proofs.RunByNumber.{Reads, Same, run_same}

-- ---- names by place in a list

pick_other : (b : ℕ) (x : Making) (xs : List Making) (n : ℕ) → x.making < b → Each (Other x) xs → x.maker ≡ (pick b xs n).maker → x.making ≡ (pick b xs n).making → ⊥
pick_other b x [] n l h e g = omega (arith, l, g)
pick_other b x (y ∷ xs) zero l h e g = h.0 e g
pick_other b x (y ∷ xs) (suc n) l h e g = pick_other b x xs n l h.1 e g

pick_differ : (b : ℕ) (xs : List Making) (n m : ℕ) → total xs < b → Differ xs → n < m → (pick b xs n).maker ≡ (pick b xs m).maker → (pick b xs n).making ≡ (pick b xs m).making → ⊥
pick_differ b [] n m l h k e g = omega (arith, k, g)
pick_differ b (x ∷ xs) zero zero l h k e g = omega (arith, k)
pick_differ b (x ∷ xs) zero (suc m) l h k e g = pick_other b x xs m (omega (arith, l)) h.0 e g
pick_differ b (x ∷ xs) (suc n) zero l h k e g = omega (arith, k)
pick_differ b (x ∷ xs) (suc n) (suc m) l h k e g = pick_differ b xs n m (omega (arith, l)) h.1 (omega (arith, k)) e g

module _ (B : Base) (X Y : Roots B) (M : ℕ → Machine (ground_over B X)) (K : Machine (ground_over B Y)) (rename : (ℕ → List ℕ) → (ℕ → ℕ) → Renames B X Y) where
  reads_picked : (R : Renames B X Y) (maker : ℕ → List ℕ) (making : ℕ → ℕ) (W : Renamed B X Y M K R maker making) (b : ℕ) (xs : List Making) (n : ℕ) →
      ((j : ℕ) → (maker (n + j) ≡ (pick b xs j).maker) × (making (n + j) ≡ (pick b xs j).making)) → Reads B X Y M K R maker making W n xs
  reads_picked R maker making W b [] n h = tt
  reads_picked R maker making W b (x ∷ xs) n h = (
    subst (λ k. maker k ≡ x.maker) (omega arith) (h 0).0,
    subst (λ k. making k ≡ x.making) (omega arith) (h 0).1,
    reads_picked R maker making W b xs (suc n) (λ j. (subst (λ k. maker k ≡ (pick b xs j).maker) (omega arith) (h (suc j)).0, subst (λ k. making k ≡ (pick b xs j).making) (omega arith) (h (suc j)).1)),
  )

  -- the same text, answer and fault, and maps that are alike by a renaming
  abbrev pub SameOutcome : (X.Location → Y.Location) → Outcome (ground_over B X) → Outcome (ground_over B Y) → Type 0
  SameOutcome loc (finished t a m) (finished s b u) = (t ≡ s) × (a ≡ b) × ((l : X.Location) → u (loc l) ≡ m l)
  SameOutcome loc (faulted t x) (faulted s y) = (t ≡ s) × (x ≡ y)
  SameOutcome loc unfinished unfinished = Unit {0}
  SameOutcome loc _ _ = ⊥

  text_in : List B.Byte → Outcome (ground_over B Y) → List B.Byte
  text_in d (finished t a m) = t
  text_in d (faulted t x) = t
  text_in d unfinished = d

  answer_in : B.Answer → Outcome (ground_over B Y) → B.Answer
  answer_in d (finished t a m) = a
  answer_in d (faulted t x) = d
  answer_in d unfinished = d

  map_in : Map (ground_over B Y) → Outcome (ground_over B Y) → Map (ground_over B Y)
  map_in d (finished t a m) = m
  map_in d (faulted t x) = d
  map_in d unfinished = d

  fault_in : Outcome (ground_over B Y) → Option B.Fault
  fault_in (finished t a m) = None
  fault_in (faulted t x) = Some x
  fault_in unfinished = None

  agreed : (x : Option B.Fault) (t : List B.Byte) (a : B.Answer) (m : Map (ground_over B X)) (v : Map (ground_over B Y)) (one two : X.Location → Y.Location) → ((l : X.Location) → v (one l) ≡ m l) →
      (q : Outcome (ground_over B X)) (s : Outcome (ground_over B Y)) → SameOutcome two q s → outcome_with (ground_over B Y) K x t a v ≡ s → ¬ (q ≡ unfinished) → Agrees B X Y M K rename x t a m one two q
  unfolding text_in answer_in map_in fault_in
  agreed None t c m v one two h (finished w b n) (finished s d u) a e z = (
    refl,
    ap (text_in t) e ∙ sym a.0,
    ap (answer_in c) e ∙ sym a.1,
    λ l o same. sym (h l) ∙ ap (λ (y : Outcome (ground_over B Y)). map_in v y (one l)) e ∙ ap u same ∙ a.2 o,
  )
  agreed None t c m v one two h (faulted w y) (faulted s x) a e z = absurd cc
  agreed (Some b) t c m v one two h (finished w d n) (finished s g u) a e z = absurd cc
  agreed (Some b) t c m v one two h (faulted w y) (faulted s x) a e z = (ap fault_in e ∙ ap (λ y. Some y) (sym a.1), ap (text_in t) e ∙ sym a.0)
  agreed x t c m v one two h (finished w b n) (faulted s y) a e z = absurd a
  agreed x t c m v one two h (finished w b n) unfinished a e z = absurd a
  agreed x t c m v one two h (faulted w y) (finished s b u) a e z = absurd a
  agreed x t c m v one two h (faulted w y) unfinished a e z = absurd a
  agreed x t c m v one two h unfinished s a e z = absurd (z refl)

  pub same_ended : (two : X.Location → Y.Location) (q : Outcome (ground_over B X)) (s : Outcome (ground_over B Y)) → SameOutcome two q s → ¬ (q ≡ unfinished) → ¬ (s ≡ unfinished)
  same_ended two (finished t b m) (finished s d u) a n i = absurd cc
  same_ended two (finished t b m) (faulted s y) a n i = absurd a
  same_ended two (finished t b m) unfinished a n i = absurd a
  same_ended two (faulted t x) (finished s d u) a n i = absurd a
  same_ended two (faulted t x) (faulted s y) a n i = absurd cc
  same_ended two (faulted t x) unfinished a n i = absurd a
  same_ended two unfinished s a n i = n refl

  module _ (job : Job (ground_over B X)) (named : Job (ground_over B Y)) (can : Renamable B X Y M K rename job named) where
    pub order_runs_same : (k : ℕ) → SameOutcome (in_order B X Y M K rename k job) (numbered_order_run (ground_over B X) M k job) (order_run (ground_over B Y) K k named)
    order_runs_same k = by_result (numbered_run (ground_over B X) M k [] job.needs 0 job.frame [] [] 0 job.map).result (run_on (ground_over B Y) K k [] named.needs 0 named.frame [] [] named.map) same
      where
        made : List Making
        made = made_in_order B X Y M K rename k job

        maker : ℕ → List ℕ
        maker = run_maker B X Y M K rename k job

        making : ℕ → ℕ
        making = run_making B X Y M K rename k job

        R : Renames B X Y
        R = rename maker making

        renamed : Renamed B X Y M K R maker making
        renamed = can.renamed maker making
            (λ n m l a b. pick_differ (suc (total made)) made n m (omega arith) (run_names (ground_over B X) M k [] job.needs 0 job.frame [] [] 0 job.map).differ l a b)

        same : Same B X Y M K R maker making renamed (numbered_run (ground_over B X) M k [] job.needs 0 job.frame [] [] 0 job.map).result
            (run_on (ground_over B Y) K k [] named.needs 0 named.frame [] [] named.map)
        same = subst (λ (q : Result (ground_over B Y) B.Answer). Same B X Y M K R maker making renamed (numbered_run (ground_over B X) M k [] job.needs 0 job.frame [] [] 0 job.map).result q)
            (λ i. run_on (ground_over B Y) K k [] (sym (can.needs maker making) i) 0 (sym (can.frame maker making) i) [] [] named.map)
            (run_same B X Y M K R maker making renamed k [] job.needs 0 job.frame [] [] 0 job.map named.map (can.map maker making)
            (reads_picked R maker making renamed (suc (total made)) made 0
            (λ j. (subst (λ n. maker n ≡ (pick (suc (total made)) made j).maker) (omega arith) refl, subst (λ n. making n ≡ (pick (suc (total made)) made j).making) (omega arith) refl))))

        by_result : (q : Result (ground_over B X) B.Answer) (s : Result (ground_over B Y) B.Answer) → Same B X Y M K R maker making renamed q s →
            SameOutcome R.loc (shown (ground_over B X) (M 0) q) (shown (ground_over B Y) K s)
        by_result (done a t m) (done b s u) h = (h.1, h.0, h.2)
        by_result (done a t m) (fails y s) h = absurd h
        by_result (done a t m) spent h = absurd h
        by_result (fails x t) (done b s u) h = absurd h
        by_result (fails x t) (fails y s) h = (h.1, h.0)
        by_result (fails x t) spent h = absurd h
        by_result spent (done b s u) h = absurd h
        by_result spent (fails y s) h = absurd h
        by_result spent spent h = tt

    -- For every journal: the finished board with roots by numbers has the outcome of the order run with
    -- roots by numbers.
    pub finished_by_journal : Laws (ground_over B Y) K → (journal : List Entry) (t : State (ground_over B X)) (k : ℕ) → replay_numbered (ground_over B X) M job journal ≡ Some t →
        is_over (ground_over B X) (stage_of (ground_over B X) t.tree) ≡ true → ¬ (numbered_order_run (ground_over B X) M k job ≡ unfinished) →
        Agrees B X Y M K rename (told (ground_over B X) (M 0) t.tree).fault (told (ground_over B X) (M 0) t.tree).text (answered (ground_over B X) (M 0) t.tree) t.map
        (on_board B X Y M K rename job journal t) (in_order B X Y M K rename k job) (numbered_order_run (ground_over B X) M k job)
    finished_by_journal laws journal t k h o e =
        let one = on_board B X Y M K rename job journal t in
        let two = in_order B X Y M K rename k job in
        let run = order_runs_same k in
        let board = numbers_as_ordered B X Y M K rename job named journal t h can laws k o (same_ended two (numbered_order_run (ground_over B X) M k job) (order_run (ground_over B Y) K k named) run e) in
        agreed (told (ground_over B X) (M 0) t.tree).fault (told (ground_over B X) (M 0) t.tree).text (answered (ground_over B X) (M 0) t.tree) t.map board.0 one two board.1 (numbered_order_run (ground_over B X) M k job) (order_run (ground_over B Y) K k named) run board.2 e
