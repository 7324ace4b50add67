-- A claim, and each copy for it, change the stage of one operation alone; a back puts the old stage there.
use Rattle.std.proofs.Common.{◌≡◌, ◌++◌, ◌∷◌, ◌∙◌, ◌&&◌, ◌||◌, Bool, List, None, Option, Some, [], ap, cond, drop, false, not, refl, suc, sym, take, true, zero, ℕ}
use Rattle.std.proofs.lemmas.Option.{none-some, same_Some}
use Rattle.board_rules.specs.Ground.{Ground}
use Rattle.board_rules.specs.Processes.{Map}
use Rattle.board_rules.specs.Running.{Element, Laws, Machine, Path, Spot, filled}
use Rattle.board_rules.specs.Boards.{Items, Operation, Stage, Stepped, Wait, all_ended, all_over, as_child, back, behind, child, child_op, claim, close, closing, copied, copy, dropped, ending_with, failed_at, failed_on, filling, first, has_failed, idle, in_op, is_over, is_ready, is_waiting, meets_any, needs_of, no_item, nothing, op, out, over, own_step, part, said, settle, settled, stage_of, step_among, step_in, still_open, stop, stopped, sweep, unchanged, waits_for_failed, wants}
use Rattle.board_rules.specs.Journals.{Entry, State, after_entries, after_entry, opened, stepped}
use Rattle.board_rules.specs.Backs.{TakenBack, claimed, copies}
use Rattle.board_laws.proofs.Reaching.{by_test}
use Rattle.board_laws.proofs.Calm.{AllCalm, Calm, CalmItems, CalmStage, each_calm, worse}
use Rattle.board_laws.proofs.Ready.{journal_calm}
use Rattle.board_laws.proofs.Outcomes.{none_stays, opened_good}

module _ (G : Ground) (M : Machine G) (L : Laws G M) where
  -- ---- another stage for one operation

  abbrev mutual
    pub put_stage : Stage G → List ℕ → Operation G → Operation G
    put_stage x [] (op D N i f ps st is) = op D N i f ps x is
    put_stage x (c ∷ way) (op D N i f ps st is) = op D N i f ps st (put_among x c way is)

    pub put_among : Stage G → ℕ → List ℕ → Items G → Items G
    put_among x c way no_item = no_item
    put_among x c way (said t is) = said t (put_among x c way is)
    put_among x zero way (child_op n is) = child_op (put_stage x way n) is
    put_among x (suc c) way (child_op n is) = child_op n (put_among x c way is)

  -- the operation waits for this, and none above it is over
  abbrev mutual
    pub Waits : Wait G → List ℕ → Operation G → Type 0
    Waits w [] (op D N i f ps st is) = st ≡ idle w
    Waits w (c ∷ way) (op D N i f ps st is) = (is_over G st ≡ false) × WaitsAmong w c way is

    pub WaitsAmong : Wait G → ℕ → List ℕ → Items G → Type 0
    WaitsAmong w c way no_item = ⊥
    WaitsAmong w c way (said t is) = WaitsAmong w c way is
    WaitsAmong w zero way (child_op n is) = Waits w way n
    WaitsAmong w (suc c) way (child_op n is) = WaitsAmong w c way is

  abbrev pub ClaimOf : Wait G → Stage G → Type 0
  ClaimOf w (filling v d l) = v ≡ w
  ClaimOf w (out v d) = v ≡ w
  ClaimOf w _ = ⊥

  -- to others it is as it was while it waited
  record Alike (a b : Operation G) : Type 0 where
    needs : needs_of G b ≡ needs_of G a
    over : is_over G (stage_of G b) ≡ is_over G (stage_of G a)
    failed : has_failed G (stage_of G b) ≡ has_failed G (stage_of G a)
    waits : is_waiting G (stage_of G b) ≡ true → is_waiting G (stage_of G a) ≡ true

  claim_alike : (w : Wait G) (x st : Stage G) (D N : G.Needs) (i : ℕ) (f : G.Frame) (ps : List (Element G)) (is : Items G) → ClaimOf w x → st ≡ idle w →
      Alike (op D N i f ps st is) (op D N i f ps x is)
  claim_alike w (filling v d l) st D N i f ps is h e = record {
    needs = refl;
    over = ap (is_over G) (sym e);
    failed = ap (has_failed G) (sym e);
    waits = λ k. absurd cc;
  }
  claim_alike w (out v d) st D N i f ps is h e = record {
    needs = refl;
    over = ap (is_over G) (sym e);
    failed = ap (has_failed G) (sym e);
    waits = λ k. absurd cc;
  }
  claim_alike w (idle v) st D N i f ps is h e = absurd h
  claim_alike w (closing v) st D N i f ps is h e = absurd h
  claim_alike w (over v) st D N i f ps is h e = absurd h
  claim_alike w dropped st D N i f ps is h e = absurd h

  put_alike : (w : Wait G) (x : Stage G) (way : List ℕ) (n : Operation G) → ClaimOf w x → Waits w way n → Alike n (put_stage x way n)
  put_alike w x [] (op D N i f ps st is) h e = claim_alike w x st D N i f ps is h e
  put_alike w x (c ∷ way) (op D N i f ps st is) h e = record { needs = refl; over = refl; failed = refl; waits = λ k. k }

  put_over : (w : Wait G) (x : Stage G) (c : ℕ) (way : List ℕ) (is : Items G) → ClaimOf w x → WaitsAmong w c way is → all_over G (put_among x c way is) ≡ all_over G is
  put_over w x c way no_item h e = absurd e
  put_over w x c way (said t is) h e = put_over w x c way is h e
  put_over w x zero way (child_op n is) h e = ap (λ b. b && all_over G is) (put_alike w x way n h e).over
  put_over w x (suc c) way (child_op n is) h e = ap (λ b. is_over G (stage_of G n) && b) (put_over w x c way is h e)

  put_failed : (Q : G.Needs) (w : Wait G) (x : Stage G) (c : ℕ) (way : List ℕ) (is : Items G) → ClaimOf w x → WaitsAmong w c way is →
      failed_on G M Q (put_among x c way is) ≡ failed_on G M Q is
  put_failed Q w x c way no_item h e = absurd e
  put_failed Q w x c way (said t is) h e = put_failed Q w x c way is h e
  put_failed Q w x zero way (child_op n is) h e = let a = put_alike w x way n h e in
      λ i. a.failed i && M.meets (a.needs i) Q || failed_on G M Q is
  put_failed Q w x (suc c) way (child_op n is) h e =
      ap (λ b. has_failed G (stage_of G n) && M.meets (needs_of G n) Q || b) (put_failed Q w x c way is h e)

  put_failed_at : (k : ℕ) (w : Wait G) (x : Stage G) (c : ℕ) (way : List ℕ) (is : Items G) → ClaimOf w x → WaitsAmong w c way is →
      failed_at G M (put_among x c way is) k ≡ failed_at G M is k
  put_failed_at k w x c way no_item h e = absurd e
  put_failed_at k w x c way (said t is) h e = put_failed_at k w x c way is h e
  put_failed_at zero w x zero way (child_op n is) h e = (put_alike w x way n h e).failed
  put_failed_at (suc k) w x zero way (child_op n is) h e = refl
  put_failed_at zero w x (suc c) way (child_op n is) h e = refl
  put_failed_at (suc k) w x (suc c) way (child_op n is) h e = put_failed_at k w x c way is h e

  put_waits : (N : G.Needs) (v w : Wait G) (x : Stage G) (c : ℕ) (way : List ℕ) (is : Items G) → ClaimOf w x → WaitsAmong w c way is →
      waits_for_failed G M N v (put_among x c way is) ≡ waits_for_failed G M N v is
  put_waits N first w x c way is h e = refl
  put_waits N nothing w x c way is h e = refl
  put_waits N (part k) w x c way is h e = put_failed (M.narrowed N k) w x c way is h e
  put_waits N (child k) w x c way is h e = put_failed_at k w x c way is h e

  -- ---- what is calm is settled

  off : (a b : Bool) → (a ≡ true → b ≡ false) → (a && b) ≡ false
  off true b h = h refl
  off false b h = refl

  -- a child that stays, with what follows it
  swept_child : (bad : List G.Needs) (n : Operation G) (is z : Items G) → (is_waiting G (stage_of G n) ≡ true → meets_any G M bad (needs_of G n) ≡ false) →
      sweep G M (worse G M L n bad) is ≡ z → sweep G M bad (child_op n is) ≡ child_op n z
  swept_child bad n is z h e =
      ap (λ b. cond b (child_op (Rattle.board_rules.specs.Boards.as_dropped G M n) (sweep G M (needs_of G n ∷ bad) is)) (child_op n (sweep G M (worse G M L n bad) is)))
      (off (is_waiting G (stage_of G n)) (meets_any G M bad (needs_of G n)) h)
      ∙ ap (λ y. child_op n y) e

  sweep_same : (bad : List G.Needs) (is : Items G) → CalmItems G M L bad is → sweep G M bad is ≡ is
  sweep_same bad no_item h = refl
  sweep_same bad (said t is) h = ap (λ y. said t y) (sweep_same bad is h)
  sweep_same bad (child_op n is) h = swept_child bad n is is h.1 (sweep_same (worse G M L n bad) is h.2)

  put_sweep : (bad : List G.Needs) (w : Wait G) (x : Stage G) (c : ℕ) (way : List ℕ) (is : Items G) → ClaimOf w x → WaitsAmong w c way is → CalmItems G M L bad is →
      sweep G M bad (put_among x c way is) ≡ put_among x c way is
  put_sweep bad w x c way no_item h e g = refl
  put_sweep bad w x c way (said t is) h e g = ap (λ y. said t y) (put_sweep bad w x c way is h e g)
  put_sweep bad w x zero way (child_op n is) h e g = let a = put_alike w x way n h e in
      swept_child bad (put_stage x way n) is is (λ k. ap (meets_any G M bad) a.needs ∙ g.1 (a.waits k))
      ((λ i. sweep G M (cond (a.failed i) (a.needs i ∷ bad) bad) is) ∙ sweep_same (worse G M L n bad) is g.2)
  put_sweep bad w x (suc c) way (child_op n is) h e g =
      swept_child bad n (put_among x c way is) (put_among x c way is) g.1 (put_sweep (worse G M L n bad) w x c way is h e g.2)

  stage_same : (N : G.Needs) (st : Stage G) (is z : Items G) → CalmStage G M L N st is → ((v : Wait G) → waits_for_failed G M N v z ≡ waits_for_failed G M N v is) →
      all_over G z ≡ all_over G is → close G M (stop G M N st z) z ≡ st
  stage_same N (idle v) is z h e k = ap (λ b. close G M (cond b (closing stopped) (idle v)) z) (e v ∙ h)
  stage_same N (filling v d l) is z h e k = refl
  stage_same N (out v d) is z h e k = refl
  stage_same N (closing x) is z h e k = ap (λ b. cond b (over (ending_with G M x (all_ended G z))) (closing x)) (k ∙ h)
  stage_same N (over x) is z h e k = refl
  stage_same N dropped is z h e k = refl

  settle_put : (w : Wait G) (x : Stage G) (c : ℕ) (way : List ℕ) (D N : G.Needs) (i : ℕ) (f : G.Frame) (ps : List (Element G)) (st : Stage G) (is : Items G) →
      ClaimOf w x → WaitsAmong w c way is → Calm G M L (op D N i f ps st is) →
      settle G M (op D N i f ps st (put_among x c way is)) ≡ op D N i f ps st (put_among x c way is)
  settle_put w x c way D N i f ps st is h e g =
      ap (settled G M D N i f ps st) (put_sweep [] w x c way is h e g.1)
      ∙ ap (λ s. op D N i f ps s (put_among x c way is))
      (stage_same N st is (put_among x c way is) g.0 (λ v. put_waits N v w x c way is h e) (put_over w x c way is h e))

  settle_same : (D N : G.Needs) (i : ℕ) (f : G.Frame) (ps : List (Element G)) (st : Stage G) (is : Items G) → Calm G M L (op D N i f ps st is) →
      settle G M (op D N i f ps st is) ≡ op D N i f ps st is
  settle_same D N i f ps st is g = ap (settled G M D N i f ps st) (sweep_same [] is g.1)
      ∙ ap (λ s. op D N i f ps s is) (stage_same N st is is g.0 (λ v. refl) refl)

  -- ---- the steps

  abbrev IfStepped : {A : Type 0} → Option (Stepped G A) → (Stepped G A → Type 0) → Type 0
  IfStepped None P = Unit {0}
  IfStepped (Some s) P = P s

  after_op : (D N : G.Needs) (i : ℕ) (f : G.Frame) (ps : List (Element G)) (st : Stage G) (o : Option (Stepped G (Items G))) (P : Stepped G (Items G) → Type 0) (Q : Stepped G (Operation G) → Type 0) →
      IfStepped o P → ((s : Stepped G (Items G)) → P s → Q (record { left = settle G M (op D N i f ps st s.left); effects = s.effects })) →
      IfStepped (in_op G M D N i f ps st o) Q
  after_op D N i f ps st None P Q h k = tt
  after_op D N i f ps st (Some s) P Q h k = k s h

  after_behind : (g : Items G → Items G) (o : Option (Stepped G (Items G))) (P Q : Stepped G (Items G) → Type 0) → IfStepped o P →
      ((s : Stepped G (Items G)) → P s → Q (record { left = g s.left; effects = s.effects })) → IfStepped (behind G M g o) Q
  after_behind g None P Q h k = tt
  after_behind g (Some s) P Q h k = k s h

  after_child : (is : Items G) (o : Option (Stepped G (Operation G))) (P : Stepped G (Operation G) → Type 0) (Q : Stepped G (Items G) → Type 0) → IfStepped o P →
      ((s : Stepped G (Operation G)) → P s → Q (record { left = child_op s.left is; effects = s.effects })) → IfStepped (as_child G M is o) Q
  after_child is None P Q h k = tt
  after_child is (Some s) P Q h k = k s h

  -- a claimed stage stands where the operation waited, and the map is as it was
  abbrev pub Puts : Wait G → List ℕ → Operation G → Stepped G (Operation G) → Type 0
  Puts w way n s = (x : Stage G) × ClaimOf w x × (s.left ≡ put_stage x way n) × (s.effects ≡ [])

  abbrev PutsAmong : Wait G → ℕ → List ℕ → Items G → Stepped G (Items G) → Type 0
  PutsAmong w c way is s = (x : Stage G) × ClaimOf w x × (s.left ≡ put_among x c way is) × (s.effects ≡ [])

  -- it is settled again, which changes nothing
  puts_op : (w : Wait G) (c : ℕ) (way : List ℕ) (D N : G.Needs) (i : ℕ) (f : G.Frame) (ps : List (Element G)) (st : Stage G) (is : Items G) (s : Stepped G (Items G)) →
      WaitsAmong w c way is → Calm G M L (op D N i f ps st is) → PutsAmong w c way is s →
      Puts w (c ∷ way) (op D N i f ps st is) (record { left = settle G M (op D N i f ps st s.left); effects = s.effects })
  puts_op w c way D N i f ps st is s e g h =
      (h.0, h.1, ap (λ z. settle G M (op D N i f ps st z)) h.2 ∙ settle_put w h.0 c way D N i f ps st is h.1 e g, h.3)

  mutual
    claim_puts : (way : List ℕ) (p : Path G) (before : Bool) (m : Map G) (n : Operation G) → Calm G M L n →
        IfStepped (step_in G M claim way p before m n) (λ s. (w : Wait G) × Waits w way n × Puts w way n s)
    claim_puts [] p before m (op D N i f ps (idle w) is) g = by_test (is_ready G M before N w is)
        (λ b. IfStepped (cond b (unchanged G M (op D N i f ps (filling w [] (wants G M N w)) is)) None) (λ s. (v : Wait G) × Waits v [] (op D N i f ps (idle w) is) × Puts v [] (op D N i f ps (idle w) is) s))
        (λ e. (w, refl, (filling w [] (wants G M N w), refl, refl, refl))) (λ e. tt)
    claim_puts [] p before m (op D N i f ps (filling w d l) is) g = tt
    claim_puts [] p before m (op D N i f ps (out w d) is) g = tt
    claim_puts [] p before m (op D N i f ps (closing x) is) g = tt
    claim_puts [] p before m (op D N i f ps (over x) is) g = tt
    claim_puts [] p before m (op D N i f ps dropped is) g = tt
    claim_puts (c ∷ way) p before m (op D N i f ps st is) g = by_test (is_over G st)
        (λ b. is_over G st ≡ b → IfStepped (cond b None (in_op G M D N i f ps st (step_among G M claim c way p 0 [] m is)))
        (λ s. (w : Wait G) × Waits w (c ∷ way) (op D N i f ps st is) × Puts w (c ∷ way) (op D N i f ps st is) s))
        (λ e k. tt)
        (λ e k. after_op D N i f ps st (step_among G M claim c way p 0 [] m is) (λ s. (w : Wait G) × WaitsAmong w c way is × PutsAmong w c way is s) _
        (claim_among c way p 0 [] m is (each_calm G M L [] is g.1))
        (λ s h. (h.0, (k, h.1), puts_op h.0 c way D N i f ps st is s h.1 g h.2))) refl

    claim_among : (c : ℕ) (way : List ℕ) (p : Path G) (j : ℕ) (Ns : List G.Needs) (m : Map G) (is : Items G) → AllCalm G M L is →
        IfStepped (step_among G M claim c way p j Ns m is) (λ s. (w : Wait G) × WaitsAmong w c way is × PutsAmong w c way is s)
    claim_among c way p j Ns m no_item g = tt
    claim_among c way p j Ns m (said t is) g = after_behind (said t) (step_among G M claim c way p j Ns m is) (λ s. (w : Wait G) × WaitsAmong w c way is × PutsAmong w c way is s) _
        (claim_among c way p j Ns m is g) (λ s h. (h.0, h.1, (h.2.0, h.2.1, ap (λ y. said t y) h.2.2, h.2.3)))
    claim_among zero way p j Ns m (child_op n is) g = after_child is (step_in G M claim way (j ∷ p) (not (meets_any G M Ns (needs_of G n))) m n) (λ s. (w : Wait G) × Waits w way n × Puts w way n s) _
        (claim_puts way (j ∷ p) (not (meets_any G M Ns (needs_of G n))) m n g.0) (λ s h. (h.0, h.1, (h.2.0, h.2.1, ap (λ y. child_op y is) h.2.2, h.2.3)))
    claim_among (suc c) way p j Ns m (child_op n is) g = after_behind (child_op n) (step_among G M claim c way p (suc j) (still_open G M n Ns) m is) (λ s. (w : Wait G) × WaitsAmong w c way is × PutsAmong w c way is s) _
        (claim_among c way p (suc j) (still_open G M n Ns) m is g.1) (λ s h. (h.0, h.1, (h.2.0, h.2.1, ap (λ y. child_op n y) h.2.2, h.2.3)))

  copied_claim : (w v : Wait G) (d : List (Element G)) (l : List (Spot G)) → v ≡ w → ClaimOf w (copied G M v d l)
  copied_claim w v d [] e = e
  copied_claim w v d (x ∷ l) e = e

  mutual
    copy_puts : (w : Wait G) (x : Stage G) (way : List ℕ) (p : Path G) (before : Bool) (m : Map G) (n : Operation G) → Calm G M L n → ClaimOf w x → Waits w way n →
        IfStepped (step_in G M copy way p before m (put_stage x way n)) (Puts w way n)
    copy_puts w (filling v d l) [] p before m (op D N i f ps st is) g h e =
        (copied G M v (d ++ filled G M (take M.chunk l) m) (drop M.chunk l), copied_claim w v _ _ h, refl, refl)
    copy_puts w (out v d) [] p before m (op D N i f ps st is) g h e = tt
    copy_puts w (idle v) [] p before m (op D N i f ps st is) g h e = absurd h
    copy_puts w (closing v) [] p before m (op D N i f ps st is) g h e = absurd h
    copy_puts w (over v) [] p before m (op D N i f ps st is) g h e = absurd h
    copy_puts w dropped [] p before m (op D N i f ps st is) g h e = absurd h
    copy_puts w x (c ∷ way) p before m (op D N i f ps st is) g h e = by_test (is_over G st)
        (λ b. IfStepped (cond b None (in_op G M D N i f ps st (step_among G M copy c way p 0 [] m (put_among x c way is)))) (Puts w (c ∷ way) (op D N i f ps st is)))
        (λ k. tt)
        (λ k. after_op D N i f ps st (step_among G M copy c way p 0 [] m (put_among x c way is)) (PutsAmong w c way is) (Puts w (c ∷ way) (op D N i f ps st is))
        (copy_among w x c way p 0 [] m is (each_calm G M L [] is g.1) h e.1)
        (λ s k. puts_op w c way D N i f ps st is s e.1 g k))

    copy_among : (w : Wait G) (x : Stage G) (c : ℕ) (way : List ℕ) (p : Path G) (j : ℕ) (Ns : List G.Needs) (m : Map G) (is : Items G) → AllCalm G M L is → ClaimOf w x → WaitsAmong w c way is →
        IfStepped (step_among G M copy c way p j Ns m (put_among x c way is)) (PutsAmong w c way is)
    copy_among w x c way p j Ns m no_item g h e = tt
    copy_among w x c way p j Ns m (said t is) g h e = after_behind (said t) (step_among G M copy c way p j Ns m (put_among x c way is)) (PutsAmong w c way is) (PutsAmong w c way (said t is))
        (copy_among w x c way p j Ns m is g h e) (λ s k. (k.0, k.1, ap (λ y. said t y) k.2, k.3))
    copy_among w x zero way p j Ns m (child_op n is) g h e =
        after_child is (step_in G M copy way (j ∷ p) (not (meets_any G M Ns (needs_of G (put_stage x way n)))) m (put_stage x way n)) (Puts w way n) (PutsAmong w zero way (child_op n is))
        (copy_puts w x way (j ∷ p) (not (meets_any G M Ns (needs_of G (put_stage x way n)))) m n g.0 h e) (λ s k. (k.0, k.1, ap (λ y. child_op y is) k.2, k.3))
    copy_among w x (suc c) way p j Ns m (child_op n is) g h e =
        after_behind (child_op n) (step_among G M copy c way p (suc j) (still_open G M n Ns) m (put_among x c way is)) (PutsAmong w c way is) (PutsAmong w (suc c) way (child_op n is))
        (copy_among w x c way p (suc j) (still_open G M n Ns) m is g.1 h e) (λ s k. (k.0, k.1, ap (λ y. child_op n y) k.2, k.3))

  -- nothing but this is left
  abbrev nothing_done : {A : Type 0} → A → Option (Stepped G A)
  nothing_done a = Some (record { left = a; effects = [] })

  mutual
    back_puts : (w : Wait G) (x : Stage G) (way : List ℕ) (p : Path G) (before : Bool) (m : Map G) (n : Operation G) → Calm G M L n → ClaimOf w x → Waits w way n →
        step_in G M back way p before m (put_stage x way n) ≡ nothing_done n
    back_puts w (filling v d l) [] p before m (op D N i f ps st is) g h e = ap (λ s. nothing_done (op D N i f ps s is)) (ap idle h ∙ sym e)
    back_puts w (out v d) [] p before m (op D N i f ps st is) g h e = ap (λ s. nothing_done (op D N i f ps s is)) (ap idle h ∙ sym e)
    back_puts w (idle v) [] p before m (op D N i f ps st is) g h e = absurd h
    back_puts w (closing v) [] p before m (op D N i f ps st is) g h e = absurd h
    back_puts w (over v) [] p before m (op D N i f ps st is) g h e = absurd h
    back_puts w dropped [] p before m (op D N i f ps st is) g h e = absurd h
    back_puts w x (c ∷ way) p before m (op D N i f ps st is) g h e =
        ap (λ b. cond b None (in_op G M D N i f ps st (step_among G M back c way p 0 [] m (put_among x c way is)))) e.0
        ∙ ap (in_op G M D N i f ps st) (back_among w x c way p 0 [] m is (each_calm G M L [] is g.1) h e.1)
        ∙ ap nothing_done (settle_same D N i f ps st is g)

    back_among : (w : Wait G) (x : Stage G) (c : ℕ) (way : List ℕ) (p : Path G) (j : ℕ) (Ns : List G.Needs) (m : Map G) (is : Items G) → AllCalm G M L is → ClaimOf w x → WaitsAmong w c way is →
        step_among G M back c way p j Ns m (put_among x c way is) ≡ nothing_done is
    back_among w x c way p j Ns m no_item g h e = absurd e
    back_among w x c way p j Ns m (said t is) g h e = ap (behind G M (said t)) (back_among w x c way p j Ns m is g h e)
    back_among w x zero way p j Ns m (child_op n is) g h e =
        ap (as_child G M is) (back_puts w x way (j ∷ p) (not (meets_any G M Ns (needs_of G (put_stage x way n)))) m n g.0 h e)
    back_among w x (suc c) way p j Ns m (child_op n is) g h e = ap (behind G M (child_op n)) (back_among w x c way p (suc j) (still_open G M n Ns) m is g.1 h e)

  -- ---- journals

  after_append : (o : Option (State G)) (xs ys : List Entry) → after_entries G M o (xs ++ ys) ≡ after_entries G M (after_entries G M o xs) ys
  after_append o [] ys = refl
  after_append o (x ∷ xs) ys = after_append (after_entry G M o x) xs ys

  -- a stage is put into the tree of a state
  abbrev with_stage : Stage G → List ℕ → State G → State G
  with_stage x way s = record { tree = put_stage x way s.tree; map = s.map }

  stepped_state : (w : Wait G) (way : List ℕ) (s : State G) (t : Stepped G (Operation G)) (h : Puts w way s.tree t) → stepped G M s.map (Some t) ≡ Some (with_stage h.0 way s)
  stepped_state w way s t h = λ i. Some (record { tree = h.2 i; map = Rattle.board_rules.specs.Processes.run_all G (h.3 i) s.map })

  copies_put : (n : ℕ) (w : Wait G) (x : Stage G) (way : List ℕ) (s u : State G) → Calm G M L s.tree → ClaimOf w x → Waits w way s.tree →
      after_entries G M (Some (with_stage x way s)) (copies way n) ≡ Some u → (y : Stage G) × ClaimOf w y × (u ≡ with_stage y way s)
  copies_put zero w x way s u g h e k = (x, h, sym (same_Some (with_stage x way s) u k))
  copies_put (suc n) w x way s u g h e k = by_step (step_in G M copy way [] true s.map (put_stage x way s.tree)) (copy_puts w x way [] true s.map s.tree g h e) k (λ y c r. copies_put n w y way s u g c e r)
    where
      by_step : (o : Option (Stepped G (Operation G))) → IfStepped o (Puts w way s.tree) → after_entries G M (stepped G M s.map o) (copies way n) ≡ Some u →
          ((y : Stage G) → ClaimOf w y → after_entries G M (Some (with_stage y way s)) (copies way n) ≡ Some u → (z : Stage G) × ClaimOf w z × (u ≡ with_stage z way s)) →
          (z : Stage G) × ClaimOf w z × (u ≡ with_stage z way s)
      by_step None c r next = absurd (none-some u (sym (none_stays G M L (copies way n)) ∙ r))
      by_step (Some t) c r next = next c.0 c.1 (ap (λ o. after_entries G M o (copies way n)) (sym (stepped_state w way s t c)) ∙ r)

  back_comes : (n : ℕ) (way : List ℕ) (s u : State G) → Calm G M L s.tree → after_entries G M (Some s) (claimed way n) ≡ Some u → after_entry G M (Some u) (record { kind = back; way = way }) ≡ Some s
  back_comes n way s u g k = by_step (step_in G M claim way [] true s.map s.tree) (claim_puts way [] true s.map s.tree g) k
    where
      come : (w : Wait G) → Waits w way s.tree → (y : Stage G) × ClaimOf w y × (u ≡ with_stage y way s) → after_entry G M (Some u) (record { kind = back; way = way }) ≡ Some s
      come w e r = ap (λ v. after_entry G M (Some v) (record { kind = back; way = way })) r.2
          ∙ ap (stepped G M s.map) (back_puts w r.0 way [] true s.map s.tree g r.1 e)

      by_step : (o : Option (Stepped G (Operation G))) → IfStepped o (λ t. (w : Wait G) × Waits w way s.tree × Puts w way s.tree t) → after_entries G M (stepped G M s.map o) (copies way n) ≡ Some u →
          after_entry G M (Some u) (record { kind = back; way = way }) ≡ Some s
      by_step None c r = absurd (none-some u (sym (none_stays G M L (copies way n)) ∙ r))
      by_step (Some t) c r = come c.0 c.1
          (copies_put n c.0 c.2.0 way s u g c.2.1 c.1 (ap (λ o. after_entries G M o (copies way n)) (sym (stepped_state c.0 way s t c.2)) ∙ r))

  pub taken_back : TakenBack G M
  taken_back job journal s u way n r k =
      let e : Entry = record { kind = back; way = way } in
      let reached : after_entries G M (Some s) (claimed way n) ≡ Some u =
      ap (λ o. after_entries G M o (claimed way n)) (sym r) ∙ sym (after_append (Some (opened G M job)) journal (claimed way n)) ∙ k in
      after_append (Some (opened G M job)) (journal ++ claimed way n) (e ∷ [])
      ∙ ap (λ o. after_entry G M o e) k
      ∙ back_comes n way s u (journal_calm G M L journal (opened G M job) s (opened_good G M L job) (refl, tt) r) reached
