-- A finished board has the outcome of the order run.
use Rattle.std.proofs.Common.{◌≡◌, ◌++◌, ◌∷◌, ◌∙◌, List, None, Option, Some, [], ap, append-nil, inl, inr, refl, subst, suc, sym, true, ℕ}
use Rattle.std.proofs.lemmas.Bool.{and_parts}
use Rattle.std.proofs.lemmas.Option.{none-some, same_Some}
use Rattle.board_rules.specs.Ground.{Ground}
use Rattle.board_rules.specs.Processes.{Map, Process, Result, and_then, done, fails, faults, gives, prefix, spent}
use Rattle.board_rules.specs.Running.{Laws, Machine, Path, run_on}
use Rattle.board_rules.specs.Boards.{Items, Operation, Stage, Stepped, all_over, at_fault, by, closing, dropped, filling, finish, finish_items, idle, is_over, child_op, no_item, op, out, over, remaining, said, stage_of, step_in, stopped}
use Rattle.board_rules.specs.Journals.{Entry, FinishedAsOrdered, Job, State, Told, after_entries, after_entry, answered, faulted, finished, joined, opened, outcome_with, own_fault, shown, stepped, told, told_items, unfinished}
use Rattle.board_laws.proofs.Processes.{prefix_none}
use Rattle.board_laws.proofs.Turns.{Below, below_same, below_through, run_grows}
use Rattle.board_laws.proofs.Good.{Good, GoodItems, GoodOp}
use Rattle.board_laws.proofs.OwnGood.{IfStep, StepGood}
use Rattle.board_laws.proofs.Steps.{step_good}

module _ (G : Ground) (M : Machine G) (L : Laws G M) where
  -- ---- what is over is read by place

  -- a result with this fault and text, and the map as it was
  abbrev Reads : {A : Type 0} → Option G.Fault → List G.Byte → Map G → Result G A → Type 0
  Reads None t m (done a u o) = (u ≡ t) × (o ≡ m)
  Reads (Some x) t m (fails y u) = (u ≡ t) × (y ≡ x)
  Reads _ t m _ = ⊥

  reads_prefix : {A : Type 0} (x : Option G.Fault) (t u : List G.Byte) (m : Map G) (r : Result G A) → Reads x u m r → Reads x (t ++ u) m (prefix G t r)
  reads_prefix None t u m (done a v o) h = (ap (λ w. t ++ w) h.0, h.1)
  reads_prefix None t u m (fails y v) h = absurd h
  reads_prefix None t u m spent h = absurd h
  reads_prefix (Some x) t u m (done a v o) h = absurd h
  reads_prefix (Some x) t u m (fails y v) h = (ap (λ w. t ++ w) h.0, h.1)
  reads_prefix (Some x) t u m spent h = absurd h

  reads_then : {A B : Type 0} (x : Option G.Fault) (t : List G.Byte) (b : Told G) (m : Map G) (r : Result G A) (k : A → Process G B) → Reads x t m r → ((a : A) (o : Map G) → o ≡ m → Reads b.fault b.text m (k a o)) →
      Reads (joined G M x t b).fault (joined G M x t b).text m (and_then G r k)
  reads_then None t b m (done a u o) k h g = subst (λ w. Reads b.fault (w ++ b.text) m (prefix G u (k a o))) h.0 (reads_prefix b.fault u b.text m (k a o) (g a o h.1))
  reads_then None t b m (fails y u) k h g = absurd h
  reads_then None t b m spent k h g = absurd h
  reads_then (Some x) t b m (done a u o) k h g = absurd h
  reads_then (Some x) t b m (fails y u) k h g = h
  reads_then (Some x) t b m spent k h g = absurd h

  with_answer : (x : Option G.Fault) (t : List G.Byte) (o : Map G) (r : Result G (List G.Answer)) (v : G.Answer) → Reads x t o r → Reads x t o (and_then G r (λ vs. gives G (v ∷ vs)))
  with_answer None t o (done vs u m) v h = (append-nil u ∙ h.0, h.1)
  with_answer None t o (fails y u) v h = absurd h
  with_answer None t o spent v h = absurd h
  with_answer (Some x) t o (done vs u m) v h = absurd h
  with_answer (Some x) t o (fails y u) v h = h
  with_answer (Some x) t o spent v h = absurd h

  mutual
    told_read : (K : ℕ) (m : Map G) (p : Path G) (n : Operation G) (o u : Map G) → Good G M L m p n → is_over G (stage_of G n) ≡ true → u ≡ o → Reads (told G M n).fault (told G M n).text o (finish G M K p n u)
    told_read K m p (op D N i f ps st is) o u g e h = reads_then (told_items G M is).fault (told_items G M is).text (record { text = []; fault = own_fault G M st }) o (finish_items G M K p 0 is u) _
        (items_read K m p N 0 is o u g.1 (children_over st e g.0) h) (λ vs v k. by_stage st e vs v k)
      where
        children_over : (st : Stage G) → is_over G st ≡ true → GoodOp G M L m p D N i ps st is → all_over G is ≡ true
        children_over (idle w) e g = absurd cc
        children_over (filling w d l) e g = absurd cc
        children_over (out w d) e g = absurd cc
        children_over (closing x) e g = absurd cc
        children_over (over x) e g = g.stage
        children_over dropped e g = g.stage

        by_stage : (st : Stage G) → is_over G st ≡ true → (vs : List G.Answer) (v : Map G) → v ≡ o → Reads (own_fault G M st) [] o (remaining G M K p N i f ps st vs v)
        by_stage (idle w) e vs v k = absurd cc
        by_stage (filling w d l) e vs v k = absurd cc
        by_stage (out w d) e vs v k = absurd cc
        by_stage (closing x) e vs v k = absurd cc
        by_stage (over (by a)) e vs v k = (refl, k)
        by_stage (over (at_fault x)) e vs v k = (refl, refl)
        by_stage (over stopped) e vs v k = (refl, refl)
        by_stage dropped e vs v k = (refl, refl)

    items_read : (K : ℕ) (m : Map G) (p : Path G) (N : G.Needs) (j : ℕ) (is : Items G) (o u : Map G) → GoodItems G M L m p N j is → all_over G is ≡ true → u ≡ o →
        Reads (told_items G M is).fault (told_items G M is).text o (finish_items G M K p j is u)
    items_read K m p N j no_item o u g e h = (refl, h)
    items_read K m p N j (said t is) o u g e h = reads_prefix (told_items G M is).fault t (told_items G M is).text o (finish_items G M K p j is u) (items_read K m p N j is o u g e h)
    items_read K m p N j (child_op n is) o u g e h = let parts = and_parts (is_over G (stage_of G n)) (all_over G is) e in
        reads_then (told G M n).fault (told G M n).text (told_items G M is) o (finish G M K (j ∷ p) n u) _ (told_read K m (j ∷ p) n o u g.0 parts.0 h)
        (λ v w k. with_answer (told_items G M is).fault (told_items G M is).text o (finish_items G M K p (suc j) is w) v (items_read K m p N (suc j) is o w g.3 parts.1 k))

  -- ---- journals

  -- a result with this answer, where it comes to one
  abbrev Answers : G.Answer → Result G G.Answer → Type 0
  Answers a (done v u o) = a ≡ v
  Answers a _ = Unit {0}

  gives_answers : (a : G.Answer) (r : Result G (List G.Answer)) → Answers a (and_then G r (λ vs. gives G a))
  gives_answers a (done vs t m) = refl
  gives_answers a (fails x t) = tt
  gives_answers a spent = tt

  faults_answer : (a : G.Answer) (x : G.Fault) (r : Result G (List G.Answer)) → Answers a (and_then G r (λ vs. faults G x))
  faults_answer a x (done vs t m) = tt
  faults_answer a x (fails y t) = tt
  faults_answer a x spent = tt

  answer_read : (K : ℕ) (p : Path G) (n : Operation G) (m : Map G) → is_over G (stage_of G n) ≡ true → Answers (answered G M n) (finish G M K p n m)
  answer_read K p (op D N i f ps st is) m e = by_stage st e
    where
      by_stage : (st : Stage G) → is_over G st ≡ true → Answers (answered G M (op D N i f ps st is)) (finish G M K p (op D N i f ps st is) m)
      by_stage (idle w) e = absurd cc
      by_stage (filling w d l) e = absurd cc
      by_stage (out w d) e = absurd cc
      by_stage (closing x) e = absurd cc
      by_stage (over (by a)) e = gives_answers a (finish_items G M K p 0 is m)
      by_stage (over (at_fault x)) e = faults_answer M.no_answer x (finish_items G M K p 0 is m)
      by_stage (over stopped) e = faults_answer M.no_answer G.broken (finish_items G M K p 0 is m)
      by_stage dropped e = faults_answer M.no_answer G.broken (finish_items G M K p 0 is m)

  outcome_read : (x : Option G.Fault) (t : List G.Byte) (a : G.Answer) (m : Map G) (r : Result G G.Answer) → Reads x t m r → Answers a r → outcome_with G M x t a m ≡ shown G M r
  outcome_read None t a m (done v u o) h k = λ i. finished (sym h.0 i) (k i) (sym h.1 i)
  outcome_read None t a m (fails y u) h k = absurd h
  outcome_read None t a m spent h k = absurd h
  outcome_read (Some x) t a m (done v u o) h k = absurd h
  outcome_read (Some x) t a m (fails y u) h k = λ i. faulted (sym h.0 i) (sym h.1 i)
  outcome_read (Some x) t a m spent h k = absurd h

  -- from a good state to another, with the same outcome of all that runs on
  pub record Leads (s u : State G) : Type 0 where
    pub good : Good G M L u.map [] u.tree
    pub finishes : (K : ℕ) → Below G (finish G M (suc K) [] s.tree s.map) (finish G M (suc K) [] u.tree u.map)

  pub opened_good : (job : Job G) → Good G M L job.map [] (opened G M job).tree
  opened_good job = (record { rooted = λ l e. job.needs_nothing l; own = λ l. inl refl; held = tt; stage = tt; free = tt; free_claimed = tt }, tt)

  step_leads : (e : Entry) (s : State G) (o : Option (Stepped G (Operation G))) (u : State G) → IfStep G M L o (StepGood G M L s.map [] true s.tree) → stepped G M s.map o ≡ Some u → Leads s u
  step_leads e s None u g h = absurd cc
  step_leads e s (Some t) u g h = subst (Leads s) (same_Some _ _ h) (record { good = g.good; finishes = λ K. g.finishes K s.map (λ l a i. refl) })

  pub none_stays : (es : List Entry) → after_entries G M None es ≡ None
  none_stays [] = refl
  none_stays (e ∷ es) = none_stays es

  leads_on : (s u w : State G) → Leads s u → Leads u w → Leads s w
  leads_on s u w a b = record { good = b.good; finishes = λ K. below_through G _ _ _ (a.finishes K) (b.finishes K) }

  pub journal_leads : (es : List Entry) (s u : State G) → Good G M L s.map [] s.tree → after_entries G M (Some s) es ≡ Some u → Leads s u
  journal_leads [] s u g h = subst (Leads s) (same_Some s u h) (record { good = g; finishes = λ K. inr refl })
  journal_leads (e ∷ es) s u g h = first_then (after_entry G M (Some s) e) refl h (λ v k. journal_leads es v u k)
    where
      first_then : (o : Option (State G)) → after_entry G M (Some s) e ≡ o → after_entries G M o es ≡ Some u → ((v : State G) → Good G M L v.map [] v.tree → after_entries G M (Some v) es ≡ Some u → Leads v u) → Leads s u
      first_then None a b c = absurd (none-some u (sym (none_stays es) ∙ b))
      first_then (Some v) a b c = let one = step_leads e s (step_in G M e.kind e.way [] true s.map s.tree) v (step_good G M L e.kind e.way [] true s.map s.tree g) a in
          leads_on s v u one (c v one.good b)

  -- ---- the theorem

  pub finished_as_ordered : FinishedAsOrdered G M
  finished_as_ordered job journal s k e done_all ended =
      outcome_read (told G M s.tree).fault (told G M s.tree).text (answered G M s.tree) s.map (finish G M (suc k) [] s.tree s.map)
      (told_read (suc k) s.map [] s.tree s.map s.map there.good done_all refl) (answer_read (suc k) [] s.tree s.map done_all)
      ∙ sym (in_the_end (run_on G M k [] job.needs 0 job.frame [] [] job.map) (finish G M (suc k) [] s.tree s.map) ended
      (below_through G _ _ _ (run_grows G M k [] job.needs 0 job.frame [] [] job.map) (below_through G _ _ _ (below_same G _ _ (sym (prefix_none G _))) (there.finishes k))))
    where
      there : Leads (opened G M job) s
      there = journal_leads journal (opened G M job) s (opened_good job) e

      in_the_end : (r t : Result G G.Answer) → ¬ (shown G M r ≡ unfinished) → Below G r t → shown G M r ≡ shown G M t
      in_the_end r t n (inl a) = absurd (n (ap (shown G M) a))
      in_the_end r t n (inr a) = ap (shown G M) a
