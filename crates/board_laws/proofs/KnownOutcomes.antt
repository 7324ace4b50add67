-- What is known of a board that hasn't finished is so in the run in order.
use Rattle.std.proofs.Common.{◌≡◌, ◌++◌, ◌∷◌, ◌∙◌, List, Option, Some, [], ap, append-nil, refl, subst, suc, sym, inl, inr, ℕ}
use Rattle.board_rules.specs.Ground.{Ground}
use Rattle.board_rules.specs.Processes.{Map, Process, Result, and_then, done, fails, gives, prefix, spent}
use Rattle.board_rules.specs.Running.{Laws, Machine, Path, run_on}
use Rattle.board_rules.specs.Boards.{Ending, Items, Operation, Stage, at_fault, by, closing, dropped, filling, finish, finish_items, idle, child_op, no_item, op, out, over, remaining, said, stopped}
use Rattle.board_rules.specs.Journals.{Entry, Job, State, faulted, opened, order_run, replay, shown, unfinished}
use Rattle.board_rules.specs.Known.{Known, SettledAsOrdered, known, known_ending, known_items, known_stage, known_then, unknown, stops_at, whole, with_text}
use Rattle.board_laws.proofs.Processes.{prefix_none}
use Rattle.board_laws.proofs.Turns.{Below, below_same, below_through, run_grows}
use Rattle.board_laws.proofs.Outcomes.{Leads, journal_leads, opened_good}

module _ (G : Ground) (M : Machine G) (L : Laws G M) where
  -- a result with what is known, and with the map as it was where all is known
  abbrev Reads : {A : Type 0} → Known G.Byte G.Fault → Map G → Result G A → Type 0
  Reads (whole t) m (done a u o) = (u ≡ t) × (o ≡ m)
  Reads (stops_at x t) m (fails y u) = (u ≡ t) × (y ≡ x)
  Reads unknown m r = Unit {0}
  Reads _ m r = ⊥

  reads_text : {A : Type 0} (w : Known G.Byte G.Fault) (t : List G.Byte) (m : Map G) (r : Result G A) → Reads w m r → Reads (with_text G.Byte G.Fault t w) m (prefix G t r)
  reads_text (whole u) t m (done a v o) h = (ap (λ w. t ++ w) h.0, h.1)
  reads_text (whole u) t m (fails y v) h = absurd h
  reads_text (whole u) t m spent h = absurd h
  reads_text (stops_at x u) t m (done a v o) h = absurd h
  reads_text (stops_at x u) t m (fails y v) h = (ap (λ w. t ++ w) h.0, h.1)
  reads_text (stops_at x u) t m spent h = absurd h
  reads_text unknown t m r h = tt

  reads_then : {A B : Type 0} (w next : Known G.Byte G.Fault) (m : Map G) (r : Result G A) (k : A → Process G B) → Reads w m r → ((a : A) (o : Map G) → o ≡ m → Reads next m (k a o)) →
      Reads (known_then G.Byte G.Fault w next) m (and_then G r k)
  reads_then (whole t) next m (done a u o) k h g = subst (λ v. Reads (with_text G.Byte G.Fault v next) m (prefix G u (k a o))) h.0 (reads_text next u m (k a o) (g a o h.1))
  reads_then (whole t) next m (fails y u) k h g = absurd h
  reads_then (whole t) next m spent k h g = absurd h
  reads_then (stops_at x t) next m (done a u o) k h g = absurd h
  reads_then (stops_at x t) next m (fails y u) k h g = h
  reads_then (stops_at x t) next m spent k h g = absurd h
  reads_then unknown next m r k h g = tt

  with_answer : (w : Known G.Byte G.Fault) (o : Map G) (r : Result G (List G.Answer)) (v : G.Answer) → Reads w o r → Reads w o (and_then G r (λ vs. gives G (v ∷ vs)))
  with_answer (whole t) o (done vs u m) v h = (append-nil u ∙ h.0, h.1)
  with_answer (whole t) o (fails y u) v h = absurd h
  with_answer (whole t) o spent v h = absurd h
  with_answer (stops_at x t) o (done vs u m) v h = absurd h
  with_answer (stops_at x t) o (fails y u) v h = h
  with_answer (stops_at x t) o spent v h = absurd h
  with_answer unknown o r v h = tt

  ending_read : (K : ℕ) (p : Path G) (N : G.Needs) (i : ℕ) (f : G.Frame) (e : Ending G) (o v : Map G) → v ≡ o → Reads (known_ending G e) o (Rattle.board_rules.specs.Boards.ending G M e v)
  ending_read K p N i f (by a) o v h = (refl, h)
  ending_read K p N i f (at_fault x) o v h = (refl, refl)
  ending_read K p N i f stopped o v h = (refl, refl)

  mutual
    known_read : (K : ℕ) (p : Path G) (n : Operation G) (o u : Map G) → u ≡ o → Reads (known G n) o (finish G M K p n u)
    known_read K p (op D N i f ps st is) o u h = reads_then (known_items G is) (known_stage G st) o (finish_items G M K p 0 is u) _
        (items_read K p 0 is o u h) (λ vs v k. by_stage st vs v k)
      where
        by_stage : (st : Stage G) (vs : List G.Answer) (v : Map G) → v ≡ o → Reads (known_stage G st) o (remaining G M K p N i f ps st vs v)
        by_stage (idle w) vs v k = tt
        by_stage (filling w d l) vs v k = tt
        by_stage (out w d) vs v k = tt
        by_stage (closing e) vs v k = ending_read K p N i f e o v k
        by_stage (over e) vs v k = ending_read K p N i f e o v k
        by_stage dropped vs v k = (refl, refl)

    items_read : (K : ℕ) (p : Path G) (j : ℕ) (is : Items G) (o u : Map G) → u ≡ o → Reads (known_items G is) o (finish_items G M K p j is u)
    items_read K p j no_item o u h = (refl, h)
    items_read K p j (said t is) o u h = reads_text (known_items G is) t o (finish_items G M K p j is u) (items_read K p j is o u h)
    items_read K p j (child_op n is) o u h = reads_then (known G n) (known_items G is) o (finish G M K (j ∷ p) n u) _ (known_read K (j ∷ p) n o u h)
        (λ v w k. with_answer (known_items G is) o (finish_items G M K p (suc j) is w) v (items_read K p (suc j) is o w k))

  -- ---- the theorem

  settled_shows : (x : G.Fault) (t : List G.Byte) (m : Map G) (r : Result G G.Answer) → Reads (stops_at x t) m r → shown G M r ≡ faulted t x
  settled_shows x t m (done v u o) h = absurd h
  settled_shows x t m (fails y u) h = λ i. faulted (h.0 i) (h.1 i)
  settled_shows x t m spent h = absurd h

  pub settled_as_ordered : SettledAsOrdered G M
  settled_as_ordered job journal s k x t e settled ended =
      in_the_end (run_on G M k [] job.needs 0 job.frame [] [] job.map) (finish G M (suc k) [] s.tree s.map) ended
      (below_through G _ _ _ (run_grows G M k [] job.needs 0 job.frame [] [] job.map) (below_through G _ _ _ (below_same G _ _ (sym (prefix_none G _))) (there.finishes k)))
      ∙ settled_shows x t s.map (finish G M (suc k) [] s.tree s.map) (subst (λ w. Reads w s.map (finish G M (suc k) [] s.tree s.map)) settled (known_read (suc k) [] s.tree s.map s.map refl))
    where
      there : Leads G M L (opened G M job) s
      there = journal_leads G M L journal (opened G M job) s (opened_good G M L job) e

      in_the_end : (r t : Result G G.Answer) → ¬ (shown G M r ≡ unfinished) → Below G r t → shown G M r ≡ shown G M t
      in_the_end r t n (inl a) = absurd (n (ap (shown G M) a))
      in_the_end r t n (inr a) = ap (shown G M) a
