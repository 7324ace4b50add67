-- What follows a step - drops, stops and closings - leaves what finishing comes to as it was, and keeps what is good.
use Rattle.std.proofs.Common.{◌≡◌, ◌∷◌, ◌∙◌, ◌||◌, ◌&&◌, Bool, List, [], ap, cond, false, refl, suc, true, zero, ℕ}
use Rattle.std.proofs.lemmas.Bool.{and_parts, and_right}
use Rattle.board_rules.specs.Ground.{Ground}
use Rattle.board_rules.specs.Processes.{Map, Process, Result, and_then, bind, done, fails, gives, prefix, spent}
use Rattle.board_rules.specs.Running.{Element, Laws, Machine, Path}
use Rattle.board_rules.specs.Boards.{all_ended, close, as_dropped, ending_with, failed_at, failed_on, has_failed, is_ended, settle, stop, sweep, waits_for_failed, Ending, Items, Operation, Stage, Wait, all_over, at_fault, by, child, closing, dropped, ending, filling, finish, finish_items, first, idle, is_over, is_waiting, child_op, needs_of, no_item, nothing, op, out, over, part, remaining, said, stage_of, stopped}
use Rattle.board_laws.proofs.Reaching.{by_test}

module _ (G : Ground) (M : Machine G) (L : Laws G M) where
  abbrev pub NoAnswer : {A : Type 0} → Result G A → Type 0
  NoAnswer (done a t m) = ⊥
  NoAnswer (fails x t) = Unit {0}
  NoAnswer spent = Unit {0}

  pub record Fails {A : Type 0} (r : Result G A) : Type 0 where
    pub without : NoAnswer r

  fails_prefix : {A : Type 0} (t : List G.Byte) (r : Result G A) → Fails r → Fails (prefix G t r)
  fails_prefix t (done a u m) h = absurd h.without
  fails_prefix t (fails x u) h = record { without = tt }
  fails_prefix t spent h = record { without = tt }

  fails_after : {A B : Type 0} (r : Result G A) (k : A → Process G B) → ((a : A) (m : Map G) → Fails (k a m)) → Fails (and_then G r k)
  fails_after (done a t m) k h = fails_prefix t (k a m) (h a m)
  fails_after (fails x t) k h = record { without = tt }
  fails_after spent k h = record { without = tt }

  fails_then : {A B : Type 0} (r : Result G A) (k : A → Process G B) → Fails r → Fails (and_then G r k)
  fails_then (done a t m) k h = absurd h.without
  fails_then (fails x t) k h = record { without = tt }
  fails_then spent k h = record { without = tt }

  unreached : {A B : Type 0} (r : Result G A) (k j : A → Process G B) → Fails r → and_then G r k ≡ and_then G r j
  unreached (done a t m) k j h = absurd h.without
  unreached (fails x t) k j h = refl
  unreached spent k j h = refl

  -- an operation that Failed or was Dropped gives no answer
  failed_fails : (K : ℕ) (p : Path G) (n : Operation G) (m : Map G) → has_failed G (stage_of G n) ≡ true → Fails (finish G M K p n m)
  failed_fails K p (op D N i f ps (idle first) is) m e = absurd cc
  failed_fails K p (op D N i f ps (idle nothing) is) m e = absurd cc
  failed_fails K p (op D N i f ps (idle (part k)) is) m e = absurd cc
  failed_fails K p (op D N i f ps (idle (child c)) is) m e = absurd cc
  failed_fails K p (op D N i f ps (filling w d l) is) m e = absurd cc
  failed_fails K p (op D N i f ps (out w d) is) m e = absurd cc
  failed_fails K p (op D N i f ps (closing x) is) m e = absurd cc
  failed_fails K p (op D N i f ps (over (by v)) is) m e = absurd cc
  failed_fails K p (op D N i f ps (over (at_fault x)) is) m e = fails_after {A = List G.Answer} (finish_items G M K p 0 is m) (remaining G M K p N i f ps (over (at_fault x))) (λ vs o. record { without = tt {0} })
  failed_fails K p (op D N i f ps (over stopped) is) m e = fails_after {A = List G.Answer} (finish_items G M K p 0 is m) (remaining G M K p N i f ps (over stopped)) (λ vs o. record { without = tt {0} })
  failed_fails K p (op D N i f ps dropped is) m e = fails_after {A = List G.Answer} (finish_items G M K p 0 is m) (remaining G M K p N i f ps dropped) (λ vs o. record { without = tt {0} })

  -- where one child has failed the children give no answers
  first_fails : (K : ℕ) (p : Path G) (j : ℕ) (n : Operation G) (is : Items G) (m : Map G) → has_failed G (stage_of G n) ≡ true → Fails (finish_items G M K p j (child_op n is) m)
  first_fails K p j n is m e = fails_then {A = G.Answer} (finish G M K (j ∷ p) n m) (λ v. bind G (finish_items G M K p (suc j) is) (λ vs. gives G (v ∷ vs))) (failed_fails K (j ∷ p) n m e)

  rest_fails : (K : ℕ) (p : Path G) (j : ℕ) (n : Operation G) (is : Items G) (m : Map G) → ((o : Map G) → Fails (finish_items G M K p (suc j) is o)) → Fails (finish_items G M K p j (child_op n is) m)
  rest_fails K p j n is m h = fails_after {A = G.Answer} (finish G M K (j ∷ p) n m) (λ v. bind G (finish_items G M K p (suc j) is) (λ vs. gives G (v ∷ vs)))
      (λ v o. fails_then {A = List G.Answer} (finish_items G M K p (suc j) is o) (λ vs. gives G (v ∷ vs)) (h o))

  failed_on_fails : (K : ℕ) (p : Path G) (j : ℕ) (Q : G.Needs) (is : Items G) → failed_on G M Q is ≡ true → (m : Map G) → Fails (finish_items G M K p j is m)
  failed_on_fails K p j Q no_item e m = absurd cc
  failed_on_fails K p j Q (said t is) e m = fails_prefix t (finish_items G M K p j is m) (failed_on_fails K p j Q is e m)
  failed_on_fails K p j Q (child_op n is) e m = by_test (has_failed G (stage_of G n)) (λ b. has_failed G (stage_of G n) ≡ b → (b && M.meets (needs_of G n) Q || failed_on G M Q is) ≡ true → Fails (finish_items G M K p j (child_op n is) m))
      (λ s k h. first_fails K p j n is m k) (λ s k h. rest_fails K p j n is m (failed_on_fails K p (suc j) Q is h)) refl e

  failed_at_fails : (K : ℕ) (p : Path G) (j : ℕ) (is : Items G) (c : ℕ) → failed_at G M is c ≡ true → (m : Map G) → Fails (finish_items G M K p j is m)
  failed_at_fails K p j no_item c e m = absurd cc
  failed_at_fails K p j (said t is) c e m = fails_prefix t (finish_items G M K p j is m) (failed_at_fails K p j is c e m)
  failed_at_fails K p j (child_op n is) zero e m = first_fails K p j n is m e
  failed_at_fails K p j (child_op n is) (suc c) e m = rest_fails K p j n is m (failed_at_fails K p (suc j) is c e)

  pub over_failed : (st : Stage G) → is_over G st ≡ true → is_ended G st ≡ false → has_failed G st ≡ true
  over_failed (over (by v)) e h = absurd cc
  over_failed (over (at_fault x)) e h = refl
  over_failed (over stopped) e h = refl
  over_failed dropped e h = refl
  over_failed (idle w) e h = absurd cc
  over_failed (filling w d l) e h = absurd cc
  over_failed (out w d) e h = absurd cc
  over_failed (closing x) e h = absurd cc

  unended_fails : (K : ℕ) (p : Path G) (j : ℕ) (is : Items G) → all_over G is ≡ true → all_ended G is ≡ false → (m : Map G) → Fails (finish_items G M K p j is m)
  unended_fails K p j no_item e h m = absurd cc
  unended_fails K p j (said t is) e h m = fails_prefix t (finish_items G M K p j is m) (unended_fails K p j is e h m)
  unended_fails K p j (child_op n is) e h m = let parts = and_parts (is_over G (stage_of G n)) (all_over G is) e in
      by_test (is_ended G (stage_of G n)) (λ b. is_ended G (stage_of G n) ≡ b → (b && all_ended G is) ≡ false → Fails (finish_items G M K p j (child_op n is) m))
      (λ s k g. rest_fails K p j n is m (unended_fails K p (suc j) is parts.1 g))
      (λ s k g. first_fails K p j n is m (over_failed (stage_of G n) parts.0 k)) refl h

  -- ---- finish

  -- dropping comes after a child that failed
  swept_child : (K : ℕ) (p : Path G) (j : ℕ) (n : Operation G) (is : Items G) (m : Map G) → ((o : Map G) → finish_items G M K p (suc j) (sweep G M [] is) o ≡ finish_items G M K p (suc j) is o) →
      (b : Bool) → has_failed G (stage_of G n) ≡ b → finish_items G M K p j (child_op n (sweep G M (cond b (needs_of G n ∷ []) []) is)) m ≡ finish_items G M K p j (child_op n is) m
  swept_child K p j n is m h true e = unreached (finish G M K (j ∷ p) n m) _ _ (failed_fails K (j ∷ p) n m e)
  swept_child K p j n is m h false e = ap (and_then G (finish G M K (j ∷ p) n m)) (λ r v o. and_then G (h o r) (λ vs. gives G (v ∷ vs)))

  swept : (b : Bool) (n : Operation G) (bad : List G.Needs) (is : Items G) → b ≡ false →
      cond b (child_op (as_dropped G M n) (sweep G M (needs_of G n ∷ bad) is)) (child_op n (sweep G M (cond (has_failed G (stage_of G n)) (needs_of G n ∷ bad) bad) is))
      ≡ child_op n (sweep G M (cond (has_failed G (stage_of G n)) (needs_of G n ∷ bad) bad) is)
  swept true n bad is e = absurd cc
  swept false n bad is e = refl

  pub sweep_finishes : (K : ℕ) (p : Path G) (j : ℕ) (is : Items G) (m : Map G) → finish_items G M K p j (sweep G M [] is) m ≡ finish_items G M K p j is m
  sweep_finishes K p j no_item m = refl
  sweep_finishes K p j (said t is) m = ap (prefix G t) (sweep_finishes K p j is m)
  sweep_finishes K p j (child_op n is) m =
      ap (λ js. finish_items G M K p j js m) (swept (is_waiting G (stage_of G n) && false) n [] is (and_right (is_waiting G (stage_of G n)) false refl))
      ∙ swept_child K p j n is m (sweep_finishes K p (suc j) is) (has_failed G (stage_of G n)) refl

  rest_same : {A B : Type 0} (r : Result G A) (k j : A → Process G B) → ((a : A) (m : Map G) → k a m ≡ j a m) → and_then G r k ≡ and_then G r j
  rest_same r k j h = ap (and_then G r) (λ i a m. h a m i)

  stop_finishes : (K : ℕ) (p : Path G) (N : G.Needs) (i : ℕ) (f : G.Frame) (ps : List (Element G)) (st : Stage G) (is : Items G) (m : Map G) →
      and_then G (finish_items G M K p 0 is m) (remaining G M K p N i f ps (stop G M N st is)) ≡ and_then G (finish_items G M K p 0 is m) (remaining G M K p N i f ps st)
  stop_finishes K p N i f ps (idle w) is m = by_test (waits_for_failed G M N w is) (λ b. waits_for_failed G M N w is ≡ b →
      and_then G (finish_items G M K p 0 is m) (remaining G M K p N i f ps (cond b (closing stopped) (idle w))) ≡ and_then G (finish_items G M K p 0 is m) (remaining G M K p N i f ps (idle w)))
      (λ e k. unreached _ _ _ (waited w k)) (λ e k. refl) refl
    where
      waited : (w : Wait G) → waits_for_failed G M N w is ≡ true → Fails (finish_items G M K p 0 is m)
      waited first e = absurd cc
      waited nothing e = absurd cc
      waited (part k) e = failed_on_fails K p 0 (M.narrowed N k) is e m
      waited (child c) e = failed_at_fails K p 0 is c e m
  stop_finishes K p N i f ps (filling w d l) is m = refl
  stop_finishes K p N i f ps (out w d) is m = refl
  stop_finishes K p N i f ps (closing e) is m = refl
  stop_finishes K p N i f ps (over e) is m = refl
  stop_finishes K p N i f ps dropped is m = refl

  close_finishes : (K : ℕ) (p : Path G) (N : G.Needs) (i : ℕ) (f : G.Frame) (ps : List (Element G)) (st : Stage G) (is : Items G) (m : Map G) →
      and_then G (finish_items G M K p 0 is m) (remaining G M K p N i f ps (close G M st is)) ≡ and_then G (finish_items G M K p 0 is m) (remaining G M K p N i f ps st)
  close_finishes K p N i f ps (closing e) is m = by_test (all_over G is) (λ b. all_over G is ≡ b →
      and_then G (finish_items G M K p 0 is m) (remaining G M K p N i f ps (cond b (over (ending_with G M e (all_ended G is))) (closing e))) ≡ and_then G (finish_items G M K p 0 is m) (λ vs. ending G M e))
      (λ s k. by_test (all_ended G is) (λ b. all_ended G is ≡ b → and_then G (finish_items G M K p 0 is m) (λ vs. ending G M (ending_with G M e b)) ≡ and_then G (finish_items G M K p 0 is m) (λ vs. ending G M e))
      (λ t h. rest_same _ _ _ (λ vs o. same e o)) (λ t h. unreached _ _ _ (unended_fails K p 0 is k h m)) refl) (λ s k. refl) refl
    where
      same : (e : Ending G) (o : Map G) → ending G M (ending_with G M e true) o ≡ ending G M e o
      same (by v) o = refl
      same (at_fault x) o = refl
      same stopped o = refl
  close_finishes K p N i f ps (idle w) is m = refl
  close_finishes K p N i f ps (filling w d l) is m = refl
  close_finishes K p N i f ps (out w d) is m = refl
  close_finishes K p N i f ps (over e) is m = refl
  close_finishes K p N i f ps dropped is m = refl

  pub settle_finishes : (K : ℕ) (p : Path G) (n : Operation G) (m : Map G) → finish G M K p (settle G M n) m ≡ finish G M K p n m
  settle_finishes K p (op D N i f ps st is) m =
      close_finishes K p N i f ps (stop G M N st (sweep G M [] is)) (sweep G M [] is) m
      ∙ stop_finishes K p N i f ps st (sweep G M [] is) m
      ∙ ap (λ r. and_then G r (remaining G M K p N i f ps st)) (sweep_finishes K p 0 is m)
