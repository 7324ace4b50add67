-- A board that isn't finished and has no claim out has a ready operation: the first child that isn't over has
-- one, or the operation itself is ready.
use Rattle.std.proofs.Common.{◌≡◌, ◌∷◌, ◌∙◌, ◌&&◌, ◌||◌, Bool, List, None, Option, Some, [], ap, cond, false, is_some, not, refl, subst, suc, sym, true, true≢false, zero, ℕ}
use Rattle.std.proofs.lemmas.Bool.{and_from, and_parts, or_left, or_parts, or_right}
use Rattle.std.proofs.lemmas.Option.{none-some, same_Some}
use Rattle.board_rules.specs.Ground.{Ground}
use Rattle.board_rules.specs.Processes.{Map, run_all}
use Rattle.board_rules.specs.Running.{Element, Laws, Machine, Path}
use Rattle.board_rules.specs.Boards.{Items, Operation, Stage, Stepped, Wait, all_over, answer_of, as_child, at_fault, behind, by, child, claim, clear_of, closing, dropped, failed_at, failed_on, filling, first, given_by, has_failed, idle, in_op, is_ended, is_over, is_ready, is_waiting, child_op, meets_any, needs_of, no_item, nothing, op, out, over, part, said, stage_of, step_among, step_in, still_open, stopped, unchanged, waits_for_failed, wants}
use Rattle.board_rules.specs.Journals.{Entry, State, after_entries, opened, stepped}
use Rattle.board_rules.specs.Ready.{SomeReady, claims_among, claims_in}
use Rattle.board_laws.proofs.Good.{Good, GoodItems}
use Rattle.board_laws.proofs.OwnGood.{IfStep, StepGood}
use Rattle.board_laws.proofs.Steps.{step_good}
use Rattle.board_laws.proofs.Settling.{over_failed}
use Rattle.board_laws.proofs.Outcomes.{journal_leads, none_stays, opened_good}
use Rattle.board_laws.proofs.Calm.{worse, then_false, ended_unfailed, IfLeft, Calm, CalmItems, step_calm}

module _ (G : Ground) (M : Machine G) (L : Laws G M) where
  -- ---- a ready operation

  -- among what is over, what isn't Ended has failed
  same_bad : (n : Operation G) (bad : List G.Needs) → is_over G (stage_of G n) ≡ true → still_open G M n bad ≡ worse G M L n bad
  same_bad n bad e = by_ended (is_ended G (stage_of G n)) refl
    where
      by_ended : (b : Bool) → is_ended G (stage_of G n) ≡ b → cond (is_ended G (stage_of G n)) bad (needs_of G n ∷ bad) ≡ cond (has_failed G (stage_of G n)) (needs_of G n ∷ bad) bad
      by_ended true k = ap (λ x. cond x bad (needs_of G n ∷ bad)) k ∙ sym (ap (λ x. cond x (needs_of G n ∷ bad) bad) (ended_unfailed G M L (stage_of G n) k))
      by_ended false k = ap (λ x. cond x bad (needs_of G n ∷ bad)) k ∙ sym (ap (λ x. cond x (needs_of G n ∷ bad) bad) (over_failed G M L (stage_of G n) e k))

  over_clear : (Q : G.Needs) (is : Items G) → all_over G is ≡ true → failed_on G M Q is ≡ false → clear_of G M Q is ≡ true
  over_clear Q no_item e h = refl
  over_clear Q (said t is) e h = over_clear Q is e h
  over_clear Q (child_op n is) e h = let parts = and_parts (is_over G (stage_of G n)) (all_over G is) e in let off = or_parts (has_failed G (stage_of G n) && M.meets (needs_of G n) Q) (failed_on G M Q is) h in
      and_from _ _ (by_ended (is_ended G (stage_of G n)) refl parts.0 off.0) (over_clear Q is parts.1 off.1)
    where
      by_ended : (b : Bool) → is_ended G (stage_of G n) ≡ b → is_over G (stage_of G n) ≡ true → (has_failed G (stage_of G n) && M.meets (needs_of G n) Q) ≡ false → (is_ended G (stage_of G n) || not (M.meets (needs_of G n) Q)) ≡ true
      by_ended true k o f = or_left _ _ k
      by_ended false k o f = or_right _ _ (ap not (then_false G M L (has_failed G (stage_of G n)) (M.meets (needs_of G n) Q) f (over_failed G M L (stage_of G n) o k)))

  over_answers : (is : Items G) (c : ℕ) → all_over G is ≡ true → failed_at G M is c ≡ false → is_some (answer_of G M is c) ≡ true
  over_answers no_item c e h = refl
  over_answers (said t is) c e h = over_answers is c e h
  over_answers (child_op n is) zero e h = by_stage (stage_of G n) (and_parts (is_over G (stage_of G n)) (all_over G is) e).0 h
    where
      by_stage : (st : Stage G) → is_over G st ≡ true → has_failed G st ≡ false → is_some (given_by G M st) ≡ true
      by_stage (over (by v)) o f = refl
      by_stage (over (at_fault x)) o f = absurd cc
      by_stage (over stopped) o f = absurd cc
      by_stage dropped o f = absurd cc
      by_stage (idle w) o f = absurd cc
      by_stage (filling w d l) o f = absurd cc
      by_stage (out w d) o f = absurd cc
      by_stage (closing x) o f = absurd cc
  over_answers (child_op n is) (suc c) e h = over_answers is c (and_parts (is_over G (stage_of G n)) (all_over G is) e).1 h

  some_child : (is : Items G) (o : Option (Stepped G (Operation G))) → is_some o ≡ true → is_some (as_child G M is o) ≡ true
  some_child is None e = absurd cc
  some_child is (Some s) e = refl

  some_behind : (g : Items G → Items G) (o : Option (Stepped G (Items G))) → is_some o ≡ true → is_some (behind G M g o) ≡ true
  some_behind g None e = absurd cc
  some_behind g (Some s) e = refl

  some_op : (D N : G.Needs) (i : ℕ) (f : G.Frame) (ps : List (Element G)) (st : Stage G) (o : Option (Stepped G (Items G))) → is_some o ≡ true → is_some (in_op G M D N i f ps st o) ≡ true
  some_op D N i f ps st None e = absurd cc
  some_op D N i f ps st (Some s) e = refl

  -- once nothing below runs, what the operation waits for has come
  waited_for : (N : G.Needs) (w : Wait G) (is : Items G) (before : Bool) → all_over G is ≡ true → waits_for_failed G M N w is ≡ false → (is_waiting G (idle w) ≡ true → before ≡ true) → is_ready G M before N w is ≡ true
  waited_for N first is before e h b = b refl
  waited_for N nothing is before e h b = refl
  waited_for N (part k) is before e h b = over_clear (M.narrowed N k) is e h
  waited_for N (child c) is before e h b = over_answers is c e h

  mutual
    ready_in : (p : Path G) (before : Bool) (m : Map G) (a : Operation G) → Good G M L m p a → Calm G M L a → (is_waiting G (stage_of G a) ≡ true → before ≡ true) → is_over G (stage_of G a) ≡ false → claims_in G a ≡ false →
        (way : List ℕ) × (is_some (step_in G M claim way p before m a) ≡ true)
    ready_in p before m (op D N i f ps (idle w) is) g h b o c = by_children (all_over G is) refl (λ e. ready_among p N 0 [] m is g.1 h.1 e (or_parts false (claims_among G is) c).1)
      where
        by_children : (x : Bool) → all_over G is ≡ x → (all_over G is ≡ false → (y : ℕ) × ((way : List ℕ) × (is_some (step_among G M claim y way p 0 [] m is) ≡ true))) → (way : List ℕ) × (is_some (step_in G M claim way p before m (op D N i f ps (idle w) is)) ≡ true)
        by_children true k r = ([], ap (λ x. is_some (cond x (unchanged G M (op D N i f ps (filling w [] (wants G M N w)) is)) None)) (waited_for N w is before k h.0 b))
        by_children false k r = let q = r k in (q.0 ∷ q.1.0, some_op D N i f ps (idle w) (step_among G M claim q.0 q.1.0 p 0 [] m is) q.1.1)
    ready_in p before m (op D N i f ps (closing x) is) g h b o c = let q = ready_among p N 0 [] m is g.1 h.1 h.0 (or_parts false (claims_among G is) c).1 in
        (q.0 ∷ q.1.0, some_op D N i f ps (closing x) (step_among G M claim q.0 q.1.0 p 0 [] m is) q.1.1)
    ready_in p before m (op D N i f ps (filling w d l) is) g h b o c = absurd (true≢false c)
    ready_in p before m (op D N i f ps (out w d) is) g h b o c = absurd (true≢false c)
    ready_in p before m (op D N i f ps (over x) is) g h b o c = absurd (true≢false o)
    ready_in p before m (op D N i f ps dropped is) g h b o c = absurd (true≢false o)

    -- the first child that isn't over has a ready operation in it
    ready_among : (p : Path G) (N : G.Needs) (j : ℕ) (bad : List G.Needs) (m : Map G) (is : Items G) → GoodItems G M L m p N j is → CalmItems G M L bad is → all_over G is ≡ false → claims_among G is ≡ false →
        (y : ℕ) × ((way : List ℕ) × (is_some (step_among G M claim y way p j bad m is) ≡ true))
    ready_among p N j bad m no_item g h e c = absurd (true≢false e)
    ready_among p N j bad m (said t is) g h e c = let r = ready_among p N j bad m is g h e c in (r.0, (r.1.0, some_behind (said t) (step_among G M claim r.0 r.1.0 p j bad m is) r.1.1))
    ready_among p N j bad m (child_op a is) g h e c = by_over (is_over G (stage_of G a)) refl
        (λ k. ready_in (j ∷ p) (not (meets_any G M bad (needs_of G a))) m a g.0 h.0 (λ w. ap not (h.1 w)) k (or_parts (claims_in G a) (claims_among G is) c).0)
        (λ k. ready_among p N (suc j) (worse G M L a bad) m is g.3 h.2 k (or_parts (claims_in G a) (claims_among G is) c).1)
      where
        by_over : (x : Bool) → is_over G (stage_of G a) ≡ x → (is_over G (stage_of G a) ≡ false → (way : List ℕ) × (is_some (step_in G M claim way (j ∷ p) (not (meets_any G M bad (needs_of G a))) m a) ≡ true)) →
            (all_over G is ≡ false → (y : ℕ) × ((way : List ℕ) × (is_some (step_among G M claim y way p (suc j) (worse G M L a bad) m is) ≡ true))) → (y : ℕ) × ((way : List ℕ) × (is_some (step_among G M claim y way p j bad m (child_op a is)) ≡ true))
        by_over false k here there = let r = here k in (0, (r.0, some_child is (step_in G M claim r.0 (j ∷ p) (not (meets_any G M bad (needs_of G a))) m a) r.1))
        by_over true k here there = let r = there (then_false G M L (is_over G (stage_of G a)) (all_over G is) e k) in (
          suc r.0,
          (
            r.1.0,
            some_behind (child_op a) (step_among G M claim r.0 r.1.0 p (suc j) (still_open G M a bad) m is)
                (subst (λ Ns. is_some (step_among G M claim r.0 r.1.0 p (suc j) Ns m is) ≡ true) (sym (same_bad a bad k)) r.1.1),
          ),
        )

  -- ---- journals

  pub journal_calm : (es : List Entry) (s u : State G) → Good G M L s.map [] s.tree → Calm G M L s.tree → after_entries G M (Some s) es ≡ Some u → Calm G M L u.tree
  journal_calm [] s u g h e = subst (λ (x : State G). Calm G M L x.tree) (same_Some s u e) h
  journal_calm (x ∷ es) s u g h e = by_step (step_in G M x.kind x.way [] true s.map s.tree) (step_calm G M L x.kind x.way [] true s.map s.tree g h) (step_good G M L x.kind x.way [] true s.map s.tree g) e (λ v k c r. journal_calm es v u k c r)
    where
      by_step : (o : Option (Stepped G (Operation G))) → IfLeft G M L o (Calm G M L) → IfStep G M L o (StepGood G M L s.map [] true s.tree) → after_entries G M (stepped G M s.map o) es ≡ Some u →
          ((v : State G) → Good G M L v.map [] v.tree → Calm G M L v.tree → after_entries G M (Some v) es ≡ Some u → Calm G M L u.tree) → Calm G M L u.tree
      by_step None c k r next = absurd (none-some u (sym (none_stays G M L es) ∙ r))
      by_step (Some t) c k r next = next (record { tree = t.left; map = run_all G t.effects s.map }) k.good c r

  pub some_ready : SomeReady G M
  some_ready job journal s r o c = ready_in [] true s.map s.tree (journal_leads G M L journal (opened G M job) s (opened_good G M L job) r).good
      (journal_calm journal (opened G M job) s (opened_good G M L job) (refl, tt) r) (λ w. refl) o c
