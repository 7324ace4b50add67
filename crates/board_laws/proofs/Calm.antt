-- What waits in vain is dropped or stopped at once, and what has nothing left to wait for is closed at once:
-- each step leaves every operation so.
use Rattle.std.proofs.Common.{◌≡◌, ◌++◌, ◌∷◌, ◌∙◌, ◌&&◌, ◌||◌, Bool, List, None, Option, Some, [], ap, cond, drop, false, is_some, not, refl, subst, suc, sym, take, true, true≢false, zero, ℕ}
use Rattle.std.proofs.lemmas.Bool.{and_from, and_parts, or_from, or_right}
use Rattle.board_rules.specs.Ground.{Ground}
use Rattle.board_rules.specs.Processes.{Map}
use Rattle.board_rules.specs.Running.{After, Call, Element, Laws, Machine, Path, Yield, await, calls, ends, filled, make, stops, want}
use Rattle.board_rules.specs.Boards.{◌+++◌, Ending, all_ended, ending_with, Items, Kind, Operation, Stage, Stepped, Wait, all_issued, all_over, answer_of, as_child, at_fault, awaited, back, behind, by, child, claim, clear_of, close, closing, copied, copy, dropped, failed_at, failed_on, filling, first, give, given, given_by, has_failed, idle, in_op, is_ended, is_over, is_ready, is_waiting, issued, child_op, meets_any, met_by, needs_of, no_item, nothing, op, out, over, own_step, part, said, settle, stage_of, step_among, step_in, still_open, stop, stopped, sweep, unchanged, waits_for_failed, wants}
use Rattle.board_laws.proofs.Reaching.{by_test}
use Rattle.board_laws.proofs.Good.{Good, GoodItems}
use Rattle.board_laws.proofs.OwnGood.{IfStep, StepGood}
use Rattle.board_laws.proofs.Steps.{AmongGood, among_good, step_good}

module _ (G : Ground) (M : Machine G) (L : Laws G M) where
  -- what an operation waits for can still come, or has come where it is claimed
  abbrev pub CalmStage : G.Needs → Stage G → Items G → Type 0
  CalmStage N (idle w) is = waits_for_failed G M N w is ≡ false
  CalmStage N (filling w d l) is = is_ready G M true N w is ≡ true
  CalmStage N (out w d) is = is_ready G M true N w is ≡ true
  CalmStage N (closing e) is = all_over G is ≡ false
  CalmStage N (over e) is = Unit {0}
  CalmStage N dropped is = Unit {0}

  abbrev pub worse : Operation G → List G.Needs → List G.Needs
  worse n bad = cond (has_failed G (stage_of G n)) (needs_of G n ∷ bad) bad

  abbrev mutual
    pub Calm : Operation G → Type 0
    Calm (op D N i f ps st is) = CalmStage N st is × CalmItems [] is

    pub CalmItems : List G.Needs → Items G → Type 0
    CalmItems bad no_item = Unit {0}
    CalmItems bad (said t is) = CalmItems bad is
    CalmItems bad (child_op n is) = Calm n × (is_waiting G (stage_of G n) ≡ true → meets_any G M bad (needs_of G n) ≡ false) × CalmItems (worse n bad) is

  abbrev pub AllCalm : Items G → Type 0
  AllCalm no_item = Unit {0}
  AllCalm (said t is) = AllCalm is
  AllCalm (child_op n is) = Calm n × AllCalm is

  pub each_calm : (bad : List G.Needs) (is : Items G) → CalmItems bad is → AllCalm is
  each_calm bad no_item h = tt
  each_calm bad (said t is) h = each_calm bad is h
  each_calm bad (child_op n is) h = (h.0, each_calm (worse n bad) is h.2)

  -- ---- what follows a step

  pub then_false : (a b : Bool) → (a && b) ≡ false → a ≡ true → b ≡ false
  then_false true b e h = e
  then_false false b e h = absurd cc

  sweep_calm : (bad : List G.Needs) (is : Items G) → AllCalm is → CalmItems bad (sweep G M bad is)
  sweep_calm bad no_item h = tt
  sweep_calm bad (said t is) h = sweep_calm bad is h
  sweep_calm bad (child_op (op D N i f ps st js) is) h = by_test (is_waiting G st && meets_any G M bad D)
      (λ b. (is_waiting G st && meets_any G M bad D) ≡ b → CalmItems bad (cond b (child_op (op D N i f ps dropped js) (sweep G M (D ∷ bad) is)) (child_op (op D N i f ps st js) (sweep G M (cond (has_failed G st) (D ∷ bad) bad) is))))
      (λ e k. ((tt, h.0.1), (λ w. absurd cc), sweep_calm (D ∷ bad) is h.1))
      (λ e k. (h.0, then_false (is_waiting G st) (meets_any G M bad D) k, sweep_calm (cond (has_failed G st) (D ∷ bad) bad) is h.1)) refl

  waiting_unended : (st : Stage G) → is_waiting G st ≡ true → is_ended G st ≡ false
  waiting_unended (idle w) e = refl
  waiting_unended (filling w d l) e = absurd cc
  waiting_unended (out w d) e = absurd cc
  waiting_unended (closing x) e = absurd cc
  waiting_unended (over x) e = absurd cc
  waiting_unended dropped e = absurd cc

  waiting_gives : (st : Stage G) → is_waiting G st ≡ true → given_by G M st ≡ None
  waiting_gives (idle w) e = refl
  waiting_gives (filling w d l) e = refl
  waiting_gives (out w d) e = refl
  waiting_gives (closing x) e = refl
  waiting_gives (over x) e = absurd cc
  waiting_gives dropped e = absurd cc

  clear_sweep : (Q : G.Needs) (bad : List G.Needs) (is : Items G) → clear_of G M Q is ≡ true → clear_of G M Q (sweep G M bad is) ≡ true
  clear_sweep Q bad no_item e = refl
  clear_sweep Q bad (said t is) e = clear_sweep Q bad is e
  clear_sweep Q bad (child_op (op D N i f ps st js) is) e = let parts = and_parts (is_ended G st || not (M.meets D Q)) (clear_of G M Q is) e in by_test (is_waiting G st && meets_any G M bad D)
      (λ b. (is_waiting G st && meets_any G M bad D) ≡ b → clear_of G M Q (cond b (child_op (op D N i f ps dropped js) (sweep G M (D ∷ bad) is)) (child_op (op D N i f ps st js) (sweep G M (cond (has_failed G st) (D ∷ bad) bad) is))) ≡ true)
      (λ x k. and_from (not (M.meets D Q)) _ (subst (λ b. (b || not (M.meets D Q)) ≡ true) (waiting_unended st (and_parts (is_waiting G st) (meets_any G M bad D) k).0) parts.0) (clear_sweep Q (D ∷ bad) is parts.1))
      (λ x k. and_from _ _ parts.0 (clear_sweep Q _ is parts.1)) refl

  answer_sweep : (bad : List G.Needs) (is : Items G) (c : ℕ) → is_some (answer_of G M is c) ≡ true → is_some (answer_of G M (sweep G M bad is) c) ≡ true
  answer_sweep bad no_item c e = e
  answer_sweep bad (said t is) c e = answer_sweep bad is c e
  answer_sweep bad (child_op (op D N i f ps st js) is) zero e = by_test (is_waiting G st && meets_any G M bad D)
      (λ b. (is_waiting G st && meets_any G M bad D) ≡ b → is_some (answer_of G M (cond b (child_op (op D N i f ps dropped js) (sweep G M (D ∷ bad) is)) (child_op (op D N i f ps st js) (sweep G M (cond (has_failed G st) (D ∷ bad) bad) is))) zero) ≡ true)
      (λ x k. absurd (true≢false (sym e ∙ ap is_some (waiting_gives st (and_parts (is_waiting G st) (meets_any G M bad D) k).0)))) (λ x k. e) refl
  answer_sweep bad (child_op (op D N i f ps st js) is) (suc c) e = by_test (is_waiting G st && meets_any G M bad D)
      (λ b. is_some (answer_of G M (cond b (child_op (op D N i f ps dropped js) (sweep G M (D ∷ bad) is)) (child_op (op D N i f ps st js) (sweep G M (cond (has_failed G st) (D ∷ bad) bad) is))) (suc c)) ≡ true)
      (λ x. answer_sweep (D ∷ bad) is c e) (λ x. answer_sweep _ is c e)

  ready_sweep : (N : G.Needs) (w : Wait G) (is : Items G) → is_ready G M true N w is ≡ true → is_ready G M true N w (sweep G M [] is) ≡ true
  ready_sweep N first is e = refl
  ready_sweep N nothing is e = refl
  ready_sweep N (part k) is e = clear_sweep (M.narrowed N k) [] is e
  ready_sweep N (child c) is e = answer_sweep [] is c e

  -- what has come where the operation is claimed
  abbrev Claimable : G.Needs → Stage G → Items G → Type 0
  Claimable N (filling w d l) is = is_ready G M true N w is ≡ true
  Claimable N (out w d) is = is_ready G M true N w is ≡ true
  Claimable N _ is = Unit {0}

  closed_calm : (N : G.Needs) (e : Ending G) (is : Items G) → CalmStage N (close G M (closing e) is) is
  closed_calm N e is = by_test (all_over G is) (λ b. all_over G is ≡ b → CalmStage N (cond b (over (ending_with G M e (all_ended G is))) (closing e)) is) (λ x k. tt) (λ x k. k) refl

  settled_calm : (N : G.Needs) (st : Stage G) (is : Items G) → Claimable N st is → CalmStage N (close G M (stop G M N st (sweep G M [] is)) (sweep G M [] is)) (sweep G M [] is)
  settled_calm N (idle w) is h = by_test (waits_for_failed G M N w (sweep G M [] is)) (λ b. waits_for_failed G M N w (sweep G M [] is) ≡ b → CalmStage N (close G M (cond b (closing stopped) (idle w)) (sweep G M [] is)) (sweep G M [] is))
      (λ e k. closed_calm N stopped (sweep G M [] is)) (λ e k. k) refl
  settled_calm N (filling w d l) is h = ready_sweep N w is h
  settled_calm N (out w d) is h = ready_sweep N w is h
  settled_calm N (closing e) is h = closed_calm N e (sweep G M [] is)
  settled_calm N (over e) is h = tt
  settled_calm N dropped is h = tt

  settle_calm : (D N : G.Needs) (i : ℕ) (f : G.Frame) (ps : List (Element G)) (st : Stage G) (is : Items G) → Claimable N st is → AllCalm is → Calm (settle G M (op D N i f ps st is))
  settle_calm D N i f ps st is h a = (settled_calm N st is h, sweep_calm [] is a)

  -- ---- what has come has not failed

  pub ended_unfailed : (st : Stage G) → is_ended G st ≡ true → has_failed G st ≡ false
  ended_unfailed (over (by v)) e = refl
  ended_unfailed (over (at_fault x)) e = absurd cc
  ended_unfailed (over stopped) e = absurd cc
  ended_unfailed (idle w) e = absurd cc
  ended_unfailed (filling w d l) e = absurd cc
  ended_unfailed (out w d) e = absurd cc
  ended_unfailed (closing x) e = absurd cc
  ended_unfailed dropped e = absurd cc

  given_unfailed : (st : Stage G) → is_some (given_by G M st) ≡ true → has_failed G st ≡ false
  given_unfailed (over (by v)) e = refl
  given_unfailed (over (at_fault x)) e = absurd cc
  given_unfailed (over stopped) e = absurd cc
  given_unfailed (idle w) e = absurd cc
  given_unfailed (filling w d l) e = absurd cc
  given_unfailed (out w d) e = absurd cc
  given_unfailed (closing x) e = absurd cc
  given_unfailed dropped e = absurd cc

  clear_unfailed : (Q : G.Needs) (is : Items G) → clear_of G M Q is ≡ true → failed_on G M Q is ≡ false
  clear_unfailed Q no_item e = refl
  clear_unfailed Q (said t is) e = clear_unfailed Q is e
  clear_unfailed Q (child_op n is) e = let parts = and_parts (is_ended G (stage_of G n) || not (M.meets (needs_of G n) Q)) (clear_of G M Q is) e in
      or_from _ _ (by_ended (is_ended G (stage_of G n)) refl parts.0) (clear_unfailed Q is parts.1)
    where
      and_off : (a b : Bool) → not b ≡ true → (a && b) ≡ false
      and_off a true h = absurd cc
      and_off true false h = refl
      and_off false false h = refl

      by_ended : (b : Bool) → is_ended G (stage_of G n) ≡ b → (b || not (M.meets (needs_of G n) Q)) ≡ true → (has_failed G (stage_of G n) && M.meets (needs_of G n) Q) ≡ false
      by_ended true k h = ap (λ x. x && M.meets (needs_of G n) Q) (ended_unfailed (stage_of G n) k)
      by_ended false k h = and_off (has_failed G (stage_of G n)) (M.meets (needs_of G n) Q) h

  answered_unfailed : (is : Items G) (c : ℕ) → is_some (answer_of G M is c) ≡ true → failed_at G M is c ≡ false
  answered_unfailed no_item c e = refl
  answered_unfailed (said t is) c e = answered_unfailed is c e
  answered_unfailed (child_op n is) zero e = given_unfailed (stage_of G n) e
  answered_unfailed (child_op n is) (suc c) e = answered_unfailed is c e

  ready_unfailed : (N : G.Needs) (w : Wait G) (is : Items G) → is_ready G M true N w is ≡ true → waits_for_failed G M N w is ≡ false
  ready_unfailed N first is e = refl
  ready_unfailed N nothing is e = refl
  ready_unfailed N (part k) is e = clear_unfailed (M.narrowed N k) is e
  ready_unfailed N (child c) is e = answered_unfailed is c e

  -- ---- the steps

  append_calm : (is js : Items G) → AllCalm is → AllCalm js → AllCalm (◌+++◌ G is js)
  append_calm no_item js h g = g
  append_calm (said t is) js h g = append_calm is js h g
  append_calm (child_op n is) js h g = (h.0, append_calm is js h.1 g)

  issued_calm : (N : G.Needs) (xs : List (Call G)) → AllCalm (issued G M N xs)
  issued_calm N [] = tt
  issued_calm N (x ∷ xs) = by_test (x.may && M.inside x.needs N) (λ b. AllCalm (cond b (child_op (op x.needs x.needs 0 x.frame [] (idle first) no_item) (issued G M N xs)) no_item))
      (λ e. ((refl, tt), issued_calm N xs)) (λ e. tt)

  given_calm : (p : Path G) (D N : G.Needs) (i : ℕ) (is : Items G) (t : List G.Byte) (f : G.Frame) (ps : List (Element G)) (y : Yield G) → AllCalm is → Calm (settle G M (given G M p D N i is t f ps y).left)
  given_calm p D N i is t f ps (calls xs) h = settle_calm D N i f [] (cond (all_issued G M N xs) (idle nothing) (closing (at_fault G.broken))) (◌+++◌ G is (said t (issued G M N xs)))
      (by_test (all_issued G M N xs) (λ b. Claimable N (cond b (idle nothing) (closing (at_fault G.broken))) (◌+++◌ G is (said t (issued G M N xs)))) (λ e. tt) (λ e. tt)) (append_calm is _ h (issued_calm N xs))
  given_calm p D N i is t f ps (want k) h = settle_calm D N i f ps (idle (part k)) (◌+++◌ G is (said t no_item)) tt (append_calm is _ h tt)
  given_calm p D N i is t f ps (await c) h = settle_calm D N i f ps (idle (child c)) (◌+++◌ G is (said t no_item)) tt (append_calm is _ h tt)
  given_calm p D N i is t f ps (make d) h = by_test (M.sound d) (λ b. Calm (settle G M (cond {A = Stepped G (Operation G)} b
      (record { left = op D (M.grown p i d N) (suc i) (M.pushed p i d f) ps (idle nothing) (◌+++◌ G is (said t no_item)); effects = M.zeros p i d })
      (record { left = op D N i f [] (closing (at_fault G.broken)) (◌+++◌ G is (said t no_item)); effects = [] })).left))
      (λ e. settle_calm D (M.grown p i d N) (suc i) (M.pushed p i d f) ps (idle nothing) (◌+++◌ G is (said t no_item)) tt (append_calm is _ h tt))
      (λ e. settle_calm D N i f [] (closing (at_fault G.broken)) (◌+++◌ G is (said t no_item)) tt (append_calm is _ h tt))
  given_calm p D N i is t f ps (ends v) h = settle_calm D N i f [] (closing (by v)) (◌+++◌ G is (said t no_item)) tt (append_calm is _ h tt)
  given_calm p D N i is t f ps (stops x) h = settle_calm D N i f [] (closing (at_fault x)) (◌+++◌ G is (said t no_item)) tt (append_calm is _ h tt)

  abbrev pub IfLeft : {A : Type 0} → Option (Stepped G A) → (A → Type 0) → Type 0
  IfLeft None P = Unit {0}
  IfLeft (Some s) P = P s.left

  once_ready : (before : Bool) (N : G.Needs) (w : Wait G) (is : Items G) → is_ready G M before N w is ≡ true → is_ready G M true N w is ≡ true
  once_ready before N first is e = refl
  once_ready before N nothing is e = refl
  once_ready before N (part k) is e = e
  once_ready before N (child c) is e = e

  copied_calm : (N : G.Needs) (w : Wait G) (d : List (Element G)) (l : List _) (is : Items G) → is_ready G M true N w is ≡ true → CalmStage N (copied G M w d l) is
  copied_calm N w d [] is e = e
  copied_calm N w d (x ∷ l) is e = e

  own_calm : (k : Kind) (p : Path G) (before : Bool) (m : Map G) (a : Operation G) → Calm a → IfLeft (own_step G M k p before m a) Calm
  own_calm claim p before m (op D N i f ps (idle w) is) h = by_test (is_ready G M before N w is)
      (λ b. is_ready G M before N w is ≡ b → IfLeft (cond b (unchanged G M (op D N i f ps (filling w [] (wants G M N w)) is)) None) Calm)
      (λ e k. (once_ready before N w is k, h.1)) (λ e k. tt) refl
  own_calm copy p before m (op D N i f ps (filling w d l) is) h = (copied_calm N w (d ++ filled G M (take M.chunk l) m) (drop M.chunk l) is h.0, h.1)
  own_calm give p before m (op D N i f ps (out w d) is) h = given_calm p D N i is a.text a.frame a.parts a.yields (each_calm [] is h.1)
    where
      a : After G
      a = M.segment (met_by G M w f (awaited G M w is)) (ps ++ d)
  own_calm back p before m (op D N i f ps (filling w d l) is) h = (ready_unfailed N w is h.0, h.1)
  own_calm back p before m (op D N i f ps (out w d) is) h = (ready_unfailed N w is h.0, h.1)
  own_calm _ p before m (op D N i f ps st is) h = tt

  -- ---- the walk

  if_child : (is : Items G) (o : Option (Stepped G (Operation G))) (P : Operation G → Type 0) (S : Stepped G (Operation G) → Type 0) (Q : Items G → Type 0) → IfLeft o P → IfStep G M L o S →
      ((s : Stepped G (Operation G)) → P s.left → S s → Q (child_op s.left is)) → IfLeft (as_child G M is o) Q
  if_child is None P S Q h g k = tt
  if_child is (Some s) P S Q h g k = k s h g

  if_behind : (g : Items G → Items G) (o : Option (Stepped G (Items G))) (P Q : Items G → Type 0) → IfLeft o P → ((z : Items G) → P z → Q (g z)) → IfLeft (behind G M g o) Q
  if_behind g None P Q h k = tt
  if_behind g (Some s) P Q h k = k s.left h

  if_op : (D N : G.Needs) (i : ℕ) (f : G.Frame) (ps : List (Element G)) (st : Stage G) (o : Option (Stepped G (Items G))) (P : Items G → Type 0) (S : Stepped G (Items G) → Type 0) (Q : Operation G → Type 0) → IfLeft o P → IfStep G M L o S →
      ((s : Stepped G (Items G)) → P s.left → S s → Q (settle G M (op D N i f ps st s.left))) → IfLeft (in_op G M D N i f ps st o) Q
  if_op D N i f ps st None P S Q h g k = tt
  if_op D N i f ps st (Some s) P S Q h g k = k s h g

  -- each child is calm, and what was clear stays clear
  pub record StillClear (is z : Items G) : Type 0 where
    pub calm : AllCalm z
    pub clear : (Q : G.Needs) → clear_of G M Q is ≡ true → clear_of G M Q z ≡ true

  open_unended : (st : Stage G) → is_over G st ≡ false → is_ended G st ≡ false
  open_unended (idle w) e = refl
  open_unended (filling w d l) e = refl
  open_unended (out w d) e = refl
  open_unended (closing x) e = refl
  open_unended (over x) e = absurd cc
  open_unended dropped e = absurd cc

  some_still : (is z : Items G) (c : ℕ) → ((x : ℕ) (v : G.Answer) → answer_of G M is x ≡ Some v → answer_of G M z x ≡ Some v) → is_some (answer_of G M is c) ≡ true → is_some (answer_of G M z c) ≡ true
  some_still is z c h e = by_answer (answer_of G M is c) refl e
    where
      by_answer : (o : Option G.Answer) → answer_of G M is c ≡ o → is_some o ≡ true → is_some (answer_of G M z c) ≡ true
      by_answer None k e = absurd cc
      by_answer (Some v) k e = ap is_some (h c v k)

  still_claimable : (N : G.Needs) (st : Stage G) (is z : Items G) → CalmStage N st is → ((Q : G.Needs) → clear_of G M Q is ≡ true → clear_of G M Q z ≡ true) →
      ((x : ℕ) (v : G.Answer) → answer_of G M is x ≡ Some v → answer_of G M z x ≡ Some v) → Claimable N st z
  still_claimable N (idle w) is z h c a = tt
  still_claimable N (filling first d l) is z h c a = refl
  still_claimable N (filling nothing d l) is z h c a = refl
  still_claimable N (filling (part k) d l) is z h c a = c (M.narrowed N k) h
  still_claimable N (filling (child x) d l) is z h c a = some_still is z x a h
  still_claimable N (out first d) is z h c a = refl
  still_claimable N (out nothing d) is z h c a = refl
  still_claimable N (out (part k) d) is z h c a = c (M.narrowed N k) h
  still_claimable N (out (child x) d) is z h c a = some_still is z x a h
  still_claimable N (closing e) is z h c a = tt
  still_claimable N (over e) is z h c a = tt
  still_claimable N dropped is z h c a = tt

  mutual
    pub step_calm : (k : Kind) (way : List ℕ) (p : Path G) (before : Bool) (m : Map G) (a : Operation G) → Good G M L m p a → Calm a → IfLeft (step_in G M k way p before m a) Calm
    step_calm k [] p before m (op D N i f ps st is) g h = own_calm k p before m (op D N i f ps st is) h
    step_calm k (c ∷ way) p before m (op D N i f ps st is) g h = by_test (is_over G st)
        (λ b. IfLeft (cond b None (in_op G M D N i f ps st (step_among G M k c way p 0 [] m is))) Calm)
        (λ e. tt)
        (λ e. if_op D N i f ps st (step_among G M k c way p 0 [] m is) (StillClear is) (AmongGood G M L m p N 0 c [] is) Calm (among_calm k c way p N 0 [] m is g.1 (each_calm [] is h.1)) (among_good G M L k c way p N 0 [] m is g.1)
        (λ s q r. settle_calm D N i f ps st s.left (still_claimable N st is s.left h.0 q.clear r.answers) q.calm))

    among_calm : (k : Kind) (c : ℕ) (way : List ℕ) (p : Path G) (N : G.Needs) (j : ℕ) (Ns : List G.Needs) (m : Map G) (is : Items G) → GoodItems G M L m p N j is → AllCalm is → IfLeft (step_among G M k c way p j Ns m is) (StillClear is)
    among_calm k c way p N j Ns m no_item g h = tt
    among_calm k c way p N j Ns m (said t is) g h = if_behind (said t) (step_among G M k c way p j Ns m is) (StillClear is) (StillClear (said t is)) (among_calm k c way p N j Ns m is g h) (λ z q. record { calm = q.calm; clear = q.clear })
    among_calm k zero way p N j Ns m (child_op a is) g h =
        if_child is (step_in G M k way (j ∷ p) (not (meets_any G M Ns (needs_of G a))) m a) Calm (StepGood G M L m (j ∷ p) (not (meets_any G M Ns (needs_of G a))) a) (StillClear (child_op a is))
        (step_calm k way (j ∷ p) (not (meets_any G M Ns (needs_of G a))) m a g.0 h.0) (step_good G M L k way (j ∷ p) (not (meets_any G M Ns (needs_of G a))) m a g.0)
        (λ s q r. record {
          calm = (q, h.1);
          clear = λ Q e. let parts = and_parts (is_ended G (stage_of G a) || not (M.meets (needs_of G a) Q)) (clear_of G M Q is) e in
              and_from _ _ (or_right _ _ (subst (λ x. not (M.meets x Q) ≡ true) (sym r.same_needs) (subst (λ b. (b || not (M.meets (needs_of G a) Q)) ≡ true) (open_unended (stage_of G a) r.was_open) parts.0))) parts.1;
        })
    among_calm k (suc c) way p N j Ns m (child_op a is) g h = if_behind (child_op a) (step_among G M k c way p (suc j) (still_open G M a Ns) m is) (StillClear is) (StillClear (child_op a is)) (among_calm k c way p N (suc j) (still_open G M a Ns) m is g.3 h.1)
        (λ z q. record { calm = (h.0, q.calm); clear = λ Q e. let parts = and_parts (is_ended G (stage_of G a) || not (M.meets (needs_of G a) Q)) (clear_of G M Q is) e in and_from _ _ parts.0 (q.clear Q parts.1) })
