-- What follows a step keeps what is good of the tree.
use Rattle.std.proofs.Common.{◌≡◌, ◌∷◌, ◌&&◌, List, Some, [], cond, refl, suc, true, zero, ℕ}
use Rattle.std.proofs.lemmas.Bool.{and_from, and_parts}
use Rattle.board_rules.specs.Ground.{Ground}
use Rattle.board_rules.specs.Processes.{Map}
use Rattle.board_rules.specs.Running.{Element, Laws, Machine, Path, Spot, spots}
use Rattle.board_rules.specs.Apart.{claimed_by}
use Rattle.board_rules.specs.Boards.{all_ended, close, ending_with, has_failed, meets_any, settle, stop, sweep, waits_for_failed, Items, Operation, Stage, Wait, all_over, answer_of, child, closing, dropped, filling, first, given_by, idle, is_over, is_waiting, child_op, no_item, nothing, op, out, over, part, said, stage_of, stopped}
use Rattle.board_laws.proofs.Reaching.{by_test}
use Rattle.board_laws.proofs.Good.{ApartFrom, NoItem, Answered, FreeOf, Good, GoodItems, GoodOp, StageGood}

module _ (G : Ground) (M : Machine G) (L : Laws G M) where
  pub free_none : (is : Items G) → FreeOf G [] is
  free_none no_item = tt
  free_none (said t is) = free_none is
  free_none (child_op n is) = (λ e. tt, free_none is)

  no_item_over : (is : Items G) → NoItem G is → all_over G is ≡ true
  no_item_over no_item h = refl
  no_item_over (said t is) h = absurd h
  no_item_over (child_op n is) h = absurd h

  pub waiting_none : (m : Map G) (N : G.Needs) (st : Stage G) (is : Items G) → is_waiting G st ≡ true → StageGood G M L m N st is → NoItem G is
  waiting_none m N (idle first) is e h = h
  waiting_none m N (idle nothing) is e h = absurd cc
  waiting_none m N (idle (part k)) is e h = absurd cc
  waiting_none m N (idle (child c)) is e h = absurd cc
  waiting_none m N (filling w d l) is e h = absurd cc
  waiting_none m N (out w d) is e h = absurd cc
  waiting_none m N (closing x) is e h = absurd cc
  waiting_none m N (over x) is e h = absurd cc
  waiting_none m N dropped is e h = absurd cc

  drop_good : (m : Map G) (p : Path G) (D N : G.Needs) (i : ℕ) (f : G.Frame) (ps : List (Element G)) (st : Stage G) (is : Items G) → is_waiting G st ≡ true →
      Good G M L m p (op D N i f ps st is) → Good G M L m p (op D N i f ps dropped is)
  drop_good m p D N i f ps st is e g = (
    record { rooted = g.0.rooted; own = g.0.own; held = g.0.held; stage = no_item_over is (waiting_none m N st is e g.0.stage); free = g.0.free; free_claimed = free_none is },
    g.1,
  )

  free_sweep : (xs : List (Spot G)) (bad : List G.Needs) (is : Items G) → FreeOf G xs is → FreeOf G xs (sweep G M bad is)
  free_sweep xs bad no_item h = tt
  free_sweep xs bad (said t is) h = free_sweep xs bad is h
  free_sweep xs bad (child_op (op D N i f ps st js) is) h = by_test (is_waiting G st && meets_any G M bad D)
      (λ b. FreeOf G xs (cond b (child_op (op D N i f ps dropped js) (sweep G M (D ∷ bad) is)) (child_op (op D N i f ps st js) (sweep G M (cond (has_failed G st) (D ∷ bad) bad) is))))
      (λ e. (λ s. absurd cc, free_sweep xs (D ∷ bad) is h.1)) (λ e. (h.0, free_sweep xs _ is h.1))

  none_sweep : (bad : List G.Needs) (is : Items G) → NoItem G is → NoItem G (sweep G M bad is)
  none_sweep bad no_item h = tt
  none_sweep bad (said t is) h = absurd h
  none_sweep bad (child_op n is) h = absurd h

  over_sweep : (bad : List G.Needs) (is : Items G) → all_over G is ≡ true → all_over G (sweep G M bad is) ≡ true
  over_sweep bad no_item h = refl
  over_sweep bad (said t is) h = over_sweep bad is h
  over_sweep bad (child_op (op D N i f ps st js) is) h = let parts = and_parts (is_over G st) (all_over G is) h in by_test (is_waiting G st && meets_any G M bad D)
      (λ b. all_over G (cond b (child_op (op D N i f ps dropped js) (sweep G M (D ∷ bad) is)) (child_op (op D N i f ps st js) (sweep G M (cond (has_failed G st) (D ∷ bad) bad) is))) ≡ true)
      (λ e. over_sweep (D ∷ bad) is parts.1) (λ e. and_from _ _ parts.0 (over_sweep _ is parts.1))

  waiting_gives : (st : Stage G) (v : G.Answer) → is_waiting G st ≡ true → given_by G M st ≡ Some v → ⊥
  waiting_gives (idle w) v e h = cc
  waiting_gives (filling w d l) v e h = cc
  waiting_gives (out w d) v e h = cc
  waiting_gives (closing x) v e h = cc
  waiting_gives (over x) v e h = cc
  waiting_gives dropped v e h = cc

  answer_sweep : (bad : List G.Needs) (is : Items G) (c : ℕ) (v : G.Answer) → answer_of G M is c ≡ Some v → answer_of G M (sweep G M bad is) c ≡ Some v
  answer_sweep bad no_item c v h = h
  answer_sweep bad (said t is) c v h = answer_sweep bad is c v h
  answer_sweep bad (child_op (op D N i f ps st js) is) zero v h = by_test (is_waiting G st && meets_any G M bad D)
      (λ b. answer_of G M (cond b (child_op (op D N i f ps dropped js) (sweep G M (D ∷ bad) is)) (child_op (op D N i f ps st js) (sweep G M (cond (has_failed G st) (D ∷ bad) bad) is))) zero ≡ Some v)
      (λ e. absurd (waiting_gives st v (and_parts (is_waiting G st) (meets_any G M bad D) e).0 h)) (λ e. h)
  answer_sweep bad (child_op (op D N i f ps st js) is) (suc c) v h = by_test (is_waiting G st && meets_any G M bad D)
      (λ b. answer_of G M (cond b (child_op (op D N i f ps dropped js) (sweep G M (D ∷ bad) is)) (child_op (op D N i f ps st js) (sweep G M (cond (has_failed G st) (D ∷ bad) bad) is))) (suc c) ≡ Some v)
      (λ e. answer_sweep (D ∷ bad) is c v h) (λ e. answer_sweep _ is c v h)

  apart_sweep : (n : Operation G) (bad : List G.Needs) (is : Items G) → ApartFrom G n is → ApartFrom G n (sweep G M bad is)
  apart_sweep n bad no_item h = tt
  apart_sweep n bad (said t is) h = apart_sweep n bad is h
  apart_sweep n bad (child_op (op D N i f ps st js) is) h = by_test (is_waiting G st && meets_any G M bad D)
      (λ b. ApartFrom G n (cond b (child_op (op D N i f ps dropped js) (sweep G M (D ∷ bad) is)) (child_op (op D N i f ps st js) (sweep G M (cond (has_failed G st) (D ∷ bad) bad) is))))
      (λ e. (λ s r. absurd cc, apart_sweep n (D ∷ bad) is h.1)) (λ e. (h.0, apart_sweep n _ is h.1))

  -- what is over is apart from nothing
  over_apart : (n : Operation G) (is : Items G) → is_over G (stage_of G n) ≡ true → ApartFrom G n is
  over_apart n no_item e = tt
  over_apart n (said t is) e = over_apart n is e
  over_apart n (child_op d is) e = (λ s r. absurd cc, over_apart n is e)

  pub items_sweep : (m : Map G) (p : Path G) (N : G.Needs) (j : ℕ) (bad : List G.Needs) (is : Items G) → GoodItems G M L m p N j is → GoodItems G M L m p N j (sweep G M bad is)
  items_sweep m p N j bad no_item h = tt
  items_sweep m p N j bad (said t is) h = items_sweep m p N j bad is h
  items_sweep m p N j bad (child_op (op D O i f ps st js) is) h = by_test (is_waiting G st && meets_any G M bad D)
      (λ b. GoodItems G M L m p N j (cond b (child_op (op D O i f ps dropped js) (sweep G M (D ∷ bad) is)) (child_op (op D O i f ps st js) (sweep G M (cond (has_failed G st) (D ∷ bad) bad) is))))
      (λ e. (drop_good m (j ∷ p) D O i f ps st js (and_parts (is_waiting G st) (meets_any G M bad D) e).0 h.0, h.1, over_apart (op D O i f ps dropped js) (sweep G M (D ∷ bad) is) refl, items_sweep m p N (suc j) (D ∷ bad) is h.3))
      (λ e. (h.0, h.1, apart_sweep (op D O i f ps st js) _ is h.2, items_sweep m p N (suc j) _ is h.3))

  answered_sweep : (w : Wait G) (is : Items G) → Answered G M L w is → Answered G M L w (sweep G M [] is)
  answered_sweep first is h = none_sweep [] is h
  answered_sweep nothing is h = tt
  answered_sweep (part k) is h = tt
  answered_sweep (child c) is h = (h.0, answer_sweep [] is c h.0 h.1)

  stage_sweep : (m : Map G) (N : G.Needs) (st : Stage G) (is : Items G) → StageGood G M L m N st is → StageGood G M L m N st (sweep G M [] is)
  stage_sweep m N (idle first) is h = none_sweep [] is h
  stage_sweep m N (idle nothing) is h = tt
  stage_sweep m N (idle (part k)) is h = tt
  stage_sweep m N (idle (child c)) is h = tt
  stage_sweep m N (filling w d l) is h = (h.0, h.1, answered_sweep w is h.2)
  stage_sweep m N (out w d) is h = (h.0, h.1, answered_sweep w is h.2)
  stage_sweep m N (closing e) is h = tt
  stage_sweep m N (over e) is h = over_sweep [] is h
  stage_sweep m N dropped is h = over_sweep [] is h

  stop_good : (m : Map G) (p : Path G) (D N : G.Needs) (i : ℕ) (ps : List (Element G)) (st : Stage G) (is : Items G) → GoodOp G M L m p D N i ps st is → GoodOp G M L m p D N i ps (stop G M N st is) is
  stop_good m p D N i ps (idle w) is g = by_test (waits_for_failed G M N w is) (λ b. GoodOp G M L m p D N i ps (cond b (closing stopped) (idle w)) is)
      (λ e. record { rooted = g.rooted; own = g.own; held = g.held; stage = tt; free = g.free; free_claimed = free_none is }) (λ e. g)
  stop_good m p D N i ps (filling w d l) is g = g
  stop_good m p D N i ps (out w d) is g = g
  stop_good m p D N i ps (closing e) is g = g
  stop_good m p D N i ps (over e) is g = g
  stop_good m p D N i ps dropped is g = g

  close_good : (m : Map G) (p : Path G) (D N : G.Needs) (i : ℕ) (ps : List (Element G)) (st : Stage G) (is : Items G) → GoodOp G M L m p D N i ps st is → GoodOp G M L m p D N i ps (close G M st is) is
  close_good m p D N i ps (closing x) is g = by_test (all_over G is) (λ b. all_over G is ≡ b → GoodOp G M L m p D N i ps (cond b (over (ending_with G M x (all_ended G is))) (closing x)) is)
      (λ e k. record { rooted = g.rooted; own = g.own; held = g.held; stage = k; free = g.free; free_claimed = free_none is }) (λ e k. g) refl
  close_good m p D N i ps (filling w d l) is g = g
  close_good m p D N i ps (out w d) is g = g
  close_good m p D N i ps (idle w) is g = g
  close_good m p D N i ps (over e) is g = g
  close_good m p D N i ps dropped is g = g

  pub settle_good : (m : Map G) (p : Path G) (n : Operation G) → Good G M L m p n → Good G M L m p (settle G M n)
  settle_good m p (op D N i f ps st is) g = (
    close_good m p D N i ps (stop G M N st (sweep G M [] is)) (sweep G M [] is) (stop_good m p D N i ps st (sweep G M [] is) (record {
      rooted = g.0.rooted;
      own = g.0.own;
      held = g.0.held;
      stage = stage_sweep m N st is g.0.stage;
      free = free_sweep (spots G ps) [] is g.0.free;
      free_claimed = free_sweep (claimed_by G st) [] is g.0.free_claimed;
    })),
    items_sweep m p N 0 [] is g.1,
  )
