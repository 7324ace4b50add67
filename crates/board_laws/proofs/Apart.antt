-- Operations in progress that are no ancestors of each other never interfere.
use Rattle.std.proofs.Common.{◌≡◌, ◌∷◌, ◌∙◌, ◌&&◌, ◌<◌, Bool, List, None, Option, Some, [], ap, arith, eq-eqb, eqb-true, false, nat_eq, not, refl, subst, suc, sym, true, true≢false, zero, ℕ}
use Rattle.std.proofs.lemmas.Bool.{and_from, and_parts}
use Rattle.std.proofs.lemmas.Option.{same_Some}
use Rattle.board_rules.specs.Ground.{Ground}
use Rattle.board_rules.specs.Processes.{Apart, Inside}
use Rattle.board_rules.specs.Running.{Laws, Machine, Path, reach}
use Rattle.board_rules.specs.Boards.{Items, Operation, Stage, all_over, closing, dropped, filling, idle, is_over, is_waiting, child_op, needs_of, no_item, op, out, over, said, stage_of}
use Rattle.board_rules.specs.Journals.{opened}
use Rattle.board_rules.specs.Apart.{InProgressApart, begins, find, find_among, in_progress, needs_now}
use Rattle.board_laws.proofs.Reaching.{apart_inside, by_test, child_reach, inside_inside}
use Rattle.board_laws.proofs.Good.{ApartFrom, Good, GoodItems, GoodOp, NoItem, apart_turned, reach_apart}
use Rattle.board_laws.proofs.Finishing.{inside_own, reach_inside}
use Rattle.board_laws.proofs.Keeping.{waiting_none}
use Rattle.board_laws.proofs.Steps.{differ, node_rooted}
use Rattle.board_laws.proofs.Outcomes.{journal_leads, opened_good}

module _ (G : Ground) (M : Machine G) (L : Laws G M) where
  abbrev pub IfFound : Option (Operation G) → (Operation G → Type 0) → Type 0
  IfFound None P = Unit {0}
  IfFound (Some a) P = P a

  pub weaken : (o : Option (Operation G)) (P Q : Operation G → Type 0) → IfFound o P → ((a : Operation G) → P a → Q a) → IfFound o Q
  weaken None P Q h k = tt
  weaken (Some a) P Q h k = k a h

  both_found : (o : Option (Operation G)) (P Q : Operation G → Type 0) → IfFound o P → IfFound o Q → IfFound o (λ a. P a × Q a)
  both_found None P Q h k = tt
  both_found (Some a) P Q h k = (h, k)

  -- what is in progress stands in what is in progress
  mutual
    none_over : (way : List ℕ) (n : Operation G) (m : G.Location → G.Number) (p : Path G) → Good G M L m p n → is_over G (stage_of G n) ≡ true → IfFound (find G way n) (λ a. is_over G (stage_of G a) ≡ true)
    none_over [] (op D N i f ps st is) m p g e = e
    none_over (c ∷ way) (op D N i f ps st is) m p g e = among_over c way is m p N 0 g.1 (children_over st g.0 e)
      where
        children_over : (st : Stage G) → GoodOp G M L m p D N i ps st is → is_over G st ≡ true → all_over G is ≡ true
        children_over (idle w) g e = absurd cc
        children_over (filling w d l) g e = absurd cc
        children_over (out w d) g e = absurd cc
        children_over (closing x) g e = absurd cc
        children_over (over x) g e = g.stage
        children_over dropped g e = g.stage

    among_over : (c : ℕ) (way : List ℕ) (is : Items G) (m : G.Location → G.Number) (p : Path G) (N : G.Needs) (j : ℕ) → GoodItems G M L m p N j is → all_over G is ≡ true → IfFound (find_among G c way is) (λ a. is_over G (stage_of G a) ≡ true)
    among_over c way no_item m p N j g e = tt
    among_over c way (said t is) m p N j g e = among_over c way is m p N j g e
    among_over zero way (child_op n is) m p N j g e = none_over way n m (j ∷ p) g.0 (and_parts (is_over G (stage_of G n)) (all_over G is) e).0
    among_over (suc c) way (child_op n is) m p N j g e = among_over c way is m p N (suc j) g.3 (and_parts (is_over G (stage_of G n)) (all_over G is) e).1

  mutual
    -- it needs what the one above it may reach
    found_inside : (way : List ℕ) (n : Operation G) (m : G.Location → G.Number) (p : Path G) → Good G M L m p n → IfFound (find G way n) (λ a. (l : G.Location) → Inside G (G.at (needs_now G a) l) (reach G p (needs_of G n) l))
    found_inside [] (op D N i f ps st is) m p g = inside_own G M L p D N i g.0.own
    found_inside (c ∷ way) (op D N i f ps st is) m p g = weaken (find_among G c way is) _ _ (among_inside c way is m p N 0 g.1)
        (λ a h l. inside_inside G _ _ _ (h l) (reach_inside G M L p D N i g.0.own l))

    among_inside : (c : ℕ) (way : List ℕ) (is : Items G) (m : G.Location → G.Number) (p : Path G) (N : G.Needs) (j : ℕ) → GoodItems G M L m p N j is → IfFound (find_among G c way is) (λ a. (l : G.Location) → Inside G (G.at (needs_now G a) l) (reach G p N l))
    among_inside c way no_item m p N j g = tt
    among_inside c way (said t is) m p N j g = among_inside c way is m p N j g
    among_inside zero way (child_op n is) m p N j g = weaken (find G way n) _ _ (found_inside way n m (j ∷ p) g.0) (λ a h l. inside_inside G _ _ _ (h l) (child_reach G M L p j (needs_of G n) N g.1 l))
    among_inside (suc c) way (child_op n is) m p N j g = among_inside c way is m p N (suc j) g.3

  no_child_found : (c : ℕ) (way : List ℕ) (is : Items G) (P : Operation G → Type 0) → NoItem G is → IfFound (find_among G c way is) P
  no_child_found c way no_item P h = tt
  no_child_found c way (said t is) P h = absurd h
  no_child_found c way (child_op n is) P h = absurd h

  -- one under which something is in progress has begun
  has_begun : (way : List ℕ) (n : Operation G) (m : G.Location → G.Number) (p : Path G) → Good G M L m p n → IfFound (find G way n) (λ a. in_progress G a ≡ true → is_waiting G (stage_of G n) ≡ false)
  has_begun [] (op D N i f ps st is) m p g = λ e. positive (is_waiting G st) (and_parts (not (is_waiting G st)) (not (is_over G st)) e).0
    where
      positive : (b : Bool) → not b ≡ true → b ≡ false
      positive true e = absurd cc
      positive false e = refl
  has_begun (c ∷ way) (op D N i f ps st is) m p g = by_wait (is_waiting G st) refl
    where
      always : (o : Option (Operation G)) → is_waiting G st ≡ false → IfFound o (λ a. in_progress G a ≡ true → is_waiting G st ≡ false)
      always None e = tt
      always (Some a) e = λ k. e

      by_wait : (b : Bool) → is_waiting G st ≡ b → IfFound (find_among G c way is) (λ a. in_progress G a ≡ true → is_waiting G st ≡ false)
      by_wait true e = no_child_found c way is _ (waiting_none G M L m N st is e g.0.stage)
      by_wait false e = always _ e

  open_above : (way : List ℕ) (n : Operation G) (m : G.Location → G.Number) (p : Path G) → Good G M L m p n → IfFound (find G way n) (λ a. in_progress G a ≡ true → is_over G (stage_of G n) ≡ false)
  open_above way n m p g = by_over (is_over G (stage_of G n)) refl
    where
      always : (o : Option (Operation G)) → is_over G (stage_of G n) ≡ false → IfFound o (λ a. in_progress G a ≡ true → is_over G (stage_of G n) ≡ false)
      always None e = tt
      always (Some a) e = λ k. e

      by_over : (b : Bool) → is_over G (stage_of G n) ≡ b → IfFound (find G way n) (λ a. in_progress G a ≡ true → is_over G (stage_of G n) ≡ false)
      by_over true e = weaken (find G way n) _ _ (none_over way n m p g e) (λ a h k. absurd (true≢false (sym (and_parts (not (is_waiting G (stage_of G a))) (not (is_over G (stage_of G a))) k).1 ∙ ap not h)))
      by_over false e = always _ e

  -- one under a child and one under a later child
  across : (v : List ℕ) (q : Operation G) (a : ℕ) (c : ℕ) (w : List ℕ) (is : Items G) (m : G.Location → G.Number) (p : Path G) (N : G.Needs) (j : ℕ) → Good G M L m (a ∷ p) q → a < j → ApartFrom G q is → GoodItems G M L m p N j is →
      IfFound (find G v q) (λ x. IfFound (find_among G c w is) (λ y. in_progress G x ≡ true → in_progress G y ≡ true → (l : G.Location) → Apart G (G.at (needs_now G x) l) (G.at (needs_now G y) l)))
  across v q a c w no_item m p N j gq h t g = trivial (find G v q)
    where
      trivial : (o : Option (Operation G)) → IfFound o (λ x. Unit {0})
      trivial None = tt
      trivial (Some x) = tt
  across v q a c w (said u is) m p N j gq h t g = across v q a c w is m p N j gq h t g
  across v q a zero w (child_op d is) m p N j gq h t g =
      weaken (find G v q) _ _ (both_found (find G v q) _ _ (found_inside v q m (a ∷ p) gq) (open_above v q m (a ∷ p) gq))
      (λ x hx. weaken (find G w d) _ _ (both_found (find G w d) _ _ (found_inside w d m (j ∷ p) g.0) (both_found (find G w d) _ _ (open_above w d m (j ∷ p) g.0) (has_begun w d m (j ∷ p) g.0)))
      (λ y hy ex ey l. apart_turned G _ _ (apart_inside G (G.at (needs_now G y) l) (G.at (needs_now G x) l) (reach G (a ∷ p) (needs_of G q) l)
      (apart_turned G _ _ (apart_inside G (reach G (a ∷ p) (needs_of G q) l) (G.at (needs_now G y) l) (reach G (j ∷ p) (needs_of G d) l)
      (reach_apart G p a j (needs_of G q) (needs_of G d) (differ G M L a j h) (node_rooted G M L m (a ∷ p) q gq) (node_rooted G M L m (j ∷ p) d g.0)
      (t.0 (hx.1 ex) (and_from _ _ (ap not (hy.1.1 ey)) (ap not (hy.1.0 ey)))) l) (hy.0 l))) (hx.0 l))))
  across v q a (suc c) w (child_op d is) m p N j gq h t g = across v q a c w is m p N (suc j) gq (omega arith) t.1 g.3

  abbrev ApartIf : Operation G → Operation G → Type 0
  ApartIf x y = in_progress G x ≡ true → in_progress G y ≡ true → (l : G.Location) → Apart G (G.at (needs_now G x) l) (G.at (needs_now G y) l)

  turned : (o u : Option (Operation G)) → IfFound o (λ x. IfFound u (λ y. ApartIf x y)) → IfFound u (λ y. IfFound o (λ x. ApartIf y x))
  turned None None h = tt
  turned None (Some y) h = tt
  turned (Some x) None h = tt
  turned (Some x) (Some y) h = λ ey ex l. apart_turned G _ _ (h ex ey l)

  begins_self : (v w : List ℕ) (c : ℕ) → begins G (c ∷ v) (c ∷ w) ≡ false → begins G v w ≡ false
  begins_self v w c e = subst (λ b. (b && begins G v w) ≡ false) (eq-eqb c c refl) e

  fewer : (c d : ℕ) (v w : List ℕ) → begins G (suc c ∷ v) (suc d ∷ w) ≡ false → begins G (c ∷ v) (d ∷ w) ≡ false
  fewer c d v w e = by_test (nat_eq c d) (λ b. nat_eq c d ≡ b → (b && begins G v w) ≡ false)
      (λ s k. subst (λ b. (b && begins G v w) ≡ false) (eq-eqb (suc c) (suc d) (ap suc (eqb-true c d k))) e) (λ s k. refl) refl

  mutual
    separate : (n : Operation G) (m : G.Location → G.Number) (p : Path G) (v w : List ℕ) → Good G M L m p n → begins G v w ≡ false → begins G w v ≡ false → IfFound (find G v n) (λ x. IfFound (find G w n) (λ y. ApartIf x y))
    separate (op D N i f ps st is) m p [] w g e h = absurd cc
    separate (op D N i f ps st is) m p (c ∷ v) [] g e h = absurd cc
    separate (op D N i f ps st is) m p (c ∷ v) (d ∷ w) g e h = separate_among is m p N 0 c d v w g.1 e h

    separate_among : (is : Items G) (m : G.Location → G.Number) (p : Path G) (N : G.Needs) (j : ℕ) (c d : ℕ) (v w : List ℕ) → GoodItems G M L m p N j is → begins G (c ∷ v) (d ∷ w) ≡ false → begins G (d ∷ w) (c ∷ v) ≡ false →
        IfFound (find_among G c v is) (λ x. IfFound (find_among G d w is) (λ y. ApartIf x y))
    separate_among no_item m p N j c d v w g e h = tt
    separate_among (said t is) m p N j c d v w g e h = separate_among is m p N j c d v w g e h
    separate_among (child_op n is) m p N j zero zero v w g e h = separate n m (j ∷ p) v w g.0 (begins_self v w 0 e) (begins_self w v 0 h)
    separate_among (child_op n is) m p N j zero (suc d) v w g e h = across v n j d w is m p N (suc j) g.0 (omega arith) g.2 g.3
    separate_among (child_op n is) m p N j (suc c) zero v w g e h = turned (find G w n) (find_among G c v is) (across w n j c v is m p N (suc j) g.0 (omega arith) g.2 g.3)
    separate_among (child_op n is) m p N j (suc c) (suc d) v w g e h = separate_among is m p N (suc j) c d v w g.3 (fewer c d v w e) (fewer d c w v h)

  pub at_found : (o : Option (Operation G)) (a : Operation G) (P : Operation G → Type 0) → IfFound o P → o ≡ Some a → P a
  at_found None a P h e = absurd cc
  at_found (Some x) a P h e = subst P (same_Some x a e) h

  pub in_progress_apart : InProgressApart G M
  in_progress_apart job journal s r v w a b ea eb e h =
      at_found (find G w s.tree) b (λ y. ApartIf a y) (at_found (find G v s.tree) a (λ x. IfFound (find G w s.tree) (λ y. ApartIf x y))
      (separate s.tree s.map [] v w (journal_leads G M L journal (opened G M job) s (opened_good G M L job) r).good e h) ea) eb
