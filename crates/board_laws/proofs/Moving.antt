-- What is good of the tree stays so while others change the map, and where children are issued.
use Rattle.std.proofs.Common.{◌≡◌, ◌∷◌, ◌∙◌, ◌⊎◌, ◌&&◌, ◌<◌, List, None, Option, Some, [], ap, cond, inl, inr, not, refl, subst, suc, sym, true, true≢false, ℕ}
use Rattle.std.proofs.lemmas.Bool.{and_parts}
use Rattle.board_rules.specs.Ground.{Ground, Mode}
use Rattle.board_rules.specs.Processes.{AllForeign, Effect, Footprint, Foreign, Inside, Map, mode_of, location_of, run, run_all}
use Rattle.board_rules.specs.Running.{Call, Element, Held, Laws, Machine, Path, Spot, reach, spots, under}
use Rattle.board_rules.specs.Boards.{◌+++◌, Items, Operation, Stage, child, closing, dropped, filling, first, idle, is_over, is_waiting, issued, child_op, no_item, nothing, op, out, over, part, said, stage_of}
use Rattle.board_laws.proofs.Reaching.{AllOwned, Agree, agree_run, apart_inside, filled_spots, zeros_owned, at_reach, by_test, child_reach, filled_same, held_append, held_wider, inside_self, owned_puts, owned_steady, run_within, under_self, within_filled, within_wider}
use Rattle.board_laws.proofs.Good.{ApartNeeds, is_running, InsideNeeds, ApartFrom, NoItem, above, AllApart, Answered, FreeOf, Good, GoodItems, GoodOp, OwnOf, Rooted, StageGood, above_self, apart_turned, needs_above, reach_needs, reach_own}
use Rattle.board_laws.proofs.Finishing.{ChildrenInside, held_parts, inside_own, inside_open, open_reach, wants_held}
use Rattle.board_laws.proofs.Passing.{AllForeignChildren, ForeignChildren, past}

module _ (G : Ground) (M : Machine G) (L : Laws G M) where
  -- ---- other effects

  pub foreign_children : (g : Footprint G) (e : Effect G) (p : Path G) (j : ℕ) (is : Items G) → ChildrenInside G M L g p j is → Foreign G g e → ForeignChildren G M L e p j is
  foreign_children g e p j no_item h k = tt
  foreign_children g e p j (said t is) h k = foreign_children g e p j is h k
  foreign_children g e p j (child_op n is) h k =
      (apart_inside G (Some (mode_of G e)) (open_reach G M L (j ∷ p) n (location_of G e)) (g (location_of G e)) k (h.0 (location_of G e)), foreign_children g e p (suc j) is h.1 k)

  stage_run : (e : Effect G) (m : Map G) (p : Path G) (D N : G.Needs) (i : ℕ) (f : G.Frame) (ps : List (Element G)) (st : Stage G) (is : Items G) → GoodOp G M L m p D N i ps st is →
      Foreign G (open_reach G M L p (op D N i f ps st is)) e → StageGood G M L (run G e m) N st is
  stage_run e m p D N i f ps (idle first) is g h = g.stage
  stage_run e m p D N i f ps (idle nothing) is g h = tt
  stage_run e m p D N i f ps (idle (part k)) is g h = tt
  stage_run e m p D N i f ps (idle (child c)) is g h = tt
  stage_run e m p D N i f ps (filling w d l) is g h = (
    filled_same G M L (reach G p D) (spots G d) (run G e m) m
        (held_wider G (G.at N) (reach G p D) (spots G d) (inside_own G M L p D N i g.own) (held_parts G M L (G.at N) (spots G d) l (subst (Held G (G.at N)) (sym g.stage.1) (wants_held G M L N w))).0)
        (agree_run G M L (reach G p D) e m h) ∙ g.stage.0,
    g.stage.1,
    g.stage.2,
  )
  stage_run e m p D N i f ps (out w d) is g h = (
    filled_same G M L (reach G p D) (spots G d) (run G e m) m
        (held_wider G (G.at N) (reach G p D) (spots G d) (inside_own G M L p D N i g.own) (subst (Held G (G.at N)) (sym g.stage.1) (wants_held G M L N w)))
        (agree_run G M L (reach G p D) e m h) ∙ g.stage.0,
    g.stage.1,
    g.stage.2,
  )
  stage_run e m p D N i f ps (closing x) is g h = tt
  stage_run e m p D N i f ps (over x) is g h = g.stage
  stage_run e m p D N i f ps dropped is g h = g.stage

  mutual
    pub good_run : (e : Effect G) (m : Map G) (p : Path G) (n : Operation G) → Good G M L m p n → Foreign G (open_reach G M L p n) e → Good G M L (run G e m) p n
    good_run e m p (op D N i f ps st is) g h = (
      record { rooted = g.0.rooted; own = g.0.own; held = g.0.held; stage = stage_run e m p D N i f ps st is g.0 h; free = g.0.free; free_claimed = g.0.free_claimed },
      items_run e m p N 0 is g.1 (foreign_children (open_reach G M L p (op D N i f ps st is)) e p 0 is (inside_open G M L m p D N i f ps st is g.0 g.1) h),
    )

    pub items_run : (e : Effect G) (m : Map G) (p : Path G) (N : G.Needs) (j : ℕ) (is : Items G) → GoodItems G M L m p N j is → ForeignChildren G M L e p j is → GoodItems G M L (run G e m) p N j is
    items_run e m p N j no_item g h = tt
    items_run e m p N j (said t is) g h = items_run e m p N j is g h
    items_run e m p N j (child_op n is) g h = (good_run e m (j ∷ p) n g.0 h.0, g.1, g.2, items_run e m p N (suc j) is g.3 h.1)

  pub items_run_all : (es : List (Effect G)) (m : Map G) (p : Path G) (N : G.Needs) (j : ℕ) (is : Items G) → GoodItems G M L m p N j is → AllForeignChildren G M L es p j is → GoodItems G M L (run_all G es m) p N j is
  items_run_all [] m p N j is g h = g
  items_run_all (e ∷ es) m p N j is g h = items_run_all es (run G e m) p N j is (items_run e m p N j is g h.0) h.1

  pub good_run_all : (es : List (Effect G)) (m : Map G) (p : Path G) (n : Operation G) → Good G M L m p n → AllForeign G (open_reach G M L p n) es → Good G M L (run_all G es m) p n
  good_run_all [] m p n g h = g
  good_run_all (e ∷ es) m p n g h = good_run_all es (run G e m) p n (good_run e m p n g h.0) h.1

  -- ---- more items, more needs

  abbrev pub AllWaiting : Items G → Type 0
  AllWaiting no_item = Unit {0}
  AllWaiting (said t is) = AllWaiting is
  AllWaiting (child_op n is) = (is_waiting G (stage_of G n) ≡ true) × AllWaiting is

  waits_apart : (n : Operation G) (js : Items G) → AllWaiting js → ApartFrom G n js
  waits_apart n no_item h = tt
  waits_apart n (said t js) h = waits_apart n js h
  waits_apart n (child_op d js) h = (λ e r. absurd (true≢false (sym r ∙ ap (λ b. not b && not (is_over G (stage_of G d))) h.0)), waits_apart n js h.1)

  apart_append : (n : Operation G) (is js : Items G) → ApartFrom G n is → AllWaiting js → ApartFrom G n (◌+++◌ G is js)
  apart_append n no_item js h w = waits_apart n js w
  apart_append n (said t is) js h w = apart_append n is js h w
  apart_append n (child_op d is) js h w = (h.0, apart_append n is js h.1 w)

  pub append_good : (m : Map G) (p : Path G) (N : G.Needs) (j : ℕ) (is js : Items G) → GoodItems G M L m p N j is → GoodItems G M L m p N (past G M L j is) js → AllWaiting js → GoodItems G M L m p N j (◌+++◌ G is js)
  append_good m p N j no_item js g h w = h
  append_good m p N j (said t is) js g h w = append_good m p N j is js g h w
  append_good m p N j (child_op n is) js g h w = (g.0, g.1, apart_append n is js g.2 w, append_good m p N (suc j) is js g.3 h w)

  pub free_append : (xs : List (Spot G)) (is js : Items G) → FreeOf G xs is → FreeOf G xs js → FreeOf G xs (◌+++◌ G is js)
  free_append xs no_item js h g = g
  free_append xs (said t is) js h g = free_append xs is js h g
  free_append xs (child_op n is) js h g = (h.0, free_append xs is js h.1 g)

  pub items_widen : (m : Map G) (p : Path G) (N O : G.Needs) (j : ℕ) (is : Items G) → InsideNeeds G N O → GoodItems G M L m p N j is → GoodItems G M L m p O j is
  items_widen m p N O j no_item h g = tt
  items_widen m p N O j (said t is) h g = items_widen m p N O j is h g
  items_widen m p N O j (child_op n is) h g = (g.0, λ l. Rattle.board_laws.proofs.Reaching.inside_inside G _ _ _ (g.1 l) (h l), g.2, items_widen m p N O (suc j) is h g.3)

  pub issued_waiting : (N : G.Needs) (xs : List (Call G)) → AllWaiting (issued G M N xs)
  issued_waiting N [] = tt
  issued_waiting N (x ∷ xs) = by_test (x.may && M.inside x.needs N) (λ b. AllWaiting (cond b (child_op (op x.needs x.needs 0 x.frame [] (idle first) no_item) (issued G M N xs)) no_item))
      (λ e. (refl, issued_waiting N xs)) (λ e. tt)

  none_in : (a b : Option (Mode G.Op)) → Inside G a b → b ≡ None → a ≡ None
  none_in None b h e = refl
  none_in (Some a) b (inl h) e = absurd cc
  none_in (Some a) b (inr h) e = absurd cc

  issued_rooted : (p : Path G) (c : ℕ) (i : ℕ) (D N C : G.Needs) → Rooted G p D → OwnOf G p i D N → InsideNeeds G C N → Rooted G (c ∷ p) C
  issued_rooted p c i D N C r o h l e = by_own (o l)
    where
      by_own : (G.at N l ≡ G.at D l) ⊎ ((G.maker l ≡ p) × (G.making l < i)) → G.at C l ≡ None
      by_own (inl same) = none_in _ _ (h l) (same ∙ r l (Rattle.board_laws.proofs.Good.false_from G _ (λ k. true≢false (sym (Rattle.board_laws.proofs.Good.above_under G p (G.maker l) k) ∙ e))))
      by_own (inr mine) = absurd (true≢false (sym (subst (λ q. under G q p ≡ true) (sym mine.0) (under_self G p)) ∙ e))

  pub issued_good : (m : Map G) (p : Path G) (D N : G.Needs) (i : ℕ) (c : ℕ) (xs : List (Call G)) → Rooted G p D → OwnOf G p i D N → GoodItems G M L m p N c (issued G M N xs)
  issued_good m p D N i c [] r o = tt
  issued_good m p D N i c (x ∷ xs) r o = by_test (x.may && M.inside x.needs N)
      (λ b. (x.may && M.inside x.needs N) ≡ b → GoodItems G M L m p N c (cond b (child_op (op x.needs x.needs 0 x.frame [] (idle first) no_item) (issued G M N xs)) no_item))
      (λ e k. (
        (record { rooted = issued_rooted p c i D N x.needs r o (L.is_inside x.needs N (and_parts x.may (M.inside x.needs N) k).1); own = λ l. inl refl; held = tt; stage = tt; free = tt; free_claimed = tt }, tt),
        L.is_inside x.needs N (and_parts x.may (M.inside x.needs N) k).1,
        waits_apart (op x.needs x.needs 0 x.frame [] (idle first) no_item) (issued G M N xs) (issued_waiting N xs),
        issued_good m p D N i (suc c) xs r o,
      )) (λ e k. tt) refl
