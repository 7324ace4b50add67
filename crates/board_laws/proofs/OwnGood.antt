-- Each of the four steps of an operation is good.
use Rattle.std.proofs.Common.{is_some, ◌≡◌, ◌++◌, ◌∷◌, ◌∙◌, ◌⊎◌, ◌||◌, ◌<◌, Bool, List, None, Option, Some, [], ap, append_assoc, append-nil, arith, cond, drop, false, inl, inr, not, refl, subst, suc, sym, take, take-append-drop, true, ℕ}
use Rattle.std.proofs.lemmas.Bool.{and_parts}
use Rattle.board_rules.specs.Ground.{Ground}
use Rattle.board_rules.specs.Processes.{Apart, Effect, Map, run_all}
use Rattle.board_rules.specs.Running.{Element, Held, Laws, Machine, Path, Spot, Yield, await, calls, ends, filled, make, puts, reach, spots, stops, want}
use Rattle.board_rules.specs.Apart.{claimed_by}
use Rattle.board_rules.specs.Boards.{◌+++◌, Kind, claim, copy, give, back, after_segment, own_step, unchanged, settle, clear_of, is_ended, is_ready, Items, Operation, Stage, Stepped, Wait, all_issued, answer_of, at_fault, awaited, by, child, closing, copied, dropped, filling, finish, first, given, idle, is_over, issued, child_op, met_by, needs_of, no_item, nothing, op, out, over, part, said, stage_of, wants}
use Rattle.board_laws.proofs.Reaching.{AllOwned, Agree, apart_inside, filled_spots, zeros_owned, by_test, held_append, held_wider, inside_self, owned_puts}
use Rattle.board_laws.proofs.Turns.{Below, below_same, below_through}
use Rattle.board_laws.proofs.Good.{is_running, InsideNeeds, AllApart, Answered, FreeOf, Good, GoodItems, GoodOp, OwnOf, Rooted, StageGood, apart_turned}
use Rattle.board_laws.proofs.Finishing.{inside_own, wants_held}
use Rattle.board_laws.proofs.Passing.{Above, AllForeignChildren, held_above, past}
use Rattle.board_laws.proofs.Giving.{filled_append, free_join, spots_append}
use Rattle.board_laws.proofs.OwnSteps.{back_from_filling, back_from_out, copy_finishes}
use Rattle.board_laws.proofs.Gives.{give_finishes, puts_foreign, zeros_foreign}
use Rattle.board_laws.proofs.Settling.{settle_finishes}
use Rattle.board_laws.proofs.Keeping.{free_none, settle_good}
use Rattle.board_laws.proofs.Moving.{AllWaiting, append_good, free_append, issued_good, issued_waiting, items_run_all, items_widen}

module _ (G : Ground) (M : Machine G) (L : Laws G M) where
  abbrev pub IfStep : {A : Type 0} → Option (Stepped G A) → (Stepped G A → Type 0) → Type 0
  IfStep None P = Unit {0}
  IfStep (Some s) P = P s

  -- a step of the operation at a place, or of one below it
  pub record StepGood (m : Map G) (p : Path G) (before : Bool) (n : Operation G) (s : Stepped G (Operation G)) : Type 0 where
    pub was_open : is_over G (stage_of G n) ≡ false
    pub began : (is_running G (stage_of G n) ≡ true) ⊎ (before ≡ true)
    pub same_needs : needs_of G s.left ≡ needs_of G n
    pub owned : AllOwned G (reach G p (needs_of G n)) s.effects
    pub good : Good G M L (run_all G s.effects m) p s.left
    pub finishes : (K : ℕ) (u : Map G) → Agree G M L (reach G p (needs_of G n)) u m →
        Below G (finish G M (suc K) p n u) (finish G M (suc K) p s.left (run_all G s.effects u))

  -- ---- claims

  some_of : {A : Type 0} (o : Option A) → is_some o ≡ true → (v : A) × (o ≡ Some v)
  some_of None e = absurd cc
  some_of (Some v) e = (v, refl)

  pub unended_open : (st : Stage G) → is_over G st ≡ false → is_ended G st ≡ false
  unended_open (idle w) e = refl
  unended_open (filling w d l) e = refl
  unended_open (out w d) e = refl
  unended_open (closing x) e = refl
  unended_open (over x) e = absurd cc
  unended_open dropped e = absurd cc

  pub held_apart : (C : G.Needs) (Q : G.Needs) (xs : List (Spot G)) → ((l : G.Location) → Apart G (G.at C l) (G.at Q l)) → Held G (G.at Q) xs → AllApart G C xs
  held_apart C Q [] a h = tt
  held_apart C Q (x ∷ xs) a h = (apart_turned G (G.at C x.location) (Some x.mode) (apart_inside G (G.at C x.location) (Some x.mode) (G.at Q x.location) (a x.location) h.0), held_apart C Q xs a h.1)

  pub not_false : (b : Bool) → not b ≡ true → b ≡ false
  not_false true e = absurd cc
  not_false false e = refl

  clear_free : (Q : G.Needs) (xs : List (Spot G)) (is : Items G) → Held G (G.at Q) xs → clear_of G M Q is ≡ true → FreeOf G xs is
  clear_free Q xs no_item h e = tt
  clear_free Q xs (said t is) h e = clear_free Q xs is h e
  clear_free Q xs (child_op n is) h e = let parts = and_parts (is_ended G (stage_of G n) || not (M.meets (needs_of G n) Q)) (clear_of G M Q is) e in (
    λ o. held_apart (needs_of G n) Q xs (L.apart (needs_of G n) Q (not_false _ (subst (λ b. (b || not (M.meets (needs_of G n) Q)) ≡ true) (unended_open (stage_of G n) o) parts.0))) h,
    clear_free Q xs is h parts.1,
  )

  claim_good : (m : Map G) (p : Path G) (before : Bool) (D N : G.Needs) (i : ℕ) (f : G.Frame) (ps : List (Element G)) (w : Wait G) (is : Items G) →
      Good G M L m p (op D N i f ps (idle w) is) → is_ready G M before N w is ≡ true → Good G M L m p (op D N i f ps (filling w [] (wants G M N w)) is)
  claim_good m p before D N i f ps w is g e = (
    record { rooted = g.0.rooted; own = g.0.own; held = g.0.held; stage = (refl, refl, answered w g.0.stage e); free = g.0.free; free_claimed = free_wanted w e },
    g.1,
  )
    where
      answered : (w : Wait G) → StageGood G M L m N (idle w) is → is_ready G M before N w is ≡ true → Answered G M L w is
      answered first h e = h
      answered nothing h e = tt
      answered (part k) h e = tt
      answered (child c) h e = some_of (answer_of G M is c) e

      free_wanted : (w : Wait G) → is_ready G M before N w is ≡ true → FreeOf G (wants G M N w) is
      free_wanted first e = free_none G M L is
      free_wanted nothing e = free_none G M L is
      free_wanted (part k) e = clear_free (M.narrowed N k) (M.wanted N k) is (L.narrowed_held N k) e
      free_wanted (child c) e = free_none G M L is

  began_claim : (before : Bool) (N : G.Needs) (w : Wait G) (is : Items G) → is_ready G M before N w is ≡ true → (is_running G (idle w) ≡ true) ⊎ (before ≡ true)
  began_claim before N first is e = inr e
  began_claim before N nothing is e = inl refl
  began_claim before N (part k) is e = inl refl
  began_claim before N (child c) is e = inl refl

  -- ---- copies

  copied_good : (m : Map G) (p : Path G) (D N : G.Needs) (i : ℕ) (ps : List (Element G)) (st : Stage G) (is : Items G) (w : Wait G) (d : List (Element G)) (l : List (Spot G)) →
      GoodOp G M L m p D N i ps st is → filled G M (spots G d) m ≡ d → spots G d ++ l ≡ wants G M N w → Answered G M L w is → FreeOf G (spots G d ++ l) is →
      GoodOp G M L m p D N i ps (copied G M w d l) is
  copied_good m p D N i ps st is w d [] g a b c e = record { rooted = g.rooted; own = g.own; held = g.held; stage = (a, sym (append-nil (spots G d)) ∙ b, c); free = g.free; free_claimed = subst (λ xs. FreeOf G xs is) (append-nil (spots G d)) e }
  copied_good m p D N i ps st is w d (x ∷ l) g a b c e = record { rooted = g.rooted; own = g.own; held = g.held; stage = (a, b, c); free = g.free; free_claimed = e }

  copy_good : (m : Map G) (p : Path G) (D N : G.Needs) (i : ℕ) (f : G.Frame) (ps : List (Element G)) (w : Wait G) (d : List (Element G)) (l : List (Spot G)) (is : Items G) →
      Good G M L m p (op D N i f ps (filling w d l) is) → Good G M L m p (op D N i f ps (copied G M w (d ++ filled G M (take M.chunk l) m) (drop M.chunk l)) is)
  copy_good m p D N i f ps w d l is g = (
    copied_good m p D N i ps (filling w d l) is w (d ++ filled G M (take M.chunk l) m) (drop M.chunk l) g.0
        (ap (λ xs. filled G M xs m) shape ∙ filled_append G M L (spots G d) (take M.chunk l) m ∙ ap (λ xs. xs ++ filled G M (take M.chunk l) m) g.0.stage.0)
        (whole ∙ g.0.stage.1) g.0.stage.2 (subst (λ xs. FreeOf G xs is) (sym whole) g.0.free_claimed),
    g.1,
  )
    where
      shape : spots G (d ++ filled G M (take M.chunk l) m) ≡ spots G d ++ take M.chunk l
      shape = spots_append G M L d (filled G M (take M.chunk l) m) ∙ ap (λ xs. spots G d ++ xs) (filled_spots G M L (take M.chunk l) m)

      whole : spots G (d ++ filled G M (take M.chunk l) m) ++ drop M.chunk l ≡ spots G d ++ l
      whole = ap (λ xs. xs ++ drop M.chunk l) shape ∙ append_assoc (spots G d) (take M.chunk l) (drop M.chunk l) ∙ ap (λ xs. spots G d ++ xs) (take-append-drop M.chunk l)

  back_good : (m : Map G) (p : Path G) (D N : G.Needs) (i : ℕ) (f : G.Frame) (ps : List (Element G)) (st : Stage G) (w : Wait G) (is : Items G) →
      Good G M L m p (op D N i f ps st is) → Answered G M L w is → Good G M L m p (op D N i f ps (idle w) is)
  back_good m p D N i f ps st w is g a =
      (record { rooted = g.0.rooted; own = g.0.own; held = g.0.held; stage = idle_good w a; free = g.0.free; free_claimed = free_none G M L is }, g.1)
    where
      idle_good : (w : Wait G) → Answered G M L w is → StageGood G M L m N (idle w) is
      idle_good first h = h
      idle_good nothing h = tt
      idle_good (part k) h = tt
      idle_good (child c) h = tt

  -- ---- gives

  module _ (m : Map G) (p : Path G) (D N : G.Needs) (i : ℕ) (is : Items G) (rooted : Rooted G p D) (own : OwnOf G p i D N) (child_count : GoodItems G M L m p N 0 is) where
    record Given (s : Stepped G (Operation G)) : Type 0 where
      pub same : needs_of G s.left ≡ D
      pub owned : AllOwned G (reach G p D) s.effects
      pub good : Good G M L (run_all G s.effects m) p s.left

    -- an operation that waits for no answer and holds nothing that it is filled with
    abbrev Plain : Stage G → Type 0
    Plain (idle first) = ⊥
    Plain (filling w d l) = ⊥
    Plain (out w d) = ⊥
    Plain (over e) = ⊥
    Plain dropped = ⊥
    Plain _ = Unit {0}

    plain_stage : (o : Map G) (O : G.Needs) (st : Stage G) (js : Items G) → Plain st → StageGood G M L o O st js
    plain_stage o O (idle first) js h = absurd h
    plain_stage o O (idle nothing) js h = tt
    plain_stage o O (idle (part k)) js h = tt
    plain_stage o O (idle (child c)) js h = tt
    plain_stage o O (filling w d l) js h = absurd h
    plain_stage o O (out w d) js h = absurd h
    plain_stage o O (closing e) js h = tt
    plain_stage o O (over e) js h = absurd h
    plain_stage o O dropped js h = absurd h

    plain_claims : (st : Stage G) (js : Items G) → Plain st → FreeOf G (claimed_by G st) js
    plain_claims (idle w) js h = free_none G M L js
    plain_claims (filling w d l) js h = absurd h
    plain_claims (out w d) js h = absurd h
    plain_claims (closing e) js h = free_none G M L js
    plain_claims (over e) js h = absurd h
    plain_claims dropped js h = absurd h

    node_good : (es : List (Effect G)) (O : G.Needs) (k : ℕ) (f : G.Frame) (ps : List (Element G)) (st : Stage G) (js : Items G) → OwnOf G p k D O → InsideNeeds G N O → Plain st →
        Held G (G.at O) (spots G ps) → FreeOf G (spots G ps) is → FreeOf G (spots G ps) js → AllForeignChildren G M L es p 0 is →
        GoodItems G M L (run_all G es m) p O (past G M L 0 is) js → AllWaiting G M L js →
        Good G M L (run_all G es m) p (op D O k f ps st (◌+++◌ G is js))
    node_good es O k f ps st js o h plain held free free_new foreign new waiting = (
      record {
        rooted = rooted;
        own = o;
        held = held;
        stage = plain_stage (run_all G es m) O st (◌+++◌ G is js) plain;
        free = free_append G M L (spots G ps) is js free free_new;
        free_claimed = plain_claims st (◌+++◌ G is js) plain;
      },
      append_good G M L (run_all G es m) p O 0 is js (items_widen G M L (run_all G es m) p N O 0 is h (items_run_all G M L es m p N 0 is child_count foreign)) new waiting,
    )

    same_needs : InsideNeeds G N N
    same_needs l = inside_self G (G.at N l)

    grown_own : (d : G.Made) → OwnOf G p (suc i) D (M.grown p i d N)
    grown_own d l = by_grown (L.grown_at p i d N l) (own l)
      where
        by_grown : (G.at (M.grown p i d N) l ≡ G.at N l) ⊎ ((G.maker l ≡ p) × (G.making l ≡ i)) → (G.at N l ≡ G.at D l) ⊎ ((G.maker l ≡ p) × (G.making l < i)) →
            (G.at (M.grown p i d N) l ≡ G.at D l) ⊎ ((G.maker l ≡ p) × (G.making l < suc i))
        by_grown (inl a) (inl b) = inl (a ∙ b)
        by_grown (inl a) (inr b) = inr (b.0, let h = b.1 in omega arith)
        by_grown (inr a) b = inr (a.0, let h = a.1 in omega arith)

    given_good : (t : List G.Byte) (f : G.Frame) (ps : List (Element G)) (y : Yield G) → Held G (G.at N) (spots G ps) → FreeOf G (spots G ps) is → AllForeignChildren G M L (puts G M ps) p 0 is →
        Given (given G M p D N i is t f ps y)
    given_good t f ps (calls xs) held free foreign = record {
      same = refl;
      owned = owned_puts G M L (reach G p D) ps (held_wider G (G.at N) (reach G p D) (spots G ps) (inside_own G M L p D N i own) held);
      good = node_good (puts G M ps) N i f [] (cond (all_issued G M N xs) (idle nothing) (closing (at_fault G.broken))) (said t (issued G M N xs)) own same_needs
          (by_test (all_issued G M N xs) (λ b. Plain (cond b (idle nothing) (closing (at_fault G.broken)))) (λ e. tt) (λ e. tt)) tt (free_none G M L is) (free_none G M L (issued G M N xs)) foreign
          (issued_good G M L (run_all G (puts G M ps) m) p D N i (past G M L 0 is) xs rooted own) (issued_waiting G M L N xs);
    }
    given_good t f ps (want k) held free foreign = record { same = refl; owned = tt; good = node_good [] N i f ps (idle (part k)) (said t no_item) own same_needs tt held free tt tt tt tt }
    given_good t f ps (await c) held free foreign = record { same = refl; owned = tt; good = node_good [] N i f ps (idle (child c)) (said t no_item) own same_needs tt held free tt tt tt tt }
    given_good t f ps (make d) held free foreign = by_test (M.sound d) (λ b. Given (cond b
        (record { left = op D (M.grown p i d N) (suc i) (M.pushed p i d f) ps (idle nothing) (◌+++◌ G is (said t no_item)); effects = M.zeros p i d })
        (record { left = op D N i f [] (closing (at_fault G.broken)) (◌+++◌ G is (said t no_item)); effects = [] })))
        (λ e. record {
          same = refl;
          owned = zeros_owned G M L p i D (M.zeros p i d) (L.zeros_mine p i d);
          good = node_good (M.zeros p i d) (M.grown p i d N) (suc i) (M.pushed p i d f) ps (idle nothing) (said t no_item) (grown_own d) (λ l. L.grown_more p i d N l) tt
              (held_wider G (G.at N) (G.at (M.grown p i d N)) (spots G ps) (λ l. L.grown_more p i d N l) held) free tt
              (zeros_foreign G M L m p D N i 0 is rooted own child_count (M.zeros p i d) (L.zeros_mine p i d)) tt tt;
        })
        (λ e. record { same = refl; owned = tt; good = node_good [] N i f [] (closing (at_fault G.broken)) (said t no_item) own same_needs tt tt (free_none G M L is) tt tt tt tt })
    given_good t f ps (ends v) held free foreign = record {
      same = refl;
      owned = owned_puts G M L (reach G p D) ps (held_wider G (G.at N) (reach G p D) (spots G ps) (inside_own G M L p D N i own) held);
      good = node_good (puts G M ps) N i f [] (closing (by v)) (said t no_item) own same_needs tt tt (free_none G M L is) tt foreign tt tt;
    }
    given_good t f ps (stops x) held free foreign = record { same = refl; owned = tt; good = node_good [] N i f [] (closing (at_fault x)) (said t no_item) own same_needs tt tt (free_none G M L is) tt tt tt tt }

  settle_needs : (n : Operation G) → needs_of G (settle G M n) ≡ needs_of G n
  settle_needs (op D N i f ps st is) = refl

  unchanged_good : (m : Map G) (p : Path G) (before : Bool) (n l : Operation G) → is_over G (stage_of G n) ≡ false → (is_running G (stage_of G n) ≡ true) ⊎ (before ≡ true) → needs_of G l ≡ needs_of G n → Good G M L m p l →
      ((K : ℕ) (u : Map G) → Agree G M L (reach G p (needs_of G n)) u m → Below G (finish G M (suc K) p n u) (finish G M (suc K) p l u)) → StepGood m p before n (record { left = l; effects = [] })
  unchanged_good m p before n l a b c d e = record { was_open = a; began = b; same_needs = c; owned = tt; good = d; finishes = e }

  pub own_good : (k : Kind) (m : Map G) (p : Path G) (before : Bool) (n : Operation G) → Good G M L m p n → IfStep (own_step G M k p before m n) (StepGood m p before n)
  own_good claim m p before (op D N i f ps (idle w) is) g = by_test (is_ready G M before N w is)
      (λ b. IfStep (cond b (unchanged G M (op D N i f ps (filling w [] (wants G M N w)) is)) None) (StepGood m p before (op D N i f ps (idle w) is)))
      (λ e. unchanged_good m p before (op D N i f ps (idle w) is) (op D N i f ps (filling w [] (wants G M N w)) is) refl (began_claim before N w is e) refl (claim_good m p before D N i f ps w is g e) (λ K u a. inr refl))
      (λ e. tt)
  own_good copy m p before (op D N i f ps (filling w d l) is) g = unchanged_good m p before (op D N i f ps (filling w d l) is) _ refl (inl refl) refl (copy_good m p D N i f ps w d l is g)
      (λ K u a. copy_finishes G M L K m u p D N i f ps is a g.1 w d l g.0)
  own_good give m p before (op D N i f ps (out w d) is) g = record {
    was_open = refl;
    began = inl refl;
    same_needs = settle_needs step.left ∙ there.same;
    owned = there.owned;
    good = settle_good G M L (run_all G step.effects m) p step.left there.good;
    finishes = λ K u a. below_through G _ _ _ (give_finishes G M L K m u p D N i is g.1 g.0.rooted g.0.own f ps w d g.0) (below_same G _ _ (sym (settle_finishes G M L (suc K) p step.left (run_all G step.effects u))));
  }
    where
      seen : G.Frame
      seen = met_by G M w f (awaited G M w is)

      shape : spots G (M.segment seen (ps ++ d)).parts ≡ spots G ps ++ spots G d
      shape = L.segment_keeps seen (ps ++ d) ∙ spots_append G M L ps d

      held : Held G (G.at N) (spots G ps ++ spots G d)
      held = subst (Held G (G.at N)) (spots_append G M L ps d) (held_append G (G.at N) ps d g.0.held (subst (Held G (G.at N)) (sym g.0.stage.1) (wants_held G M L N w)))

      step : Stepped G (Operation G)
      step = after_segment G M p D N i is (M.segment seen (ps ++ d))

      free : FreeOf G (spots G (M.segment seen (ps ++ d)).parts) is
      free = subst (λ xs. FreeOf G xs is) (sym shape) (free_join G M L (spots G ps) (spots G d) is g.0.free g.0.free_claimed)

      there : Given m p D N i is g.0.rooted g.0.own g.1 step
      there = given_good m p D N i is g.0.rooted g.0.own g.1 (M.segment seen (ps ++ d)).text (M.segment seen (ps ++ d)).frame (M.segment seen (ps ++ d)).parts (M.segment seen (ps ++ d)).yields
          (subst (Held G (G.at N)) (sym shape) held) free
          (puts_foreign G M L p 0 (M.segment seen (ps ++ d)).parts is (subst (Above G M L p) (sym shape) (held_above G M L p i D N g.0.rooted g.0.own (spots G ps ++ spots G d) held)) free)
  own_good back m p before (op D N i f ps (filling w d l) is) g = unchanged_good m p before (op D N i f ps (filling w d l) is) _ refl (inl refl) refl (back_good m p D N i f ps (filling w d l) w is g g.0.stage.2)
      (λ K u a. back_from_filling G M L K m u p D N i f ps is a g.1 w d l g.0)
  own_good back m p before (op D N i f ps (out w d) is) g = unchanged_good m p before (op D N i f ps (out w d) is) _ refl (inl refl) refl (back_good m p D N i f ps (out w d) w is g g.0.stage.2)
      (λ K u a. back_from_out G M L K m u p D N i f ps is a g.1 w d g.0)
  own_good _ m p before n g = tt
