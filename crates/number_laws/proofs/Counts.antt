-- How a step changes the numbers of makings.
use Rattle.std.proofs.Common.{◌≡◌, ◌++◌, ◌+◌, ◌∷◌, ◌∙◌, ◌&&◌, ◌≤◌, Bool, List, None, Option, Some, [], ap, arith, cond, false, le_refl, refl, subst, suc, sym, true, zero, ℕ}
use Rattle.board_rules.specs.Ground.{Ground}
use Rattle.board_rules.specs.Processes.{Map}
use Rattle.board_rules.specs.Running.{After, Call, Element, Machine, Path, Yield, await, calls, ends, make, stops, want}
use Rattle.board_rules.specs.Boards.{◌+++◌, Items, Kind, Operation, Stage, Stepped, as_child, at_fault, awaited, back, behind, claim, closing, copy, dropped, filling, first, give, given, has_failed, idle, in_op, is_over, is_ready, is_waiting, issued, child_op, meets_any, met_by, no_item, nothing, op, out, own_step, said, settle, step_among, step_in, still_open, sweep, unchanged, wants}
use Rattle.board_rules.specs.Journals.{Entry}
use Rattle.board_rules.specs.RootNames.{makes_among, makes_in, makes_now, makes_own}
use Rattle.board_rules.specs.RootNumbers.{all_numbered, count_among, count_at, made_among, made_in}
use Rattle.board_laws.proofs.Reaching.{by_test}

module _ (G : Ground) (F : ℕ → Machine G) where
  -- a journal that has come to nothing leads nowhere
  pub none_stays : (es : List Entry) → all_numbered G F None es ≡ None
  none_stays [] = refl
  none_stays (e ∷ es) = none_stays es

module _ (G : Ground) (F : ℕ → Machine G) (M : Machine G) where
  abbrev made : Operation G → ℕ
  made a = made_in G F a

  -- ---- what follows a step

  sweep_made : (bad : List G.Needs) (is : Items G) → made_among G F (sweep G M bad is) ≡ made_among G F is
  sweep_made bad no_item = refl
  sweep_made bad (said t is) = sweep_made bad is
  sweep_made bad (child_op (op D N i f ps st js) is) = by_test (is_waiting G st && meets_any G M bad D)
      (λ b. made_among G F (cond b (child_op (op D N i f ps dropped js) (sweep G M (D ∷ bad) is)) (child_op (op D N i f ps st js) (sweep G M (cond (has_failed G st) (D ∷ bad) bad) is))) ≡ i + made_among G F js + made_among G F is)
      (λ e. ap (λ x. i + made_among G F js + x) (sweep_made (D ∷ bad) is)) (λ e. ap (λ x. i + made_among G F js + x) (sweep_made (cond (has_failed G st) (D ∷ bad) bad) is))

  at_dropped : (way : List ℕ) (D N : G.Needs) (i : ℕ) (f : G.Frame) (ps : List (Element G)) (st : Stage G) (js : Items G) → count_at G F way (op D N i f ps dropped js) ≡ count_at G F way (op D N i f ps st js)
  at_dropped [] D N i f ps st js = refl
  at_dropped (c ∷ way) D N i f ps st js = refl

  sweep_count : (c : ℕ) (way : List ℕ) (bad : List G.Needs) (is : Items G) → count_among G F c way (sweep G M bad is) ≡ count_among G F c way is
  sweep_count c way bad no_item = refl
  sweep_count c way bad (said t is) = sweep_count c way bad is
  sweep_count zero way bad (child_op (op D N i f ps st js) is) = by_test (is_waiting G st && meets_any G M bad D)
      (λ b. count_among G F zero way (cond b (child_op (op D N i f ps dropped js) (sweep G M (D ∷ bad) is)) (child_op (op D N i f ps st js) (sweep G M (cond (has_failed G st) (D ∷ bad) bad) is))) ≡ count_at G F way (op D N i f ps st js))
      (λ e. at_dropped way D N i f ps st js) (λ e. refl)
  sweep_count (suc c) way bad (child_op (op D N i f ps st js) is) = by_test (is_waiting G st && meets_any G M bad D)
      (λ b. count_among G F (suc c) way (cond b (child_op (op D N i f ps dropped js) (sweep G M (D ∷ bad) is)) (child_op (op D N i f ps st js) (sweep G M (cond (has_failed G st) (D ∷ bad) bad) is))) ≡ count_among G F c way is)
      (λ e. sweep_count c way (D ∷ bad) is) (λ e. sweep_count c way (cond (has_failed G st) (D ∷ bad) bad) is)

  settle_made : (a : Operation G) → made (settle G M a) ≡ made a
  settle_made (op D N i f ps st is) = ap (λ x. i + x) (sweep_made [] is)

  settle_count : (way : List ℕ) (a : Operation G) → count_at G F way (settle G M a) ≡ count_at G F way a
  settle_count [] (op D N i f ps st is) = refl
  settle_count (c ∷ way) (op D N i f ps st is) = sweep_count c way [] is

  -- ---- children that are issued

  issued_made : (N : G.Needs) (xs : List (Call G)) → made_among G F (issued G M N xs) ≡ 0
  issued_made N [] = refl
  issued_made N (x ∷ xs) = by_test (x.may && M.inside x.needs N) (λ b. made_among G F (cond b (child_op (op x.needs x.needs 0 x.frame [] (idle first) no_item) (issued G M N xs)) no_item) ≡ 0)
      (λ e. let h = issued_made N xs in omega (arith, h)) (λ e. refl)

  append_made : (is js : Items G) → made_among G F js ≡ 0 → made_among G F (◌+++◌ G is js) ≡ made_among G F is
  append_made no_item js e = e
  append_made (said t is) js e = append_made is js e
  append_made (child_op a is) js e = ap (λ x. made a + x) (append_made is js e)

  append_count : (c : ℕ) (way : List ℕ) (is js : Items G) → count_among G F c way is ≤ count_among G F c way (◌+++◌ G is js)
  append_count c way no_item js = omega arith
  append_count c way (said t is) js = append_count c way is js
  append_count zero way (child_op a is) js = omega arith
  append_count (suc c) way (child_op a is) js = append_count c way is js

  -- ---- the steps

  abbrev pub one_if : Bool → ℕ
  one_if true = 1
  one_if false = 0

  -- one more where the step makes something, there and in all; nowhere fewer
  pub record Counted (b : Bool) (way : List ℕ) (a z : Operation G) : Type 0 where
    pub all : made z ≡ made a + one_if b
    pub there : b ≡ true → count_at G F way z ≡ suc (count_at G F way a)
    pub nowhere_fewer : (w : List ℕ) → count_at G F w a ≤ count_at G F w z

  pub record CountedItems (b : Bool) (c : ℕ) (way : List ℕ) (is zs : Items G) : Type 0 where
    pub all : made_among G F zs ≡ made_among G F is + one_if b
    pub there : b ≡ true → count_among G F c way zs ≡ suc (count_among G F c way is)
    pub nowhere_fewer : (x : ℕ) (w : List ℕ) → count_among G F x w is ≤ count_among G F x w zs

  abbrev pub IfLeft : {A : Type 0} → Option (Stepped G A) → (A → Type 0) → Type 0
  IfLeft None P = Unit {0}
  IfLeft (Some s) P = P s.left

  -- an operation that keeps its makings and its children
  same_counts : (D N O : G.Needs) (i : ℕ) (f g : G.Frame) (ps qs : List (Element G)) (st su : Stage G) (is js : Items G) → made_among G F js ≡ 0 →
      Counted false [] (op D N i f ps st is) (op D O i g qs su (◌+++◌ G is js))
  same_counts D N O i f g ps qs st su is js e = record {
    all = let h = append_made is js e in omega (arith, h);
    there = λ k. absurd cc;
    nowhere_fewer = by_way;
  }
    where
      by_way : (w : List ℕ) → count_at G F w (op D N i f ps st is) ≤ count_at G F w (op D O i g qs su (◌+++◌ G is js))
      by_way [] = le_refl i
      by_way (c ∷ w) = append_count c w is js

  kept_counts : (D N : G.Needs) (i : ℕ) (f : G.Frame) (ps : List (Element G)) (st su : Stage G) (is : Items G) → Counted false [] (op D N i f ps st is) (op D N i f ps su is)
  kept_counts D N i f ps st su is = record { all = omega arith; there = λ k. absurd cc; nowhere_fewer = by_way }
    where
      by_way : (w : List ℕ) → count_at G F w (op D N i f ps st is) ≤ count_at G F w (op D N i f ps su is)
      by_way [] = le_refl i
      by_way (c ∷ w) = le_refl (count_among G F c w is)

  settle_counted : (b : Bool) (way : List ℕ) (a z : Operation G) → Counted b way a z → Counted b way a (settle G M z)
  settle_counted b way a z h = record {
    all = settle_made z ∙ h.all;
    there = λ e. settle_count way z ∙ h.there e;
    nowhere_fewer = λ w. subst (λ x. count_at G F w a ≤ x) (sym (settle_count w z)) (h.nowhere_fewer w);
  }

  given_counted : (p : Path G) (D N : G.Needs) (i : ℕ) (is : Items G) (t : List G.Byte) (f g : G.Frame) (ps qs : List (Element G)) (st : Stage G) (y : Yield G) →
      Counted (makes_now G M y) [] (op D N i g qs st is) (given G M p D N i is t f ps y).left
  given_counted p D N i is t f g ps qs st (calls xs) = same_counts D N N i g f qs [] st _ is (said t (issued G M N xs)) (issued_made N xs)
  given_counted p D N i is t f g ps qs st (want k) = same_counts D N N i g f qs ps st _ is (said t no_item) refl
  given_counted p D N i is t f g ps qs st (await c) = same_counts D N N i g f qs ps st _ is (said t no_item) refl
  given_counted p D N i is t f g ps qs st (make d) = by_test (M.sound d) (λ b. Counted b [] (op D N i g qs st is) (cond {A = Stepped G (Operation G)} b
      (record { left = op D (M.grown p i d N) (suc i) (M.pushed p i d f) ps (idle nothing) (◌+++◌ G is (said t no_item)); effects = M.zeros p i d })
      (record { left = op D N i f [] (closing (at_fault G.broken)) (◌+++◌ G is (said t no_item)); effects = [] })).left)
      (λ e. record { all = let h = append_made is (said t no_item) refl in omega (arith, h); there = λ k. refl; nowhere_fewer = by_way })
      (λ e. same_counts D N N i g f qs [] st _ is (said t no_item) refl)
    where
      by_way : (w : List ℕ) → count_at G F w (op D N i g qs st is) ≤ count_at G F w (op D (M.grown p i d N) (suc i) (M.pushed p i d f) ps (idle nothing) (◌+++◌ G is (said t no_item)))
      by_way [] = omega arith
      by_way (c ∷ w) = append_count c w is (said t no_item)
  given_counted p D N i is t f g ps qs st (ends v) = same_counts D N N i g f qs [] st _ is (said t no_item) refl
  given_counted p D N i is t f g ps qs st (stops x) = same_counts D N N i g f qs [] st _ is (said t no_item) refl

  own_counted : (k : Kind) (p : Path G) (before : Bool) (m : Map G) (a : Operation G) → IfLeft (own_step G M k p before m a) (Counted (makes_own G M k a) [] a)
  own_counted claim p before m (op D N i f ps (idle w) is) = by_test (is_ready G M before N w is)
      (λ b. IfLeft (cond b (unchanged G M (op D N i f ps (filling w [] (wants G M N w)) is)) None) (Counted false [] (op D N i f ps (idle w) is)))
      (λ e. kept_counts D N i f ps (idle w) (filling w [] (wants G M N w)) is) (λ e. tt)
  own_counted copy p before m (op D N i f ps (filling w d l) is) = kept_counts D N i f ps (filling w d l) _ is
  own_counted give p before m (op D N i f ps (out w d) is) = settle_counted _ [] (op D N i f ps (out w d) is) _
      (given_counted p D N i is a.text a.frame f a.parts ps (out w d) a.yields)
    where
      a : After G
      a = M.segment (met_by G M w f (awaited G M w is)) (ps ++ d)
  own_counted back p before m (op D N i f ps (filling w d l) is) = kept_counts D N i f ps (filling w d l) (idle w) is
  own_counted back p before m (op D N i f ps (out w d) is) = kept_counts D N i f ps (out w d) (idle w) is
  own_counted _ p before m (op D N i f ps st is) = tt

  -- ---- the walk

  if_behind : (g : Items G → Items G) (o : Option (Stepped G (Items G))) (P Q : Items G → Type 0) → IfLeft o P → ((z : Items G) → P z → Q (g z)) → IfLeft (behind G M g o) Q
  if_behind g None P Q h k = tt
  if_behind g (Some s) P Q h k = k s.left h

  if_child : (is : Items G) (o : Option (Stepped G (Operation G))) (P : Operation G → Type 0) (Q : Items G → Type 0) → IfLeft o P → ((z : Operation G) → P z → Q (child_op z is)) → IfLeft (as_child G M is o) Q
  if_child is None P Q h k = tt
  if_child is (Some s) P Q h k = k s.left h

  if_op : (D N : G.Needs) (i : ℕ) (f : G.Frame) (ps : List (Element G)) (st : Stage G) (o : Option (Stepped G (Items G))) (P : Items G → Type 0) (Q : Operation G → Type 0) → IfLeft o P →
      ((z : Items G) → P z → Q (settle G M (op D N i f ps st z))) → IfLeft (in_op G M D N i f ps st o) Q
  if_op D N i f ps st None P Q h k = tt
  if_op D N i f ps st (Some s) P Q h k = k s.left h

  in_counted : (b : Bool) (c : ℕ) (way : List ℕ) (D N : G.Needs) (i : ℕ) (f : G.Frame) (ps : List (Element G)) (st : Stage G) (is z : Items G) → CountedItems b c way is z →
      Counted b (c ∷ way) (op D N i f ps st is) (op D N i f ps st z)
  in_counted b c way D N i f ps st is z h = record { all = let e = h.all in omega (arith, e); there = h.there; nowhere_fewer = by_way }
    where
      by_way : (w : List ℕ) → count_at G F w (op D N i f ps st is) ≤ count_at G F w (op D N i f ps st z)
      by_way [] = le_refl i
      by_way (x ∷ w) = h.nowhere_fewer x w

  child_counted : (b : Bool) (way : List ℕ) (a z : Operation G) (is : Items G) → Counted b way a z → CountedItems b 0 way (child_op a is) (child_op z is)
  child_counted b way a z is h = record { all = let e = h.all in omega (arith, e); there = h.there; nowhere_fewer = by_way }
    where
      by_way : (x : ℕ) (w : List ℕ) → count_among G F x w (child_op a is) ≤ count_among G F x w (child_op z is)
      by_way zero w = h.nowhere_fewer w
      by_way (suc x) w = le_refl (count_among G F x w is)

  behind_counted : (b : Bool) (c : ℕ) (way : List ℕ) (a : Operation G) (is zs : Items G) → CountedItems b c way is zs → CountedItems b (suc c) way (child_op a is) (child_op a zs)
  behind_counted b c way a is zs h = record { all = let e = h.all in omega (arith, e); there = h.there; nowhere_fewer = by_way }
    where
      by_way : (x : ℕ) (w : List ℕ) → count_among G F x w (child_op a is) ≤ count_among G F x w (child_op a zs)
      by_way zero w = le_refl (count_at G F w a)
      by_way (suc x) w = h.nowhere_fewer x w

  mutual
    pub step_counted : (k : Kind) (way : List ℕ) (p : Path G) (before : Bool) (m : Map G) (a : Operation G) → IfLeft (step_in G M k way p before m a) (Counted (makes_in G M k way a) way a)
    step_counted k [] p before m (op D N i f ps st is) = own_counted k p before m (op D N i f ps st is)
    step_counted k (c ∷ way) p before m (op D N i f ps st is) = by_test (is_over G st)
        (λ b. IfLeft (cond b None (in_op G M D N i f ps st (step_among G M k c way p 0 [] m is))) (Counted (makes_among G M k c way is) (c ∷ way) (op D N i f ps st is)))
        (λ e. tt)
        (λ e. if_op D N i f ps st (step_among G M k c way p 0 [] m is) _ _ (among_counted k c way p 0 [] m is)
        (λ z h. settle_counted (makes_among G M k c way is) (c ∷ way) (op D N i f ps st is) (op D N i f ps st z) (in_counted (makes_among G M k c way is) c way D N i f ps st is z h)))

    among_counted : (k : Kind) (c : ℕ) (way : List ℕ) (p : Path G) (j : ℕ) (Ns : List G.Needs) (m : Map G) (is : Items G) → IfLeft (step_among G M k c way p j Ns m is) (CountedItems (makes_among G M k c way is) c way is)
    among_counted k c way p j Ns m no_item = tt
    among_counted k c way p j Ns m (said t is) = if_behind (said t) (step_among G M k c way p j Ns m is) _ _ (among_counted k c way p j Ns m is) (λ z h. record { all = h.all; there = h.there; nowhere_fewer = h.nowhere_fewer })
    among_counted k zero way p j Ns m (child_op a is) = if_child is (step_in G M k way (j ∷ p) _ m a) _ _ (step_counted k way (j ∷ p) _ m a) (λ z h. child_counted (makes_in G M k way a) way a z is h)
    among_counted k (suc c) way p j Ns m (child_op a is) = if_behind (child_op a) (step_among G M k c way p (suc j) (still_open G M a Ns) m is) _ _ (among_counted k c way p (suc j) (still_open G M a Ns) m is)
        (λ z h. behind_counted (makes_among G M k c way is) c way a is z h)
