-- A step over roots by numbers is the step over roots by names, renamed.
use Rattle.std.proofs.Common.{◌≡◌, ◌++◌, ◌∷◌, ◌∙◌, ◌&&◌, ◌||◌, Bool, List, None, Option, Some, [], ap, cond, drop, false, is_some, not, option_map, refl, suc, sym, take, true, unwrap_or, zero, ℕ}
use Rattle.board_rules.specs.Ground.{Ground, Mode, reads, reduces, writes}
use Rattle.board_rules.specs.Processes.{Effect, Map, fold_in, put, run, run_all}
use Rattle.board_rules.specs.Running.{After, Call, Element, Machine, Path, Spot, Yield, await, back_with, calls, ends, filled, make, number_of, puts, stops, want}
use Rattle.board_rules.specs.Boards.{◌+++◌, Ending, Items, Kind, give, Operation, Stage, Stepped, Wait, after_segment, all_ended, all_issued, all_over, answer_of, as_child, at_fault, awaited, back, behind, by, child, claim, clear_of, close, closing, copied, copy, dropped, ending_with, failed_at, failed_on, filling, first, give, given, given_by, has_failed, idle, in_op, is_ended, is_over, is_ready, is_waiting, issued, child_op, meets_any, met_by, needs_of, no_item, nothing, op, out, over, own_step, part, said, settle, settle_stepped, step_among, step_in, still_open, stop, stopped, sweep, unchanged, waits_for_failed, wants}
use Rattle.board_rules.specs.Renaming.{Base, Renamed, Renames, Roots, after_to, calls_to, effect, effects_to, element, elements, ending_to, ground_over, items_to, node_to, spots_to, stage_to, wait_to, yield_to}

module _ (B : Base) (X Y : Roots B) (M : ℕ → Machine (ground_over B X)) (K : Machine (ground_over B Y)) (R : Renames B X Y) (maker : ℕ → List ℕ) (making : ℕ → ℕ) (W : Renamed B X Y M K R maker making) (n : ℕ) where
  abbrev G : Ground
  G = ground_over B X

  abbrev H : Ground
  H = ground_over B Y

  -- ---- lists

  pub elems_append : (xs ys : List (Element G)) → elements B X Y R (xs ++ ys) ≡ elements B X Y R xs ++ elements B X Y R ys
  elems_append [] ys = refl
  elems_append (x ∷ xs) ys = ap (λ zs. element B X Y R x ∷ zs) (elems_append xs ys)

  taken : (c : ℕ) (xs : List (Spot G)) → take c (spots_to B X Y R xs) ≡ spots_to B X Y R (take c xs)
  taken zero xs = refl
  taken (suc c) [] = refl
  taken (suc c) (x ∷ xs) = ap (λ zs. record { location = R.loc x.location; mode = x.mode } ∷ zs) (taken c xs)

  left_over : (c : ℕ) (xs : List (Spot G)) → drop c (spots_to B X Y R xs) ≡ spots_to B X Y R (drop c xs)
  left_over zero xs = refl
  left_over (suc c) [] = refl
  left_over (suc c) (x ∷ xs) = left_over c xs

  items_append : (is js : Items G) → ◌+++◌ H (items_to B X Y R is) (items_to B X Y R js) ≡ items_to B X Y R (◌+++◌ G is js)
  items_append no_item js = refl
  items_append (said t is) js = ap (λ ks. said t ks) (items_append is js)
  items_append (child_op a is) js = ap (λ ks. child_op (node_to B X Y R a) ks) (items_append is js)

  abbrev needs_to : List X.Needs → List Y.Needs
  needs_to [] = []
  needs_to (N ∷ Ns) = R.needs N ∷ needs_to Ns

  -- ---- maps

  -- the maps have the same numbers at places that are renamed to one another
  abbrev pub Alike : Map G → Map H → Type 0
  Alike m u = (l : X.Location) → u (R.loc l) ≡ m l

  pub filled_alike : (m : Map G) (u : Map H) → Alike m u → (xs : List (Spot G)) → filled H K (spots_to B X Y R xs) u ≡ elements B X Y R (filled G (M n) xs m)
  filled_alike m u a [] = refl
  filled_alike m u a (x ∷ xs) = λ i. record { location = R.loc x.location; mode = x.mode; number = number x.mode x.location i } ∷ filled_alike m u a xs i
    where
      number : (k : Mode B.Op) (l : X.Location) → number_of H K k (R.loc l) u ≡ number_of G (M n) k l m
      number reads l = a l
      number writes l = a l
      number (reduces o) l = refl

  run_alike : (m : Map G) (u : Map H) (e : Effect G) → Alike m u → Alike (run G e m) (run H (effect B X Y R e) u)
  run_alike m u (put k v) a l = λ i. cond (W.same k l i) v (a l i)
  run_alike m u (fold_in o k v) a l = λ i. cond (W.same k l i) (B.applied o (a l i) v) (a l i)

  pub run_all_alike : (es : List (Effect G)) (m : Map G) (u : Map H) → Alike m u → Alike (run_all G es m) (run_all H (effects_to B X Y R es) u)
  run_all_alike [] m u a = a
  run_all_alike (e ∷ es) m u a = run_all_alike es (run G e m) (run H (effect B X Y R e) u) (run_alike m u e a)

  pub puts_alike : (xs : List (Element G)) → puts H K (elements B X Y R xs) ≡ effects_to B X Y R (puts G (M n) xs)
  puts_alike [] = refl
  puts_alike (x ∷ xs) = by_mode x.mode (puts_alike xs)
    where
      by_mode : (k : Mode B.Op) → puts H K (elements B X Y R xs) ≡ effects_to B X Y R (puts G (M n) xs) →
          back_with H K k (R.loc x.location) x.number (puts H K (elements B X Y R xs)) ≡ effects_to B X Y R (back_with G (M n) k x.location x.number (puts G (M n) xs))
      by_mode reads e = e
      by_mode writes e = ap (λ es. put (R.loc x.location) x.number ∷ es) e
      by_mode (reduces o) e = ap (λ es. fold_in o (R.loc x.location) x.number ∷ es) e

  -- ---- tests

  wants_alike : (N : X.Needs) (w : Wait G) → wants H K (R.needs N) (wait_to B X Y R w) ≡ spots_to B X Y R (wants G (M n) N w)
  wants_alike N first = refl
  wants_alike N nothing = refl
  wants_alike N (part k) = W.wanted n N k
  wants_alike N (child c) = refl

  waiting_alike : (st : Stage G) → is_waiting H (stage_to B X Y R st) ≡ is_waiting G st
  waiting_alike (idle first) = refl
  waiting_alike (idle nothing) = refl
  waiting_alike (idle (part k)) = refl
  waiting_alike (idle (child c)) = refl
  waiting_alike (filling w d l) = refl
  waiting_alike (out w d) = refl
  waiting_alike (closing e) = refl
  waiting_alike (over e) = refl
  waiting_alike dropped = refl

  over_alike : (st : Stage G) → is_over H (stage_to B X Y R st) ≡ is_over G st
  over_alike (idle w) = refl
  over_alike (filling w d l) = refl
  over_alike (out w d) = refl
  over_alike (closing e) = refl
  over_alike (over e) = refl
  over_alike dropped = refl

  ended_alike : (st : Stage G) → is_ended H (stage_to B X Y R st) ≡ is_ended G st
  ended_alike (idle w) = refl
  ended_alike (filling w d l) = refl
  ended_alike (out w d) = refl
  ended_alike (closing e) = refl
  ended_alike (over (by v)) = refl
  ended_alike (over (at_fault x)) = refl
  ended_alike (over stopped) = refl
  ended_alike dropped = refl

  failed_alike : (st : Stage G) → has_failed H (stage_to B X Y R st) ≡ has_failed G st
  failed_alike (idle w) = refl
  failed_alike (filling w d l) = refl
  failed_alike (out w d) = refl
  failed_alike (closing e) = refl
  failed_alike (over (by v)) = refl
  failed_alike (over (at_fault x)) = refl
  failed_alike (over stopped) = refl
  failed_alike dropped = refl

  gives_alike : (st : Stage G) → given_by H K (stage_to B X Y R st) ≡ given_by G (M n) st
  gives_alike (idle w) = refl
  gives_alike (filling w d l) = refl
  gives_alike (out w d) = refl
  gives_alike (closing e) = refl
  gives_alike (over (by v)) = refl
  gives_alike (over (at_fault x)) = refl
  gives_alike (over stopped) = refl
  gives_alike dropped = refl

  answer_alike : (is : Items G) (c : ℕ) → answer_of H K (items_to B X Y R is) c ≡ answer_of G (M n) is c
  answer_alike no_item c = ap (λ v. Some v) (W.no_answer n)
  answer_alike (said t is) c = answer_alike is c
  answer_alike (child_op (op D N i f ps st js) is) zero = gives_alike st
  answer_alike (child_op a is) (suc c) = answer_alike is c

  clear_alike : (Q : X.Needs) (is : Items G) → clear_of H K (R.needs Q) (items_to B X Y R is) ≡ clear_of G (M n) Q is
  clear_alike Q no_item = refl
  clear_alike Q (said t is) = clear_alike Q is
  clear_alike Q (child_op (op D N i f ps st js) is) = λ r. (ended_alike st r || not (W.meets n D Q r)) && clear_alike Q is r

  failed_on_alike : (Q : X.Needs) (is : Items G) → failed_on H K (R.needs Q) (items_to B X Y R is) ≡ failed_on G (M n) Q is
  failed_on_alike Q no_item = refl
  failed_on_alike Q (said t is) = failed_on_alike Q is
  failed_on_alike Q (child_op (op D N i f ps st js) is) = λ r. failed_alike st r && W.meets n D Q r || failed_on_alike Q is r

  failed_at_alike : (is : Items G) (c : ℕ) → failed_at H K (items_to B X Y R is) c ≡ failed_at G (M n) is c
  failed_at_alike no_item c = refl
  failed_at_alike (said t is) c = failed_at_alike is c
  failed_at_alike (child_op (op D N i f ps st js) is) zero = failed_alike st
  failed_at_alike (child_op a is) (suc c) = failed_at_alike is c

  all_over_alike : (is : Items G) → all_over H (items_to B X Y R is) ≡ all_over G is
  all_over_alike no_item = refl
  all_over_alike (said t is) = all_over_alike is
  all_over_alike (child_op (op D N i f ps st js) is) = λ r. over_alike st r && all_over_alike is r

  all_ended_alike : (is : Items G) → all_ended H (items_to B X Y R is) ≡ all_ended G is
  all_ended_alike no_item = refl
  all_ended_alike (said t is) = all_ended_alike is
  all_ended_alike (child_op (op D N i f ps st js) is) = λ r. ended_alike st r && all_ended_alike is r

  ready_alike : (before : Bool) (N : X.Needs) (w : Wait G) (is : Items G) → is_ready H K before (R.needs N) (wait_to B X Y R w) (items_to B X Y R is) ≡ is_ready G (M n) before N w is
  ready_alike before N first is = refl
  ready_alike before N nothing is = refl
  ready_alike before N (part k) is = ap (λ Q. clear_of H K Q (items_to B X Y R is)) (W.narrowed n N k) ∙ clear_alike ((M n).narrowed N k) is
  ready_alike before N (child c) is = ap is_some (answer_alike is c)

  waits_alike : (N : X.Needs) (w : Wait G) (is : Items G) → waits_for_failed H K (R.needs N) (wait_to B X Y R w) (items_to B X Y R is) ≡ waits_for_failed G (M n) N w is
  waits_alike N first is = refl
  waits_alike N nothing is = refl
  waits_alike N (part k) is = ap (λ Q. failed_on H K Q (items_to B X Y R is)) (W.narrowed n N k) ∙ failed_on_alike ((M n).narrowed N k) is
  waits_alike N (child c) is = failed_at_alike is c

  any_alike : (Ns : List X.Needs) (Q : X.Needs) → meets_any H K (needs_to Ns) (R.needs Q) ≡ meets_any G (M n) Ns Q
  any_alike [] Q = refl
  any_alike (N ∷ Ns) Q = λ r. W.meets n N Q r || any_alike Ns Q r

  -- ---- what follows a step

  through : {A C : Type 0} (f : A → C) (b : Bool) (x y : A) → cond b (f x) (f y) ≡ f (cond b x y)
  through f true x y = refl
  through f false x y = refl

  sweep_alike : (bad : List X.Needs) (is : Items G) → sweep H K (needs_to bad) (items_to B X Y R is) ≡ items_to B X Y R (sweep G (M n) bad is)
  sweep_alike bad no_item = refl
  sweep_alike bad (said t is) = ap (λ ks. said t ks) (sweep_alike bad is)
  sweep_alike bad (child_op (op D N i f ps st js) is) =
      (λ r. cond (waiting_alike st r && any_alike bad D r)
      (child_op (op (R.needs D) (R.needs N) i (R.frame f) (elements B X Y R ps) dropped (items_to B X Y R js)) (sweep_alike (D ∷ bad) is r))
      (child_op (op (R.needs D) (R.needs N) i (R.frame f) (elements B X Y R ps) (stage_to B X Y R st) (items_to B X Y R js)) ((worse ∙ sweep_alike (cond (has_failed G st) (D ∷ bad) bad) is) r)))
      ∙ through (items_to B X Y R) (is_waiting G st && meets_any G (M n) bad D)
      (child_op (op D N i f ps dropped js) (sweep G (M n) (D ∷ bad) is)) (child_op (op D N i f ps st js) (sweep G (M n) (cond (has_failed G st) (D ∷ bad) bad) is))
    where
      worse : sweep H K (cond (has_failed H (stage_to B X Y R st)) (needs_to (D ∷ bad)) (needs_to bad)) (items_to B X Y R is) ≡ sweep H K (needs_to (cond (has_failed G st) (D ∷ bad) bad)) (items_to B X Y R is)
      worse = ap (λ Ns. sweep H K Ns (items_to B X Y R is)) ((λ r. cond (failed_alike st r) (needs_to (D ∷ bad)) (needs_to bad)) ∙ through needs_to (has_failed G st) (D ∷ bad) bad)

  stop_alike : (N : X.Needs) (st : Stage G) (is : Items G) → stop H K (R.needs N) (stage_to B X Y R st) (items_to B X Y R is) ≡ stage_to B X Y R (stop G (M n) N st is)
  stop_alike N (idle w) is = (λ r. cond (waits_alike N w is r) (closing stopped) (idle (wait_to B X Y R w))) ∙ through (stage_to B X Y R) (waits_for_failed G (M n) N w is) (closing stopped) (idle w)
  stop_alike N (filling w d l) is = refl
  stop_alike N (out w d) is = refl
  stop_alike N (closing e) is = refl
  stop_alike N (over e) is = refl
  stop_alike N dropped is = refl

  ending_alike : (e : Ending G) (b : Bool) → ending_with H K (ending_to B X Y R e) b ≡ ending_to B X Y R (ending_with G (M n) e b)
  ending_alike (by v) true = refl
  ending_alike (by v) false = refl
  ending_alike (at_fault x) b = refl
  ending_alike stopped b = refl

  close_alike : (st : Stage G) (is : Items G) → close H K (stage_to B X Y R st) (items_to B X Y R is) ≡ stage_to B X Y R (close G (M n) st is)
  close_alike (closing e) is =
      (λ r. cond (all_over_alike is r) (over ((ap (ending_with H K (ending_to B X Y R e)) (all_ended_alike is) ∙ ending_alike e (all_ended G is)) r)) (closing (ending_to B X Y R e)))
      ∙ through (stage_to B X Y R) (all_over G is) (over (ending_with G (M n) e (all_ended G is))) (closing e)
  close_alike (idle w) is = refl
  close_alike (filling w d l) is = refl
  close_alike (out w d) is = refl
  close_alike (over e) is = refl
  close_alike dropped is = refl

  settle_alike : (a : Operation G) → settle H K (node_to B X Y R a) ≡ node_to B X Y R (settle G (M n) a)
  settle_alike (op D N i f ps st is) =
      (λ r. op (R.needs D) (R.needs N) i (R.frame f) (elements B X Y R ps) (close H K (stop H K (R.needs N) (stage_to B X Y R st) (swept r)) (swept r)) (swept r))
      ∙ (λ r. op (R.needs D) (R.needs N) i (R.frame f) (elements B X Y R ps)
      ((ap (λ s. close H K s (items_to B X Y R (sweep G (M n) [] is))) (stop_alike N st (sweep G (M n) [] is)) ∙ close_alike (stop G (M n) N st (sweep G (M n) [] is)) (sweep G (M n) [] is)) r)
      (items_to B X Y R (sweep G (M n) [] is)))
    where
      swept : sweep H K [] (items_to B X Y R is) ≡ items_to B X Y R (sweep G (M n) [] is)
      swept = sweep_alike [] is

  -- ---- the steps

  abbrev node_step : Stepped G (Operation G) → Stepped H (Operation H)
  node_step s = record { left = node_to B X Y R s.left; effects = effects_to B X Y R s.effects }

  abbrev items_step : Stepped G (Items G) → Stepped H (Items H)
  items_step s = record { left = items_to B X Y R s.left; effects = effects_to B X Y R s.effects }

  issued_alike : (N : X.Needs) (xs : List (Call G)) → issued H K (R.needs N) (calls_to B X Y R xs) ≡ items_to B X Y R (issued G (M n) N xs)
  issued_alike N [] = refl
  issued_alike N (x ∷ xs) =
      (λ r. cond (x.may && W.inside n x.needs N r) (child_op (op (R.needs x.needs) (R.needs x.needs) 0 (R.frame x.frame) [] (idle first) no_item) (issued_alike N xs r)) no_item)
      ∙ through (items_to B X Y R) (x.may && (M n).inside x.needs N) (child_op (op x.needs x.needs 0 x.frame [] (idle first) no_item) (issued G (M n) N xs)) no_item

  all_issued_alike : (N : X.Needs) (xs : List (Call G)) → all_issued H K (R.needs N) (calls_to B X Y R xs) ≡ all_issued G (M n) N xs
  all_issued_alike N [] = refl
  all_issued_alike N (x ∷ xs) = λ r. (x.may && W.inside n x.needs N r) && all_issued_alike N xs r

  -- a step that makes something makes what is named so at this place
  abbrev pub NamedYield : Path H → ℕ → Yield G → Type 0
  NamedYield p i (make d) = (M n).sound d ≡ true → (maker n ≡ p) × (making n ≡ i)
  NamedYield p i _ = Unit {0}

  given_alike : (p : Path H) (D N : X.Needs) (i : ℕ) (is : Items G) (t : List B.Byte) (f : X.Frame) (ps : List (Element G)) (y : Yield G) → NamedYield p i y →
      given H K p (R.needs D) (R.needs N) i (items_to B X Y R is) t (R.frame f) (elements B X Y R ps) (yield_to B X Y R y) ≡ node_step (given G (M n) p D N i is t f ps y)
  given_alike p D N i is t f ps (calls xs) h = λ r. record {
    left = op (R.needs D) (R.needs N) i (R.frame f) []
        (((λ q. cond (all_issued_alike N xs q) (idle nothing) (closing (at_fault B.broken))) ∙ through (stage_to B X Y R) (all_issued G (M n) N xs) (idle nothing) (closing (at_fault B.broken))) r)
        (((λ q. ◌+++◌ H (items_to B X Y R is) (said t (issued_alike N xs q))) ∙ items_append is (said t (issued G (M n) N xs))) r);
    effects = puts_alike ps r;
  }
  given_alike p D N i is t f ps (want k) h = λ r. record { left = op (R.needs D) (R.needs N) i (R.frame f) (elements B X Y R ps) (idle (part (R.key k))) (items_append is (said t no_item) r); effects = [] }
  given_alike p D N i is t f ps (await c) h = λ r. record { left = op (R.needs D) (R.needs N) i (R.frame f) (elements B X Y R ps) (idle (child c)) (items_append is (said t no_item) r); effects = [] }
  given_alike p D N i is t f ps (make d) h = by_sound ((M n).sound d) refl
    where
      made_now : Stepped H (Operation H)
      made_now = record { left = op (R.needs D) (K.grown p i (R.made d) (R.needs N)) (suc i) (K.pushed p i (R.made d) (R.frame f)) (elements B X Y R ps) (idle nothing) (◌+++◌ H (items_to B X Y R is) (said t no_item)); effects = K.zeros p i (R.made d) }

      unsound : Stepped H (Operation H)
      unsound = record { left = op (R.needs D) (R.needs N) i (R.frame f) [] (closing (at_fault B.broken)) (◌+++◌ H (items_to B X Y R is) (said t no_item)); effects = [] }

      by_sound : (b : Bool) → (M n).sound d ≡ b → given H K p (R.needs D) (R.needs N) i (items_to B X Y R is) t (R.frame f) (elements B X Y R ps) (make (R.made d)) ≡ node_step (given G (M n) p D N i is t f ps (make d))
      by_sound true e = let name = h e in
          ap (λ b. cond b made_now unsound) (W.sound n d ∙ e)
          ∙ (λ r. record {
            left = op (R.needs D) (W.grown n i p d N name.0 name.1 r) (suc i) (W.pushed n i p d f name.0 name.1 r) (elements B X Y R ps) (idle nothing) (items_append is (said t no_item) r);
            effects = W.zeros n i p d name.0 name.1 r;
          })
          ∙ ap (λ b. node_step (cond b
          (record { left = op D ((M n).grown p i d N) (suc i) ((M n).pushed p i d f) ps (idle nothing) (◌+++◌ G is (said t no_item)); effects = (M n).zeros p i d })
          (record { left = op D N i f [] (closing (at_fault B.broken)) (◌+++◌ G is (said t no_item)); effects = [] }))) (sym e)
      by_sound false e =
          ap (λ b. cond b made_now unsound) (W.sound n d ∙ e)
          ∙ (λ r. record { left = op (R.needs D) (R.needs N) i (R.frame f) [] (closing (at_fault B.broken)) (items_append is (said t no_item) r); effects = [] })
          ∙ ap (λ b. node_step (cond b
          (record { left = op D ((M n).grown p i d N) (suc i) ((M n).pushed p i d f) ps (idle nothing) (◌+++◌ G is (said t no_item)); effects = (M n).zeros p i d })
          (record { left = op D N i f [] (closing (at_fault B.broken)) (◌+++◌ G is (said t no_item)); effects = [] }))) (sym e)
  given_alike p D N i is t f ps (ends v) h = λ r. record { left = op (R.needs D) (R.needs N) i (R.frame f) [] (closing (by v)) (items_append is (said t no_item) r); effects = puts_alike ps r }
  given_alike p D N i is t f ps (stops x) h = λ r. record { left = op (R.needs D) (R.needs N) i (R.frame f) [] (closing (at_fault x)) (items_append is (said t no_item) r); effects = [] }

  copied_alike : (w : Wait G) (d : List (Element G)) (l : List (Spot G)) → copied H K (wait_to B X Y R w) (elements B X Y R d) (spots_to B X Y R l) ≡ stage_to B X Y R (copied G (M n) w d l)
  copied_alike w d [] = refl
  copied_alike w d (x ∷ l) = refl

  met_alike : (w : Wait G) (f : X.Frame) (is : Items G) → met_by H K (wait_to B X Y R w) (R.frame f) (awaited H K (wait_to B X Y R w) (items_to B X Y R is)) ≡ R.frame (met_by G (M n) w f (awaited G (M n) w is))
  met_alike first f is = refl
  met_alike nothing f is = refl
  met_alike (part k) f is = refl
  met_alike (child c) f is = (λ r. K.met (R.frame f) c (unwrap_or (answer_alike is c r) (W.no_answer n r))) ∙ W.met n f c (unwrap_or (answer_of G (M n) is c) (M n).no_answer)

  -- the step of an operation that makes something makes what is named so at this place
  abbrev pub NamedOwn : Kind → Path H → Operation G → Type 0
  NamedOwn give p (op D N i f ps (out w d) is) = NamedYield p i ((M n).segment (met_by G (M n) w f (awaited G (M n) w is)) (ps ++ d)).yields
  NamedOwn _ _ _ = Unit {0}

  own_alike : (k : Kind) (p : Path H) (before : Bool) (m : Map G) (u : Map H) → Alike m u → (a : Operation G) → NamedOwn k p a →
      own_step H K k p before u (node_to B X Y R a) ≡ option_map node_step (own_step G (M n) k p before m a)
  own_alike claim p before m u e (op D N i f ps (idle w) is) h =
      (λ r. cond (ready_alike before N w is r) (Some (record { left = op (R.needs D) (R.needs N) i (R.frame f) (elements B X Y R ps) (filling (wait_to B X Y R w) [] (wants_alike N w r)) (items_to B X Y R is); effects = [] })) None)
      ∙ through (option_map node_step) (is_ready G (M n) before N w is) (unchanged G (M n) (op D N i f ps (filling w [] (wants G (M n) N w)) is)) None
  own_alike copy p before m u e (op D N i f ps (filling w d l) is) h =
      λ r. Some (record { left = op (R.needs D) (R.needs N) i (R.frame f) (elements B X Y R ps) (stage r) (items_to B X Y R is); effects = [] })
    where
      now : filled H K (take K.chunk (spots_to B X Y R l)) u ≡ elements B X Y R (filled G (M n) (take (M n).chunk l) m)
      now = (λ r. filled H K (take (W.chunk n r) (spots_to B X Y R l)) u) ∙ (λ r. filled H K (taken (M n).chunk l r) u) ∙ filled_alike m u e (take (M n).chunk l)

      stage : copied H K (wait_to B X Y R w) (elements B X Y R d ++ filled H K (take K.chunk (spots_to B X Y R l)) u) (drop K.chunk (spots_to B X Y R l))
          ≡ stage_to B X Y R (copied G (M n) w (d ++ filled G (M n) (take (M n).chunk l) m) (drop (M n).chunk l))
      stage = (λ r. copied H K (wait_to B X Y R w) (elements B X Y R d ++ now r) (drop (W.chunk n r) (spots_to B X Y R l)))
          ∙ (λ r. copied H K (wait_to B X Y R w) (sym (elems_append d (filled G (M n) (take (M n).chunk l) m)) r) (left_over (M n).chunk l r))
          ∙ copied_alike w (d ++ filled G (M n) (take (M n).chunk l) m) (drop (M n).chunk l)
  own_alike give p before m u e (op D N i f ps (out w d) is) h =
      ap (λ s. Some (settle_stepped H K s))
      ((λ r. after_segment H K p (R.needs D) (R.needs N) i (items_to B X Y R is) (segment r)) ∙ given_alike p D N i is a.text a.frame a.parts a.yields h)
      ∙ (λ r. Some (record { left = settle_alike (after_segment G (M n) p D N i is a).left r; effects = effects_to B X Y R (after_segment G (M n) p D N i is a).effects }))
    where
      seen : X.Frame
      seen = met_by G (M n) w f (awaited G (M n) w is)

      a : After G
      a = (M n).segment seen (ps ++ d)

      segment : K.segment (met_by H K (wait_to B X Y R w) (R.frame f) (awaited H K (wait_to B X Y R w) (items_to B X Y R is))) (elements B X Y R ps ++ elements B X Y R d) ≡ after_to B X Y R a
      segment = (λ r. K.segment (met_alike w f is r) (sym (elems_append ps d) r)) ∙ W.segment n seen (ps ++ d)
  own_alike back p before m u e (op D N i f ps (filling w d l) is) h = refl
  own_alike back p before m u e (op D N i f ps (out w d) is) h = refl
  own_alike _ p before m u e (op D N i f ps st is) h = refl

  -- ---- the walk

  abbrev mutual
    pub NamedIn : Kind → List ℕ → Path H → Operation G → Type 0
    NamedIn k [] p (op D N i f ps st is) = NamedOwn k p (op D N i f ps st is)
    NamedIn k (c ∷ way) p (op D N i f ps st is) = NamedAmong k c way p 0 is

    pub NamedAmong : Kind → ℕ → List ℕ → Path H → ℕ → Items G → Type 0
    NamedAmong k c way p j no_item = Unit {0}
    NamedAmong k c way p j (said t is) = NamedAmong k c way p j is
    NamedAmong k zero way p j (child_op a is) = NamedIn k way (j ∷ p) a
    NamedAmong k (suc c) way p j (child_op a is) = NamedAmong k c way p (suc j) is

  needs_alike : (a : Operation G) → needs_of H (node_to B X Y R a) ≡ R.needs (needs_of G a)
  needs_alike (op D N i f ps st is) = refl

  open_alike : (a : Operation G) (Ns : List X.Needs) → still_open H K (node_to B X Y R a) (needs_to Ns) ≡ needs_to (still_open G (M n) a Ns)
  open_alike (op D N i f ps st is) Ns = (λ r. cond (ended_alike st r) (needs_to Ns) (needs_to (D ∷ Ns))) ∙ through needs_to (is_ended G st) Ns (D ∷ Ns)

  in_op_alike : (D N : X.Needs) (i : ℕ) (f : X.Frame) (ps : List (Element G)) (st : Stage G) (o : Option (Stepped G (Items G))) →
      in_op H K (R.needs D) (R.needs N) i (R.frame f) (elements B X Y R ps) (stage_to B X Y R st) (option_map items_step o) ≡ option_map node_step (in_op G (M n) D N i f ps st o)
  in_op_alike D N i f ps st None = refl
  in_op_alike D N i f ps st (Some s) = λ r. Some (record { left = settle_alike (op D N i f ps st s.left) r; effects = effects_to B X Y R s.effects })

  said_alike : (t : List B.Byte) (o : Option (Stepped G (Items G))) → behind H K (said t) (option_map items_step o) ≡ option_map items_step (behind G (M n) (said t) o)
  said_alike t None = refl
  said_alike t (Some s) = refl

  behind_alike : (a : Operation G) (o : Option (Stepped G (Items G))) → behind H K (child_op (node_to B X Y R a)) (option_map items_step o) ≡ option_map items_step (behind G (M n) (child_op a) o)
  behind_alike a None = refl
  behind_alike a (Some s) = refl

  child_alike : (is : Items G) (o : Option (Stepped G (Operation G))) → as_child H K (items_to B X Y R is) (option_map node_step o) ≡ option_map items_step (as_child G (M n) is o)
  child_alike is None = refl
  child_alike is (Some s) = refl

  mutual
    pub step_alike : (k : Kind) (way : List ℕ) (p : Path H) (before : Bool) (m : Map G) (u : Map H) → Alike m u → (a : Operation G) → NamedIn k way p a →
        step_in H K k way p before u (node_to B X Y R a) ≡ option_map node_step (step_in G (M n) k way p before m a)
    step_alike k [] p before m u e (op D N i f ps st is) h = own_alike k p before m u e (op D N i f ps st is) h
    step_alike k (c ∷ way) p before m u e (op D N i f ps st is) h =
        (λ r. cond (over_alike st r) None ((ap (in_op H K (R.needs D) (R.needs N) i (R.frame f) (elements B X Y R ps) (stage_to B X Y R st)) (among_alike k c way p 0 [] m u e is h)
        ∙ in_op_alike D N i f ps st (step_among G (M n) k c way p 0 [] m is)) r))
        ∙ through (option_map node_step) (is_over G st) None (in_op G (M n) D N i f ps st (step_among G (M n) k c way p 0 [] m is))

    among_alike : (k : Kind) (c : ℕ) (way : List ℕ) (p : Path H) (j : ℕ) (Ns : List X.Needs) (m : Map G) (u : Map H) → Alike m u → (is : Items G) → NamedAmong k c way p j is →
        step_among H K k c way p j (needs_to Ns) u (items_to B X Y R is) ≡ option_map items_step (step_among G (M n) k c way p j Ns m is)
    among_alike k c way p j Ns m u e no_item h = refl
    among_alike k c way p j Ns m u e (said t is) h = ap (behind H K (said t)) (among_alike k c way p j Ns m u e is h) ∙ said_alike t (step_among G (M n) k c way p j Ns m is)
    among_alike k zero way p j Ns m u e (child_op a is) h =
        ap (λ b. as_child H K (items_to B X Y R is) (step_in H K k way (j ∷ p) (not b) u (node_to B X Y R a))) (ap (meets_any H K (needs_to Ns)) (needs_alike a) ∙ any_alike Ns (needs_of G a))
        ∙ ap (as_child H K (items_to B X Y R is)) (step_alike k way (j ∷ p) (not (meets_any G (M n) Ns (needs_of G a))) m u e a h)
        ∙ child_alike is (step_in G (M n) k way (j ∷ p) (not (meets_any G (M n) Ns (needs_of G a))) m a)
    among_alike k (suc c) way p j Ns m u e (child_op a is) h =
        ap (λ Os. behind H K (child_op (node_to B X Y R a)) (step_among H K k c way p (suc j) Os u (items_to B X Y R is))) (open_alike a Ns)
        ∙ ap (behind H K (child_op (node_to B X Y R a))) (among_alike k c way p (suc j) (still_open G (M n) a Ns) m u e is h)
        ∙ behind_alike a (step_among G (M n) k c way p (suc j) (still_open G (M n) a Ns) m is)
