-- A give leaves what finishing the operation comes to as it was.
use Rattle.std.proofs.Common.{◌≡◌, ◌++◌, ◌∷◌, ◌∙◌, ◌⊎◌, ◌&&◌, ◌<◌, Bool, List, None, Option, Some, [], ap, append-nil, arith, cond, false, inl, inr, length, refl, subst, suc, sym, true, ℕ}
use Rattle.board_rules.specs.Ground.{Ground, Mode, reads, reduces, writes}
use Rattle.board_rules.specs.Processes.{Apart, Effect, Inside, Map, Process, Result, after, and_then, bind, done, fails, faults, gives, mode_of, on_map, location_of, prefix, put, fold_in, run_all, says, spent}
use Rattle.board_rules.specs.Running.{Call, Element, Held, Laws, Machine, MadeAt, Path, Spot, Yield, answer_at, await, back_with, calls, children, ends, filled, go_on, make, puts, reach, run_on, spots, stops, under, want}
use Rattle.board_rules.specs.Boards.{◌+++◌, after_segment, Items, Operation, Stage, Stepped, Wait, all_issued, at_fault, awaited, by, child, closing, finish, finish_items, first, given, idle, is_over, issued, child_op, met_by, needs_of, no_item, nothing, op, out, part, remaining, said, stage_of}
use Rattle.board_laws.proofs.Processes.{prefix_none, then_prefix, then_then}
use Rattle.board_laws.proofs.Reaching.{by_test, held_append, under_self}
use Rattle.board_laws.proofs.Turns.{AllBelow, Below, below_after, below_prefix, below_same, below_then, below_through, run_grows}
use Rattle.board_laws.proofs.Good.{above, FreeOf, GoodItems, GoodOp, OwnOf, Rooted, above_self, reach_needs}
use Rattle.board_laws.proofs.Finishing.{wants_held}
use Rattle.board_laws.proofs.Passing.{Above, AllForeignChildren, ForeignChildren, below_holding, free_tail, held_above, items_append, items_pass_all, past}
use Rattle.board_laws.proofs.Giving.{free_join, items_answer, met_same, spots_append}

module _ (G : Ground) (M : Machine G) (L : Laws G M) where
  pub then_map : {A B : Type 0} (g : Map G → Map G) (r : Result G A) (k : A → Process G B) → and_then G (on_map G g r) k ≡ and_then G r (λ a o. k a (g o))
  then_map g (done a t o) k = refl
  then_map g (fails x t) k = refl
  then_map g spent k = refl

  -- ---- effects that meet no unfinished child

  apart_none : (a : Mode G.Op) (b : Option (Mode G.Op)) → b ≡ None → Apart G (Some a) b
  apart_none a b e = subst (Apart G (Some a)) (sym e) tt

  none_inside : (a b : Option (Mode G.Op)) → Inside G a b → b ≡ None → a ≡ None
  none_inside None b h e = refl
  none_inside (Some a) b (inl h) e = absurd cc
  none_inside (Some a) b (inr h) e = absurd cc

  foreign_spot : (p : Path G) (j : ℕ) (x : Spot G) (xs : List (Spot G)) (is : Items G) (e : Effect G) → under G (G.maker x.location) p ≡ true → FreeOf G (x ∷ xs) is →
      x.mode ≡ mode_of G e → x.location ≡ location_of G e → ForeignChildren G M L e p j is
  foreign_spot p j x xs no_item e u h a b = tt
  foreign_spot p j x xs (said t is) e u h a b = foreign_spot p j x xs is e u h a b
  foreign_spot p j x xs (child_op n is) e u h a b = (
    by_test (is_over G (stage_of G n)) (λ s. is_over G (stage_of G n) ≡ s → Apart G (Some (mode_of G e)) (cond s None (reach G (j ∷ p) (needs_of G n) (location_of G e))))
        (λ s k. tt)
        (λ s k. subst (λ l. Apart G (Some (mode_of G e)) (reach G (j ∷ p) (needs_of G n) l)) b
        (subst (λ c. Apart G (Some c) (reach G (j ∷ p) (needs_of G n) x.location)) a
        (subst (Apart G (Some x.mode)) (sym (reach_needs G p j (needs_of G n) x.location u)) (h.0 k).0))) refl,
    foreign_spot p (suc j) x xs is e u h.1 a b,
  )

  pub puts_foreign : (p : Path G) (j : ℕ) (xs : List (Element G)) (is : Items G) → Above G M L p (spots G xs) → FreeOf G (spots G xs) is → AllForeignChildren G M L (puts G M xs) p j is
  puts_foreign p j [] is u h = tt
  puts_foreign p j (x ∷ xs) is u h = by_mode x.mode refl (puts_foreign p j xs is u.1 (free_tail G M L (record { location = x.location; mode = x.mode }) (spots G xs) is h))
    where
      by_mode : (a : Mode G.Op) → x.mode ≡ a → AllForeignChildren G M L (puts G M xs) p j is → AllForeignChildren G M L (back_with G M a x.location x.number (puts G M xs)) p j is
      by_mode reads e r = r
      by_mode writes e r = (foreign_spot p j (record { location = x.location; mode = x.mode }) (spots G xs) is (put x.location x.number) u.0 h e refl, r)
      by_mode (reduces o) e r = (foreign_spot p j (record { location = x.location; mode = x.mode }) (spots G xs) is (fold_in o x.location x.number) u.0 h e refl, r)

  -- nothing is needed yet at what is made next
  fresh : (p : Path G) (i : ℕ) (D N : G.Needs) (l : G.Location) → Rooted G p D → OwnOf G p i D N → G.maker l ≡ p → G.making l ≡ i → G.at N l ≡ None
  fresh p i D N l r o a b = by_own (o l)
    where
      by_own : (G.at N l ≡ G.at D l) ⊎ ((G.maker l ≡ p) × (G.making l < i)) → G.at N l ≡ None
      by_own (inl same) = same ∙ r l (ap (above G p) a ∙ above_self G p)
      by_own (inr mine) = let h = mine.1 in absurd (omega arith)

  zero_foreign : (m : Map G) (p : Path G) (N : G.Needs) (j : ℕ) (is : Items G) (l : G.Location) (v : G.Number) → GoodItems G M L m p N j is → G.maker l ≡ p → G.at N l ≡ None → ForeignChildren G M L (put l v) p j is
  zero_foreign m p N j no_item l v g a e = tt
  zero_foreign m p N j (said t is) l v g a e = zero_foreign m p N j is l v g a e
  zero_foreign m p N j (child_op n is) l v g a e = (
    by_test (is_over G (stage_of G n)) (λ s. Apart G (Some writes) (cond s None (reach G (j ∷ p) (needs_of G n) l)))
        (λ s. tt)
        (λ s. apart_none writes _ (reach_needs G p j (needs_of G n) l (subst (λ q. under G q p ≡ true) (sym a) (under_self G p)) ∙ none_inside _ _ (g.1 l) e)),
    zero_foreign m p N (suc j) is l v g.3 a e,
  )

  pub zeros_foreign : (m : Map G) (p : Path G) (D N : G.Needs) (i : ℕ) (j : ℕ) (is : Items G) → Rooted G p D → OwnOf G p i D N → GoodItems G M L m p N j is →
      (es : List (Effect G)) → MadeAt G p i es → AllForeignChildren G M L es p j is
  zeros_foreign m p D N i j is r o g [] h = tt
  zeros_foreign m p D N i j is r o g (put l v ∷ es) h = (zero_foreign m p N j is l v g h.0 (fresh p i D N l r o h.0 h.1), zeros_foreign m p D N i j is r o g es h.2)
  zeros_foreign m p D N i j is r o g (fold_in q l v ∷ es) h = absurd h

  -- ---- the operation with what was appended

  appended : (K : ℕ) (m n : Map G) (p : Path G) (D N N' : G.Needs) (i : ℕ) (f : G.Frame) (ps : List (Element G)) (st : Stage G) (is js : Items G) (es : List (Effect G)) →
      GoodItems G M L m p N 0 is → AllForeignChildren G M L es p 0 is →
      finish G M K p (op D N' i f ps st (◌+++◌ G is js)) (run_all G es n)
      ≡ and_then G (finish_items G M K p 0 is n) (λ vs o. and_then G (and_then G (finish_items G M K p (past G M L 0 is) js (run_all G es o)) (λ ws. gives G (vs ++ ws))) (remaining G M K p N' i f ps st))
  appended K m n p D N N' i f ps st is js es g h =
      ap (λ r. and_then G r (remaining G M K p N' i f ps st)) (items_append G M L K p 0 is js (run_all G es n))
      ∙ ap (λ r. and_then G (and_then G r (λ vs. bind G (finish_items G M K p (past G M L 0 is) js) (λ ws. gives G (vs ++ ws)))) (remaining G M K p N' i f ps st)) (items_pass_all G M L K m p N 0 is es g h n)
      ∙ then_then G (on_map G (run_all G es) (finish_items G M K p 0 is n)) _ _
      ∙ then_map (run_all G es) (finish_items G M K p 0 is n) _

  said_then : {A : Type 0} (K : ℕ) (p : Path G) (c : ℕ) (t : List G.Byte) (vs : List G.Answer) (k : List G.Answer → Process G A) (o : Map G) →
      and_then G (and_then G (finish_items G M K p c (said t no_item) o) (λ ws. gives G (vs ++ ws))) k ≡ prefix G t (k vs o)
  said_then K p c t vs k o = λ i. prefix G ((append-nil (t ++ []) ∙ append-nil t) i) (k (append-nil vs i) o)

  -- the children of a call, whole one by one, or issued and finished
  pub children_below : (A : Type 0) (K : ℕ) (p : Path G) (N : G.Needs) (c : ℕ) (xs : List (Call G)) (k j : List G.Answer → Process G A) → ((ws : List G.Answer) → AllBelow G (k ws) (j ws)) → (o : Map G) →
      Below G (and_then G (children G M (run_on G M K) p N c xs o) k)
      (and_then G (finish_items G M (suc K) p c (issued G M N xs) o) (λ ws. cond (all_issued G M N xs) (j ws) (faults G G.broken)))
  children_below A K p N c [] k j h o = below_prefix G [] (k [] o) (j [] o) (h [] o)
  children_below A K p N c (x ∷ xs) k j h o = by_test (x.may && M.inside x.needs N)
      (λ b. Below G (and_then G (cond b whole_ones (faults G G.broken) o) k)
      (and_then G (finish_items G M (suc K) p c (cond b (child_op new (issued G M N xs)) no_item) o) (λ ws. cond (b && all_issued G M N xs) (j ws) (faults G G.broken))))
      (λ e. below_through G _ _ _ (below_same G _ _ whole_first)
      (below_through G _ _ _
      (below_then G (run_on G M K (c ∷ p) x.needs 0 x.frame [] [] o) (finish G M (suc K) (c ∷ p) new o) _ _
      (below_through G _ _ _ (run_grows G M K (c ∷ p) x.needs 0 x.frame [] [] o) (below_same G _ _ (sym (prefix_none G _))))
      (λ v u. children_below A K p N (suc c) xs (λ ws w. and_then G (gives G (v ∷ ws) w) k) (λ ws w. and_then G (gives G (v ∷ ws) w) j) (λ ws w. below_prefix G [] _ _ (h (v ∷ ws) w)) u))
      (below_same G _ _ issued_first)))
      (λ e. inr refl)
    where
      new : Operation G
      new = op x.needs x.needs 0 x.frame [] (idle first) no_item

      whole_ones : Process G (List G.Answer)
      whole_ones = bind G (run_on G M K (c ∷ p) x.needs 0 x.frame [] []) (λ v. bind G (children G M (run_on G M K) p N (suc c) xs) (λ vs. gives G (v ∷ vs)))

      whole_first : and_then G (whole_ones o) k ≡ and_then G (run_on G M K (c ∷ p) x.needs 0 x.frame [] [] o) (λ v u. and_then G (children G M (run_on G M K) p N (suc c) xs u) (λ ws w. and_then G (gives G (v ∷ ws) w) k))
      whole_first = then_then G (run_on G M K (c ∷ p) x.needs 0 x.frame [] [] o) _ _
          ∙ ap (and_then G (run_on G M K (c ∷ p) x.needs 0 x.frame [] [] o)) (λ i v u. then_then G (children G M (run_on G M K) p N (suc c) xs u) (λ vs. gives G (v ∷ vs)) k i)

      after_all : List G.Answer → Process G A
      after_all ws = cond (all_issued G M N xs) (j ws) (faults G G.broken)

      one_more : (b : Bool) (v : G.Answer) (ws : List G.Answer) (w : Map G) → cond b (λ y. and_then G (gives G (v ∷ ws) y) j) (faults G G.broken) w ≡ and_then G (gives G (v ∷ ws) w) (λ us. cond b (j us) (faults G G.broken))
      one_more true v ws w = refl
      one_more false v ws w = refl

      issued_first : and_then G (finish G M (suc K) (c ∷ p) new o)
          (λ v u. and_then G (finish_items G M (suc K) p (suc c) (issued G M N xs) u) (λ ws. cond (all_issued G M N xs) (λ w. and_then G (gives G (v ∷ ws) w) j) (faults G G.broken)))
          ≡ and_then G (and_then G (finish G M (suc K) (c ∷ p) new o) (λ v. bind G (finish_items G M (suc K) p (suc c) (issued G M N xs)) (λ vs. gives G (v ∷ vs)))) after_all
      issued_first = sym (then_then G (finish G M (suc K) (c ∷ p) new o) _ after_all
          ∙ ap (and_then G (finish G M (suc K) (c ∷ p) new o)) (λ i v u. (then_then G (finish_items G M (suc K) p (suc c) (issued G M N xs) u) (λ vs. gives G (v ∷ vs)) after_all
          ∙ ap (and_then G (finish_items G M (suc K) p (suc c) (issued G M N xs) u)) (λ r ws w. sym (one_more (all_issued G M N xs) v ws w) r)) i))

  module _ (K : ℕ) (m n : Map G) (p : Path G) (D N : G.Needs) (i : ℕ) (is : Items G) (child_count : GoodItems G M L m p N 0 is) (rooted : Rooted G p D) (own : OwnOf G p i D N) where
    abbrev items_end : Result G (List G.Answer)
    items_end = finish_items G M (suc K) p 0 is n

    only_said : (t : List G.Byte) (N' : G.Needs) (i' : ℕ) (f : G.Frame) (ps : List (Element G)) (st : Stage G) (es : List (Effect G)) (F : List G.Answer → Process G G.Answer) → AllForeignChildren G M L es p 0 is →
        ((vs : List G.Answer) (o : Map G) → Below G (F vs o) (remaining G M (suc K) p N' i' f ps st vs (run_all G es o))) →
        Below G (and_then G items_end (λ vs. says G t (F vs))) (finish G M (suc K) p (op D N' i' f ps st (◌+++◌ G is (said t no_item))) (run_all G es n))
    only_said t N' i' f ps st es F free h = below_through G _ _ _
        (below_after G items_end _ _ (λ vs o. below_through G _ _ _ (below_prefix G t _ _ (h vs o)) (below_same G _ _ (sym (said_then (suc K) p (past G M L 0 is) t vs (remaining G M (suc K) p N' i' f ps st) (run_all G es o))))))
        (below_same G _ _ (sym (appended (suc K) m n p D N N' i' f ps st is (said t no_item) es child_count free)))

    cond_remaining : (b : Bool) (f : G.Frame) (us : List G.Answer) (o : Map G) →
        cond b (λ w. prefix G [] (remaining G M (suc K) p N i f [] (idle nothing) us w)) (faults G G.broken) o
        ≡ and_then G (gives G us o) (remaining G M (suc K) p N i f [] (cond b (idle nothing) (closing (at_fault G.broken))))
    cond_remaining true f us o = refl
    cond_remaining false f us o = refl

    each_call : (f : G.Frame) (xs : List (Call G)) (vs : List G.Answer) (u : Map G) → length vs ≡ past G M L 0 is →
        Below G (and_then G (children G M (run_on G M K) p N (length vs) xs u) (λ ws. run_on G M K p N i f [] (vs ++ ws)))
        (and_then G (and_then G (finish_items G M (suc K) p (past G M L 0 is) (issued G M N xs) u) (λ ws. gives G (vs ++ ws)))
        (remaining G M (suc K) p N i f [] (cond (all_issued G M N xs) (idle nothing) (closing (at_fault G.broken)))))
    each_call f xs vs u place = below_through G _ _ _
        (subst (λ c. Below G (and_then G (children G M (run_on G M K) p N (length vs) xs u) (λ ws. run_on G M K p N i f [] (vs ++ ws)))
        (and_then G (finish_items G M (suc K) p c (issued G M N xs) u) (λ ws. cond (all_issued G M N xs) (λ w. prefix G [] (remaining G M (suc K) p N i f [] (idle nothing) (vs ++ ws) w)) (faults G G.broken))))
        place (children_below G.Answer K p N (length vs) xs (λ ws. run_on G M K p N i f [] (vs ++ ws)) (λ ws w. prefix G [] (remaining G M (suc K) p N i f [] (idle nothing) (vs ++ ws) w))
        (λ ws w. below_through G _ _ _ (run_grows G M K p N i f [] (vs ++ ws) w) (below_same G _ _ (sym (prefix_none G _)))) u))
        (below_same G _ _ (ap (and_then G (finish_items G M (suc K) p (past G M L 0 is) (issued G M N xs) u)) (λ r ws w. cond_remaining (all_issued G M N xs) f (vs ++ ws) w r)
        ∙ sym (then_then G (finish_items G M (suc K) p (past G M L 0 is) (issued G M N xs) u) _ _)))

    gives_calls : (t : List G.Byte) (f : G.Frame) (ps : List (Element G)) (xs : List (Call G)) → AllForeignChildren G M L (puts G M ps) p 0 is →
        Below G (and_then G items_end (λ vs. says G t (go_on G M (run_on G M K) p N i vs f ps (calls xs))))
        (finish G M (suc K) p (op D N i f [] (cond (all_issued G M N xs) (idle nothing) (closing (at_fault G.broken))) (◌+++◌ G is (said t (issued G M N xs)))) (run_all G (puts G M ps) n))
    gives_calls t f ps xs free = below_through G _ _ _
        (below_holding G M L _ items_end _ _ (items_answer G M L (suc K) p 0 is n)
        (λ vs o h. below_through G _ _ _ (below_prefix G t _ _ (each_call f xs vs (run_all G (puts G M ps) o) (let e = h.0 in omega arith)))
        (below_same G _ _ (sym (ap (λ r. and_then G r (remaining G M (suc K) p N i f [] (cond (all_issued G M N xs) (idle nothing) (closing (at_fault G.broken))))) (then_prefix G t (finish_items G M (suc K) p (past G M L 0 is) (issued G M N xs) (run_all G (puts G M ps) o)) _)
        ∙ then_prefix G t (and_then G (finish_items G M (suc K) p (past G M L 0 is) (issued G M N xs) (run_all G (puts G M ps) o)) (λ ws. gives G (vs ++ ws)))
        (remaining G M (suc K) p N i f [] (cond (all_issued G M N xs) (idle nothing) (closing (at_fault G.broken)))))))))
        (below_same G _ _ (sym (appended (suc K) m n p D N N i f [] _ is (said t (issued G M N xs)) (puts G M ps) child_count free)))

    by_yield : (t : List G.Byte) (f : G.Frame) (ps : List (Element G)) (y : Yield G) → AllForeignChildren G M L (puts G M ps) p 0 is →
        Below G (and_then G items_end (λ vs. says G t (go_on G M (run_on G M K) p N i vs f ps y)))
        (finish G M (suc K) p (given G M p D N i is t f ps y).left (run_all G (given G M p D N i is t f ps y).effects n))
    by_yield t f ps (calls xs) free = gives_calls t f ps xs free
    by_yield t f ps (want k) free = only_said t N i f ps (idle (part k)) [] _ tt (λ vs o. run_grows G M K p N i f (ps ++ filled G M (M.wanted N k) o) vs o)
    by_yield t f ps (await c) free = only_said t N i f ps (idle (child c)) [] _ tt
        (λ vs o. below_through G _ _ _ (run_grows G M K p N i (M.met f c (answer_at G M vs c)) ps vs o) (below_same G _ _ (ap (λ xs. run_on G M (suc K) p N i (M.met f c (answer_at G M vs c)) xs vs o) (sym (append-nil ps)))))
    by_yield t f ps (make d) free = by_test (M.sound d) (λ b. Below G (and_then G items_end (λ vs. says G t (cond b (after G (M.zeros p i d) (run_on G M K p (M.grown p i d N) (suc i) (M.pushed p i d f) ps vs)) (faults G G.broken))))
        (finish G M (suc K) p (chosen b).left (run_all G (chosen b).effects n)))
        (λ e. only_said t (M.grown p i d N) (suc i) (M.pushed p i d f) ps (idle nothing) (M.zeros p i d) _ (zeros_foreign m p D N i 0 is rooted own child_count (M.zeros p i d) (L.zeros_mine p i d))
        (λ vs o. below_through G _ _ _ (run_grows G M K p (M.grown p i d N) (suc i) (M.pushed p i d f) ps vs (run_all G (M.zeros p i d) o))
        (below_same G _ _ (ap (λ xs. run_on G M (suc K) p (M.grown p i d N) (suc i) (M.pushed p i d f) xs vs (run_all G (M.zeros p i d) o)) (sym (append-nil ps))))))
        (λ e. only_said t N i f [] (closing (at_fault G.broken)) [] _ tt (λ vs o. inr refl))
      where
        chosen : Bool → Stepped G (Operation G)
        chosen b = cond b
            (record { left = op D (M.grown p i d N) (suc i) (M.pushed p i d f) ps (idle nothing) (◌+++◌ G is (said t no_item)); effects = M.zeros p i d })
            (record { left = op D N i f [] (closing (at_fault G.broken)) (◌+++◌ G is (said t no_item)); effects = [] })
    by_yield t f ps (ends v) free = only_said t N i f [] (closing (by v)) (puts G M ps) _ free (λ vs o. inr refl)
    by_yield t f ps (stops x) free = only_said t N i f [] (closing (at_fault x)) [] _ tt (λ vs o. inr refl)

    -- what a claimed operation comes to, by the segment of its Before
    pub give_finishes : (f : G.Frame) (ps : List (Element G)) (w : Wait G) (d : List (Element G)) → GoodOp G M L m p D N i ps (out w d) is →
        Below G (finish G M (suc K) p (op D N i f ps (out w d) is) n)
        (finish G M (suc K) p (after_segment G M p D N i is (M.segment (met_by G M w f (awaited G M w is)) (ps ++ d))).left
        (run_all G (after_segment G M p D N i is (M.segment (met_by G M w f (awaited G M w is)) (ps ++ d))).effects n))
    give_finishes f ps w d g = below_through G _ _ _
        (below_holding G M L _ items_end _ (λ vs. run_on G M (suc K) p N i before (ps ++ d) vs) (items_answer G M L (suc K) p 0 is n)
        (λ vs o h. below_same G _ _ (λ r. run_on G M (suc K) p N i (met_same G M L w f is vs g.stage.2 h r) (ps ++ append-nil d r) vs o)))
        (by_yield (M.segment before (ps ++ d)).text (M.segment before (ps ++ d)).frame (M.segment before (ps ++ d)).parts (M.segment before (ps ++ d)).yields
        (puts_foreign p 0 (M.segment before (ps ++ d)).parts is
        (subst (Above G M L p) (sym shape) (held_above G M L p i D N rooted own (spots G ps ++ spots G d) held))
        (subst (λ xs. FreeOf G xs is) (sym shape) (free_join G M L (spots G ps) (spots G d) is g.free g.free_claimed))))
      where
        before : G.Frame
        before = met_by G M w f (awaited G M w is)

        shape : spots G (M.segment before (ps ++ d)).parts ≡ spots G ps ++ spots G d
        shape = L.segment_keeps before (ps ++ d) ∙ spots_append G M L ps d

        held : Held G (G.at N) (spots G ps ++ spots G d)
        held = subst (Held G (G.at N)) (spots_append G M L ps d) (held_append G (G.at N) ps d g.held (subst (Held G (G.at N)) (sym g.stage.1) (wants_held G M L N w)))
