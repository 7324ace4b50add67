-- The order run with roots by numbers is the order run with roots by names, renamed.
use Rattle.std.proofs.Common.{◌&&◌, ◌≡◌, ◌++◌, ◌+◌, ◌∷◌, ◌∙◌, Bool, List, [], ap, arith, cond, false, length, refl, subst, suc, sym, true, zero, ℕ}
use Rattle.board_rules.specs.Ground.{Ground}
use Rattle.board_rules.specs.Processes.{Map, Process, Result, after, and_then, bind, done, fails, faults, gives, prefix, run_all, spent}
use Rattle.board_rules.specs.Running.{Call, Element, Machine, Path, Yield, answer_at, await, calls, children, ends, filled, go_on, make, puts, run_on, stops, want, Rest}
use Rattle.board_rules.specs.Renaming.{Base, Renamed, Renames, Roots, calls_to, elements, ground_over, yield_to}
use Rattle.board_rules.specs.NumberedRuns.{Counting, Making, RestRun, Run, bind_run, children_run, faulty, go_run, go_then, just, numbered_run}
use Rattle.number_laws.proofs.Renamed.{elems_append, filled_alike, puts_alike, run_all_alike}

module _ (B : Base) (X Y : Roots B) (M : ℕ → Machine (ground_over B X)) (K : Machine (ground_over B Y)) (R : Renames B X Y) (maker : ℕ → List ℕ) (making : ℕ → ℕ) (W : Renamed B X Y M K R maker making) where
  abbrev G : Ground
  G = ground_over B X

  abbrev H : Ground
  H = ground_over B Y

  abbrev Maps : Map G → Map H → Type 0
  Maps m u = (l : X.Location) → u (R.loc l) ≡ m l

  -- what is made from a number on has these names
  abbrev pub Reads : ℕ → List Making → Type 0
  Reads n [] = Unit {0}
  Reads n (x ∷ xs) = (maker n ≡ x.maker) × (making n ≡ x.making) × Reads (suc n) xs

  reads_parts : (n : ℕ) (xs ys : List Making) → Reads n (xs ++ ys) → Reads n xs × Reads (n + length xs) ys
  reads_parts n [] ys h = (tt, subst (λ k. Reads k ys) (omega arith) h)
  reads_parts n (x ∷ xs) ys h = let r = reads_parts (suc n) xs ys h.2 in ((h.0, h.1, r.0), subst (λ k. Reads k ys) (omega arith) r.1)

  -- the same answer, text and fault, and maps that are alike
  abbrev pub Same : {A : Type 0} → Result G A → Result H A → Type 0
  Same (done a t m) (done b s u) = (a ≡ b) × (t ≡ s) × Maps m u
  Same (fails x t) (fails y s) = (x ≡ y) × (t ≡ s)
  Same spent spent = Unit {0}
  Same _ _ = ⊥

  same_prefix : {A : Type 0} (t s : List B.Byte) (r : Result G A) (q : Result H A) → t ≡ s → Same r q → Same (prefix G t r) (prefix H s q)
  same_prefix t s (done a u m) (done b v o) e h = (h.0, (λ i. e i ++ h.1 i), h.2)
  same_prefix t s (done a u m) (fails y v) e h = absurd h
  same_prefix t s (done a u m) spent e h = absurd h
  same_prefix t s (fails x u) (done b v o) e h = absurd h
  same_prefix t s (fails x u) (fails y v) e h = (h.0, (λ i. e i ++ h.1 i))
  same_prefix t s (fails x u) spent e h = absurd h
  same_prefix t s spent (done b v o) e h = absurd h
  same_prefix t s spent (fails y v) e h = absurd h
  same_prefix t s spent spent e h = tt

  same_then : (A C : Type 0) (n : ℕ) (xs : List Making) (r : Result G A) (q : Result H A) (k : A → Counting G M C) (j : A → Process H C) → Reads n (go_then G M n xs r k).made →
      (Reads n xs → Same r q) → ((a : A) (l : ℕ) (m : Map G) (u : Map H) → Maps m u → Reads l (k a l m).made → Same (k a l m).result (j a u)) → Same (go_then G M n xs r k).result (and_then H q j)
  same_then A C n xs (done a t m) q k j h g f = by_result q (g (reads_parts n xs (k a (n + length xs) m).made h).0)
    where
      by_result : (q : Result H A) → Same (done a t m) q → Same (prefix G t (k a (n + length xs) m).result) (and_then H q j)
      by_result (done b s u) e = same_prefix t s _ _ e.1 (subst (λ y. Same (k a (n + length xs) m).result (j y u)) e.0 (f a (n + length xs) m u e.2 (reads_parts n xs (k a (n + length xs) m).made h).1))
      by_result (fails y s) e = absurd e
      by_result spent e = absurd e
  same_then A C n xs (fails x t) (done b s u) k j h g f = absurd (g h)
  same_then A C n xs (fails x t) (fails y s) k j h g f = g h
  same_then A C n xs (fails x t) spent k j h g f = absurd (g h)
  same_then A C n xs spent (done b s u) k j h g f = absurd (g h)
  same_then A C n xs spent (fails y s) k j h g f = absurd (g h)
  same_then A C n xs spent spent k j h g f = tt

  -- ---- an operation that runs on

  abbrev AllSame : RestRun G M → Rest H K → Type 0
  AllSame a b = (p : Path G) (N : X.Needs) (i : ℕ) (f : X.Frame) (ps : List (Element G)) (vs : List B.Answer) (n : ℕ) (m : Map G) (u : Map H) → Maps m u →
      Reads n (a p N i f ps vs n m).made → Same (a p N i f ps vs n m).result (b p (R.needs N) i (R.frame f) (elements B X Y R ps) vs u)

  children_same : (a : RestRun G M) (b : Rest H K) → AllSame a b → (p : Path G) (N : X.Needs) (c : ℕ) (xs : List (Call G)) (n : ℕ) (m : Map G) (u : Map H) → Maps m u →
      Reads n (children_run G M a p N c xs n m).made → Same (children_run G M a p N c xs n m).result (children H K b p (R.needs N) c (calls_to B X Y R xs) u)
  children_same a b w p N c [] n m u e h = (refl, refl, e)
  children_same a b w p N c (x ∷ xs) n m u e h =
      subst (λ t. Same (children_run G M a p N c (x ∷ xs) n m).result
      (cond t (bind H (b (c ∷ p) (R.needs x.needs) 0 (R.frame x.frame) [] []) (λ v. bind H (children H K b p (R.needs N) (suc c) (calls_to B X Y R xs)) (λ vs. gives H (v ∷ vs)))) (faults H B.broken) u))
      (ap (λ t. x.may && t) (sym (W.inside n x.needs N))) (by_inside (x.may && (M n).inside x.needs N) h (children_same a b w p N (suc c) xs))
    where
      rest_of : B.Answer → Counting G M (List B.Answer)
      rest_of v = bind_run G M (children_run G M a p N (suc c) xs) (λ vs. just G M (v ∷ vs))

      by_inside : (t : Bool) → Reads n (cond t (bind_run G M (a (c ∷ p) x.needs 0 x.frame [] []) rest_of n m) (faulty G M B.broken n m)).made →
          ((l : ℕ) (o : Map G) (q : Map H) → Maps o q → Reads l (children_run G M a p N (suc c) xs l o).made → Same (children_run G M a p N (suc c) xs l o).result (children H K b p (R.needs N) (suc c) (calls_to B X Y R xs) q)) →
          Same (cond t (bind_run G M (a (c ∷ p) x.needs 0 x.frame [] []) rest_of n m) (faulty G M B.broken n m)).result
          (cond t (bind H (b (c ∷ p) (R.needs x.needs) 0 (R.frame x.frame) [] []) (λ v. bind H (children H K b p (R.needs N) (suc c) (calls_to B X Y R xs)) (λ vs. gives H (v ∷ vs)))) (faults H B.broken) u)
      by_inside true h ih = same_then B.Answer (List B.Answer) n (a (c ∷ p) x.needs 0 x.frame [] [] n m).made (a (c ∷ p) x.needs 0 x.frame [] [] n m).result (b (c ∷ p) (R.needs x.needs) 0 (R.frame x.frame) [] [] u)
          rest_of (λ v. bind H (children H K b p (R.needs N) (suc c) (calls_to B X Y R xs)) (λ vs. gives H (v ∷ vs))) h (w (c ∷ p) x.needs 0 x.frame [] [] n m u e)
          (λ v l o q k r. same_then (List B.Answer) (List B.Answer) l (children_run G M a p N (suc c) xs l o).made (children_run G M a p N (suc c) xs l o).result (children H K b p (R.needs N) (suc c) (calls_to B X Y R xs) q)
          (λ vs. just G M (v ∷ vs)) (λ vs. gives H (v ∷ vs)) r (ih l o q k) (λ vs y z t d s. (refl, refl, d)))
      by_inside false h ih = (refl, refl)

  go_same : (a : RestRun G M) (b : Rest H K) → AllSame a b → (p : Path G) (N : X.Needs) (i : ℕ) (vs : List B.Answer) (f : X.Frame) (ps : List (Element G)) (y : Yield G) (n : ℕ) (m : Map G) (u : Map H) → Maps m u →
      Reads n (go_run G M a p N i vs f ps y n m).made → Same (go_run G M a p N i vs f ps y n m).result (go_on H K b p (R.needs N) i vs (R.frame f) (elements B X Y R ps) (yield_to B X Y R y) u)
  go_same a b w p N i vs f ps (calls xs) n m u e h =
      subst (λ es. Same (go_run G M a p N i vs f ps (calls xs) n m).result (bind H (children H K b p (R.needs N) (length vs) (calls_to B X Y R xs)) (λ ws. b p (R.needs N) i (R.frame f) [] (vs ++ ws)) (run_all H es u)))
      (sym (puts_alike B X Y M K R maker making W n ps))
      (same_then (List B.Answer) B.Answer n _ (children_run G M a p N (length vs) xs n (run_all G (puts G (M n) ps) m)).result _ (λ ws. a p N i f [] (vs ++ ws)) (λ ws. b p (R.needs N) i (R.frame f) [] (vs ++ ws)) h
      (children_same a b w p N (length vs) xs n (run_all G (puts G (M n) ps) m) _ (run_all_alike B X Y M K R maker making W n (puts G (M n) ps) m u e))
      (λ ws l o q k r. w p N i f [] (vs ++ ws) l o q k r))
  go_same a b w p N i vs f ps (want k) n m u e h =
      subst (λ xs. Same (a p N i f (ps ++ filled G (M n) ((M n).wanted N k) m) vs n m).result (b p (R.needs N) i (R.frame f) xs vs u)) (sym parts)
      (w p N i f (ps ++ filled G (M n) ((M n).wanted N k) m) vs n m u e h)
    where
      parts : elements B X Y R ps ++ filled H K (K.wanted (R.needs N) (R.key k)) u ≡ elements B X Y R (ps ++ filled G (M n) ((M n).wanted N k) m)
      parts = ap (λ xs. elements B X Y R ps ++ filled H K xs u) (W.wanted n N k) ∙ ap (λ xs. elements B X Y R ps ++ xs) (filled_alike B X Y M K R maker making W n m u e ((M n).wanted N k))
          ∙ sym (elems_append B X Y M K R maker making W n ps (filled G (M n) ((M n).wanted N k) m))
  go_same a b w p N i vs f ps (await c) n m u e h =
      subst (λ g. Same (a p N i ((M n).met f c (answer_at G (M n) vs c)) ps vs n m).result (b p (R.needs N) i g (elements B X Y R ps) vs u))
      (sym ((λ r. K.met (R.frame f) c (answer_same vs c r)) ∙ W.met n f c (answer_at G (M n) vs c))) (w p N i ((M n).met f c (answer_at G (M n) vs c)) ps vs n m u e h)
    where
      answer_same : (vs : List B.Answer) (c : ℕ) → answer_at H K vs c ≡ answer_at G (M n) vs c
      answer_same [] c = W.no_answer n
      answer_same (v ∷ vs) zero = refl
      answer_same (v ∷ vs) (suc c) = answer_same vs c
  go_same a b w p N i vs f ps (make d) n m u e h =
      subst (λ t. Same (go_run G M a p N i vs f ps (make d) n m).result (cond t (after H (K.zeros p i (R.made d)) (b p (K.grown p i (R.made d) (R.needs N)) (suc i) (K.pushed p i (R.made d) (R.frame f)) (elements B X Y R ps) vs)) (faults H B.broken) u))
      (sym (W.sound n d)) (by_sound ((M n).sound d) h)
    where
      made_run : Run G B.Answer
      made_run = a p ((M n).grown p i d N) (suc i) ((M n).pushed p i d f) ps vs (suc n) (run_all G ((M n).zeros p i d) m)

      by_sound : (t : Bool) → Reads n (cond t (record { made = record { maker = p; making = i } ∷ made_run.made; result = made_run.result }) (faulty G M B.broken n m)).made →
          Same (cond t (record { made = record { maker = p; making = i } ∷ made_run.made; result = made_run.result }) (faulty G M B.broken n m)).result
          (cond t (after H (K.zeros p i (R.made d)) (b p (K.grown p i (R.made d) (R.needs N)) (suc i) (K.pushed p i (R.made d) (R.frame f)) (elements B X Y R ps) vs)) (faults H B.broken) u)
      by_sound true r = subst (λ F. Same made_run.result F)
          (λ j. b p (sym (W.grown n i p d N r.0 r.1) j) (suc i) (sym (W.pushed n i p d f r.0 r.1) j) (elements B X Y R ps) vs (run_all H (sym (W.zeros n i p d r.0 r.1) j) u))
          (w p ((M n).grown p i d N) (suc i) ((M n).pushed p i d f) ps vs (suc n) (run_all G ((M n).zeros p i d) m) _ (run_all_alike B X Y M K R maker making W n ((M n).zeros p i d) m u e) r.2)
      by_sound false r = (refl, refl)
  go_same a b w p N i vs f ps (ends v) n m u e h = (refl, refl, subst (λ es. Maps (run_all G (puts G (M n) ps) m) (run_all H es u)) (sym (puts_alike B X Y M K R maker making W n ps)) (run_all_alike B X Y M K R maker making W n (puts G (M n) ps) m u e))
  go_same a b w p N i vs f ps (stops x) n m u e h = (refl, refl)

  pub run_same : (k : ℕ) → AllSame (numbered_run G M k) (run_on H K k)
  run_same zero p N i f ps vs n m u e h = tt
  run_same (suc k) p N i f ps vs n m u e h =
      subst (λ x. Same (numbered_run G M (suc k) p N i f ps vs n m).result (prefix H x.text (go_on H K (run_on H K k) p (R.needs N) i vs x.frame x.parts x.yields u))) (sym (W.segment n f ps))
      (same_prefix ((M n).segment f ps).text ((M n).segment f ps).text _ _ refl (go_same (numbered_run G M k) (run_on H K k) (run_same k) p N i vs ((M n).segment f ps).frame ((M n).segment f ps).parts ((M n).segment f ps).yields n m u e h))
