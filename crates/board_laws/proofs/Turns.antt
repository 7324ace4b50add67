-- A run that has ended within its turns is the same with more turns.
use Rattle.std.proofs.Common.{◌&&◌, ◌≡◌, ◌++◌, ◌∷◌, ◌∙◌, ◌⊎◌, Bool, List, [], ap, cond, false, inl, inr, length, refl, subst, suc, true, zero, ℕ}
use Rattle.board_rules.specs.Ground.{Ground}
use Rattle.board_rules.specs.Processes.{Map, Process, Result, and_then, bind, done, fails, prefix, run_all, spent}
use Rattle.board_rules.specs.Running.{Call, Element, Machine, Path, Rest, Yield, await, calls, children, ends, go_on, make, puts, run_on, stops, want}

module _ (G : Ground) where
  -- the first result is the second, unless its turns were spent
  abbrev pub Below : {A : Type 0} → Result G A → Result G A → Type 0
  Below r s = (r ≡ spent) ⊎ (r ≡ s)

  abbrev pub AllBelow : {A : Type 0} → Process G A → Process G A → Type 0
  AllBelow F H = (m : Map G) → Below (F m) (H m)

  pub below_self : {A : Type 0} (r : Result G A) → Below r r
  below_self r = inr refl

  pub below_through : {A : Type 0} (r s t : Result G A) → Below r s → Below s t → Below r t
  below_through r s t (inl e) g = inl e
  below_through r s t (inr e) (inl g) = inl (e ∙ g)
  below_through r s t (inr e) (inr g) = inr (e ∙ g)

  pub below_same : {A : Type 0} (r s : Result G A) → r ≡ s → Below r s
  below_same r s e = inr e

  pub below_prefix : {A : Type 0} (t : List G.Byte) (r s : Result G A) → Below r s → Below (prefix G t r) (prefix G t s)
  below_prefix t r s (inl e) = inl (ap (prefix G t) e)
  below_prefix t r s (inr e) = inr (ap (prefix G t) e)

  pub below_after : {A B : Type 0} (r : Result G A) (k j : A → Process G B) → ((a : A) → AllBelow (k a) (j a)) → Below (and_then G r k) (and_then G r j)
  below_after (done a t m) k j h = below_prefix t (k a m) (j a m) (h a m)
  below_after (fails f t) k j h = inr refl
  below_after spent k j h = inl refl

  pub below_then : {A B : Type 0} (r s : Result G A) (k j : A → Process G B) → Below r s → ((a : A) → AllBelow (k a) (j a)) → Below (and_then G r k) (and_then G s j)
  below_then r s k j (inl e) h = inl (ap (λ x. and_then G x k) e)
  below_then r s k j (inr e) h = subst (λ x. Below (and_then G r k) (and_then G x j)) e (below_after r k j h)

  pub below_bind : {A B : Type 0} (F H : Process G A) (k j : A → Process G B) → AllBelow F H → ((a : A) → AllBelow (k a) (j a)) → AllBelow (bind G F k) (bind G H j)
  below_bind F H k j h g m = below_then (F m) (H m) k j (h m) g

  pub below_cond : {A : Type 0} (b : Bool) (F F' H H' : Process G A) → AllBelow F F' → AllBelow H H' → AllBelow (cond b F H) (cond b F' H')
  below_cond true F F' H H' h g = h
  below_cond false F F' H H' h g = g

module _ (G : Ground) (M : Machine G) where
  abbrev pub Grows : Rest G M → Rest G M → Type 0
  Grows a b = (p : Path G) (N : G.Needs) (i : ℕ) (f : G.Frame) (ps : List (Element G)) (vs : List G.Answer) → AllBelow G (a p N i f ps vs) (b p N i f ps vs)

  children_grow : (a b : Rest G M) → Grows a b → (p : Path G) (N : G.Needs) (c : ℕ) (xs : List (Call G)) → AllBelow G (children G M a p N c xs) (children G M b p N c xs)
  children_grow a b g p N c [] m = inr refl
  children_grow a b g p N c (x ∷ xs) m = below_cond G (x.may && M.inside x.needs N) _ _ _ _
      (below_bind G _ _ _ _ (g (c ∷ p) x.needs 0 x.frame [] []) (λ v. below_bind G _ _ _ _ (children_grow a b g p N (suc c) xs) (λ vs n. inr refl)))
      (λ n. inr refl) m

  go_on_grows : (a b : Rest G M) → Grows a b → (p : Path G) (N : G.Needs) (i : ℕ) (vs : List G.Answer) (f : G.Frame) (ps : List (Element G)) (y : Yield G) →
      AllBelow G (go_on G M a p N i vs f ps y) (go_on G M b p N i vs f ps y)
  go_on_grows a b g p N i vs f ps (calls xs) m = below_bind G _ _ _ _ (children_grow a b g p N (length vs) xs) (λ ws. g p N i f [] (vs ++ ws)) (run_all G (puts G M ps) m)
  go_on_grows a b g p N i vs f ps (want k) m = g p N i f _ vs m
  go_on_grows a b g p N i vs f ps (await c) m = g p N i _ ps vs m
  go_on_grows a b g p N i vs f ps (make d) m = below_cond G (M.sound d) _ _ _ _
      (λ n. g p (M.grown p i d N) (suc i) (M.pushed p i d f) ps vs (run_all G (M.zeros p i d) n)) (λ n. inr refl) m
  go_on_grows a b g p N i vs f ps (ends v) m = inr refl
  go_on_grows a b g p N i vs f ps (stops x) m = inr refl

  pub run_grows : (k : ℕ) → Grows (run_on G M k) (run_on G M (suc k))
  run_grows zero p N i f ps vs m = inl refl
  run_grows (suc k) p N i f ps vs m = below_prefix G (M.segment f ps).text _ _
      (go_on_grows (run_on G M k) (run_on G M (suc k)) (run_grows k) p N i vs (M.segment f ps).frame (M.segment f ps).parts (M.segment f ps).yields m)
