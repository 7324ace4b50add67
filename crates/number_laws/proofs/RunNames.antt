-- The roots that an order run makes have names, no two alike.
use Rattle.std.proofs.Common.{◌&&◌, ◌≡◌, ◌++◌, ◌+◌, ◌∷◌, ◌∙◌, ◌≤◌, ◌<◌, ◌⊎◌, Bool, List, [], ap, arith, cond, false, inl, inr, le_refl, length, refl, subst, suc, sym, true, zero, ℕ}
use Rattle.board_rules.specs.Ground.{Ground}
use Rattle.board_rules.specs.Processes.{Map, Result, done, fails, prefix, run_all, spent}
use Rattle.board_rules.specs.Running.{Call, Element, Machine, Path, Yield, await, calls, ends, make, puts, stops, under, want}
use Rattle.board_rules.specs.NumberedRuns.{Counting, Making, RestRun, Run, bind_run, children_run, faulty, go_run, go_then, just, numbered_run}
use Rattle.board_laws.proofs.Reaching.{under_child, under_self}
use Rattle.board_laws.proofs.Good.{under_both, under_length}

-- ---- lists of which no two members are alike

abbrev pub Other : Making → Making → Type 0
Other x y = x.maker ≡ y.maker → x.making ≡ y.making → ⊥

abbrev pub Each : (Making → Type 0) → List Making → Type 0
Each P [] = Unit {0}
Each P (x ∷ xs) = P x × Each P xs

abbrev pub Differ : List Making → Type 0
Differ [] = Unit {0}
Differ (x ∷ xs) = Each (Other x) xs × Differ xs

each_weaker : (P Q : Making → Type 0) (xs : List Making) → ((x : Making) → P x → Q x) → Each P xs → Each Q xs
each_weaker P Q [] h e = tt
each_weaker P Q (x ∷ xs) h e = (h x e.0, each_weaker P Q xs h e.1)

each_append : (P : Making → Type 0) (xs ys : List Making) → Each P xs → Each P ys → Each P (xs ++ ys)
each_append P [] ys h g = g
each_append P (x ∷ xs) ys h g = (h.0, each_append P xs ys h.1 g)

differ_append : (P Q : Making → Type 0) (xs ys : List Making) → ((x y : Making) → P x → Q y → Other x y) → Each P xs → Differ xs → Each Q ys → Differ ys → Differ (xs ++ ys)
differ_append P Q [] ys o a b c d = d
differ_append P Q (x ∷ xs) ys o a b c d = (each_append (Other x) xs ys b.0 (each_weaker Q (Other x) ys (λ y q. o x y a.0 q) c), differ_append P Q xs ys o a.1 b.1 c d)

module _ (G : Ground) (M : ℕ → Machine G) where
  -- what an operation makes from its making i and its child c on
  abbrev pub From : Path G → ℕ → ℕ → Making → Type 0
  From p i c x = ((x.maker ≡ p) × (i ≤ x.making)) ⊎ ((d : ℕ) × (c ≤ d) × (under G (d ∷ p) x.maker ≡ true))

  -- what the children from c on and before e make
  abbrev pub Among : Path G → ℕ → ℕ → Making → Type 0
  Among p c e x = (d : ℕ) × (c ≤ d) × (d < e) × (under G (d ∷ p) x.maker ≡ true)

  -- what is made has this property, and no two are alike
  pub record Names (P : Making → Type 0) (xs : List Making) : Type 0 where
    pub each : Each P xs
    pub differ : Differ xs

  weaker : (P Q : Making → Type 0) (xs : List Making) → ((x : Making) → P x → Q x) → Names P xs → Names Q xs
  weaker P Q xs h a = record { each = each_weaker P Q xs h a.each; differ = a.differ }

  abbrev IfDone : {A : Type 0} → Result G A → (A → Type 0) → Type 0
  IfDone (done a t m) P = P a
  IfDone (fails x t) P = Unit {0}
  IfDone spent P = Unit {0}

  then_names : (A C : Type 0) (P Q S : Making → Type 0) (T : A → Type 0) (n : ℕ) (xs : List Making) (r : Result G A) (k : A → Counting G M C) → Names P xs → IfDone r T →
      ((a : A) → T a → (l : ℕ) (m : Map G) → Names Q (k a l m).made) → ((x y : Making) → P x → Q y → Other x y) → ((x : Making) → P x → S x) → ((x : Making) → Q x → S x) → Names S (go_then G M n xs r k).made
  then_names A C P Q S T n xs (done a t m) k h d g o ps qs = let b = g a d (n + length xs) m in record {
    each = each_append S xs (k a (n + length xs) m).made (each_weaker P S xs ps h.each) (each_weaker Q S (k a (n + length xs) m).made qs b.each);
    differ = differ_append P Q xs (k a (n + length xs) m).made o h.each h.differ b.each b.differ;
  }
  then_names A C P Q S T n xs (fails x t) k h d g o ps qs = weaker P S xs ps h
  then_names A C P Q S T n xs spent k h d g o ps qs = weaker P S xs ps h

  no_names : (P : Making → Type 0) → Names P []
  no_names P = record { each = tt; differ = tt }

  done_prefix : {A : Type 0} (T : A → Type 0) (t : List G.Byte) (r : Result G A) → IfDone r T → IfDone (prefix G t r) T
  done_prefix T t (done a u m) h = h
  done_prefix T t (fails x u) h = tt
  done_prefix T t spent h = tt

  then_done : (A C : Type 0) (U : A → Type 0) (T : C → Type 0) (n : ℕ) (xs : List Making) (r : Result G A) (k : A → Counting G M C) → IfDone r U → ((a : A) → U a → (l : ℕ) (m : Map G) → IfDone (k a l m).result T) → IfDone (go_then G M n xs r k).result T
  then_done A C U T n xs (done a t m) k d h = done_prefix T t (k a (n + length xs) m).result (h a d (n + length xs) m)
  then_done A C U T n xs (fails x t) k d h = tt
  then_done A C U T n xs spent k d h = tt

  any_done : {A : Type 0} (r : Result G A) → IfDone r (λ a. Unit {0})
  any_done (done a t m) = tt
  any_done (fails x t) = tt
  any_done spent = tt

  -- ---- children

  -- each child has as many answers as calls
  children_done : (a : RestRun G M) (p : Path G) (N : G.Needs) (c : ℕ) (xs : List (Call G)) (n : ℕ) (m : Map G) → IfDone (children_run G M a p N c xs n m).result (λ vs. length vs ≡ length xs)
  children_done a p N c [] n m = refl
  children_done a p N c (x ∷ xs) n m = by_inside (x.may && (M n).inside x.needs N) (children_done a p N (suc c) xs)
    where
      rest_of : G.Answer → Counting G M (List G.Answer)
      rest_of v = bind_run G M (children_run G M a p N (suc c) xs) (λ vs. just G M (v ∷ vs))

      by_inside : (t : Bool) → ((l : ℕ) (o : Map G) → IfDone (children_run G M a p N (suc c) xs l o).result (λ vs. length vs ≡ length xs)) →
          IfDone (cond t (bind_run G M (a (c ∷ p) x.needs 0 x.frame [] []) rest_of n m) (faulty G M G.broken n m)).result (λ vs. length vs ≡ suc (length xs))
      by_inside true ih = then_done G.Answer (List G.Answer) (λ v. Unit {0}) (λ vs. length vs ≡ suc (length xs)) n (a (c ∷ p) x.needs 0 x.frame [] [] n m).made (a (c ∷ p) x.needs 0 x.frame [] [] n m).result rest_of (any_done _)
          (λ v d l o. then_done (List G.Answer) (List G.Answer) (λ vs. length vs ≡ length xs) (λ vs. length vs ≡ suc (length xs)) l (children_run G M a p N (suc c) xs l o).made (children_run G M a p N (suc c) xs l o).result (λ vs. just G M (v ∷ vs)) (ih l o)
          (λ vs e y z. ap suc e))
      by_inside false ih = tt

  abbrev pub AllNames : RestRun G M → Type 0
  AllNames a = (p : Path G) (N : G.Needs) (i : ℕ) (f : G.Frame) (ps : List (Element G)) (vs : List G.Answer) (n : ℕ) (m : Map G) → Names (From p i (length vs)) (a p N i f ps vs n m).made

  from_child : (p : Path G) (c : ℕ) (x : Making) → From (c ∷ p) 0 0 x → under G (c ∷ p) x.maker ≡ true
  from_child p c x (inl a) = subst (λ q. under G (c ∷ p) q ≡ true) (sym a.0) (under_self G (c ∷ p))
  from_child p c x (inr b) = under_child G (c ∷ p) b.0 x.maker b.2

  children_names : (a : RestRun G M) → AllNames a → (p : Path G) (N : G.Needs) (c : ℕ) (xs : List (Call G)) (n : ℕ) (m : Map G) → Names (Among p c (c + length xs)) (children_run G M a p N c xs n m).made
  children_names a w p N c [] n m = no_names _
  children_names a w p N c (x ∷ xs) n m = by_inside (x.may && (M n).inside x.needs N) (children_names a w p N (suc c) xs)
    where
      rest_of : G.Answer → Counting G M (List G.Answer)
      rest_of v = bind_run G M (children_run G M a p N (suc c) xs) (λ vs. just G M (v ∷ vs))

      by_inside : (t : Bool) → ((l : ℕ) (o : Map G) → Names (Among p (suc c) (suc c + length xs)) (children_run G M a p N (suc c) xs l o).made) →
          Names (Among p c (c + suc (length xs))) (cond t (bind_run G M (a (c ∷ p) x.needs 0 x.frame [] []) rest_of n m) (faulty G M G.broken n m)).made
      by_inside true ih = then_names G.Answer (List G.Answer) (From (c ∷ p) 0 0) (Among p (suc c) (suc c + length xs)) (Among p c (c + suc (length xs))) (λ v. Unit {0}) n
          (a (c ∷ p) x.needs 0 x.frame [] [] n m).made (a (c ∷ p) x.needs 0 x.frame [] [] n m).result rest_of (w (c ∷ p) x.needs 0 x.frame [] [] n m) (any_done _)
          (λ v d l o. then_names (List G.Answer) (List G.Answer) (Among p (suc c) (suc c + length xs)) (λ y. ⊥) (Among p (suc c) (suc c + length xs)) (λ vs. Unit {0}) l
          (children_run G M a p N (suc c) xs l o).made (children_run G M a p N (suc c) xs l o).result (λ vs. just G M (v ∷ vs)) (ih l o) (any_done _)
          (λ vs y z b. no_names _) (λ y z s q. absurd q) (λ y s. s) (λ y q. absurd q))
          (λ y z f s e g. let k = under_both G c s.0 p y.maker (from_child p c y f) (subst (λ q. under G (s.0 ∷ p) q ≡ true) (sym e) s.3) in let l = s.1 in omega (arith, k, l))
          (λ y f. (c, le_refl c, omega arith, from_child p c y f))
          (λ y s. let l = s.1 in let h = s.2 in (s.0, omega (arith, l), omega (arith, h), s.3))
      by_inside false ih = no_names _

  length_append : (vs ws : List G.Answer) → length (vs ++ ws) ≡ length vs + length ws
  length_append [] ws = omega arith
  length_append (v ∷ vs) ws = let h = length_append vs ws in omega (arith, h)

  go_names : (a : RestRun G M) → AllNames a → (p : Path G) (N : G.Needs) (i : ℕ) (vs : List G.Answer) (f : G.Frame) (ps : List (Element G)) (y : Yield G) (n : ℕ) (m : Map G) → Names (From p i (length vs)) (go_run G M a p N i vs f ps y n m).made
  go_names a w p N i vs f ps (calls xs) n m = then_names (List G.Answer) G.Answer (Among p (length vs) (length vs + length xs)) (From p i (length vs + length xs)) (From p i (length vs)) (λ ws. length ws ≡ length xs) n
      (children_run G M a p N (length vs) xs n (run_all G (puts G (M n) ps) m)).made (children_run G M a p N (length vs) xs n (run_all G (puts G (M n) ps) m)).result (λ ws. a p N i f [] (vs ++ ws))
      (children_names a w p N (length vs) xs n (run_all G (puts G (M n) ps) m)) (children_done a p N (length vs) xs n (run_all G (puts G (M n) ps) m))
      (λ ws e l o. subst (λ c. Names (From p i c) (a p N i f [] (vs ++ ws) l o).made) (length_append vs ws ∙ ap (λ c. length vs + c) e) (w p N i f [] (vs ++ ws) l o))
      (λ x z s r e g. apart x z s r e)
      (λ x s. inr (s.0, s.1, s.3))
      (λ x r. elim r [ inl b ↦ inl b | inr b ↦ inr (b.0, (let l = b.1 in omega (arith, l)), b.2) ])
    where
      apart : (x z : Making) → Among p (length vs) (length vs + length xs) x → From p i (length vs + length xs) z → x.maker ≡ z.maker → ⊥
      apart x z s (inl b) e = let h = under_length G (s.0 ∷ p) p (subst (λ q. under G (s.0 ∷ p) q ≡ true) (e ∙ b.0) s.3) in omega (arith, h)
      apart x z s (inr b) e = let k = under_both G s.0 b.0 p x.maker s.3 (subst (λ q. under G (b.0 ∷ p) q ≡ true) (sym e) b.2) in let l = s.2 in let h = b.1 in omega (arith, k, l, h)
  go_names a w p N i vs f ps (want k) n m = w p N i f _ vs n m
  go_names a w p N i vs f ps (await c) n m = w p N i _ ps vs n m
  go_names a w p N i vs f ps (make d) n m = by_sound ((M n).sound d)
    where
      r : Run G G.Answer
      r = a p ((M n).grown p i d N) (suc i) ((M n).pushed p i d f) ps vs (suc n) (run_all G ((M n).zeros p i d) m)

      later : Names (From p (suc i) (length vs)) r.made
      later = w p ((M n).grown p i d N) (suc i) ((M n).pushed p i d f) ps vs (suc n) (run_all G ((M n).zeros p i d) m)

      other : (x : Making) → From p (suc i) (length vs) x → Other (record { maker = p; making = i }) x
      other x (inl b) e g = let h = b.1 in omega (arith, h, g)
      other x (inr b) e g = let h = under_length G (b.0 ∷ p) p (subst (λ q. under G (b.0 ∷ p) q ≡ true) (sym e) b.2) in omega (arith, h)

      by_sound : (t : Bool) → Names (From p i (length vs)) (cond t (record { made = record { maker = p; making = i } ∷ r.made; result = r.result }) (faulty G M G.broken n m)).made
      by_sound true = record {
        each = (
          inl (refl, le_refl i),
          each_weaker (From p (suc i) (length vs)) (From p i (length vs)) r.made
              (λ x b. elim b [ inl q ↦ inl (q.0, (let h = q.1 in omega (arith, h))) | inr q ↦ inr q ]) later.each,
        );
        differ = (each_weaker (From p (suc i) (length vs)) (Other (record { maker = p; making = i })) r.made other later.each, later.differ);
      }
      by_sound false = no_names _
  go_names a w p N i vs f ps (ends v) n m = no_names _
  go_names a w p N i vs f ps (stops x) n m = no_names _

  pub run_names : (k : ℕ) → AllNames (numbered_run G M k)
  run_names zero p N i f ps vs n m = no_names _
  run_names (suc k) p N i f ps vs n m = go_names (numbered_run G M k) (run_names k) p N i vs ((M n).segment f ps).frame ((M n).segment f ps).parts ((M n).segment f ps).yields n m
