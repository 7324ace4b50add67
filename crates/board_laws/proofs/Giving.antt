-- The four steps of an operation leave what finishing it comes to as it was.
use Rattle.std.proofs.Common.{◌≡◌, ◌++◌, ◌∷◌, ◌∙◌, ◌+◌, List, None, Some, [], ap, arith, length, refl, suc, sym, unwrap_or, zero, ℕ}
use Rattle.board_rules.specs.Ground.{Ground}
use Rattle.board_rules.specs.Processes.{Map, Process, Result, and_then, done, fails, prefix, spent}
use Rattle.board_rules.specs.Running.{Element, Laws, Machine, Path, Spot, answer_at, filled, number_of, spots}
use Rattle.board_rules.specs.Boards.{Items, Operation, Stage, Wait, answer_of, at_fault, awaited, by, child, closing, dropped, filling, finish, finish_items, first, given_by, heard, idle, child_op, met_by, needs_of, no_item, nothing, op, out, over, part, remaining, said, stage_of, stopped}
use Rattle.board_laws.proofs.Good.{AllApart, Answered, FreeOf}
use Rattle.board_laws.proofs.Passing.{Holds, past}

module _ (G : Ground) (M : Machine G) (L : Laws G M) where
  -- ---- answers

  pub holds_prefix : {A : Type 0} (P : A → Map G → Type 0) (t : List G.Byte) (r : Result G A) → Holds G M L P r → Holds G M L P (prefix G t r)
  holds_prefix P t (done a u m) h = h
  holds_prefix P t (fails f u) h = tt
  holds_prefix P t spent h = tt

  pub holds_then : {A B : Type 0} (P : A → Map G → Type 0) (Q : B → Map G → Type 0) (r : Result G A) (k : A → Process G B) → Holds G M L P r →
      ((a : A) (m : Map G) → P a m → Holds G M L Q (k a m)) → Holds G M L Q (and_then G r k)
  holds_then P Q (done a t m) k h g = holds_prefix Q t (k a m) (g a m h)
  holds_then P Q (fails f t) k h g = tt
  holds_then P Q spent k h g = tt

  pub holds_any : {A : Type 0} (r : Result G A) → Holds G M L (λ a m. Unit {0}) r
  holds_any (done a t m) = tt
  holds_any (fails f t) = tt
  holds_any spent = tt

  -- what is Ended gives its answer
  child_answers : (K : ℕ) (p : Path G) (n : Operation G) (m : Map G) → Holds G M L (λ v o. (a : G.Answer) → given_by G M (stage_of G n) ≡ Some a → v ≡ a) (finish G M K p n m)
  child_answers K p (op D N i f ps st is) m = holds_then (λ a o. Unit {0}) _ (finish_items G M K p 0 is m) _ (holds_any _) (λ vs o u. by_stage st vs o)
    where
      none : (r : Result G G.Answer) → Holds G M L (λ v o. (a : G.Answer) → None ≡ Some a → v ≡ a) r
      none (done v t o) = λ a e. absurd cc
      none (fails x t) = tt
      none spent = tt

      by_stage : (st : Stage G) (vs : List G.Answer) (o : Map G) → Holds G M L (λ v u. (a : G.Answer) → given_by G M st ≡ Some a → v ≡ a) (remaining G M K p N i f ps st vs o)
      by_stage (idle w) vs o = none _
      by_stage (filling w d l) vs o = none _
      by_stage (out w d) vs o = none _
      by_stage (closing e) vs o = none _
      by_stage (over (by v)) vs o = λ a e. cc
      by_stage (over (at_fault x)) vs o = tt
      by_stage (over stopped) vs o = tt
      by_stage dropped vs o = tt

  abbrev pub Answers : ℕ → Items G → List G.Answer → Type 0
  Answers j is vs = (past G M L j is ≡ j + length vs) × ((c : ℕ) (v : G.Answer) → answer_of G M is c ≡ Some v → answer_at G M vs c ≡ v)

  pub items_answer : (K : ℕ) (p : Path G) (j : ℕ) (is : Items G) (m : Map G) → Holds G M L (λ vs o. Answers j is vs) (finish_items G M K p j is m)
  items_answer K p j no_item m = (omega arith, λ c v e. cc)
  items_answer K p j (said t is) m = holds_prefix _ t (finish_items G M K p j is m) (items_answer K p j is m)
  items_answer K p j (child_op n is) m = holds_then _ _ (finish G M K (j ∷ p) n m) _ (child_answers K (j ∷ p) n m)
      (λ v o h. holds_then _ _ (finish_items G M K p (suc j) is o) _ (items_answer K p (suc j) is o)
      (λ vs u g. (let e = g.0 in omega arith, by_place v vs h g.1)))
    where
      by_place : (v : G.Answer) (vs : List G.Answer) → ((a : G.Answer) → given_by G M (stage_of G n) ≡ Some a → v ≡ a) →
          ((c : ℕ) (a : G.Answer) → answer_of G M is c ≡ Some a → answer_at G M vs c ≡ a) →
          (c : ℕ) (a : G.Answer) → answer_of G M (child_op n is) c ≡ Some a → answer_at G M (v ∷ vs) c ≡ a
      by_place v vs h g zero a e = h a e
      by_place v vs h g (suc c) a e = g c a e

  pub met_same : (w : Wait G) (f : G.Frame) (is : Items G) (vs : List G.Answer) → Answered G M L w is → Answers 0 is vs → met_by G M w f (heard G M w vs) ≡ met_by G M w f (awaited G M w is)
  met_same first f is vs a h = refl
  met_same nothing f is vs a h = refl
  met_same (part k) f is vs a h = refl
  met_same (child c) f is vs a h = ap (M.met f c) (h.1 c a.0 a.1 ∙ sym (ap (λ o. unwrap_or o M.no_answer) a.1))

  -- ---- lists of spots

  pub filled_append : (xs ys : List (Spot G)) (m : Map G) → filled G M (xs ++ ys) m ≡ filled G M xs m ++ filled G M ys m
  filled_append [] ys m = refl
  filled_append (x ∷ xs) ys m = ap (λ zs. record { location = x.location; mode = x.mode; number = number_of G M x.mode x.location m } ∷ zs) (filled_append xs ys m)

  pub spots_append : (xs ys : List (Element G)) → spots G (xs ++ ys) ≡ spots G xs ++ spots G ys
  spots_append [] ys = refl
  spots_append (x ∷ xs) ys = ap (λ zs. record { location = x.location; mode = x.mode } ∷ zs) (spots_append xs ys)

  apart_parts : (D : G.Needs) (xs ys : List (Spot G)) → AllApart G D (xs ++ ys) → AllApart G D xs × AllApart G D ys
  apart_parts D [] ys h = (tt, h)
  apart_parts D (x ∷ xs) ys h = let r = apart_parts D xs ys h.1 in ((h.0, r.0), r.1)

  apart_join : (D : G.Needs) (xs ys : List (Spot G)) → AllApart G D xs → AllApart G D ys → AllApart G D (xs ++ ys)
  apart_join D [] ys h g = g
  apart_join D (x ∷ xs) ys h g = (h.0, apart_join D xs ys h.1 g)

  pub free_parts : (xs ys : List (Spot G)) (is : Items G) → FreeOf G (xs ++ ys) is → FreeOf G xs is × FreeOf G ys is
  free_parts xs ys no_item h = (tt, tt)
  free_parts xs ys (said t is) h = free_parts xs ys is h
  free_parts xs ys (child_op n is) h = let r = free_parts xs ys is h.1 in
      ((λ e. (apart_parts (needs_of G n) xs ys (h.0 e)).0, r.0), (λ e. (apart_parts (needs_of G n) xs ys (h.0 e)).1, r.1))

  pub free_join : (xs ys : List (Spot G)) (is : Items G) → FreeOf G xs is → FreeOf G ys is → FreeOf G (xs ++ ys) is
  free_join xs ys no_item h g = tt
  free_join xs ys (said t is) h g = free_join xs ys is h g
  free_join xs ys (child_op n is) h g = (λ e. apart_join (needs_of G n) xs ys (h.0 e) (g.0 e), free_join xs ys is h.1 g.1)
