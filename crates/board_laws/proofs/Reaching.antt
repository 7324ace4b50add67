-- What an operation that runs on reaches: its needs, and all that is made at its place or below it.
use Rattle.std.proofs.Common.{◌&&◌, ◌≡◌, ◌++◌, ◌∷◌, ◌∙◌, ◌||◌, Bool, List, None, Option, Some, [], ap, cond, eq-eqb, eqb-true, false, inl, inr, length, nat_eq, refl, subst, suc, sym, true, true≢false, zero, ℕ}
use Rattle.std.proofs.lemmas.Bool.{and_from, and_parts, or_left, or_right}
use Rattle.board_rules.specs.Ground.{Ground, Sound, Mode, reads, reduces, writes}
use Rattle.board_rules.specs.Processes.{Apart, Effect, Footprint, Foreign, Inside, Keeps, Map, Process, Quiet, Result, Together, Within, after, done, fails, fold_in, mode_of, location_of, put, run, run_all, spent}
use Rattle.board_rules.specs.Running.{Call, Element, Held, Laws, Machine, MadeAt, Path, Rest, Spot, Yield, await, back_with, calls, children, ends, filled, go_on, make, number_of, puts, reach, run_on, same_path, spots, stops, under, want}
use Rattle.board_laws.proofs.Processes.{runs_swap, within_bind, within_faults, within_gives, within_says, within_spent}

pub by_test : (b : Bool) (P : Bool → Type 0) → (b ≡ true → P true) → (b ≡ false → P false) → P b
by_test true P h k = h refl
by_test false P h k = k refl

module _ (G : Ground) where
  together_self : (e d : Mode G.Op) → e ≡ writes → Together G d e → ⊥
  together_self e reads w h = subst (λ x. Together G reads x) w h
  together_self e writes w h = subst (λ x. Together G writes x) w h
  together_self e (reduces o) w h = subst (λ x. Together G (reduces o) x) w h

  pub apart_inside : (c a b : Option (Mode G.Op)) → Apart G c b → Inside G a b → Apart G c a
  apart_inside None a b h i = tt
  apart_inside (Some c) None b h i = tt
  apart_inside (Some c) (Some a) b h (inl e) = subst (λ x. Apart G (Some c) x) e h
  apart_inside (Some c) (Some a) b h (inr e) = absurd (together_self writes c refl (subst (λ x. Apart G (Some c) x) e h))

  pub quiet_inside : (a b : Option (Mode G.Op)) → Quiet G b → Inside G a b → Quiet G a
  quiet_inside None b h i = tt
  quiet_inside (Some a) b h (inl e) = subst (Quiet G) e h
  quiet_inside (Some a) b h (inr e) = absurd (subst (Quiet G) e h)

  pub inside_inside : (a b c : Option (Mode G.Op)) → Inside G a b → Inside G b c → Inside G a c
  inside_inside None b c h i = tt
  inside_inside (Some a) b c (inl e) i = subst (λ x. Inside G x c) e i
  inside_inside (Some a) b c (inr e) i = twice (subst (λ x. Inside G x c) e i)
    where
      twice : Inside G (Some writes) c → Inside G (Some a) c
      twice (inl f) = inr f
      twice (inr f) = inr f

  pub inside_self : (a : Option (Mode G.Op)) → Inside G a a
  inside_self None = tt
  inside_self (Some a) = inl refl

  pub inside_writes : (a : Option (Mode G.Op)) → Inside G a (Some writes)
  inside_writes None = tt
  inside_writes (Some a) = inr refl

  pub within_wider : {A : Type 0} (f g : Footprint G) (F : Process G A) → ((l : G.Location) → Inside G (f l) (g l)) → Within G f F → Within G g F
  within_wider f g F i w = record {
    passes = λ e h m. w.passes e (apart_inside (Some (mode_of G e)) (f (location_of G e)) (g (location_of G e)) h (i (location_of G e))) m;
    steady = λ l h m. w.steady l (quiet_inside (f l) (g l) h (i l)) m;
  }

  -- ---- effects within a footprint

  abbrev pub AllOwned : Footprint G → List (Effect G) → Type 0
  AllOwned f [] = Unit {0}
  AllOwned f (d ∷ ds) = Inside G (Some (mode_of G d)) (f (location_of G d)) × AllOwned f ds

  -- an effect that an owned effect doesn't meet
  pub foreign_owned : (f : Footprint G) (e d : Effect G) → Foreign G f e → Inside G (Some (mode_of G d)) (f (location_of G d)) →
      location_of G e ≡ location_of G d → Together G (mode_of G e) (mode_of G d)
  foreign_owned f e d h i same = apart_inside (Some (mode_of G e)) (Some (mode_of G d)) (f (location_of G d)) (subst (λ l. Apart G (Some (mode_of G e)) (f l)) same h) i

  pub owned_pass : Sound G → (f : Footprint G) (e : Effect G) (ds : List (Effect G)) → Foreign G f e → AllOwned f ds → (m : Map G) → run_all G ds (run G e m) ≡ run G e (run_all G ds m)
  owned_pass S f e [] h i m = refl
  owned_pass S f e (d ∷ ds) h i m = ap (run_all G ds) (sym (runs_swap G S e d (foreign_owned f e d h i.0) m)) ∙ owned_pass S f e ds h i.1 (run G d m)

  changes : (d : Effect G) (l : G.Location) (f : Footprint G) → Quiet G (f l) → Inside G (Some (mode_of G d)) (f (location_of G d)) → location_of G d ≡ l → ⊥
  changes (put a v) l f q i e = quiet_inside (Some writes) (f l) q (subst (λ k. Inside G (Some writes) (f k)) e i)
  changes (fold_in o a v) l f q i e = quiet_inside (Some (reduces o)) (f l) q (subst (λ k. Inside G (Some (reduces o)) (f k)) e i)

  off : (b : Bool) (x y : G.Number) → (b ≡ true → ⊥) → cond b x y ≡ y
  off true x y h = absurd (h refl)
  off false x y h = refl

  pub owned_steady : Sound G → (f : Footprint G) (l : G.Location) (ds : List (Effect G)) → Quiet G (f l) → AllOwned f ds → (m : Map G) → run_all G ds m l ≡ m l
  owned_steady S f l [] q i m = refl
  owned_steady S f l (d ∷ ds) q i m = owned_steady S f l ds q i.1 (run G d m) ∙ off (G.same (location_of G d) l) _ _ (λ b. changes d l f q i.0 (S.same_is _ _ b))

  pub keeps_from : {A : Type 0} (l : G.Location) (m n : Map G) (r : Result G A) → n l ≡ m l → Keeps G l n r → Keeps G l m r
  keeps_from l m n (done a t o) e h = h ∙ e
  keeps_from l m n (fails x t) e h = tt
  keeps_from l m n spent e h = tt

  pub within_after : Sound G → {A : Type 0} (f : Footprint G) (ds : List (Effect G)) (F : Process G A) → AllOwned f ds → Within G f F → Within G f (after G ds F)
  within_after S f ds F i w = record {
    passes = λ e h m. ap F (owned_pass S f e ds h i m) ∙ w.passes e h (run_all G ds m);
    steady = λ l q m. keeps_from l m (run_all G ds m) (F (run_all G ds m)) (owned_steady S f l ds q i m) (w.steady l q (run_all G ds m));
  }

  pub within_cond : {A : Type 0} (f : Footprint G) (b : Bool) (F H : Process G A) → (b ≡ true → Within G f F) → (b ≡ false → Within G f H) → Within G f (cond b F H)
  within_cond f true F H w v = w refl
  within_cond f false F H w v = v refl

  -- ---- parts

  pub held_wider : (f g : Footprint G) (xs : List (Spot G)) → ((l : G.Location) → Inside G (f l) (g l)) → Held G f xs → Held G g xs
  held_wider f g [] i h = tt
  held_wider f g (x ∷ xs) i h = (inside_inside (Some x.mode) (f x.location) (g x.location) h.0 (i x.location), held_wider f g xs i h.1)

  pub held_append : (f : Footprint G) (xs ys : List (Element G)) → Held G f (spots G xs) → Held G f (spots G ys) → Held G f (spots G (xs ++ ys))
  held_append f [] ys h k = k
  held_append f (x ∷ xs) ys h k = (h.0, held_append f xs ys h.1 k)

  -- ---- paths

  pub same_path_is : (p q : Path G) → same_path G p q ≡ true → p ≡ q
  same_path_is [] [] e = refl
  same_path_is [] (b ∷ q) e = absurd (true≢false (sym e))
  same_path_is (a ∷ p) [] e = absurd (true≢false (sym e))
  same_path_is (a ∷ p) (b ∷ q) e = let parts = and_parts (nat_eq a b) (same_path G p q) e in λ i. eqb-true a b parts.0 i ∷ same_path_is p q parts.1 i

  pub same_path_self : (p : Path G) → same_path G p p ≡ true
  same_path_self [] = refl
  same_path_self (a ∷ p) = and_from _ _ (eq-eqb a a refl) (same_path_self p)

  pub under_self : (p : Path G) → under G p p ≡ true
  under_self [] = refl
  under_self (a ∷ p) = or_left _ _ (same_path_self (a ∷ p))

  under_below : (p : Path G) (c : ℕ) → under G p (c ∷ p) ≡ true
  under_below p c = or_right _ _ (under_self p)

  pub under_child : (p : Path G) (c : ℕ) (q : Path G) → under G (c ∷ p) q ≡ true → under G p q ≡ true
  under_child p c [] e = absurd (true≢false (sym e))
  under_child p c (j ∷ q) e = by_test (same_path G (c ∷ p) (j ∷ q)) (λ b. (b || under G (c ∷ p) q) ≡ true → under G p (j ∷ q) ≡ true)
      (λ s k. subst (λ r. under G p r ≡ true) (same_path_is (c ∷ p) (j ∷ q) s) (under_below p c))
      (λ s k. or_right _ _ (under_child p c q k)) e

module _ (G : Ground) (M : Machine G) (L : Laws G M) where
  pub filled_spots : (xs : List (Spot G)) (m : Map G) → spots G (filled G M xs m) ≡ xs
  filled_spots [] m = refl
  filled_spots (x ∷ xs) m = ap (λ ys. x ∷ ys) (filled_spots xs m)

  pub owned_puts : (f : Footprint G) (xs : List (Element G)) → Held G f (spots G xs) → AllOwned G f (puts G M xs)
  owned_puts f [] h = tt
  owned_puts f (x ∷ xs) h = by_mode x.mode h.0 (owned_puts f xs h.1)
    where
      by_mode : (a : Mode G.Op) → Inside G (Some a) (f x.location) → AllOwned G f (puts G M xs) → AllOwned G f (back_with G M a x.location x.number (puts G M xs))
      by_mode reads i r = r
      by_mode writes i r = (i, r)
      by_mode (reduces o) i r = (i, r)

  -- two maps that fill alike what f holds
  abbrev pub Agree : Footprint G → Map G → Map G → Type 0
  Agree f n m = (l : G.Location) (a : Mode G.Op) → Inside G (Some a) (f l) → number_of G M a l n ≡ number_of G M a l m

  pub filled_same : (f : Footprint G) (xs : List (Spot G)) (n m : Map G) → Held G f xs → Agree f n m → filled G M xs n ≡ filled G M xs m
  filled_same f [] n m h g = refl
  filled_same f (x ∷ xs) n m h g = λ i. record { location = x.location; mode = x.mode; number = g x.location x.mode h.0 i } ∷ filled_same f xs n m h.1 g i

  pub agree_narrower : (f g : Footprint G) (n m : Map G) → ((l : G.Location) → Inside G (f l) (g l)) → Agree g n m → Agree f n m
  agree_narrower f g n m i h l a k = h l a (inside_inside G (Some a) (f l) (g l) k (i l))

  no_writes : (e : Effect G) → Together G (mode_of G e) writes → ⊥
  no_writes (put a v) h = h
  no_writes (fold_in o a v) h = h

  no_reads : (e : Effect G) → Together G (mode_of G e) reads → ⊥
  no_reads (put a v) h = h
  no_reads (fold_in o a v) h = h

  pub agree_run : (f : Footprint G) (e : Effect G) (m : Map G) → Foreign G f e → Agree f (run G e m) m
  agree_run f e m h l reads i = off G (G.same (location_of G e) l) _ _ (λ b. no_reads e (apart_inside G (Some (mode_of G e)) (Some reads) (f l) (subst (λ k. Apart G (Some (mode_of G e)) (f k)) (L.terms.same_is _ _ b) h) i))
  agree_run f e m h l writes i = off G (G.same (location_of G e) l) _ _ (λ b. no_writes e (apart_inside G (Some (mode_of G e)) (Some writes) (f l) (subst (λ k. Apart G (Some (mode_of G e)) (f k)) (L.terms.same_is _ _ b) h) i))
  agree_run f e m h l (reduces o) i = refl

  -- ---- reach

  pub grown_reach : (p : Path G) (i : ℕ) (d : G.Made) (N : G.Needs) (l : G.Location) → Inside G (reach G p (M.grown p i d N) l) (reach G p N l)
  grown_reach p i d N l = by_test (under G p (G.maker l)) (λ b. Inside G (cond b (Some writes) (G.at (M.grown p i d N) l)) (cond b (Some writes) (G.at N l)))
      (λ e. inl refl) (λ e. elim (L.grown_at p i d N l) [
        | inl same ↦ subst (λ a. Inside G a (G.at N l)) (sym same) (inside_self G (G.at N l))
        | inr mine ↦ absurd (true≢false (sym (under_self G p) ∙ ap (under G p) (sym mine.0) ∙ e))
      ])

  pub at_reach : (p : Path G) (N : G.Needs) (l : G.Location) → Inside G (G.at N l) (reach G p N l)
  at_reach p N l = by_test (under G p (G.maker l)) (λ b. Inside G (G.at N l) (cond b (Some writes) (G.at N l)))
      (λ e. inside_writes G (G.at N l)) (λ e. inside_self G (G.at N l))

  pub child_reach : (p : Path G) (c : ℕ) (n N : G.Needs) → ((l : G.Location) → Inside G (G.at n l) (G.at N l)) → (l : G.Location) → Inside G (reach G (c ∷ p) n l) (reach G p N l)
  child_reach p c n N h l = by_test (under G (c ∷ p) (G.maker l)) (λ b. Inside G (cond b (Some writes) (G.at n l)) (reach G p N l))
      (λ e. subst (λ b. Inside G (Some writes) (cond b (Some writes) (G.at N l))) (sym (under_child G p c (G.maker l) e)) (inl refl))
      (λ e. by_test (under G p (G.maker l)) (λ b. Inside G (G.at n l) (cond b (Some writes) (G.at N l))) (λ k. inside_writes G (G.at n l)) (λ k. h l))

  pub zeros_owned : (p : Path G) (i : ℕ) (N : G.Needs) (es : List (Effect G)) → MadeAt G p i es → AllOwned G (reach G p N) es
  zeros_owned p i N [] h = tt
  zeros_owned p i N (put l v ∷ es) h =
      (subst (λ b. Inside G (Some writes) (cond b (Some writes) (G.at N l))) (sym (ap (under G p) h.0 ∙ under_self G p)) (inl refl), zeros_owned p i N es h.2)
  zeros_owned p i N (fold_in o l v ∷ es) h = absurd h

  -- ---- running on

  abbrev pub AllWithin : Rest G M → Type 0
  AllWithin rest = (p : Path G) (N : G.Needs) (i : ℕ) (f : G.Frame) (ps : List (Element G)) (vs : List G.Answer) →
      Held G (G.at N) (spots G ps) → Within G (reach G p N) (rest p N i f ps vs)

  pub within_filled : {A : Type 0} (g f : Footprint G) (xs : List (Spot G)) (F : List (Element G) → Process G A) → Held G f xs → ((l : G.Location) → Inside G (f l) (g l)) →
      ((ys : List (Element G)) → spots G ys ≡ xs → Within G g (F ys)) → Within G g (λ m. F (filled G M xs m) m)
  within_filled g f xs F h i w = record {
    passes = λ e k m. ap (λ ys. F ys (run G e m)) (filled_same g xs (run G e m) m (held_wider G f g xs i h) (agree_run g e m k)) ∙ (w (filled G M xs m) (filled_spots xs m)).passes e k m;
    steady = λ l q m. (w (filled G M xs m) (filled_spots xs m)).steady l q m;
  }

  within_children : (rest : Rest G M) → AllWithin rest → (p : Path G) (N : G.Needs) (c : ℕ) (xs : List (Call G)) → Within G (reach G p N) (children G M rest p N c xs)
  within_children rest w p N c [] = within_gives G _ []
  within_children rest w p N c (x ∷ xs) = within_cond G _ (x.may && M.inside x.needs N) _ _
      (λ e. within_bind G _ _ _ (within_wider G (reach G (c ∷ p) x.needs) _ _ (child_reach p c x.needs N (L.is_inside _ _ (and_parts x.may (M.inside x.needs N) e).1)) (w (c ∷ p) x.needs 0 x.frame [] [] tt))
      (λ v. within_bind G _ _ _ (within_children rest w p N (suc c) xs) (λ vs. within_gives G _ (v ∷ vs))))
      (λ e. within_faults G _ G.broken)

  within_go_on : (rest : Rest G M) → AllWithin rest → (p : Path G) (N : G.Needs) (i : ℕ) (vs : List G.Answer) (f : G.Frame) (ps : List (Element G)) (y : Yield G) →
      Held G (G.at N) (spots G ps) → Within G (reach G p N) (go_on G M rest p N i vs f ps y)
  within_go_on rest w p N i vs f ps (calls xs) h =
      within_after G L.terms _ (puts G M ps) _ (owned_puts (reach G p N) ps (held_wider G _ _ _ (at_reach p N) h))
      (within_bind G _ _ _ (within_children rest w p N (length vs) xs) (λ ws. w p N i f [] (vs ++ ws) tt))
  within_go_on rest w p N i vs f ps (want k) h =
      within_filled (reach G p N) (G.at N) (M.wanted N k) (λ ys. rest p N i f (ps ++ ys) vs) (L.wanted_held N k) (at_reach p N)
      (λ ys e. w p N i f (ps ++ ys) vs (held_append G _ ps ys h (subst (Held G (G.at N)) (sym e) (L.wanted_held N k))))
  within_go_on rest w p N i vs f ps (await c) h = w p N i _ ps vs h
  within_go_on rest w p N i vs f ps (make d) h = within_cond G _ (M.sound d) _ _
      (λ e. within_after G L.terms _ (M.zeros p i d) _ (zeros_owned p i N _ (L.zeros_mine p i d))
      (within_wider G (reach G p (M.grown p i d N)) _ _ (grown_reach p i d N) (w p _ _ _ ps vs (held_wider G _ _ _ (L.grown_more p i d N) h))))
      (λ e. within_faults G _ G.broken)
  within_go_on rest w p N i vs f ps (ends v) h =
      within_after G L.terms _ (puts G M ps) _ (owned_puts (reach G p N) ps (held_wider G _ _ _ (at_reach p N) h)) (within_gives G _ v)
  within_go_on rest w p N i vs f ps (stops x) h = within_faults G _ x

  pub run_within : (k : ℕ) → AllWithin (run_on G M k)
  run_within zero p N i f ps vs h = within_spent G _
  run_within (suc k) p N i f ps vs h = within_says G _ _ _
      (within_go_on (run_on G M k) (run_within k) p N i vs _ _ _ (subst (Held G (G.at N)) (sym (L.segment_keeps f ps)) h))
