-- What holds of the board's tree in every state that a journal reaches.
use Rattle.std.proofs.Common.{◌≡◌, ◌++◌, ◌∷◌, ◌∙◌, ◌⊎◌, ◌||◌, ◌&&◌, ◌<◌, ◌≤◌, Bool, List, None, Option, Some, [], ap, arith, cond, false, inl, inr, length, not, refl, subst, suc, sym, true, true≢false, ℕ}
use Rattle.std.proofs.lemmas.Bool.{or_right}
use Rattle.board_rules.specs.Ground.{Ground, Mode, reads, reduces, writes}
use Rattle.board_rules.specs.Processes.{Apart, Inside, Map, Together}
use Rattle.board_rules.specs.Running.{Element, Held, Laws, Machine, Path, Spot, filled, reach, same_path, spots, under}
use Rattle.board_rules.specs.Apart.{claimed_by}
use Rattle.board_rules.specs.Boards.{Items, Operation, Stage, Wait, all_over, answer_of, child, closing, dropped, filling, first, idle, is_over, is_waiting, child_op, needs_of, no_item, nothing, op, out, over, part, said, stage_of, wants}
use Rattle.board_laws.proofs.Reaching.{by_test, same_path_is, under_self}

module _ (G : Ground) where
  -- q is above p
  abbrev pub above : Path G → Path G → Bool
  above [] q = false
  above (c ∷ p) q = under G q p

  -- what it was issued with stands in roots that were made above it
  abbrev pub Rooted : Path G → G.Needs → Type 0
  Rooted p D = (l : G.Location) → above p (G.maker l) ≡ false → G.at D l ≡ None

  -- it needs besides what it made
  abbrev pub OwnOf : Path G → ℕ → G.Needs → G.Needs → Type 0
  OwnOf p i D N = (l : G.Location) → (G.at N l ≡ G.at D l) ⊎ ((G.maker l ≡ p) × (G.making l < i))

  abbrev pub AllApart : G.Needs → List (Spot G) → Type 0
  AllApart D [] = Unit {0}
  AllApart D (x ∷ xs) = Apart G (Some x.mode) (G.at D x.location) × AllApart D xs

  -- the spots conflict with no need of an unfinished child
  abbrev pub FreeOf : List (Spot G) → Items G → Type 0
  FreeOf xs no_item = Unit {0}
  FreeOf xs (said t is) = FreeOf xs is
  FreeOf xs (child_op n is) = (is_over G (stage_of G n) ≡ false → AllApart (needs_of G n) xs) × FreeOf xs is

  abbrev pub ApartNeeds : G.Needs → G.Needs → Type 0
  ApartNeeds C D = (l : G.Location) → Apart G (G.at C l) (G.at D l)

  abbrev pub InsideNeeds : G.Needs → G.Needs → Type 0
  InsideNeeds C D = (l : G.Location) → Inside G (G.at C l) (G.at D l)

  abbrev pub is_running : Stage G → Bool
  is_running st = not (is_waiting G st) && not (is_over G st)

  -- where n is unfinished, no later child that is in progress interferes with it
  abbrev pub ApartFrom : Operation G → Items G → Type 0
  ApartFrom n no_item = Unit {0}
  ApartFrom n (said t is) = ApartFrom n is
  ApartFrom n (child_op d is) =
      (is_over G (stage_of G n) ≡ false → is_running (stage_of G d) ≡ true → ApartNeeds (needs_of G n) (needs_of G d)) × ApartFrom n is

  abbrev pub NoItem : Items G → Type 0
  NoItem no_item = Unit {0}
  NoItem _ = ⊥

module _ (G : Ground) (M : Machine G) (L : Laws G M) where
  abbrev pub Answered : Wait G → Items G → Type 0
  Answered first is = NoItem G is
  Answered nothing is = Unit {0}
  Answered (part k) is = Unit {0}
  Answered (child c) is = (v : G.Answer) × (answer_of G M is c ≡ Some v)

  -- of a claimed operation: what was filled still equals the map
  abbrev pub StageGood : Map G → G.Needs → Stage G → Items G → Type 0
  StageGood m N (idle first) is = NoItem G is
  StageGood m N (idle nothing) is = Unit {0}
  StageGood m N (idle (part k)) is = Unit {0}
  StageGood m N (idle (child c)) is = Unit {0}
  StageGood m N (filling w d l) is = (filled G M (spots G d) m ≡ d) × (spots G d ++ l ≡ wants G M N w) × Answered w is
  StageGood m N (out w d) is = (filled G M (spots G d) m ≡ d) × (spots G d ≡ wants G M N w) × Answered w is
  StageGood m N (closing e) is = Unit {0}
  StageGood m N (over e) is = all_over G is ≡ true
  StageGood m N dropped is = all_over G is ≡ true

  pub record GoodOp (m : Map G) (p : Path G) (D N : G.Needs) (i : ℕ) (ps : List (Element G)) (st : Stage G) (is : Items G) : Type 0 where
    pub rooted : Rooted G p D
    pub own : OwnOf G p i D N
    pub held : Held G (G.at N) (spots G ps)
    pub stage : StageGood m N st is
    pub free : FreeOf G (spots G ps) is
    pub free_claimed : FreeOf G (claimed_by G st) is

  abbrev mutual
    pub Good : Map G → Path G → Operation G → Type 0
    Good m p (op D N i f ps st is) = GoodOp m p D N i ps st is × GoodItems m p N 0 is

    pub GoodItems : Map G → Path G → G.Needs → ℕ → Items G → Type 0
    GoodItems m p N j no_item = Unit {0}
    GoodItems m p N j (said t is) = GoodItems m p N j is
    GoodItems m p N j (child_op n is) = Good m (j ∷ p) n × InsideNeeds G (needs_of G n) N × ApartFrom G n is × GoodItems m p N (suc j) is

-- ---- paths

module _ (G : Ground) where
  pub under_length : (p q : Path G) → under G p q ≡ true → length p ≤ length q
  under_length p [] e = subst (λ r. length r ≤ length {A = ℕ} []) (sym (same_path_is G p [] e)) (omega arith)
  under_length p (j ∷ q) e = by_test (same_path G p (j ∷ q)) (λ b. (b || under G p q) ≡ true → length p ≤ length (j ∷ q))
      (λ s k. subst (λ r. length r ≤ length (j ∷ q)) (sym (same_path_is G p (j ∷ q) s)) (omega arith))
      (λ s k. let h = under_length p q k in omega arith) e

  pub false_from : (b : Bool) → (b ≡ true → ⊥) → b ≡ false
  false_from true h = absurd (h refl)
  false_from false h = refl

  pub under_both : (a b : ℕ) (p q : Path G) → under G (a ∷ p) q ≡ true → under G (b ∷ p) q ≡ true → a ≡ b
  under_both a b p [] e g = absurd (true≢false (sym e))
  under_both a b p (j ∷ q) e g = by_test (same_path G (a ∷ p) (j ∷ q)) (λ s. (s || under G (a ∷ p) q) ≡ true → a ≡ b)
      (λ s k. by_test (same_path G (b ∷ p) (j ∷ q)) (λ t. (t || under G (b ∷ p) q) ≡ true → a ≡ b)
      (λ t h. heads (same_path_is G (a ∷ p) (j ∷ q) s ∙ sym (same_path_is G (b ∷ p) (j ∷ q) t)))
      (λ t h. absurd (too_long (ap length (same_path_is G (a ∷ p) (j ∷ q) s)) (under_length (b ∷ p) q h))) g)
      (λ s k. by_test (same_path G (b ∷ p) (j ∷ q)) (λ t. (t || under G (b ∷ p) q) ≡ true → a ≡ b)
      (λ t h. absurd (too_long (ap length (same_path_is G (b ∷ p) (j ∷ q) t)) (under_length (a ∷ p) q k)))
      (λ t h. under_both a b p q k h) g) e
    where
      heads : (a ∷ p) ≡ (b ∷ p) → a ≡ b
      heads e = ap head e
        where
          head : List ℕ → ℕ
          head [] = 0
          head (x ∷ xs) = x

      too_long : {x y : ℕ} → suc x ≡ suc y → suc x ≤ y → ⊥
      too_long e h = omega arith

  pub above_self : (p : Path G) → above G p p ≡ false
  above_self [] = refl
  above_self (c ∷ p) = false_from _ (λ e. let h = under_length (c ∷ p) p e in omega arith)

  -- what is at a place or above it isn't at a child or below it
  pub not_under_child : (c : ℕ) (p q : Path G) → under G q p ≡ true → under G (c ∷ p) q ≡ false
  not_under_child c p q e = false_from _ (λ g. let h = under_length q p e in let k = under_length (c ∷ p) q g in omega arith)

  pub above_under : (p q : Path G) → above G p q ≡ true → under G q p ≡ true
  above_under [] q e = absurd (true≢false (sym e))
  above_under (c ∷ p) q e = or_right _ _ e

  apart_none : (a : Option (Mode G.Op)) → Apart G a None
  apart_none None = tt
  apart_none (Some a) = tt

  pub apart_turned : (a b : Option (Mode G.Op)) → Apart G a b → Apart G b a
  apart_turned None None h = tt
  apart_turned None (Some b) h = tt
  apart_turned (Some a) None h = tt
  apart_turned (Some a) (Some b) h = turned a b h
    where
      turned : (a b : Mode G.Op) → Together G a b → Together G b a
      turned reads reads h = tt
      turned reads writes h = h
      turned reads (reduces o) h = h
      turned writes reads h = h
      turned writes writes h = h
      turned writes (reduces o) h = h
      turned (reduces o) reads h = h
      turned (reduces o) writes h = h
      turned (reduces o) (reduces q) h = sym h

  -- two children that don't interfere reach no place together
  pub reach_apart : (p : Path G) (a b : ℕ) (C D : G.Needs) → ¬ (a ≡ b) → Rooted G (a ∷ p) C → Rooted G (b ∷ p) D → ApartNeeds G C D →
      (l : G.Location) → Apart G (reach G (a ∷ p) C l) (reach G (b ∷ p) D l)
  reach_apart p a b C D ne rc rd h l = by_test (under G (a ∷ p) (G.maker l)) (λ s. Apart G (cond s (Some writes) (G.at C l)) (reach G (b ∷ p) D l))
      (λ e. by_test (under G (b ∷ p) (G.maker l)) (λ t. Apart G (Some writes) (cond t (Some writes) (G.at D l)))
      (λ g. absurd (ne (under_both a b p (G.maker l) e g)))
      (λ g. subst (Apart G (Some writes)) (sym (rd l (false_from _ (λ k. let x = under_length (G.maker l) p k in let y = under_length (a ∷ p) (G.maker l) e in omega arith)))) tt))
      (λ e. by_test (under G (b ∷ p) (G.maker l)) (λ t. Apart G (G.at C l) (cond t (Some writes) (G.at D l)))
      (λ g. subst (λ x. Apart G x (Some writes)) (sym (rc l (false_from _ (λ k. let x = under_length (G.maker l) p k in let y = under_length (b ∷ p) (G.maker l) g in omega arith)))) tt)
      (λ g. h l))

  -- at a place that its parent needs, a child reaches what it needs
  pub reach_needs : (p : Path G) (c : ℕ) (D : G.Needs) (l : G.Location) → under G (G.maker l) p ≡ true → reach G (c ∷ p) D l ≡ G.at D l
  reach_needs p c D l e = ap (λ b. cond b (Some writes) (G.at D l)) (not_under_child c p (G.maker l) e)

  -- what it needs was made at its place or above it
  pub needs_above : (p : Path G) (i : ℕ) (D N : G.Needs) (l : G.Location) (a : Mode G.Op) → Rooted G p D → OwnOf G p i D N → Inside G (Some a) (G.at N l) → under G (G.maker l) p ≡ true
  needs_above p i D N l a r o h = by_own (o l)
    where
      some : (x : Option (Mode G.Op)) → x ≡ None → Inside G (Some a) x → ⊥
      some x e (inl k) = absurd cc
      some x e (inr k) = absurd cc

      by_own : (G.at N l ≡ G.at D l) ⊎ ((G.maker l ≡ p) × (G.making l < i)) → under G (G.maker l) p ≡ true
      by_own (inr mine) = subst (λ q. under G q p ≡ true) (sym mine.0) (under_self G p)
      by_own (inl same) = by_test (above G p (G.maker l)) (λ b. above G p (G.maker l) ≡ b → under G (G.maker l) p ≡ true)
          (λ e k. above_under p (G.maker l) k) (λ e k. absurd (some (G.at N l) (same ∙ r l k) h)) refl

  -- what an operation reaches is the same before its makings and after
  pub reach_own : (p : Path G) (i : ℕ) (D N : G.Needs) → OwnOf G p i D N → (l : G.Location) → reach G p N l ≡ reach G p D l
  reach_own p i D N o l = by_test (under G p (G.maker l)) (λ b. cond b (Some writes) (G.at N l) ≡ cond b (Some writes) (G.at D l))
      (λ e. refl) (λ e. by_own e (o l))
    where
      by_own : under G p (G.maker l) ≡ false → (G.at N l ≡ G.at D l) ⊎ ((G.maker l ≡ p) × (G.making l < i)) → G.at N l ≡ G.at D l
      by_own e (inl same) = same
      by_own e (inr mine) = absurd (true≢false (sym (under_self G p) ∙ ap (under G p) (sym mine.0) ∙ e))
