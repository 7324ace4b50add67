-- Each operation of a board has a number, and each that is claimed is among the claims.
use Rattle.std.proofs.Common.{◌≡◌, ◌++◌, ◌+◌, ◌-◌, ◌∷◌, ◌∙◌, ◌||◌, ◌≤◌, ◌<◌, ◌⊎◌, Bool, List, None, Option, Some, [], ap, arith, cond, eq-eqb, eqb-true, false, inl, inr, nat_eq, refl, subst, suc, sym, true, zero, ℕ}
use Rattle.std.proofs.lemmas.Option.{none-some, same_Some}
use Rattle.board_rules.specs.Boards.{Items, Kind, Operation, Stepped, back, child_op, claim, copy, give, no_item, op, said, step_in}
use Rattle.board_rules.specs.Ground.{Ground}
use Rattle.board_rules.specs.Journals.{Job, stepped}
use Rattle.board_rules.specs.NumberedBoards.{Board, Claim, Step, after_step, after_steps, board_of, by_way, children_at, claims_after, may_step, more_ways, moved, start, way_of, without}
use Rattle.board_rules.specs.Ready.{claims_among, claims_in, is_claimed}
use Rattle.board_rules.specs.RootNumbers.{made_in}
use Rattle.board_rules.specs.Running.{Machine}
use Rattle.board_laws.proofs.Reaching.{by_test}
use Rattle.number_laws.proofs.Counts.{IfLeft}
use Rattle.progress_laws.proofs.Settled.{claimed, claimed_among, leads}
use Rattle.progress_laws.proofs.Steps.{Claims, Keeps, Leaves, step_leaves}

or_true : (a : Bool) → (a || true) ≡ true
or_true true = refl
or_true false = refl

-- some claim is of the number
abbrev has_claim : ℕ → List Claim → Bool
has_claim n [] = false
has_claim n (c ∷ cs) = nat_eq c.number n || has_claim n cs

module _ (G : Ground) (F : ℕ → Machine G) where
  -- ---- numbers of ways

  -- some number is that of the way
  abbrev pub HasNumber : List (List ℕ) → List ℕ → Type 0
  HasNumber ws w = (n : ℕ) × (way_of G F ws n ≡ Some w)

  number_stays : (ws vs : List (List ℕ)) (w : List ℕ) (n : ℕ) → way_of G F ws n ≡ Some w → way_of G F (ws ++ vs) n ≡ Some w
  number_stays [] vs w n e = absurd (none-some w e)
  number_stays (u ∷ ws) vs w zero e = e
  number_stays (u ∷ ws) vs w (suc n) e = number_stays ws vs w n e

  new_number : (ws vs : List (List ℕ)) (w : List ℕ) → HasNumber vs w → HasNumber (ws ++ vs) w
  new_number [] vs w h = h
  new_number (u ∷ ws) vs w h = let k = new_number ws vs w h in (suc k.0, k.1)

  now_or_later : (c d : ℕ) → c ≤ d → (d ≡ c) ⊎ (suc c ≤ d)
  now_or_later c d l = grind (arith, l)

  more_numbers : (way : List ℕ) (c n d : ℕ) → c ≤ d → d < c + n → HasNumber (more_ways G F way c n) (way ++ d ∷ [])
  more_numbers way c zero d l h = absurd (omega (arith, l, h))
  more_numbers way c (suc n) d l h = elim (now_or_later c d l) [
    | inl e ↦ (0, ap (λ x. Some (way ++ x ∷ [])) (sym e))
    | inr k ↦ (let r = more_numbers way (suc c) n d k (omega (arith, h)) in (suc r.0, r.1))
  ]

  -- ---- claims

  -- some number is that of the way, and has a claim
  abbrev HasClaim : List (List ℕ) → List Claim → List ℕ → Type 0
  HasClaim ws cs w = (n : ℕ) × (way_of G F ws n ≡ Some w) × (has_claim n cs ≡ true)

  without_other : (n m : ℕ) → ¬ (n ≡ m) → (cs : List Claim) → has_claim m cs ≡ true → has_claim m (without G F n cs) ≡ true
  without_other n m d [] = λ e. e
  without_other n m d (c ∷ cs) = by_test (nat_eq c.number n) (λ b. nat_eq c.number n ≡ b → has_claim m (c ∷ cs) ≡ true → has_claim m (cond b (without G F n cs) (c ∷ without G F n cs)) ≡ true)
      (λ x s e. without_other n m d cs (sym (ap (λ b. b || has_claim m cs) (other (eqb-true c.number n s))) ∙ e)) (λ x s. same_first (nat_eq c.number m) (without_other n m d cs)) refl
    where
      other : c.number ≡ n → nat_eq c.number m ≡ false
      other s = by_test (nat_eq c.number m) (λ b. nat_eq c.number m ≡ b → b ≡ false) (λ x t. absurd (d (sym s ∙ eqb-true c.number m t))) (λ x t. refl) refl

      same_first : (b : Bool) → (has_claim m cs ≡ true → has_claim m (without G F n cs) ≡ true) → (b || has_claim m cs) ≡ true → (b || has_claim m (without G F n cs)) ≡ true
      same_first true h e = refl
      same_first false h e = h e

  -- what the step of a kind on a way leaves of claims
  claims_stay : (k : Kind) (n seat turn : ℕ) (ws : List (List ℕ)) (cs : List Claim) (way w : List ℕ) → way_of G F ws n ≡ Some way →
      ((w ≡ way) × Claims k) ⊎ (HasClaim ws cs w × (w ≡ way → Keeps k)) → HasClaim ws (claims_after G F (record { kind = k; number = n; seat = seat }) turn cs) w
  claims_stay claim n seat turn ws cs way w e (inl h) = (n, e ∙ ap (λ v. Some v) (sym h.0), ap (λ b. b || has_claim n cs) (eq-eqb n n refl))
  claims_stay claim n seat turn ws cs way w e (inr h) = (h.0.0, h.0.1, ap (λ b. nat_eq n h.0.0 || b) h.0.2 ∙ or_true (nat_eq n h.0.0))
  claims_stay copy n seat turn ws cs way w e (inl h) = absurd h.1
  claims_stay copy n seat turn ws cs way w e (inr h) = h.0
  claims_stay give n seat turn ws cs way w e (inl h) = absurd h.1
  claims_stay give n seat turn ws cs way w e (inr h) = (h.0.0, h.0.1, without_other n h.0.0 (λ s. h.1 (same_Some w way (sym h.0.1 ∙ ap (way_of G F ws) (sym s) ∙ e))) cs h.0.2)
  claims_stay back n seat turn ws cs way w e (inl h) = absurd h.1
  claims_stay back n seat turn ws cs way w e (inr h) = (h.0.0, h.0.1, without_other n h.0.0 (λ s. h.1 (same_Some w way (sym h.0.1 ∙ ap (way_of G F ws) (sym s) ∙ e))) cs h.0.2)

  -- ---- boards

  pub record Listed (b : Board G) : Type 0 where
    pub ways : (w : List ℕ) → leads G w b.state.tree ≡ true → HasNumber b.ways w
    pub claims : (w : List ℕ) → claimed G w b.state.tree ≡ true → HasClaim b.ways b.claims w

  abbrev IfListed : Option (Board G) → Type 0
  IfListed None = Unit {0}
  IfListed (Some b) = Listed b

  start_listed : (job : Job G) → Listed (start G F job)
  start_listed job = record { ways = ways; claims = claims }
    where
      ways : (w : List ℕ) → leads G w (start G F job).state.tree ≡ true → HasNumber ([] ∷ []) w
      ways [] e = (0, refl)
      ways (c ∷ w) e = absurd cc

      claims : (w : List ℕ) → claimed G w (start G F job).state.tree ≡ true → HasClaim ([] ∷ []) [] w
      claims [] e = absurd cc
      claims (c ∷ w) e = absurd cc

  step_listed : (b : Board G) (s : Step) → Listed b → IfListed (after_step G F (Some b) s)
  step_listed b s h = allowed (may_step G F s b.claims)
    where
      M : Machine G
      M = F (made_in G F b.state.tree)

      placed : (way : List ℕ) → way_of G F b.ways s.number ≡ Some way → (o : Option (Stepped G (Operation G))) → IfLeft G F M o (Leaves G F M s.kind way b.state.tree) →
          IfListed (moved G F b s way (stepped G M b.state.map o))
      placed way e None l = tt
      placed way e (Some x) l = record { ways = ways; claims = claims }
        where
          lo : ℕ
          lo = children_at G F way b.state.tree

          hi : ℕ
          hi = children_at G F way x.left

          more : List (List ℕ)
          more = more_ways G F way lo (hi - lo)

          ways : (w : List ℕ) → leads G w x.left ≡ true → HasNumber (b.ways ++ more) w
          ways w k = elim (l.ways w k) [
            | inl old ↦ (let n = h.ways w old in (n.0, number_stays b.ways more w n.0 n.1))
            | inr new ↦ new_number b.ways more w (subst (HasNumber more) (sym new.1) (let low = new.2 in let high = new.3 in more_numbers way lo (hi - lo) new.0 low (omega (arith, low, high))))
          ]

          claims : (w : List ℕ) → claimed G w x.left ≡ true → HasClaim (b.ways ++ more) (claims_after G F s b.turns b.claims) w
          claims w k = let c = claims_stay s.kind s.number s.seat b.turns b.ways b.claims way w e (elim (l.claims w k) [ inl new ↦ inl new | inr old ↦ inr (h.claims w old.0, old.1) ]) in
              (c.0, number_stays b.ways more w c.0 c.1, c.2)

      found : (o : Option (List ℕ)) → way_of G F b.ways s.number ≡ o → IfListed (by_way G F b s o)
      found None e = tt
      found (Some way) e = placed way e (step_in G M s.kind way [] true b.state.map b.state.tree) (step_leaves G F M s.kind way [] true b.state.map b.state.tree)

      allowed : (t : Bool) → IfListed (cond t (by_way G F b s (way_of G F b.ways s.number)) None)
      allowed true = found (way_of G F b.ways s.number) refl
      allowed false = tt

  nowhere : (ss : List Step) → after_steps G F None ss ≡ None
  nowhere [] = refl
  nowhere (s ∷ ss) = nowhere ss

  steps_listed : (ss : List Step) (o : Option (Board G)) (b : Board G) → IfListed o → after_steps G F o ss ≡ Some b → Listed b
  steps_listed [] None b h e = absurd (none-some b e)
  steps_listed [] (Some c) b h e = subst Listed (same_Some c b e) h
  steps_listed (s ∷ ss) None b h e = absurd (none-some b (sym (nowhere ss) ∙ e))
  steps_listed (s ∷ ss) (Some c) b h e = steps_listed ss (after_step G F (Some c) s) b (step_listed c s h) e

  -- whatever steps lead to it
  pub board_listed : (job : Job G) (steps : List Step) (b : Board G) → board_of G F job steps ≡ Some b → Listed b
  board_listed job steps b e = steps_listed steps (Some (start G F job)) b (start_listed job) e

  -- ---- where there is no claim

  -- no way leads to an operation that is claimed
  abbrev Unclaimed : Operation G → Type 0
  Unclaimed a = (w : List ℕ) → claimed G w a ≡ true → ⊥

  mutual
    none_claimed : (a : Operation G) → Unclaimed a → claims_in G a ≡ false
    none_claimed (op D N i f ps st is) h = by_test (is_claimed G st) (λ b. is_claimed G st ≡ b → (b || claims_among G is) ≡ false) (λ x e. absurd (h [] e)) (λ x e. no_items is (λ x w. h (x ∷ w))) refl

    no_items : (is : Items G) → ((x : ℕ) (w : List ℕ) → claimed_among G x w is ≡ true → ⊥) → claims_among G is ≡ false
    no_items no_item h = refl
    no_items (said t is) h = no_items is h
    no_items (child_op a is) h = ap (λ b. b || claims_among G is) (none_claimed a (h 0)) ∙ no_items is (λ x. h (suc x))

  pub unclaimed : (b : Board G) → Listed b → b.claims ≡ [] → claims_in G b.state.tree ≡ false
  unclaimed b h e = none_claimed b.state.tree (λ w k. let c = h.claims w k in no_claim c.0 (sym (ap (has_claim c.0) e) ∙ c.2))
    where
      no_claim : (n : ℕ) → has_claim n [] ≡ true → ⊥
      no_claim n k = cc
