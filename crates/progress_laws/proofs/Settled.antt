-- What follows a step leaves the ways of a board, and claims nothing.
use Rattle.std.proofs.Common.{◌≡◌, ◌∷◌, ◌∙◌, ◌&&◌, ◌⊎◌, Bool, List, Option, None, Some, [], ap, cond, false, inl, inr, is_some, refl, sym, true, suc, zero, ℕ}
use Rattle.board_rules.specs.Apart.{find, find_among}
use Rattle.board_rules.specs.Boards.{Items, Operation, Stage, all_ended, all_over, child_count, child_op, close, closing, dropped, ending_with, filling, has_failed, idle, is_waiting, meets_any, no_item, op, out, over, said, settle, stage_of, stop, stopped, sweep, waits_for_failed}
use Rattle.board_rules.specs.Ground.{Ground}
use Rattle.board_rules.specs.NumberedBoards.{children_among, children_at}
use Rattle.board_rules.specs.Ready.{is_claimed}
use Rattle.board_rules.specs.Running.{Element, Machine}
use Rattle.board_laws.proofs.Reaching.{by_test}

module _ (G : Ground) where
  -- whether a way leads to an operation
  abbrev pub leads : List ℕ → Operation G → Bool
  leads w a = is_some (find G w a)

  abbrev pub leads_among : ℕ → List ℕ → Items G → Bool
  leads_among x w is = is_some (find_among G x w is)

  abbrev pub claimed_one : Option (Operation G) → Bool
  claimed_one None = false
  claimed_one (Some a) = is_claimed G (stage_of G a)

  -- whether it leads to one that is claimed
  abbrev pub claimed : List ℕ → Operation G → Bool
  claimed w a = claimed_one (find G w a)

  abbrev pub claimed_among : ℕ → List ℕ → Items G → Bool
  claimed_among x w is = claimed_one (find_among G x w is)

module _ (G : Ground) (F : ℕ → Machine G) (M : Machine G) where
  dropped_leads : (w : List ℕ) (D N : G.Needs) (i : ℕ) (f : G.Frame) (ps : List (Element G)) (st : Stage G) (js : Items G) → leads G w (op D N i f ps dropped js) ≡ leads G w (op D N i f ps st js)
  dropped_leads [] D N i f ps st js = refl
  dropped_leads (c ∷ w) D N i f ps st js = refl

  dropped_children : (w : List ℕ) (D N : G.Needs) (i : ℕ) (f : G.Frame) (ps : List (Element G)) (st : Stage G) (js : Items G) → children_at G F w (op D N i f ps dropped js) ≡ children_at G F w (op D N i f ps st js)
  dropped_children [] D N i f ps st js = refl
  dropped_children (c ∷ w) D N i f ps st js = refl

  dropped_claims : (w : List ℕ) (D N : G.Needs) (i : ℕ) (f : G.Frame) (ps : List (Element G)) (st : Stage G) (js : Items G) →
      claimed G w (op D N i f ps dropped js) ≡ true → claimed G w (op D N i f ps st js) ≡ true
  dropped_claims [] D N i f ps st js e = absurd cc
  dropped_claims (c ∷ w) D N i f ps st js e = e

  -- a swept child is as it was, or dropped
  sweep_by : (P : Items G → Items G → Type 0) → P no_item no_item → ((t : List G.Byte) (zs is : Items G) → P zs is → P (said t zs) (said t is)) →
      ((D N : G.Needs) (i : ℕ) (f : G.Frame) (ps : List (Element G)) (st su : Stage G) (js zs is : Items G) → (su ≡ st) ⊎ (su ≡ dropped) → P zs is → P (child_op (op D N i f ps su js) zs) (child_op (op D N i f ps st js) is)) →
      (bad : List G.Needs) (is : Items G) → P (sweep G M bad is) is
  sweep_by P n s c bad no_item = n
  sweep_by P n s c bad (said t is) = s t (sweep G M bad is) is (sweep_by P n s c bad is)
  sweep_by P n s c bad (child_op (op D N i f ps st js) is) = by_test (is_waiting G st && meets_any G M bad D)
      (λ b. P (cond b (child_op (op D N i f ps dropped js) (sweep G M (D ∷ bad) is)) (child_op (op D N i f ps st js) (sweep G M (cond (has_failed G st) (D ∷ bad) bad) is))) (child_op (op D N i f ps st js) is))
      (λ e. c D N i f ps st dropped js (sweep G M (D ∷ bad) is) is (inr refl) (sweep_by P n s c (D ∷ bad) is))
      (λ e. c D N i f ps st st js (sweep G M (cond (has_failed G st) (D ∷ bad) bad) is) is (inl refl) (sweep_by P n s c (cond (has_failed G st) (D ∷ bad) bad) is))

  record Swept (zs is : Items G) : Type 0 where
    pub count : child_count G zs ≡ child_count G is
    pub children : (c : ℕ) (w : List ℕ) → children_among G F c w zs ≡ children_among G F c w is
    pub ways : (c : ℕ) (w : List ℕ) → leads_among G c w zs ≡ leads_among G c w is
    pub claims : (c : ℕ) (w : List ℕ) → claimed_among G c w zs ≡ true → claimed_among G c w is ≡ true

  swept : (bad : List G.Needs) (is : Items G) → Swept (sweep G M bad is) is
  swept = sweep_by Swept (record { count = refl; children = λ c w. refl; ways = λ c w. refl; claims = λ c w e. e }) (λ t zs is h. record { count = h.count; children = h.children; ways = h.ways; claims = h.claims })
      (λ D N i f ps st su js zs is e h. record { count = ap suc h.count; children = children D N i f ps st su js zs is e h; ways = ways D N i f ps st su js zs is e h; claims = claims D N i f ps st su js zs is e h })
    where
      children : (D N : G.Needs) (i : ℕ) (f : G.Frame) (ps : List (Element G)) (st su : Stage G) (js zs is : Items G) → (su ≡ st) ⊎ (su ≡ dropped) → Swept zs is →
          (c : ℕ) (w : List ℕ) → children_among G F c w (child_op (op D N i f ps su js) zs) ≡ children_among G F c w (child_op (op D N i f ps st js) is)
      children D N i f ps st su js zs is (inl e) h zero w = ap (λ x. children_at G F w (op D N i f ps x js)) e
      children D N i f ps st su js zs is (inr e) h zero w = ap (λ x. children_at G F w (op D N i f ps x js)) e ∙ dropped_children w D N i f ps st js
      children D N i f ps st su js zs is e h (suc c) w = h.children c w

      ways : (D N : G.Needs) (i : ℕ) (f : G.Frame) (ps : List (Element G)) (st su : Stage G) (js zs is : Items G) → (su ≡ st) ⊎ (su ≡ dropped) → Swept zs is →
          (c : ℕ) (w : List ℕ) → leads_among G c w (child_op (op D N i f ps su js) zs) ≡ leads_among G c w (child_op (op D N i f ps st js) is)
      ways D N i f ps st su js zs is (inl e) h zero w = ap (λ x. leads G w (op D N i f ps x js)) e
      ways D N i f ps st su js zs is (inr e) h zero w = ap (λ x. leads G w (op D N i f ps x js)) e ∙ dropped_leads w D N i f ps st js
      ways D N i f ps st su js zs is e h (suc c) w = h.ways c w

      claims : (D N : G.Needs) (i : ℕ) (f : G.Frame) (ps : List (Element G)) (st su : Stage G) (js zs is : Items G) → (su ≡ st) ⊎ (su ≡ dropped) → Swept zs is →
          (c : ℕ) (w : List ℕ) → claimed_among G c w (child_op (op D N i f ps su js) zs) ≡ true → claimed_among G c w (child_op (op D N i f ps st js) is) ≡ true
      claims D N i f ps st su js zs is (inl e) h zero w k = sym (ap (λ x. claimed G w (op D N i f ps x js)) e) ∙ k
      claims D N i f ps st su js zs is (inr e) h zero w k = dropped_claims w D N i f ps st js (sym (ap (λ x. claimed G w (op D N i f ps x js)) e) ∙ k)
      claims D N i f ps st su js zs is e h (suc c) w k = h.claims c w k

  pub settle_leads : (w : List ℕ) (a : Operation G) → leads G w (settle G M a) ≡ leads G w a
  settle_leads [] (op D N i f ps st is) = refl
  settle_leads (c ∷ w) (op D N i f ps st is) = (swept [] is).ways c w

  pub settle_children : (w : List ℕ) (a : Operation G) → children_at G F w (settle G M a) ≡ children_at G F w a
  settle_children [] (op D N i f ps st is) = (swept [] is).count
  settle_children (c ∷ w) (op D N i f ps st is) = (swept [] is).children c w

  -- an operation that is settled holds a claim only if it held it before
  close_claimed : (st : Stage G) (is : Items G) → is_claimed G (close G M st is) ≡ true → is_claimed G st ≡ true
  close_claimed (closing x) is = by_test (all_over G is) (λ b. is_claimed G (cond b (over (ending_with G M x (all_ended G is))) (closing x)) ≡ true → false ≡ true) (λ a e. e) (λ a e. e)
  close_claimed (idle w) is = λ e. e
  close_claimed (filling w d l) is = λ e. e
  close_claimed (out w d) is = λ e. e
  close_claimed (over x) is = λ e. e
  close_claimed dropped is = λ e. e

  stop_claimed : (N : G.Needs) (st : Stage G) (is : Items G) → is_claimed G (stop G M N st is) ≡ true → is_claimed G st ≡ true
  stop_claimed N (idle w) is = by_test (waits_for_failed G M N w is) (λ b. is_claimed G (cond b (closing stopped) (idle w)) ≡ true → false ≡ true) (λ a e. e) (λ a e. e)
  stop_claimed N (filling w d l) is = λ e. e
  stop_claimed N (out w d) is = λ e. e
  stop_claimed N (closing x) is = λ e. e
  stop_claimed N (over x) is = λ e. e
  stop_claimed N dropped is = λ e. e

  pub settle_claimed : (w : List ℕ) (a : Operation G) → claimed G w (settle G M a) ≡ true → claimed G w a ≡ true
  settle_claimed [] (op D N i f ps st is) e = stop_claimed N st (sweep G M [] is) (close_claimed (stop G M N st (sweep G M [] is)) (sweep G M [] is) e)
  settle_claimed (c ∷ w) (op D N i f ps st is) e = (swept [] is).claims c w e
