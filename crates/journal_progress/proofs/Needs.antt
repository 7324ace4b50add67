-- Needs that are apart at each location don't interfere.
use Rattle.std.proofs.Common.{◌≡◌, ◌∷◌, ◌∙◌, ◌⊎◌, List, None, Option, Some, [], ap, arith, cond, false, inl, inr, option_map, refl, subst, suc, sym, zero, ℕ}
use Rattle.std.specs.List.{Contains}
use Rattle.lane_kernels.specs.Modes.{Commute, joined}
use Rattle.lane_kernels.specs.declared.numbers.Mode.{Mode as FieldMode}
use Rattle.lane_kernels.specs.declared.numbers.Mode.TheVariants.{Read, Reduce, Write}
use Rattle.region_tree.specs.Requirements.{InterfereSomewhere, Requirement, interfere, join_from, modes_at, same_mode}
use Rattle.region_tree.proofs.Interfering.{interfere_tells}
use Rattle.region_tree.proofs.Joins.{from_Write, joined_is, same_mode-tells}
use Rattle.board_rules.specs.Ground.{Ground, Mode}
use Rattle.board_rules.specs.Processes.{Apart, Together}
use Rattle.board_laws.proofs.Reaching.{by_test}
use Rattle.regent_boards.specs.Frames.{Location, OpAt, Spaces}
use Rattle.regent_boards.specs.RegentMachine.{as_held, regent_ground}

-- a mode joins to itself or to Write
kept_or_writes : (k : FieldMode) (ms : List FieldMode) → (join_from (Some k) ms ≡ Some k) ⊎ (join_from (Some k) ms ≡ Some Write)
kept_or_writes k [] = inl refl
kept_or_writes k (m ∷ ms) = by_test (same_mode k m) (λ b. (join_from (Some (joined k m)) ms ≡ Some k) ⊎ (join_from (Some (joined k m)) ms ≡ Some Write))
    (λ e. subst (λ n. (join_from (Some n) ms ≡ Some k) ⊎ (join_from (Some n) ms ≡ Some Write)) (sym (joined_is k m ∙ ap (λ b. cond b k Write) e)) (kept_or_writes k ms))
    (λ e. inr (ap (λ n. join_from (Some n) ms) (joined_is k m ∙ ap (λ b. cond b k Write) e) ∙ from_Write ms))

-- and so does each that follows
each_joins : (k : FieldMode) (ms : List FieldMode) (m : FieldMode) → Contains ms m → (join_from (Some k) ms ≡ Some m) ⊎ (join_from (Some k) ms ≡ Some Write)
each_joins k [] m c = absurd (omega (arith, c.1))
each_joins k (n ∷ ms) m (zero, l, e) = by_test (same_mode k n) (λ b. (join_from (Some (joined k n)) ms ≡ Some m) ⊎ (join_from (Some (joined k n)) ms ≡ Some Write))
    (λ t. subst (λ x. (join_from (Some x) ms ≡ Some m) ⊎ (join_from (Some x) ms ≡ Some Write)) (sym (joined_is k n ∙ ap (λ b. cond b k Write) t ∙ same_mode-tells k n t ∙ e)) (kept_or_writes m ms))
    (λ t. inr (ap (λ x. join_from (Some x) ms) (joined_is k n ∙ ap (λ b. cond b k Write) t) ∙ from_Write ms))
each_joins k (n ∷ ms) m (suc i, l, e) = each_joins (joined k n) ms m (i, omega (arith, l), e)

mode_joins : (ms : List FieldMode) (m : FieldMode) → Contains ms m → (join_from None ms ≡ Some m) ⊎ (join_from None ms ≡ Some Write)
mode_joins [] m c = absurd (omega (arith, c.1))
mode_joins (n ∷ ms) m (zero, l, e) = subst (λ x. (join_from (Some n) ms ≡ Some x) ⊎ (join_from (Some n) ms ≡ Some Write)) e (kept_or_writes n ms)
mode_joins (n ∷ ms) m (suc i, l, e) = each_joins n ms m (i, omega (arith, l), e)

module _ (spaces : Spaces) where
  abbrev G : Ground
  G = regent_ground spaces

  held_commute : (root field : ℕ) (m n : FieldMode) → Together G (as_held spaces root field m) (as_held spaces root field n) → Commute m n
  held_commute root field Read Read t = inl (refl, refl)
  held_commute root field Read Write t = absurd t
  held_commute root field Read (Reduce q) t = absurd t
  held_commute root field Write Read t = absurd t
  held_commute root field Write Write t = absurd t
  held_commute root field Write (Reduce q) t = absurd t
  held_commute root field (Reduce p) Read t = absurd t
  held_commute root field (Reduce p) Write t = absurd t
  held_commute root field (Reduce p) (Reduce q) t = inr (p, refl, ap (λ o. Reduce o) (sym (ap (λ (o : OpAt). o.op) t)))

  none_with_writes : (root field : ℕ) (m : FieldMode) → Together G (as_held spaces root field m) (as_held spaces root field Write) → ⊥
  none_with_writes root field Read t = t
  none_with_writes root field Write t = t
  none_with_writes root field (Reduce p) t = t

  abbrev held_at : ℕ → ℕ → Option FieldMode → Option (Mode OpAt)
  held_at root field o = option_map (as_held spaces root field) o

  apart_commute : (root field : ℕ) (x y : Option FieldMode) (m n : FieldMode) → (x ≡ Some m) ⊎ (x ≡ Some Write) → (y ≡ Some n) ⊎ (y ≡ Some Write) →
      Apart G (held_at root field x) (held_at root field y) → Commute m n
  apart_commute root field x y m n e f a = by_both e f
    where
      at_both : (u v : FieldMode) → x ≡ Some u → y ≡ Some v → Together G (as_held spaces root field u) (as_held spaces root field v)
      at_both u v p q = subst (λ o. Apart G (held_at root field (Some u)) (held_at root field o)) q (subst (λ o. Apart G (held_at root field o) (held_at root field y)) p a)

      by_both : (x ≡ Some m) ⊎ (x ≡ Some Write) → (y ≡ Some n) ⊎ (y ≡ Some Write) → Commute m n
      by_both (inl p) (inl q) = held_commute root field m n (at_both m n p q)
      by_both (inl p) (inr q) = absurd (none_with_writes root field m (at_both m Write p q))
      by_both (inr p) (inl q) = absurd (at_both Write n p q)
      by_both (inr p) (inr q) = absurd (at_both Write Write p q)

  pub apart_needs : (a b : List Requirement) → ((l : Location) → Apart G (G.at a l) (G.at b l)) → interfere a b ≡ false
  apart_needs a b h = by_test (interfere a b) (λ c. interfere a b ≡ c → interfere a b ≡ false)
      (λ e k. absurd (meets_no ((interfere_tells (interfere a b) a b refl).0 e))) (λ e k. e) refl
    where
      meets_no : InterfereSomewhere a b → ⊥
      meets_no w = w.conflicts (apart_commute w.root w.field (join_from None (modes_at a w.root w.field w.point)) (join_from None (modes_at b w.root w.field w.point)) w.one w.other
          (mode_joins (modes_at a w.root w.field w.point) w.one w.first_has) (mode_joins (modes_at b w.root w.field w.point) w.other w.second_has)
          (h (record { root = w.root; field = w.field; point = w.point })))
