-- Every task instance ends within a number of steps, whatever it is given where it stops.
use Rattle.std.proofs.Common.{◌≡◌, ℕ, zero, suc, ◌+◌, ◌*◌, ◌≤◌, List, true, false, Option, Some, None, refl, sym, ap, ◌∙◌, subst, arith, ⊎_elim}
use Rattle.std.specs.Prelude.{length}
use Rattle.std.proofs.lemmas.Bool.{le-ltb, cases_lt}
use Rattle.task_code.specs.declared.code.Code.{Code}
use Rattle.task_code.specs.declared.code.Line.{Line}
use Rattle.machine_terms.specs.Machine.{Machine, Stepped}
use Rattle.machine_terms.specs.Jumps.{fetch, goes_back}
use Rattle.machine_terms.specs.Segments.{act, act_at, step}
use Rattle.machine_terms.proofs.StepKinds.{Kind, MayCall, over, called, makes, wants, awaits, nexted, printed, jumped, turned}
use Rattle.machine_terms.proofs.LoopHeads.{Head, head_stops, head_turns, head_leaves, head_kind}
use Rattle.machine_terms.proofs.Fuel.{behind_turn, anywhere, inside}
use Rattle.machine_terms.proofs.Kept.{asked, step_kind}
use Rattle.order_laws.proofs.Waits.{AfterStep, Quiet, Rounds, Within, more, over_stop, settle, step_map, twice, weaker}

module _ (code : Code) (body : List Line) where
  abbrev R : ℕ → Machine → Type 0
  R n m = Rounds code body n m

  abbrev bound : ℕ → ℕ
  bound n = behind_turn code body n

  -- with these turns at most, from a place on, and with fewer turns
  abbrev Later : ℕ → ℕ → Type 0
  Later n d = (m : Machine) → m.frame.turns ≤ n → length body ≤ m.frame.pc + d →
      R (bound n + 2 * d + 1) m

  abbrev Fewer : ℕ → Type 0
  Fewer n = (m : Machine) → suc m.frame.turns ≤ n → R (bound n) m

  -- behind a turn
  after_turn : (n c : ℕ) (m : Machine) → suc m.frame.turns ≤ n → bound n ≤ c → Fewer n → R c m
  after_turn n c m q l fewer = weaker code body c (bound n) m l (fewer m q)

  by_head : (n d from : ℕ) (m : Machine) (s : Stepped) → Head from m.frame s → m.frame.turns ≤ n →
      length body ≤ from + suc d → Later n d → Fewer n → AfterStep (R (bound n + 2 * d + 1)) s
  by_head n d from m _ (head_stops y x o) t l further fewer = over_stop _ y x o
  by_head n d from m _ (head_turns x q) t l further fewer =
      after_turn n (bound n + 2 * d + 1) x (omega (arith, q, t)) (omega arith) fewer
  by_head n d from m _ (head_leaves x q far) t l further fewer =
      further x (omega (arith, q, t)) (omega (arith, far, l))

  -- from what holds behind a step
  stepping : (c : ℕ) (m : Machine) → AfterStep (R c) (step code body m) → R (suc c) m
  stepping c m w = step_map (R c) (Within code body (suc (twice code body c)))
      (λ x v. more code body (suc (twice code body c)) (twice code body c) x (omega arith) v)
      (step code body m) w

  by_kind : (n d : ℕ) (m : Machine) (s : Stepped) → Kind (asked body m.frame) m s → Quiet s →
      m.frame.turns ≤ n → length body ≤ m.frame.pc + suc d → Later n d → Fewer n →
      AfterStep (R (bound n + 2 * d + 2)) s
  by_kind n d m _ (over y x o f) z t l further fewer = over_stop _ y x o
  by_kind n d m _ (called cs x f q p w k) z t l further fewer = (
    subst (λ k. MayCall k cs) (sym f.depth) w,
    λ y e. weaker code body (bound n + 2 * d + 2) (bound n + 2 * d + 1) y (omega arith)
        (further y (omega (arith, e.turns, q, t)) (omega (arith, e.pc, p, l))),
  )
  by_kind n d m _ (makes c x f q p) z t l further fewer = λ y e.
      weaker code body (bound n + 2 * d + 2) (bound n + 2 * d + 1) y (omega arith)
      (further y (omega (arith, e.turns, q, t)) (omega (arith, e.pc, p, l)))
  by_kind n d m _ (wants r g x f a b c) z t l further fewer = absurd z
  by_kind n d m _ (awaits i a) z t l further fewer = absurd z
  by_kind n d m _ (nexted x f q p) z t l further fewer =
      weaker code body (bound n + 2 * d + 2) (bound n + 2 * d + 1) x (omega arith)
      (further x (omega (arith, q, t)) (omega (arith, p, l)))
  by_kind n d m _ (printed u x f q p) z t l further fewer =
      weaker code body (bound n + 2 * d + 2) (bound n + 2 * d + 1) x (omega arith)
      (further x (omega (arith, q, t)) (omega (arith, p, l)))
  by_kind n d m _ (turned x f q) z t l further fewer =
      after_turn n (bound n + 2 * d + 2) x (omega (arith, q, t)) (omega arith) fewer
  by_kind n d m _ (jumped x f q may) z t l further fewer = ⊎_elim
      (λ h. weaker code body (bound n + 2 * d + 2) (bound n + 2 * d + 1) x (omega arith)
      (further x (omega (arith, q, t)) (omega (arith, h, l))))
      (λ h. weaker code body (bound n + 2 * d + 2) (suc (bound n + 2 * d + 1)) x (omega arith)
      (back (fetch body x.frame.pc) refl
      (sym (ap (λ b. elim b [ true ↦ true | false ↦ goes_back m.frame.pc (fetch body x.frame.pc) ])
      (le-ltb m.frame.pc x.frame.pc h)) ∙ may)))
      (cases_lt m.frame.pc x.frame.pc)
    where
      back : (o : Option Line) → fetch body x.frame.pc ≡ o → goes_back m.frame.pc o ≡ true →
          R (suc (bound n + 2 * d + 1)) x
      back None g h = absurd cc
      back (Some a) g h = stepping (bound n + 2 * d + 1) x
          (subst (λ o. AfterStep (R (bound n + 2 * d + 1)) (act_at code body o x)) (sym g)
          (by_head n d m.frame.pc x (act code body a.instr a.line x)
          (head_kind m.frame.pc code body a.instr a.line x h) (omega (arith, q, t)) l further fewer))

  from_place : (n d : ℕ) → Fewer n → Later n d
  from_place n zero fewer m t l =
      weaker code body (bound n + 2 * 0 + 1) (suc (bound n)) m (omega arith)
      (stepping (bound n) m (at_end (fetch body m.frame.pc) refl))
    where
      at_end : (o : Option Line) → fetch body m.frame.pc ≡ o →
          AfterStep (R (bound n)) (act_at code body o m)
      at_end None e = tt
      at_end (Some a) e = absurd (omega (arith, inside code body m.frame.pc a e, l))
  from_place n (suc d) fewer m t l =
      weaker code body (bound n + 2 * suc d + 1) (suc (bound n + 2 * d + 2)) m (omega arith)
      (settle code body (bound n + 2 * d + 2) m (λ x p q z.
      by_kind n d x (step code body x) (step_kind code body x) z (omega (arith, q, t)) (omega (arith, p, l))
      (from_place n d fewer) fewer))

  ends_within : (n : ℕ) (m : Machine) → m.frame.turns ≤ n → Rounds code body (anywhere code body n) m
  ends_within zero m t = from_place 0 (length body) (λ x r. absurd (omega (arith, r))) m t (omega arith)
  ends_within (suc n) m t = from_place (suc n) (length body)
      (λ x r. weaker code body (bound (suc n)) (anywhere code body n) x (omega arith) (ends_within n x (omega (arith, r))))
      m t (omega arith)

  -- from any machine the instance ends
  pub ends_soon : (n : ℕ) (m : Machine) → m.frame.turns ≡ n → Rounds code body (anywhere code body n) m
  ends_soon n m e = ends_within n m (omega (arith, e))
