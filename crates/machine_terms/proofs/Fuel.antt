-- From each machine a run stops within its fuel, whatever the code: between two turns each place is
-- met at most twice.
use Rattle.std.proofs.Common.{◌≡◌, ℕ, zero, suc, ◌+◌, ◌*◌, ◌<◌, ◌≤◌, ◌^◌, List, true, false, Option, Some, None, refl, sym, ap, ◌∙◌, subst, arith, ⊎_elim}
use Rattle.std.specs.Prelude.{slice_get, length}
use Rattle.std.proofs.Math.Nat.{suc-mul}
use Rattle.std.proofs.lemmas.Bool.{lt-ltb, le-ltb, cases_lt}
use Rattle.std.proofs.lemmas.Option.{slice_get_within, none-some}
use Rattle.task_code.specs.declared.code.Code.{Code}
use Rattle.task_code.specs.declared.code.Line.{Line}
use Rattle.task_code.specs.declared.instr.Instr.{Instr}
use Rattle.machine_terms.specs.declared.outcome.Yield.{Yield}
use Rattle.machine_terms.specs.Machine.{Machine, Stepped, goes, prints, stops}
use Rattle.machine_terms.specs.Jumps.{fetch, goes_back}
use Rattle.machine_terms.specs.Segments.{act_at, step, enough}
use Rattle.machine_terms.proofs.StepKinds.{Kind, over, called, makes, wants, awaits, nexted, printed, jumped, turned, is_launch, key_of, slot_of}
use Rattle.machine_terms.proofs.InstructionKinds.{act_kind}
use Rattle.machine_terms.proofs.LoopHeads.{Head, head_stops, head_turns, head_leaves, head_kind}

module _ (code : Code) (body : List Line) where
  -- from a machine it stops behind so many steps
  pub data Halts : Machine → ℕ → Type 0 where
    halts_now : (m n : Machine) (y : Yield) → step code body m ≡ stops y n → Halts m 0
    halts_later : (m n : Machine) (k : ℕ) → step code body m ≡ goes n → Halts n k → Halts m (suc k)
    halts_printing : (m n : Machine) (t : List ℕ) (k : ℕ) → step code body m ≡ prints t n →
        Halts n k → Halts m (suc k)

  -- in fewer steps than a number
  pub record Bounded (m : Machine) (n : ℕ) : Type 0 where
    pub steps : ℕ
    pub halts : Halts m steps
    pub few : steps < n

  -- the steps with so many turns left: from a turn on, and from any place
  abbrev pub behind_turn : ℕ → ℕ
  behind_turn zero = 1
  behind_turn (suc n) = behind_turn n + 2 * length body + 2

  abbrev pub anywhere : ℕ → ℕ
  anywhere n = behind_turn n + 2 * length body + 1

  weaker : (m : Machine) (k n : ℕ) → k ≤ n → Bounded m k → Bounded m n
  weaker m k n l b = record { steps = b.steps; halts = b.halts; few = omega (arith, b.few) }

  now : (m n : Machine) (k : ℕ) (y : Yield) → 0 < k → step code body m ≡ stops y n → Bounded m k
  now m n k y l e = record { steps = 0; halts = halts_now m n y e; few = l }

  later : (m n : Machine) (k : ℕ) → step code body m ≡ goes n → Bounded n k → Bounded m (suc k)
  later m n k e b = record {
    steps = suc b.steps;
    halts = halts_later m n b.steps e b.halts;
    few = omega (arith, b.few);
  }

  later_printing : (m n : Machine) (t : List ℕ) (k : ℕ) → step code body m ≡ prints t n →
      Bounded n k → Bounded m (suc k)
  later_printing m n t k e b = record {
    steps = suc b.steps;
    halts = halts_printing m n t b.steps e b.halts;
    few = omega (arith, b.few);
  }

  -- a place with an instruction is in the body
  pub inside : (pc : ℕ) (l : Line) → fetch body pc ≡ Some l → pc < length body
  inside pc l e = ⊎_elim
      (λ h. slice_get_within body pc l (sym (ap (λ b. elim b [ true ↦ slice_get body pc | false ↦ None ]) (lt-ltb pc (2 ^ 32) h)) ∙ e))
      (λ h. absurd (none-some l (sym (ap (λ b. elim b [ true ↦ slice_get body pc | false ↦ None ]) (le-ltb pc (2 ^ 32) h)) ∙ e)))
      (cases_lt pc (2 ^ 32))

  -- With so many turns left: from a place further on, so many steps before the body's end, and behind a
  -- turn.
  abbrev Further : ℕ → ℕ → Type 0
  Further n d = (j : Machine) → j.frame.turns ≡ n → length body ≤ j.frame.pc + d →
      Bounded j (behind_turn n + 2 * d + 1)

  abbrev Afterwards : ℕ → Type 0
  Afterwards n = (p : ℕ) → suc p ≡ n → (j : Machine) → j.frame.turns ≡ p → Bounded j (anywhere p)

  turn_bounded : (n d : ℕ) (i m : Machine) → step code body i ≡ goes m → suc m.frame.turns ≡ n → Afterwards n →
      Bounded i (behind_turn n + 2 * d + 2)
  turn_bounded n d i m e q after =
      let same = ap behind_turn q in
      weaker i (suc (anywhere m.frame.turns)) _ (omega (arith, same))
      (later i m _ e (after m.frame.turns q m refl))

  -- behind a jump back
  by_head : (n d from : ℕ) (j : Machine) (s : Stepped) → step code body j ≡ s → Head from j.frame s →
      j.frame.turns ≡ n → length body ≤ from + suc d → Further n d → Afterwards n →
      Bounded j (behind_turn n + 2 * d + 2)
  by_head n d from j _ e (head_stops y m o) t l further after = now j m _ y (omega arith) e
  by_head n d from j _ e (head_turns m q) t l further after = turn_bounded n d j m e (q ∙ t) after
  by_head n d from j _ e (head_leaves m q far) t l further after =
      weaker j (suc (behind_turn n + 2 * d + 1)) _ (omega arith)
      (later j m _ e (further m (q ∙ t) (omega (arith, far, l))))

  by_kind : (n d : ℕ) (i : Machine) (a : Instr) (s : Stepped) → step code body i ≡ s →
      Kind (record { body = body; key = key_of a i.frame; slot = slot_of a i.frame; launch = is_launch a }) i s →
      i.frame.turns ≡ n → length body ≤ i.frame.pc + suc d → Further n d → Afterwards n →
      Bounded i (behind_turn n + 2 * suc d + 1)
  by_kind n d i a _ e (over y m o f) t l further after = now i m _ y (omega arith) e
  by_kind n d i a _ e (called cs m f q p h k) t l further after = now i m _ _ (omega arith) e
  by_kind n d i a _ e (makes w m f q p) t l further after = now i m _ _ (omega arith) e
  by_kind n d i a _ e (wants r g m f q p h) t l further after = now i m _ _ (omega arith) e
  by_kind n d i a _ e (awaits c h) t l further after = now i i _ _ (omega arith) e
  by_kind n d i a _ e (nexted m f q p) t l further after =
      weaker i (suc (behind_turn n + 2 * d + 1)) _ (omega arith)
      (later i m _ e (further m (q ∙ t) (omega (arith, p, l))))
  by_kind n d i a _ e (printed u m f q p) t l further after =
      weaker i (suc (behind_turn n + 2 * d + 1)) _ (omega arith)
      (later_printing i m u _ e (further m (q ∙ t) (omega (arith, p, l))))
  by_kind n d i a _ e (turned m f q) t l further after =
      weaker i (behind_turn n + 2 * d + 2) _ (omega arith) (turn_bounded n d i m e (q ∙ t) after)
  by_kind n d i a _ e (jumped m f q may) t l further after = ⊎_elim
      (λ h. weaker i (suc (behind_turn n + 2 * d + 1)) _ (omega arith)
      (later i m _ e (further m (q ∙ t) (omega (arith, h, l)))))
      (λ h. weaker i (suc (behind_turn n + 2 * d + 2)) _ (omega arith)
      (later i m _ e (back (fetch body m.frame.pc) refl
      (sym (ap (λ b. elim b [ true ↦ true | false ↦ goes_back i.frame.pc (fetch body m.frame.pc) ])
      (le-ltb i.frame.pc m.frame.pc h)) ∙ may))))
      (cases_lt i.frame.pc m.frame.pc)
    where
      back : (o : Option Line) → fetch body m.frame.pc ≡ o → goes_back i.frame.pc o ≡ true →
          Bounded m (behind_turn n + 2 * d + 2)
      back None g h = absurd cc
      back (Some b) g h = by_head n d i.frame.pc m _
          (ap (λ o. act_at code body o m) g)
          (head_kind i.frame.pc code body b.instr b.line m h) (q ∙ t) l further after

  within : (n d : ℕ) → Afterwards n → Further n d
  within n zero after i t l = at_end (fetch body i.frame.pc) refl
    where
      at_end : (o : Option Line) → fetch body i.frame.pc ≡ o → Bounded i (behind_turn n + 2 * 0 + 1)
      at_end None e = now i i _ _ (omega arith) (ap (λ o. act_at code body o i) e)
      at_end (Some a) e = absurd (omega (arith, inside i.frame.pc a e, l))
  within n (suc d) after i t l = at_line (fetch body i.frame.pc) refl (within n d after)
    where
      at_line : (o : Option Line) → fetch body i.frame.pc ≡ o → Further n d →
          Bounded i (behind_turn n + 2 * suc d + 1)
      at_line None e further = now i i _ _ (omega arith) (ap (λ o. act_at code body o i) e)
      at_line (Some a) e further = by_kind n d i a.instr _ (ap (λ o. act_at code body o i) e)
          (act_kind (record { body = body; key = key_of a.instr i.frame; slot = slot_of a.instr i.frame; launch = is_launch a.instr })
          code a.instr a.line i refl refl refl) t l further after

  -- from any machine it stops
  stops_soon : (n : ℕ) (i : Machine) → i.frame.turns ≡ n → Bounded i (anywhere n)
  stops_soon zero i t = within 0 (length body) (λ p q j r. absurd (omega (arith, q))) i t (omega arith)
  stops_soon (suc n) i t = within (suc n) (length body)
      (λ p q j r. let same : p ≡ n = omega (arith, q) in
      subst (λ m. Bounded j (anywhere m)) (sym same) (stops_soon n j (r ∙ same))) i t (omega arith)

  -- the bound is the fuel of a segment
  pub enough_is : (n : ℕ) → anywhere n ≡ 2 * (n + 1) * (length body + 1)
  enough_is zero = omega arith
  enough_is (suc n) =
      let a = length body + 1 in
      let k = 2 * (n + 1) in
      let more : 2 * (suc n + 1) ≡ suc (suc k) = omega arith in
      omega (arith, enough_is n, ap (λ m. m * a) more, suc-mul (suc k) a, suc-mul k a)

  pub stops_in_fuel : (m : Machine) → Bounded m (enough body m.frame)
  stops_in_fuel m = subst (Bounded m) (enough_is m.frame.turns) (stops_soon m.frame.turns m refl)
