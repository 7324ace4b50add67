-- Rounds of a launch.
use Rattle.std.proofs.Common.{◌≡◌, ℕ, zero, suc, ◌+◌, ◌*◌, ◌/◌, ◌<◌, ◌≤◌, Bool, true, false, List, Option, Some, None, refl, ap, ◌∙◌, arith, map}
use Rattle.std.specs.Prelude.{nat_lt, cond}
use Rattle.std.proofs.lemmas.Bool.Decides.{nat_tests}
use Rattle.index_launch.specs.Points.{call_at, calls_of}
use Rattle.index_launch.specs.declared.points.LaunchArg.{LaunchArg}
use Rattle.index_launch.specs.declared.points.PointArg.{PointArg}
use Rattle.launch_calls.specs.Rounds.{rounds_begun}
use Rattle.machine_terms.specs.Launches.{Launch, Launched, arguments, behind_call, call_then, cut_off, hand_then, launched, round_then}
use Rattle.machine_terms.specs.declared.value.Value.{Value}
use Rattle.plain_values.specs.Points.{counted_from}
use Rattle.regent_tree.specs.declared.outcome.FaultKind.TheVariants.{Depth}

-- a round that has a turn and its arguments makes its call
pub round_calls : (l : Launch) (args : List PointArg) (vs : List Value) (n k : ℕ) (more : ℕ → Launched) (r : Launched) → n ≡ suc k →
    arguments l.slots args ≡ Some vs → call_then l vs k more ≡ r → round_then l args n more ≡ r
round_calls l args vs n k more r some e h =
    ap (λ i. round_then l args i more) some ∙ ap (λ o. hand_then l o k more) e ∙ h

-- with turns for fewer rounds than these, those behind them are never begun
module _ (l : Launch) (f : ℕ → List PointArg) where
  abbrev rounds : ℕ → ℕ → List (List PointArg)
  rounds first n = map f (counted_from first n)

  -- a call and what comes behind it, where the depth allows one
  abbrev ahead : List Value → ℕ → Bool → Launched → Launched
  ahead vs t b r = elim b [
    | true ↦ behind_call (record { task = l.task; args = vs }) r
    | false ↦ cut_off Depth l.call_line t
  ]

  pub few : (k n first turns : ℕ) → k ≤ n → turns < 2 * k → launched l (rounds first k) turns ≡ launched l (rounds first n) turns
  few zero n first turns le lt = absurd (omega (arith, lt))
  few (suc k) zero first turns le lt = absurd (omega (arith, le))
  few (suc k) (suc n) first zero le lt = refl
  few (suc k) (suc n) first (suc t) le lt =
      handed (arguments l.slots (f first)) t lt (λ i h. few k n (suc first) i (omega (arith, le)) h)
    where
      handed : (o : Option (List Value)) (t : ℕ) → suc t < 2 * suc k →
          ((i : ℕ) → i < 2 * k → launched l (rounds (suc first) k) i ≡ launched l (rounds (suc first) n) i) →
          hand_then l o t (launched l (rounds (suc first) k)) ≡ hand_then l o t (launched l (rounds (suc first) n))
      handed None t lt same = refl
      handed (Some vs) zero lt same = refl
      handed (Some vs) (suc t) lt same = ap (ahead vs t (nat_lt l.depth 64)) (same t (omega (arith, lt)))

-- the rounds that are begun come to what all come to
pub begun_are_all : (l : Launch) (colours turns : ℕ) (args : List LaunchArg) →
    launched l (calls_of (rounds_begun colours turns) args) turns ≡ launched l (calls_of colours args) turns
begun_are_all l colours turns args = by_test (nat_lt (turns / 2) colours) refl
  where
    enough : nat_lt (turns / 2) colours ≡ true → turns / 2 + 1 ≤ colours
    enough e = grind (arith, nat_tests)

    by_test : (b : Bool) → nat_lt (turns / 2) colours ≡ b →
        launched l (calls_of (cond b (turns / 2 + 1) colours) args) turns ≡ launched l (calls_of colours args) turns
    by_test false e = refl
    by_test true e = few l (call_at args) (turns / 2 + 1) colours 0 turns (enough e) (omega arith)
