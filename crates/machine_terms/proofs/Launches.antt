-- What a launch comes to: as many turns as before at most, and calls only where the depth allows one.
use Rattle.std.proofs.Common.{◌≡◌, ◌≤◌, ℕ, zero, suc, List, [], ◌∷◌, Bool, true, false, Option, Some, None, refl, sym, ◌∙◌, arith, ◌+◌, ◌^◌}
use Rattle.std.specs.Prelude.{length, nat_lt, slice_get, ◌==◌, ◌&&◌}
use Rattle.std.specs.List.{list_all}
use Rattle.std.proofs.lemmas.Bool.{false≢true}
use Rattle.index_launch.specs.Points.{calls_of}
use Rattle.index_launch.specs.declared.points.LaunchArg.{LaunchArg}
use Rattle.index_launch.specs.declared.points.PointArg.{PointArg}
use Rattle.regent_tree.specs.declared.outcome.Fault.{Fault}
use Rattle.regent_tree.specs.declared.outcome.FaultKind.TheVariants.{Depth}
use Rattle.task_code.specs.declared.code.TaskCode.{TaskCode}
use Rattle.machine_terms.specs.declared.outcome.CallOut.{CallOut}
use Rattle.machine_terms.specs.declared.value.Value.{Value}
use Rattle.machine_terms.specs.declared.value.Value.TheVariants as value
use Rattle.machine_terms.specs.Launches.{Launch, Launched, arguments, hand_then, is_held, issue, launch_of, launch_over, launch_task, launched, yield_calls}
use Rattle.machine_terms.specs.Machine.{Machine}
use Rattle.machine_terms.proofs.StepKinds.{Asking, Kind, MayCall, called, fixed, over, stops_kind, when_kind}

-- no turn is won, and no call is made too deep
pub record IsBounded (depth n : ℕ) (r : Launched) : Type 0 where
  pub turns : r.turns ≤ n
  pub may : MayCall depth r.calls

module _ (l : Launch) where
  pub launches_bounded : (calls : List (List PointArg)) (n : ℕ) → IsBounded l.depth n (launched l calls n)
  launches_bounded [] n = record { turns = omega arith; may = tt }
  launches_bounded (args ∷ rest) zero = record { turns = omega arith; may = tt }
  launches_bounded (args ∷ rest) (suc n) = by_arguments (arguments l.slots args) n (λ k. launches_bounded rest k)
    where
      by_arguments : (o : Option (List Value)) (n : ℕ) → ((k : ℕ) → IsBounded l.depth k (launched l rest k)) →
          IsBounded l.depth (suc n) (hand_then l o n (launched l rest))
      by_arguments None n more = record { turns = omega arith; may = tt }
      by_arguments (Some vs) zero more = record { turns = omega arith; may = tt }
      by_arguments (Some vs) (suc k) more = by_call (nat_lt l.depth 64) refl
        where
          by_call : (b : Bool) → nat_lt l.depth 64 ≡ b → IsBounded l.depth (suc (suc k)) (elim b [
            | true ↦ record (launched l rest k) { calls = record { task = l.task; args = vs } ∷ (launched l rest k).calls }
            | false ↦ record { calls = []; turns = k; fault = Some (record { kind = Depth; line = l.call_line }) }
          ])
          by_call true e = record { turns = omega (arith, (more k).turns); may = e }
          by_call false e = record { turns = omega arith; may = tt }

module _ (ask : Asking) (launch : ask.launch ≡ true) where
  yield_kind : (r : Launched) (m : Machine) → IsBounded m.frame.depth m.frame.turns r → Kind ask m (yield_calls r m)
  yield_kind r m h = when_kind ask m (nat_lt (m.frame.children + length r.calls) (2 ^ 64)) _ _
      (when_kind ask m (nat_lt (suc m.frame.pc) (2 ^ 32)) _ _
      (called r.calls _ (record { task = refl; slots = refl; depth = refl; own = refl; needs = refl; parts = refl; fits = λ h. h }) h.turns refl h.may (λ n. absurd (false≢true (sym n ∙ launch))))
      (over _ _ tt (record { task = refl; slots = refl; depth = refl; own = refl; needs = refl; parts = refl; fits = λ h. h })))
      (over _ _ tt (fixed m))

  issue_kind : (cs : List CallOut) (f : Option Fault) (r : Launched) (m : Machine) → IsBounded m.frame.depth m.frame.turns r →
      Kind ask m (issue cs f r m)
  issue_kind [] (Some f) r m h = stops_kind ask _ m tt
  issue_kind [] None r m h = yield_kind r m h
  issue_kind (c ∷ cs) f r m h = yield_kind r m h

  over_kind : (o : Option Value) (task call_line line : ℕ) (args : List LaunchArg) (m : Machine) →
      Kind ask m (launch_over o (launch_of task call_line line m) args m)
  over_kind (Some (value.Space n)) task call_line line args m =
      let l = launch_of task call_line line m in
      let r = launched l (calls_of n args) m.frame.turns in
      issue_kind r.calls r.fault r m (launches_bounded l (calls_of n args) m.frame.turns)
  over_kind None task call_line line args m = stops_kind ask _ m tt
  over_kind (Some (value.Number z)) task call_line line args m = stops_kind ask _ m tt
  over_kind (Some (value.Region r)) task call_line line args m = stops_kind ask _ m tt
  over_kind (Some (value.Partition p)) task call_line line args m = stops_kind ask _ m tt
  over_kind (Some (value.Pending i)) task call_line line args m = stops_kind ask _ m tt

  pub launch_kind : (o : Option TaskCode) (task s call_line : ℕ) (args : List LaunchArg) (line : ℕ) (m : Machine) →
      Kind ask m (launch_task o task s call_line args line m)
  launch_kind None task s call_line args line m = stops_kind ask _ m tt
  launch_kind (Some t) task s call_line args line m = when_kind ask m (t.params == length args && list_all (is_held m.frame.slots) args) _ _
      (over_kind (slice_get m.frame.slots s) task call_line line args m) (stops_kind ask _ m tt)
