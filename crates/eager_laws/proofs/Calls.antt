-- A call and a launch, on a machine whose slots are seen so.
use Rattle.std.proofs.Common.{◌≡◌, ℕ, zero, suc, ◌+◌, ◌^◌, ℤ, List, [], ◌∷◌, Bool, true, false, Option, Some, None, refl, sym, ap, ◌∙◌, subst, map, option_map}
use Rattle.std.specs.Prelude.{length, nat_lt, slice_get, ◌==◌, ◌&&◌}
use Rattle.std.specs.List.{list_all}
use Rattle.plain_values.specs.Points.{points}
use Rattle.index_launch.specs.Points.{at_colour, call_at, calls_of}
use Rattle.index_launch.specs.declared.points.LaunchArg.{LaunchArg}
use Rattle.index_launch.specs.declared.points.LaunchArg.TheVariants as launch_arg
use Rattle.regent_tree.specs.declared.outcome.Fault.{Fault}
use Rattle.regent_tree.specs.declared.outcome.FaultKind.TheVariants.{Depth}
use Rattle.task_code.specs.declared.code.TaskCode.{TaskCode}
use Rattle.machine_terms.specs.declared.outcome.CallOut.{CallOut}
use Rattle.machine_terms.specs.declared.outcome.Yield.TheVariants as yield
use Rattle.machine_terms.specs.declared.value.Value.{Value}
use Rattle.machine_terms.specs.declared.value.Value.TheVariants as value
use Rattle.machine_terms.specs.Calls.{Taken, few, taken, take_values, calling, call_task, yield_call}
use Rattle.machine_terms.specs.Launches.{Launch, Launched, arguments, and_argument, argument, behind_call, behind_launch, child_in, cut_off, hand_then, is_held, is_partition, is_settled, issue, issue_all, launch_of, launch_over, launch_task, launched, yield_calls}
use Rattle.machine_terms.specs.Machine.{Machine, Stepped, stops, broken, faults, when, with_turns, yields}
use Rattle.machine_terms.specs.Regions.{partition_in}
use Rattle.eager_laws.specs.Steps.{known}
use Rattle.eager_laws.specs.Pendings.{AreApart, ArePutAway, AreSettled, IsApart}
use Rattle.eager_laws.proofs.Seeing.{eager_machine, eager_step, partition_known, slot_known}
use Rattle.eager_laws.proofs.Slots.{apart_slot}
use Rattle.eager_laws.proofs.Words.{Fine, Same, breaks, faulted, same_when}
use Rattle.eager_laws.proofs.Operations.{LeavesSettled, left_settled}

module _ (rs : List ℤ) (for_results : ℕ → Bool) where
  -- Where a call is made, or the calls of a launch are, both yield them; else both go on alike, or break.
  pub data Calling (one : Bool) (pc : ℕ) : Stepped → Stepped → Type 0 where
    calls_none : (s t : Stepped) → Same rs for_results s t → Calling one pc s t
    calls_break : (m' m : Machine) → Calling one pc (broken m') (broken m)
    calls_one : (m : Machine) (c : CallOut) (st : List Value) → one ≡ true → m.frame.pc ≡ suc pc →
        m.frame.stack ≡ value.Pending (length rs) ∷ st → AreSettled st →
        ArePutAway for_results (length rs) m.frame.slots → m.frame.children ≡ suc (length rs) →
        Calling one pc (stops (yield.Calls (c ∷ [])) (eager_machine rs m)) (stops (yield.Calls (c ∷ [])) m)
    calls_many : (m : Machine) (cs : List CallOut) → one ≡ false → AreSettled m.frame.stack →
        ArePutAway for_results (length rs) m.frame.slots → m.frame.children ≡ length rs + length cs →
        Calling one pc (stops (yield.Calls cs) (eager_machine rs m)) (stops (yield.Calls cs) m)

  calling_when : (one : Bool) (pc : ℕ) (b : Bool) (p' q' p q : Stepped) → Calling one pc p' p → Calling one pc q' q →
      Calling one pc (when b p' q') (when b p q)
  calling_when one pc true p' q' p q k l = k
  calling_when one pc false p' q' p q k l = l

  -- ---- a call

  called_one : (task : ℕ) (vs st : List Value) (m : Machine) → Fine rs for_results m → AreSettled st →
      Calling true m.frame.pc (yield_call task vs st (eager_machine rs m)) (yield_call task vs st m)
  called_one task vs st m f c = calling_when true m.frame.pc (nat_lt (suc m.frame.children) (2 ^ 64)) _ _ _ _
      (calling_when true m.frame.pc (nat_lt (suc m.frame.pc) (2 ^ 32)) _ _ _ _
      (calls_one _ _ st refl refl (ap (λ n. value.Pending n ∷ st) f.children) c f.slots (ap suc f.children))
      (calls_break _ _)) (calls_break _ _)

  taken_turn : (n line task : ℕ) (vs st : List Value) (m : Machine) → Fine rs for_results m → AreSettled st →
      Calling true m.frame.pc
      (Rattle.machine_terms.specs.Machine.on_turn n line (eager_machine rs m) (λ p. when (nat_lt p.frame.depth 64) (yield_call task vs st p) (faults Depth line p)))
      (Rattle.machine_terms.specs.Machine.on_turn n line m (λ p. when (nat_lt p.frame.depth 64) (yield_call task vs st p) (faults Depth line p)))
  taken_turn zero line task vs st m f c = calls_none _ _ (faulted rs for_results _ line m f)
  taken_turn (suc n) line task vs st m f c =
      let g : Fine rs for_results (with_turns n m) = record { stack = f.stack; slots = f.slots; children = f.children } in
      calling_when true m.frame.pc (nat_lt m.frame.depth 64) _ _ _ _ (called_one task vs st (with_turns n m) g c)
      (calls_none _ _ (faulted rs for_results Depth line (with_turns n m) g))

  calling_same : (task line : ℕ) (t : Taken) (m : Machine) → Fine rs for_results m → LeavesSettled rs for_results t →
      Calling true m.frame.pc (calling task line t (eager_machine rs m)) (calling task line t m)
  calling_same task line few m f c = calls_break _ _
  calling_same task line (taken vs st) m f c = taken_turn m.frame.turns line task vs st m f c

  pub call_same : (o : Option TaskCode) (task k line : ℕ) (m : Machine) → Fine rs for_results m →
      Calling true m.frame.pc (call_task o task k line (eager_machine rs m)) (call_task o task k line m)
  call_same None task k line m f = calls_break _ _
  call_same (Some t) task k line m f = calling_when true m.frame.pc (t.params == k) _ _ _ _
      (calling_same task line (take_values k m.frame.stack []) m f (left_settled rs for_results k m.frame.stack [] f.stack)) (calls_break _ _)

  -- ---- a launch

  held_known : (xs : List Value) → ArePutAway for_results (length rs) xs → (a : LaunchArg) → IsApart for_results a →
      is_held (map (known rs) xs) a ≡ is_held xs a
  held_known xs h (launch_arg.Child s) q = ap is_partition (partition_known rs xs s)
  held_known xs h (launch_arg.Keep s) q = ap is_settled (apart_slot rs for_results (length rs) xs s q h)
  held_known xs h (launch_arg.Number z) q = refl
  held_known xs h launch_arg.Point q = refl

  all_held_known : (xs : List Value) → ArePutAway for_results (length rs) xs → (args : List LaunchArg) → AreApart for_results args →
      list_all (is_held (map (known rs) xs)) args ≡ list_all (is_held xs) args
  all_held_known xs h [] q = refl
  all_held_known xs h (a ∷ args) q = λ i. held_known xs h a q.0 i && all_held_known xs h args q.1 i

  argument_known : (xs : List Value) → ArePutAway for_results (length rs) xs → (a : LaunchArg) → IsApart for_results a → (colour : ℕ) →
      argument (map (known rs) xs) (at_colour colour a) ≡ argument xs (at_colour colour a)
  argument_known xs h (launch_arg.Child s) q colour = ap (λ o. child_in o colour) (partition_known rs xs s)
  argument_known xs h (launch_arg.Keep s) q colour = apart_slot rs for_results (length rs) xs s q h
  argument_known xs h (launch_arg.Number z) q colour = refl
  argument_known xs h launch_arg.Point q colour = refl

  arguments_known : (xs : List Value) → ArePutAway for_results (length rs) xs → (args : List LaunchArg) → AreApart for_results args → (colour : ℕ) →
      arguments (map (known rs) xs) (call_at args colour) ≡ arguments xs (call_at args colour)
  arguments_known xs h [] q colour = refl
  arguments_known xs h (a ∷ args) q colour = λ i. and_argument (argument_known xs h a q.0 colour i) (arguments_known xs h args q.1 colour i)

  abbrev seen_launch : Launch → Launch
  seen_launch l = record l { slots = map (known rs) l.slots }

  launched_known : (l : Launch) → ArePutAway for_results (length rs) l.slots → (args : List LaunchArg) → AreApart for_results args →
      (colours : List ℕ) (k : ℕ) → launched (seen_launch l) (map (call_at args) colours) k ≡ launched l (map (call_at args) colours) k
  launched_known l h args q [] k = refl
  launched_known l h args q (c ∷ colours) zero = refl
  launched_known l h args q (c ∷ colours) (suc k) =
      ap (λ o. hand_then (seen_launch l) o k (launched (seen_launch l) (map (call_at args) colours))) (arguments_known l.slots h args q c)
      ∙ by (arguments l.slots (call_at args c)) k (λ j. launched_known l h args q colours j)
    where
      by : (o : Option (List Value)) (k : ℕ) →
          ((j : ℕ) → launched (seen_launch l) (map (call_at args) colours) j ≡ launched l (map (call_at args) colours) j) →
          hand_then (seen_launch l) o k (launched (seen_launch l) (map (call_at args) colours))
          ≡ hand_then l o k (launched l (map (call_at args) colours))
      by None k same = refl
      by (Some vs) zero same = refl
      by (Some vs) (suc j) same = deep (nat_lt l.depth 64)
        where
          deep : (b : Bool) → ◌≡◌ {A = Launched} (elim b [
            | true ↦ behind_call (record { task = l.task; args = vs }) (launched (seen_launch l) (map (call_at args) colours) j)
            | false ↦ cut_off Depth l.call_line j
          ]) (elim b [
            | true ↦ behind_call (record { task = l.task; args = vs }) (launched l (map (call_at args) colours) j)
            | false ↦ cut_off Depth l.call_line j
          ])
          deep true = ap (behind_call (record { task = l.task; args = vs })) (same j)
          deep false = refl

  yield_same : (r : Launched) (m : Machine) → Fine rs for_results m →
      Calling false m.frame.pc (yield_calls r (eager_machine rs m)) (yield_calls r m)
  yield_same r m f = calling_when false m.frame.pc (nat_lt (m.frame.children + length r.calls) (2 ^ 64)) _ _ _ _
      (calling_when false m.frame.pc (nat_lt (suc m.frame.pc) (2 ^ 32)) _ _ _ _
      (calls_many (behind_launch r m) r.calls refl f.stack f.slots (ap (λ n. n + length r.calls) f.children)) (calls_break _ _)) (calls_break _ _)

  issue_same : (cs : List CallOut) (o : Option Fault) (r : Launched) (m : Machine) → Fine rs for_results m →
      Calling false m.frame.pc (issue cs o r (eager_machine rs m)) (issue cs o r m)
  issue_same [] (Some k) r m f = calls_none _ _ (record { is = refl; fine = (f, tt) })
  issue_same [] None r m f = yield_same r m f
  issue_same (c ∷ cs) o r m f = yield_same r m f

  over_same : (task call_line line : ℕ) (args : List LaunchArg) (m : Machine) → Fine rs for_results m → AreApart for_results args →
      (o : Option Value) → Calling false m.frame.pc
      (launch_over (option_map (known rs) o) (launch_of task call_line line (eager_machine rs m)) args (eager_machine rs m))
      (launch_over o (launch_of task call_line line m) args m)
  over_same task call_line line args m f q (Some (value.Space k)) =
      let l = launch_of task call_line line m in
      let r = launched l (calls_of k args) m.frame.turns in
      subst (λ u. Calling false m.frame.pc (issue_all u (eager_machine rs m)) (issue_all r m))
      (sym (launched_known l f.slots args q (points k) m.frame.turns)) (issue_same r.calls r.fault r m f)
  over_same task call_line line args m f q None = calls_break _ _
  over_same task call_line line args m f q (Some (value.Number z)) = calls_break _ _
  over_same task call_line line args m f q (Some (value.Region r)) = calls_break _ _
  over_same task call_line line args m f q (Some (value.Partition p)) = calls_break _ _
  over_same task call_line line args m f q (Some (value.Pending n)) = by (slice_get rs n)
    where
      by : (o : Option ℤ) → Calling false m.frame.pc
          (launch_over (Some (Rattle.eager_laws.specs.Steps.known_as o n)) (launch_of task call_line line (eager_machine rs m)) args (eager_machine rs m))
          (broken m)
      by (Some z) = calls_break _ _
      by None = calls_break _ _

  pub launch_same : (o : Option TaskCode) (task s call_line : ℕ) (args : List LaunchArg) (line : ℕ) (m : Machine) →
      Fine rs for_results m → AreApart for_results args →
      Calling false m.frame.pc (launch_task o task s call_line args line (eager_machine rs m)) (launch_task o task s call_line args line m)
  launch_same None task s call_line args line m f q = calls_break _ _
  launch_same (Some t) task s call_line args line m f q =
      subst (λ b. Calling false m.frame.pc
      (when b (launch_over (slice_get (map (known rs) m.frame.slots) s) (launch_of task call_line line (eager_machine rs m)) args (eager_machine rs m)) (broken (eager_machine rs m)))
      (launch_task (Some t) task s call_line args line m))
      (sym (ap (λ b. t.params == length args && b) (all_held_known m.frame.slots f.slots args q)))
      (calling_when false m.frame.pc (t.params == length args && list_all (is_held m.frame.slots) args) _ _ _ _
      (subst (λ o. Calling false m.frame.pc (launch_over o (launch_of task call_line line (eager_machine rs m)) args (eager_machine rs m))
      (launch_over (slice_get m.frame.slots s) (launch_of task call_line line m) args m))
      (sym (slot_known rs m.frame.slots s)) (over_same task call_line line args m f q (slice_get m.frame.slots s)))
      (calls_break _ _))
