-- Launches, on a machine with other numbers of roots and nodes.
use Rattle.std.proofs.Common.{◌≡◌, ℕ, zero, suc, ◌+◌, ◌^◌, List, [], ◌∷◌, Bool, true, false, Option, Some, None, refl, sym, ap, ◌∙◌, subst, map, option_map}
use Rattle.std.specs.Prelude.{length, nat_lt, slice_get, ◌==◌, ◌&&◌}
use Rattle.std.specs.List.{list_all}
use Rattle.std.proofs.lemmas.List.{length-map}
use Rattle.std.proofs.lemmas.Option.{slice_get-map}
use Rattle.index_launch.specs.Points.{calls_of}
use Rattle.index_launch.specs.declared.points.LaunchArg.{LaunchArg}
use Rattle.index_launch.specs.declared.points.LaunchArg.TheVariants as launch_arg
use Rattle.index_launch.specs.declared.points.PointArg.{PointArg}
use Rattle.index_launch.specs.declared.points.PointArg.TheVariants as point
use Rattle.regent_tree.specs.declared.outcome.Fault.{Fault}
use Rattle.task_code.specs.declared.code.TaskCode.{TaskCode}
use Rattle.machine_terms.specs.declared.outcome.CallOut.{CallOut}
use Rattle.machine_terms.specs.declared.outcome.Yield.TheVariants as yield
use Rattle.machine_terms.specs.declared.value.PartitionValue.{PartitionValue}
use Rattle.machine_terms.specs.declared.value.RegionValue.{RegionValue}
use Rattle.machine_terms.specs.declared.value.Value.{Value}
use Rattle.machine_terms.specs.declared.value.Value.TheVariants as value
use Rattle.machine_terms.specs.Launches.{Launch, Launched, and_argument, argument, arguments, behind_call, child_in, cut_off, hand_then, is_held, is_partition, is_settled, issue, issue_all, launch_of, launch_over, launch_task, launched, yield_calls}
use Rattle.machine_terms.specs.Machine.{Machine, Stepped, broken, when, yields}
use Rattle.machine_terms.specs.Regions.{partition_in}
use Rattle.regent_tree.specs.declared.outcome.FaultKind.TheVariants.{Depth}
use Rattle.segment_renaming.specs.Renaming.{Names, call_to, machine_to, partition_to, region_to, value_to}
use Rattle.segment_renaming.proofs.Alike.{partition_in_to, slot_to}
use Rattle.segment_renaming.proofs.Operations.{slot_same}
use Rattle.segment_renaming.proofs.Words.{Same, breaks, done, same_when, when_alike}

module _ (n : Names) where
  -- ---- arguments

  settled_to : (o : Option Value) → is_settled (option_map (value_to n) o) ≡ is_settled o
  settled_to None = refl
  settled_to (Some (value.Number z)) = refl
  settled_to (Some (value.Space k)) = refl
  settled_to (Some (value.Region r)) = refl
  settled_to (Some (value.Partition p)) = refl
  settled_to (Some (value.Pending i)) = refl

  parted_to : (o : Option PartitionValue) → is_partition (option_map (partition_to n) o) ≡ is_partition o
  parted_to None = refl
  parted_to (Some p) = refl

  held_to : (vs : List Value) (a : LaunchArg) → is_held (map (value_to n) vs) a ≡ is_held vs a
  held_to vs (launch_arg.Child s) = ap (λ o. is_partition (partition_in o)) (slot_to n vs s)
      ∙ ap is_partition (partition_in_to n (slice_get vs s)) ∙ parted_to (partition_in (slice_get vs s))
  held_to vs (launch_arg.Keep s) = ap is_settled (slot_to n vs s) ∙ settled_to (slice_get vs s)
  held_to vs (launch_arg.Number z) = refl
  held_to vs launch_arg.Point = refl

  all_held_to : (vs : List Value) (args : List LaunchArg) → list_all (is_held (map (value_to n) vs)) args ≡ list_all (is_held vs) args
  all_held_to vs [] = refl
  all_held_to vs (a ∷ args) = λ i. held_to vs a i && all_held_to vs args i

  child_to : (o : Option PartitionValue) (c : ℕ) → child_in (option_map (partition_to n) o) c ≡ option_map (value_to n) (child_in o c)
  child_to None c = refl
  child_to (Some p) c = ap (option_map value.Region) (slice_get-map (region_to n) p.children c) ∙ by_child (slice_get p.children c)
    where
      by_child : (o : Option RegionValue) → option_map value.Region (option_map (region_to n) o) ≡ option_map (value_to n) (option_map value.Region o)
      by_child None = refl
      by_child (Some r) = refl

  argument_to : (vs : List Value) (a : PointArg) → argument (map (value_to n) vs) a ≡ option_map (value_to n) (argument vs a)
  argument_to vs (point.Child s c) = ap (λ o. child_in (partition_in o) c) (slot_to n vs s)
      ∙ ap (λ o. child_in o c) (partition_in_to n (slice_get vs s)) ∙ child_to (partition_in (slice_get vs s)) c
  argument_to vs (point.Keep s) = slot_to n vs s
  argument_to vs (point.Number z) = refl

  and_to : (o : Option Value) (rest : Option (List Value)) →
      and_argument (option_map (value_to n) o) (option_map (map (value_to n)) rest) ≡ option_map (map (value_to n)) (and_argument o rest)
  and_to None rest = refl
  and_to (Some v) None = refl
  and_to (Some v) (Some vs) = refl

  arguments_to : (vs : List Value) (args : List PointArg) → arguments (map (value_to n) vs) args ≡ option_map (map (value_to n)) (arguments vs args)
  arguments_to vs [] = refl
  arguments_to vs (a ∷ args) = (λ i. and_argument (argument_to vs a i) (arguments_to vs args i)) ∙ and_to (argument vs a) (arguments vs args)

  -- ---- the calls

  abbrev launch_to : Launch → Launch
  launch_to l = record l { slots = map (value_to n) l.slots }

  abbrev result_to : Launched → Launched
  result_to r = record r { calls = map (call_to n) r.calls }

  launched_to : (l : Launch) (calls : List (List PointArg)) (k : ℕ) → launched (launch_to l) calls k ≡ result_to (launched l calls k)
  launched_to l [] k = refl
  launched_to l (args ∷ rest) zero = refl
  launched_to l (args ∷ rest) (suc k) =
      ap (λ o. hand_then (launch_to l) o k (launched (launch_to l) rest)) (arguments_to l.slots args) ∙ by_arguments (arguments l.slots args) k (λ j. launched_to l rest j)
    where
      by_arguments : (o : Option (List Value)) (k : ℕ) → ((j : ℕ) → launched (launch_to l) rest j ≡ result_to (launched l rest j)) →
          hand_then (launch_to l) (option_map (map (value_to n)) o) k (launched (launch_to l) rest) ≡ result_to (hand_then l o k (launched l rest))
      by_arguments None k same = refl
      by_arguments (Some vs) zero same = refl
      by_arguments (Some vs) (suc j) same = by_depth (nat_lt l.depth 64)
        where
          by_depth : (b : Bool) → elim b [
            | true ↦ behind_call (record { task = l.task; args = map (value_to n) vs }) (launched (launch_to l) rest j)
            | false ↦ cut_off Depth l.call_line j
          ] ≡ result_to (elim b [
            | true ↦ behind_call (record { task = l.task; args = vs }) (launched l rest j)
            | false ↦ cut_off Depth l.call_line j
          ])
          by_depth true = ap (behind_call (record { task = l.task; args = map (value_to n) vs })) (same j)
          by_depth false = refl

  -- ---- the instruction

  -- with a number of calls
  abbrev yields_with : ℕ → Launched → Machine → Stepped
  yields_with k r m = when (nat_lt (m.frame.children + k) (2 ^ 64)) (yields (yield.Calls r.calls) (record m {
    frame = record m.frame { pc = suc m.frame.pc; turns = r.turns; children = m.frame.children + k; later = r.fault };
  })) (broken m)

  yield_same : (r : Launched) (m : Machine) → Same n (yield_calls (result_to r) (machine_to n m)) (yield_calls r m)
  yield_same r m = subst (λ k. Same n (yields_with k (result_to r) (machine_to n m)) (yields_with (length r.calls) r m))
      (sym (length-map r.calls (call_to n)))
      (same_when n (nat_lt (m.frame.children + length r.calls) (2 ^ 64)) _ _ _ _
      (same_when n (nat_lt (suc m.frame.pc) (2 ^ 32)) _ _ _ _ (done n refl) (done n refl)) (breaks n m))

  issue_same : (cs : List CallOut) (f : Option Fault) (r : Launched) (m : Machine) →
      Same n (issue (map (call_to n) cs) f (result_to r) (machine_to n m)) (issue cs f r m)
  issue_same [] (Some f) r m = done n refl
  issue_same [] None r m = yield_same r m
  issue_same (c ∷ cs) f r m = yield_same r m

  over_same : (task call_line line : ℕ) (args : List LaunchArg) (m : Machine) (o : Option Value) →
      Same n (launch_over (option_map (value_to n) o) (launch_of task call_line line (machine_to n m)) args (machine_to n m))
      (launch_over o (launch_of task call_line line m) args m)
  over_same task call_line line args m (Some (value.Space k)) =
      let l = launch_of task call_line line m in
      let r = launched l (calls_of k args) m.frame.turns in
      subst (λ q. Same n (issue_all q (machine_to n m)) (issue_all r m))
      (sym (launched_to l (calls_of k args) m.frame.turns)) (issue_same r.calls r.fault r m)
  over_same task call_line line args m None = breaks n m
  over_same task call_line line args m (Some (value.Number z)) = breaks n m
  over_same task call_line line args m (Some (value.Region r)) = breaks n m
  over_same task call_line line args m (Some (value.Partition p)) = breaks n m
  over_same task call_line line args m (Some (value.Pending i)) = breaks n m

  pub launch_same : (o : Option TaskCode) (task s call_line : ℕ) (args : List LaunchArg) (line : ℕ) (m : Machine) →
      Same n (launch_task o task s call_line args line (machine_to n m)) (launch_task o task s call_line args line m)
  launch_same None task s call_line args line m = breaks n m
  launch_same (Some t) task s call_line args line m = when_alike n _ _ _ _ _ _
      (ap (λ b. t.params == length args && b) (all_held_to m.frame.slots args))
      (slot_same n m.frame.slots s (λ o. launch_over o (launch_of task call_line line (machine_to n m)) args (machine_to n m)) _
      (over_same task call_line line args m (slice_get m.frame.slots s))) (breaks n m)
