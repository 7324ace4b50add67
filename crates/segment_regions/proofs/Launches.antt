-- The calls of a launch are handed what is so of all values.
use Rattle.std.proofs.Common.{◌≡◌, ◌∷◌, ◌+◌, ◌^◌, ℕ, zero, suc, Bool, List, None, Option, Some, [], arith, false, option_map, refl, true}
use Rattle.std.specs.Prelude.{All, length, nat_lt, slice_get, ◌==◌, ◌&&◌}
use Rattle.std.specs.List.{list_all}
use Rattle.std.proofs.lemmas.List.Elements.{All-cons, All-contains, All-nil}
use Rattle.index_launch.specs.Points.{calls_of}
use Rattle.index_launch.specs.declared.points.LaunchArg.{LaunchArg}
use Rattle.index_launch.specs.declared.points.PointArg.{PointArg}
use Rattle.index_launch.specs.declared.points.PointArg.TheVariants as point
use Rattle.regent_tree.specs.declared.outcome.Fault.{Fault}
use Rattle.regent_tree.specs.declared.outcome.FaultKind.TheVariants.{Depth}
use Rattle.task_code.specs.declared.code.TaskCode.{TaskCode}
use Rattle.machine_terms.specs.declared.outcome.CallOut.{CallOut}
use Rattle.machine_terms.specs.declared.outcome.Yield.TheVariants as yield
use Rattle.machine_terms.specs.declared.value.RegionValue.{RegionValue}
use Rattle.machine_terms.specs.declared.value.Value.{Value}
use Rattle.machine_terms.specs.declared.value.Value.TheVariants as value
use Rattle.machine_terms.specs.Launches.{Launch, Launched, and_argument, argument, arguments, behind_call, behind_launch, child_in, cut_off, hand_then, is_held, issue, launch_of, launch_over, launch_task, launched, yield_calls}
use Rattle.machine_terms.specs.Machine.{Machine}
use Rattle.machine_terms.specs.Regions.{partition_in}
use Rattle.segment_regions.proofs.Words.{FrameFrom, IsKeptFrom, Keeps, got, when_keeps, yields_keeps}

module _ (V : Value → Type 0) (from : ℕ) (k : IsKeptFrom V from) where
  abbrev Had : Option Value → Type 0
  Had None = Unit {0}
  Had (Some v) = V v

  abbrev HadAll : Option (List Value) → Type 0
  HadAll None = Unit {0}
  HadAll (Some vs) = All V vs

  abbrev AreHanded : List CallOut → Type 0
  AreHanded cs = All (λ (c : CallOut). All V c.args) cs

  abbrev HasHanded : Launched → Type 0
  HasHanded r = AreHanded r.calls

  -- ---- arguments

  slot_had : (vs : List Value) (s : ℕ) (o : Option Value) → slice_get vs s ≡ o → All V vs → Had o
  slot_had vs s None e h = tt
  slot_had vs s (Some v) e h = All-contains V vs v h (got vs s v e)

  child_had : (vs : List Value) (s c : ℕ) (o : Option Value) → slice_get vs s ≡ o → All V vs → Had (child_in (partition_in o) c)
  child_had vs s c None e h = tt
  child_had vs s c (Some (value.Number z)) e h = tt
  child_had vs s c (Some (value.Space n)) e h = tt
  child_had vs s c (Some (value.Region r)) e h = tt
  child_had vs s c (Some (value.Pending i)) e h = tt
  child_had vs s c (Some (value.Partition p)) e h = by_child (slice_get p.children c) refl
    where
      by_child : (o : Option RegionValue) → slice_get p.children c ≡ o → Had (option_map value.Region o)
      by_child None d = tt
      by_child (Some r) d = k.child p r (All-contains V vs (value.Partition p) h (got vs s (value.Partition p) e)) (got p.children c r d)

  argument_had : (vs : List Value) (a : PointArg) → All V vs → Had (argument vs a)
  argument_had vs (point.Child s c) h = child_had vs s c (slice_get vs s) refl h
  argument_had vs (point.Keep s) h = slot_had vs s (slice_get vs s) refl h
  argument_had vs (point.Number z) h = k.number z

  both_had : (o : Option Value) (rest : Option (List Value)) → Had o → HadAll rest → HadAll (and_argument o rest)
  both_had None rest h g = tt
  both_had (Some v) None h g = tt
  both_had (Some v) (Some vs) h g = All-cons V v vs h g

  arguments_had : (vs : List Value) (args : List PointArg) → All V vs → HadAll (arguments vs args)
  arguments_had vs [] h = All-nil V
  arguments_had vs (a ∷ args) h = both_had (argument vs a) (arguments vs args) (argument_had vs a h) (arguments_had vs args h)

  -- ---- the calls

  none_handed : AreHanded []
  none_handed = All-nil (λ (c : CallOut). All V c.args)

  launched_have : (l : Launch) (calls : List (List PointArg)) (n : ℕ) → All V l.slots → HasHanded (launched l calls n)
  launched_have l [] n h = none_handed
  launched_have l (args ∷ rest) zero h = none_handed
  launched_have l (args ∷ rest) (suc n) h = by_arguments (arguments l.slots args) n (arguments_had l.slots args h) (λ j. launched_have l rest j h)
    where
      by_arguments : (o : Option (List Value)) (n : ℕ) → HadAll o → ((j : ℕ) → HasHanded (launched l rest j)) →
          HasHanded (hand_then l o n (launched l rest))
      by_arguments None n g more = none_handed
      by_arguments (Some vs) zero g more = none_handed
      by_arguments (Some vs) (suc j) g more = by_depth (nat_lt l.depth 64)
        where
          by_depth : (b : Bool) → HasHanded (elim b [
            | true ↦ behind_call (record { task = l.task; args = vs }) (launched l rest j)
            | false ↦ cut_off Depth l.call_line j
          ])
          by_depth true = All-cons (λ (c : CallOut). All V c.args) (record { task = l.task; args = vs }) (launched l rest j).calls g (more j)
          by_depth false = none_handed

  -- ---- the instruction

  yield_keeps : (r : Launched) (m : Machine) → FrameFrom V from m.frame → AreHanded r.calls → Keeps V from k (yield_calls r m)
  yield_keeps r m h g = when_keeps V from k (nat_lt (m.frame.children + length r.calls) (2 ^ 64)) _ _
      (yields_keeps V from k (yield.Calls r.calls) (behind_launch r m) (record { slots = h.slots; stack = h.stack; children = omega (arith, h.children) }) g) (h, tt)

  issue_keeps : (cs : List CallOut) (f : Option Fault) (r : Launched) (m : Machine) → FrameFrom V from m.frame → AreHanded r.calls → Keeps V from k (issue cs f r m)
  issue_keeps [] (Some f) r m h g = (h, tt)
  issue_keeps [] None r m h g = yield_keeps r m h g
  issue_keeps (c ∷ cs) f r m h g = yield_keeps r m h g

  over_keeps : (o : Option Value) (task call_line line : ℕ) (args : List LaunchArg) (m : Machine) → FrameFrom V from m.frame →
      Keeps V from k (launch_over o (launch_of task call_line line m) args m)
  over_keeps (Some (value.Space n)) task call_line line args m h =
      let l = launch_of task call_line line m in
      let r = launched l (calls_of n args) m.frame.turns in
      issue_keeps r.calls r.fault r m h (launched_have l (calls_of n args) m.frame.turns h.slots)
  over_keeps None task call_line line args m h = (h, tt)
  over_keeps (Some (value.Number z)) task call_line line args m h = (h, tt)
  over_keeps (Some (value.Region r)) task call_line line args m h = (h, tt)
  over_keeps (Some (value.Partition p)) task call_line line args m h = (h, tt)
  over_keeps (Some (value.Pending i)) task call_line line args m h = (h, tt)

  pub launch_keeps : (o : Option TaskCode) (task s call_line : ℕ) (args : List LaunchArg) (line : ℕ) (m : Machine) → FrameFrom V from m.frame →
      Keeps V from k (launch_task o task s call_line args line m)
  launch_keeps None task s call_line args line m h = (h, tt)
  launch_keeps (Some t) task s call_line args line m h = when_keeps V from k (t.params == length args && list_all (is_held m.frame.slots) args) _ _
      (over_keeps (slice_get m.frame.slots s) task call_line line args m h) (h, tt)
