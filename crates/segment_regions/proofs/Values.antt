-- What is so of all values that a segment has is so of all that it leaves.
use Rattle.std.proofs.Common.{arith, ◌≡◌, ◌∷◌, ◌++◌, ◌==◌, ℕ, zero, suc, Bool, List, None, Option, Some, [], false, length, pos, refl, subst, true}
use Rattle.std.specs.Ordering.{int_eq}
use Rattle.std.specs.Prelude.{All, nat_le, not, slice_get}
use Rattle.std.specs.List.{Contains}
use Rattle.std.proofs.lemmas.List.Elements.{All-contains, All-contains_itself, All-nil, All-weaker, Contains-append_left, Contains-append_right}
use Rattle.lane_kernels.specs.Numbers.{wrapped}
use Rattle.lane_kernels.specs.declared.numbers.Mode.TheVariants as mode
use Rattle.regent_tree.specs.Partitions.{both_flag, both_sets, by_field_flag, by_field_sets, either_flag, either_sets, equal_flag, equal_sets, image_flag, image_sets, minus_flag, minus_sets, preimage_flag, preimage_sets}
use Rattle.regent_tree.specs.Values.{target_kept}
use Rattle.regent_tree.specs.declared.expression.Arithmetic.TheVariants as arithmetics
use Rattle.regent_tree.specs.declared.expression.Comparison.TheVariants as comparisons
use Rattle.regent_tree.specs.declared.outcome.Fault.{Fault}
use Rattle.task_code.specs.declared.code.Code.{Code}
use Rattle.task_code.specs.declared.code.Line.{Line}
use Rattle.task_code.specs.declared.code.TaskCode.{TaskCode}
use Rattle.task_code.specs.declared.instr.Instr.{Instr}
use Rattle.task_code.specs.declared.instr.Instr.TheVariants as instr
use Rattle.machine_terms.specs.declared.frame.Before.{Before}
use Rattle.machine_terms.specs.declared.frame.Frame.{Frame}
use Rattle.machine_terms.specs.declared.outcome.Yield.{Yield}
use Rattle.machine_terms.specs.declared.outcome.Yield.TheVariants as yield
use Rattle.machine_terms.specs.declared.value.Value.{Value}
use Rattle.machine_terms.specs.declared.value.Value.TheVariants as value
use Rattle.machine_terms.specs.Calls.{count_numbers, take_values}
use Rattle.machine_terms.specs.Jumps.{fetch}
use Rattle.machine_terms.specs.Machine.{Machine, Stepped, goes, prints, stops}
use Rattle.machine_terms.specs.Numbers.{inverted, negated}
use Rattle.machine_terms.specs.Pointers.{aim, is_null, region_slot, regions_in}
use Rattle.machine_terms.specs.Regions.{coloured, column_of, lie_in, sets_of}
use Rattle.machine_terms.specs.Segments.{Stopped, act, act_at, enough, frame_after, on_stop, opened, run, segment, step, stop_of, stopped_by, stopped_in}
use Rattle.machine_terms.proofs.Kept.{by_slots}
use Rattle.segment_regions.specs.Values.{AfterHas, ComesFrom, FrameHas, SegmentsKeepValues, YieldHas, child, had, number, pending, space, values_of}
use Rattle.segment_regions.proofs.Instructions.{arithmetic_keeps, call_keeps, cast_keeps, cast_pointer_keeps, child_keeps, column_keeps, compare_keeps, comparison_keeps, count_keeps, discard_keeps, element_keeps, fill_keeps, jump_keeps, load_keeps, move_keeps, partition_made, point_keeps, points_keep, printing_keeps, read_keeps, replaced_keeps, root_keeps, set_keeps, space_of_keeps, store_keeps}
use Rattle.segment_regions.proofs.Launches.{launch_keeps}
use Rattle.segment_regions.proofs.Words.{FrameFrom, IsKept, IsKeptFrom, Keeps, choose_keeps, colours_keep, kept_from_none, next_keeps, number_keeps, number_next, partition_keeps, pushed, region_keeps, space_keeps, taken_have, turn_keeps, two_keeps, when_keeps}

module _ (V : Value → Type 0) (from : ℕ) (k : IsKeptFrom V from) (code : Code) where
  act_keeps : (body : List Line) (i : Instr) (line : ℕ) (m : Machine) → FrameFrom V from m.frame → Keeps V from k (act code body i line m)
  act_keeps body (instr.Num z) line m h = number_next V from k z m.frame.stack m h h.stack
  act_keeps body (instr.Load s) line m h = load_keeps V from k (slice_get m.frame.slots s) s m refl h
  act_keeps body (instr.Store s) line m h = store_keeps V from k s m.frame.stack m h h.stack
  act_keeps body instr.Drop line m h = discard_keeps V from k m.frame.stack m h h.stack
  act_keeps body (instr.Add w) line m h = arithmetic_keeps V from k arithmetics.Add w line m h
  act_keeps body (instr.Sub w) line m h = arithmetic_keeps V from k arithmetics.Subtract w line m h
  act_keeps body (instr.Mul w) line m h = arithmetic_keeps V from k arithmetics.Multiply w line m h
  act_keeps body (instr.Div w) line m h = arithmetic_keeps V from k arithmetics.Divide w line m h
  act_keeps body (instr.Rem w) line m h = arithmetic_keeps V from k arithmetics.Remainder w line m h
  act_keeps body (instr.Neg w) line m h = replaced_keeps V from k (negated w) m h
  act_keeps body (instr.Wrap w) line m h = replaced_keeps V from k (wrapped w) m h
  act_keeps body instr.Eq line m h = comparison_keeps V from k comparisons.Equal m h
  act_keeps body instr.Ne line m h = comparison_keeps V from k comparisons.NotEqual m h
  act_keeps body instr.Lt line m h = comparison_keeps V from k comparisons.Less m h
  act_keeps body instr.Le line m h = comparison_keeps V from k comparisons.AtMost m h
  act_keeps body instr.Gt line m h = comparison_keeps V from k comparisons.Greater m h
  act_keeps body instr.Ge line m h = comparison_keeps V from k comparisons.AtLeast m h
  act_keeps body instr.PtrEq line m h = compare_keeps V from k (λ b. b) m h
  act_keeps body instr.PtrNe line m h = compare_keeps V from k not m h
  act_keeps body instr.Not line m h = replaced_keeps V from k inverted m h
  act_keeps body (instr.Jump to) line m h = jump_keeps V from k body to m.frame.stack m h h.stack
  act_keeps body (instr.JumpIfNot to) line m h = number_keeps V from k m.frame.stack m _ h h.stack (λ z st g.
      choose_keeps V from k (int_eq z (pos 0)) _ _ (jump_keeps V from k body to st m h g) (next_keeps V from k st m h g))
  act_keeps body (instr.AndJump to) line m h = number_keeps V from k m.frame.stack m _ h h.stack (λ z st g.
      choose_keeps V from k (int_eq z (pos 0)) _ _ (jump_keeps V from k body to (value.Number (pos 0) ∷ st) m h (pushed V from k (value.Number (pos 0)) st (k.number (pos 0)) g)) (next_keeps V from k st m h g))
  act_keeps body (instr.OrJump to) line m h = number_keeps V from k m.frame.stack m _ h h.stack (λ z st g.
      choose_keeps V from k (int_eq z (pos 0)) _ _ (next_keeps V from k st m h g) (jump_keeps V from k body to (value.Number (pos 1) ∷ st) m h (pushed V from k (value.Number (pos 1)) st (k.number (pos 1)) g)))
  act_keeps body instr.Point line m h = number_keeps V from k m.frame.stack m _ h h.stack (λ z st g. point_keeps V from k (target_kept z) line st m h g)
  act_keeps body instr.IsNull line m h = replaced_keeps V from k is_null m h
  act_keeps body (instr.Cast rs) line m h = number_keeps V from k m.frame.stack m _ h h.stack (λ z st g. cast_keeps V from k (regions_in m.frame.slots rs) z st m h g)
  act_keeps body (instr.CastPtr rs) line m h = number_keeps V from k m.frame.stack m _ h h.stack (λ z st g. cast_pointer_keeps V from k (regions_in m.frame.slots rs) (target_kept z) st m h g)
  act_keeps body (instr.Move js) line m h = number_keeps V from k m.frame.stack m _ h h.stack (λ z st g. move_keeps V from k js (target_kept z) st m h g)
  act_keeps body (instr.At s) line m h = number_keeps V from k m.frame.stack m _ h h.stack (λ z st g. element_keeps V from k (region_slot m s) z line st m h g)
  act_keeps body (instr.Read rs f) line m h = number_keeps V from k m.frame.stack m _ h h.stack (λ z st g. read_keeps V from k f line (aim m rs (target_kept z)) st m h g)
  act_keeps body (instr.Write rs f w) line m h = two_keeps V from k m.frame.stack m _ h h.stack (λ v p st g. set_keeps V from k mode.Write w f line v (aim m rs (target_kept p)) st m h g)
  act_keeps body (instr.Reduce rs f o w) line m h = two_keeps V from k m.frame.stack m _ h h.stack (λ v p st g. set_keeps V from k (mode.Reduce o) w f line v (aim m rs (target_kept p)) st m h g)
  act_keeps body (instr.Fill s f w) line m h = region_keeps V from k m s _ h (λ r v. number_keeps V from k m.frame.stack m _ h h.stack (λ z st g. fill_keeps V from k r.root.0 f w z r.points st m h g))
  act_keeps body instr.Space line m h = number_keeps V from k m.frame.stack m _ h h.stack (λ z st g. space_of_keeps V from k z line st m h g)
  act_keeps body (instr.Colors s) line m h = partition_keeps V from k m s _ h (λ p v. when_keeps V from k (nat_le (length p.children) 4194304) _ _
      (next_keeps V from k (value.Space (length p.children) ∷ m.frame.stack) m h (pushed V from k (value.Space (length p.children)) m.frame.stack (k.space (length p.children)) h.stack)) (h, tt))
  act_keeps body (instr.NewRoot n) line m h = space_keeps V from k m.frame.stack m _ h h.stack (λ size st g. root_keeps V from k (slice_get code.spaces n) n size st m h g)
  act_keeps body (instr.Equal s) line m h = region_keeps V from k m s _ h (λ r v. colours_keep V from k line m _ h (λ n st g. partition_made V from k r (equal_sets r.points n) equal_flag st m h v g))
  act_keeps body (instr.ByField s f) line m h = region_keeps V from k m s _ h (λ r v. colours_keep V from k line m _ h (λ n st g.
      column_keeps V from k (column_of m r f r.points) r.root.0 f m _ h (λ zs c. partition_made V from k r (by_field_sets r.points zs n) by_field_flag st m h v g)))
  act_keeps body (instr.Image s p r f) line m h = region_keeps V from k m s _ h (λ a v. partition_keeps V from k m p _ h (λ q u. region_keeps V from k m r _ h (λ b w.
      when_keeps V from k (lie_in q.root.0 (sets_of q) b) _ _ (column_keeps V from k (column_of m b f b.points) b.root.0 f m _ h (λ zs c.
      partition_made V from k a (image_sets a.points (sets_of q) b.points zs c) image_flag m.frame.stack m h v h.stack)) (h, tt))))
  act_keeps body (instr.Preimage s p r f) line m h = region_keeps V from k m s _ h (λ a v. partition_keeps V from k m p _ h (λ q u. region_keeps V from k m r _ h (λ b w.
      when_keeps V from k (lie_in a.root.0 (a.points ∷ []) b) _ _ (column_keeps V from k (column_of m b f b.points) b.root.0 f m _ h (λ zs c.
      partition_made V from k a (preimage_sets a.points (sets_of q) b.points zs c) (preimage_flag q.disjoint) m.frame.stack m h v h.stack)) (h, tt))))
  act_keeps body (instr.Meet p q s) line m h = partition_keeps V from k m p _ h (λ a u. partition_keeps V from k m q _ h (λ b w. region_keeps V from k m s _ h (λ r v.
      partition_made V from k r (both_sets (sets_of a) (sets_of b)) (both_flag a.disjoint b.disjoint) m.frame.stack m h v h.stack)))
  act_keeps body (instr.Join p q s) line m h = partition_keeps V from k m p _ h (λ a u. partition_keeps V from k m q _ h (λ b w. region_keeps V from k m s _ h (λ r v.
      partition_made V from k r (either_sets (sets_of a) (sets_of b)) either_flag m.frame.stack m h v h.stack)))
  act_keeps body (instr.Minus p q s) line m h = partition_keeps V from k m p _ h (λ a u. partition_keeps V from k m q _ h (λ b w. region_keeps V from k m s _ h (λ r v.
      partition_made V from k r (minus_sets (sets_of a) (sets_of b)) (minus_flag a.disjoint) m.frame.stack m h v h.stack)))
  act_keeps body (instr.Child p) line m h = partition_keeps V from k m p _ h (λ q v. number_keeps V from k m.frame.stack m _ h h.stack (λ z st g. child_keeps V from k q (coloured q.children z) z line st m v refl h g))
  act_keeps body instr.Turn line m h = turn_keeps V from k m.frame.turns line m _ h (λ p. record { slots = h.slots; stack = h.stack; children = h.children })
  act_keeps body (instr.NextNumber c l v to) line m h = count_keeps V from k c v to line m (slice_get m.frame.slots c) (slice_get m.frame.slots l) h
  act_keeps body (instr.NextPoint s c v ptr to) line m h = points_keep V from k c v ptr to line m (slice_get m.frame.slots s) (slice_get m.frame.slots c) h
  act_keeps body (instr.Call task n) line m h = call_keeps V from k (slice_get code.tasks task) task n line m h
  act_keeps body (instr.Launch task s call_line args) line m h = launch_keeps V from k (slice_get code.tasks task) task s call_line args line m h
  act_keeps body (instr.Print ps) line m h = printing_keeps V from k ps (take_values (count_numbers ps) m.frame.stack []) m h
      (taken_have V from k (count_numbers ps) m.frame.stack [] h.stack (All-nil V))
  act_keeps body instr.Assert line m h = number_keeps V from k m.frame.stack m _ h h.stack (λ z st g. when_keeps V from k (int_eq z (pos 0)) _ _ (h, tt) (next_keeps V from k st m h g))
  act_keeps body instr.Return line m h = (h, tt)
  act_keeps body instr.ReturnValue line m h = number_keeps V from k m.frame.stack m _ h h.stack (λ z st g. (h, tt))

  -- ---- runs and segments

  line_keeps : (body : List Line) (o : Option Line) (m : Machine) → FrameFrom V from m.frame → Keeps V from k (act_at code body o m)
  line_keeps body None m h = (h, tt)
  line_keeps body (Some l) m h = act_keeps body l.instr l.line m h

  abbrev StopHas : Stopped → Type 0
  StopHas s = FrameFrom V from s.machine.frame × YieldHas V s.ends

  stop_has : (s : Stepped) (text : List ℕ) (more : List ℕ → Machine → Stopped) → Keeps V from k s → ((t : List ℕ) (m : Machine) → FrameFrom V from m.frame → StopHas (more t m)) → StopHas (on_stop s text more)
  stop_has (goes m) text more h f = f text m h
  stop_has (prints t m) text more h f = f (text ++ t) m h
  stop_has (stops y m) text more h f = h

  run_has : (body : List Line) (n : ℕ) (text : List ℕ) (m : Machine) → FrameFrom V from m.frame → StopHas (run code body n text m)
  run_has body zero text m h = (h, tt)
  run_has body (suc n) text m h = stop_has (step code body m) text (run code body n) (line_keeps body (fetch body m.frame.pc) m h) (λ t x g. run_has body n t x g)

  by_has : (o : Option Fault) (t : TaskCode) (m : Machine) → FrameFrom V from m.frame → StopHas (stopped_by o code t m)
  by_has None t m h = run_has t.body (enough t.body m.frame) [] m h
  by_has (Some f) t m h = (h, tt)

  in_has : (o : Option TaskCode) (m : Machine) → FrameFrom V from m.frame → StopHas (stopped_in o code m)
  in_has None m h = (h, tt)
  in_has (Some t) m h = choice (length m.frame.slots == t.slots)
    where
      choice : (q : Bool) → StopHas (by_slots q code t m)
      choice true = by_has m.frame.later t m h
      choice false = (h, tt)

pub frame_is : (y : Yield) (f g : Frame) → frame_after y f ≡ Some g → f ≡ g
frame_is (yield.Calls cs) f g e = cc
frame_is (yield.Want r x) f g e = cc
frame_is (yield.Await n) f g e = cc
frame_is (yield.Make d) f g e = cc
frame_is (yield.End v) f g e = absurd cc
frame_is (yield.Fault x) f g e = absurd cc
frame_is yield.MachineFault f g e = absurd cc

-- what is so of all values that name no region and passes to the children of a partition is so of all that a segment leaves
pub values_kept : (V : Value → Type 0) → IsKept V → (b : Before) → FrameHas V b.frame → AfterHas V (segment b)
values_kept V k b h =
    let s = in_has V 0 (kept_from_none V k) b.code (slice_get b.code.tasks b.frame.task) (opened b) (record { slots = h.slots; stack = h.stack; children = omega arith }) in
    record {
      frame = λ g e. subst (FrameHas V) (frame_is (stop_of b).ends (stop_of b).machine.frame g e) (record { slots = s.0.slots; stack = s.0.stack });
      yields = s.1;
    }

-- and where it is so of children that are still pending, from a number on
pub frame_kept_from : (V : Value → Type 0) (from : ℕ) → IsKeptFrom V from → (b : Before) → FrameFrom V from b.frame →
    (g : Frame) → (segment b).frame ≡ Some g → FrameFrom V from g
frame_kept_from V from k b h g e =
    subst (FrameFrom V from) (frame_is (stop_of b).ends (stop_of b).machine.frame g e)
    (in_has V from k b.code (slice_get b.code.tasks b.frame.task) (opened b) h).0

-- and so of what comes from values of which it is so
pub comes_kept : (V : Value → Type 0) → IsKept V → (vs : List Value) → All V vs → (v : Value) → ComesFrom vs v → V v
comes_kept V k vs h _ (had v c) = All-contains V vs v h c
comes_kept V k vs h _ (number z) = k.number z
comes_kept V k vs h _ (space n) = k.space n
comes_kept V k vs h _ (pending i) = k.pending i
comes_kept V k vs h _ (child p r c at) = k.child p r (comes_kept V k vs h (value.Partition p) c) at

comes_is_kept : (vs : List Value) → IsKept (ComesFrom vs)
comes_is_kept vs = record { number = λ z. number z; space = λ n. space n; pending = λ i. pending i; child = λ p r c at. child p r c at }

pub segments_keep_values : SegmentsKeepValues
segments_keep_values b =
    let vs = values_of b.frame in
    values_kept (ComesFrom vs) (comes_is_kept vs) b (record { slots = in_front b.frame.slots b.frame.stack; stack = behind b.frame.slots b.frame.stack })
  where
    in_front : (xs ys : List Value) → All (ComesFrom (xs ++ ys)) xs
    in_front xs ys = All-weaker (Contains xs) (ComesFrom (xs ++ ys)) (λ v c. had v (Contains-append_left xs ys v c)) xs (All-contains_itself xs)

    behind : (xs ys : List Value) → All (ComesFrom (xs ++ ys)) ys
    behind xs ys = All-weaker (Contains ys) (ComesFrom (xs ++ ys)) (λ v c. had v (Contains-append_right xs ys v c)) ys (All-contains_itself ys)
