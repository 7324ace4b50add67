-- How each of the instructions goes on.
use Rattle.std.proofs.Common.{◌≡◌, arith, ℕ, ℤ, suc, ◌^◌, pos, List, [], ◌∷◌, Bool, true, false, Option, Some, None, refl, ap, ◌∙◌}
use Rattle.std.specs.Prelude.{slice_get, length, nat_lt, nat_le, ◌==◌}
use Rattle.std.specs.Ordering.{int_eq}
use Rattle.lane_kernels.specs.declared.numbers.Mode.TheVariants as mode
use Rattle.regent_tree.specs.declared.expression.Arithmetic.TheVariants as arithmetic
use Rattle.regent_tree.specs.Partitions.{equal_sets, by_field_sets, image_sets, preimage_sets, both_sets, either_sets, minus_sets, equal_flag, by_field_flag, image_flag, preimage_flag, both_flag, either_flag, minus_flag}
use Rattle.regent_tree.specs.Values.{target_kept}
use Rattle.task_code.specs.declared.code.Code.{Code}
use Rattle.task_code.specs.declared.code.TaskCode.{TaskCode}
use Rattle.task_code.specs.declared.instr.Instr.{Instr}
use Rattle.task_code.specs.declared.instr.Instr.TheVariants as instr
use Rattle.task_code.specs.declared.instr.PrintPart.{PrintPart}
use Rattle.regent_tree.specs.declared.outcome.FaultKind.TheVariants.{Depth}
use Rattle.machine_terms.specs.declared.outcome.Yield.TheVariants as yield
use Rattle.machine_terms.specs.declared.value.Value.{Value}
use Rattle.machine_terms.specs.declared.value.Value.TheVariants.{Space}
use Rattle.machine_terms.specs.Machine.{Machine, when, with_turns, next, faults, broken, on_number}
use Rattle.machine_terms.specs.Pointers.{region_slot, regions_in, aim}
use Rattle.machine_terms.specs.Regions.{partition_slot, sets_of, on_column, lie_in, coloured, on_colours, partition, column_of, child_at, fill_points}
use Rattle.machine_terms.specs.Calls.{count_numbers, Taken, few, taken, take_values, calling, call_task, yield_call, writing, printing, text_of}
use Rattle.machine_terms.specs.Segments.{act}
use Rattle.machine_terms.proofs.KeptParts.{column_none}
use Rattle.machine_terms.proofs.StepKinds.{Asking, Kind, fixed, steady_at, fixed_turns, over, called, printed, turned, when_kind, stops_kind, next_kind, number_kind, two_kind, turn_kind, region_kind, partition_kind, space_kind, colours_kind, column_kind, choose_kind, is_launch, key_of, slot_of, pointer_key, region_key}
use Rattle.machine_terms.proofs.Launches.{launch_kind}
use Rattle.machine_terms.proofs.NumberKinds.{load_kind, store_kind, discard_kind, jump_kind, count_kind, points_kind, arithmetic_kind}
use Rattle.machine_terms.proofs.RegionKinds.{pointer_kind, move_kind, cast_kind, cast_pointer_kind, element_kind, read_kind, set_kind, space_of_kind, root_kind, child_kind, fill_kind, made_kind, over_three, over_sets}
use Rattle.std.specs.Prelude.{not}
use Rattle.regent_tree.specs.declared.expression.Comparison.{Comparison}
use Rattle.regent_tree.specs.declared.expression.Comparison.TheVariants as comparisons
use Rattle.lane_kernels.specs.Numbers.{wrapped}
use Rattle.machine_terms.specs.Numbers.{comparison, replaced, negated, inverted}
use Rattle.machine_terms.specs.Pointers.{compare, is_null}

module _ (ask : Asking) where
  calling_kind : (task line : ℕ) (t : Taken) (m : Machine) → Kind ask m (calling task line t m)
  calling_kind task line few m = stops_kind ask _ m tt
  calling_kind task line (taken vs st) m = turn_kind ask m.frame.turns line m _ refl (λ p e.
      deep p e (nat_lt m.frame.depth 64) refl)
    where
      deep : (p : ℕ) → suc p ≡ m.frame.turns → (b : Bool) → nat_lt m.frame.depth 64 ≡ b →
          Kind ask m (when b (yield_call task vs st (with_turns p m)) (faults Depth line (with_turns p m)))
      deep p e true d = when_kind ask m (nat_lt (suc m.frame.children) (2 ^ 64)) _ _
          (when_kind ask m (nat_lt (suc m.frame.pc) (2 ^ 32)) _ _
          (called _ _ (record { task = refl; slots = refl; depth = refl; own = refl; needs = refl; parts = refl; fits = λ h. h }) (omega (arith, e)) refl d (λ n. refl))
          (over _ _ tt (record { task = refl; slots = refl; depth = refl; own = refl; needs = refl; parts = refl; fits = λ h. h })))
          (over _ _ tt (record { task = refl; slots = refl; depth = refl; own = refl; needs = refl; parts = refl; fits = λ h. h }))
      deep p e false d = over _ _ tt (fixed_turns p m)

  call_kind : (o : Option TaskCode) (task n line : ℕ) (m : Machine) → Kind ask m (call_task o task n line m)
  call_kind None task n line m = stops_kind ask _ m tt
  call_kind (Some t) task n line m = when_kind ask m (t.params == n) _ _
      (calling_kind task line (take_values n m.frame.stack []) m) (stops_kind ask _ m tt)

  writing_kind : (o : Option (List ℕ)) (st : List Value) (m : Machine) → Kind ask m (writing o st m)
  writing_kind None st m = stops_kind ask _ m tt
  writing_kind (Some t) st m = printed t _ (steady_at _ st m) refl refl

  printing_kind : (ps : List PrintPart) (t : Taken) (m : Machine) → Kind ask m (printing ps t m)
  printing_kind ps few m = stops_kind ask _ m tt
  printing_kind ps (taken vs st) m = writing_kind (text_of ps vs) st m

  -- ---- numbers from the stack, for which there is always another

  replaced_kind : (f : ℤ → ℤ) (m : Machine) → Kind ask m (replaced f m)
  replaced_kind f m = number_kind ask m m.frame.stack m _ (fixed m) (λ z st e. next_kind ask _ m)

  comparison_kind : (c : Comparison) (m : Machine) → Kind ask m (comparison c m)
  comparison_kind c m = two_kind ask m m.frame.stack m _ (fixed m) (λ a b st e. next_kind ask _ m)

  compare_kind : (f : Bool → Bool) (m : Machine) → Kind ask m (compare f m)
  compare_kind f m = two_kind ask m m.frame.stack m _ (fixed m) (λ a b st e. next_kind ask _ m)

  -- ---- every instruction

  pub act_kind : (code : Code) (i : Instr) (line : ℕ) (m : Machine) → ask.key ≡ key_of i m.frame → ask.slot ≡ slot_of i m.frame → ask.launch ≡ is_launch i →
      Kind ask m (act code ask.body i line m)
  act_kind code (instr.Num z) line m keyed held launched = next_kind ask _ m
  act_kind code (instr.Load s) line m keyed held launched = load_kind ask m (slice_get m.frame.slots s) held
  act_kind code (instr.Store s) line m keyed held launched = store_kind ask s m.frame.stack m
  act_kind code instr.Drop line m keyed held launched = discard_kind ask m.frame.stack m
  act_kind code (instr.Add w) line m keyed held launched = arithmetic_kind ask arithmetic.Add w line m
  act_kind code (instr.Sub w) line m keyed held launched = arithmetic_kind ask arithmetic.Subtract w line m
  act_kind code (instr.Mul w) line m keyed held launched = arithmetic_kind ask arithmetic.Multiply w line m
  act_kind code (instr.Div w) line m keyed held launched = arithmetic_kind ask arithmetic.Divide w line m
  act_kind code (instr.Rem w) line m keyed held launched = arithmetic_kind ask arithmetic.Remainder w line m
  act_kind code (instr.Neg w) line m keyed held launched = replaced_kind (negated w) m
  act_kind code (instr.Wrap w) line m keyed held launched = replaced_kind (wrapped w) m
  act_kind code instr.Eq line m keyed held launched = comparison_kind comparisons.Equal m
  act_kind code instr.Ne line m keyed held launched = comparison_kind comparisons.NotEqual m
  act_kind code instr.Lt line m keyed held launched = comparison_kind comparisons.Less m
  act_kind code instr.Le line m keyed held launched = comparison_kind comparisons.AtMost m
  act_kind code instr.Gt line m keyed held launched = comparison_kind comparisons.Greater m
  act_kind code instr.Ge line m keyed held launched = comparison_kind comparisons.AtLeast m
  act_kind code instr.PtrEq line m keyed held launched = compare_kind (λ b. b) m
  act_kind code instr.PtrNe line m keyed held launched = compare_kind not m
  act_kind code instr.Not line m keyed held launched = replaced_kind inverted m
  act_kind code (instr.Jump to) line m keyed held launched = jump_kind ask to m.frame.stack m
  act_kind code (instr.JumpIfNot to) line m keyed held launched = number_kind ask _ m.frame.stack m _ (fixed _) (λ z st e.
      choose_kind ask _ (int_eq z (pos 0)) _ _ (jump_kind ask to st m) (next_kind ask st m))
  act_kind code (instr.AndJump to) line m keyed held launched = number_kind ask _ m.frame.stack m _ (fixed _) (λ z st e.
      choose_kind ask _ (int_eq z (pos 0)) _ _ (jump_kind ask to _ m) (next_kind ask st m))
  act_kind code (instr.OrJump to) line m keyed held launched = number_kind ask _ m.frame.stack m _ (fixed _) (λ z st e.
      choose_kind ask _ (int_eq z (pos 0)) _ _ (next_kind ask st m) (jump_kind ask to _ m))
  act_kind code instr.Point line m keyed held launched = number_kind ask _ m.frame.stack m _ (fixed _) (λ z st e. pointer_kind ask (target_kept z) line st m)
  act_kind code instr.IsNull line m keyed held launched = replaced_kind is_null m
  act_kind code (instr.Cast rs) line m keyed held launched = number_kind ask _ m.frame.stack m _ (fixed _) (λ z st e. cast_kind ask (regions_in m.frame.slots rs) z st m)
  act_kind code (instr.CastPtr rs) line m keyed held launched = number_kind ask _ m.frame.stack m _ (fixed _) (λ z st e. cast_pointer_kind ask (regions_in m.frame.slots rs) (target_kept z) st m)
  act_kind code (instr.Move js) line m keyed held launched = number_kind ask _ m.frame.stack m _ (fixed _) (λ z st e. move_kind ask js (target_kept z) st m)
  act_kind code (instr.At s) line m keyed held launched = number_kind ask _ m.frame.stack m _ (fixed _) (λ z st e. element_kind ask (region_slot m s) z line st m)
  act_kind code (instr.Read rs f) line m keyed held launched = number_kind ask _ m.frame.stack m _ (fixed _) (λ z st e. read_kind ask f line (aim m rs (target_kept z)) st m (keyed ∙ ap (pointer_key m.frame rs f) e))
  act_kind code (instr.Write rs f w) line m keyed held launched = two_kind ask _ m.frame.stack m _ (fixed _) (λ v p st e.
      set_kind ask mode.Write w f line v (aim m rs (target_kept p)) st m (keyed ∙ ap (pointer_key m.frame rs f) e))
  act_kind code (instr.Reduce rs f o w) line m keyed held launched = two_kind ask _ m.frame.stack m _ (fixed _) (λ v p st e.
      set_kind ask (mode.Reduce o) w f line v (aim m rs (target_kept p)) st m (keyed ∙ ap (pointer_key m.frame rs f) e))
  act_kind code (instr.Fill s f w) line m keyed held launched = region_kind ask m (region_slot m s) m
      (λ r. on_number m.frame.stack m (λ z st. fill_points r.root.0 f w z r.points st m)) (fixed _) (λ r d.
      number_kind ask _ m.frame.stack m _ (fixed _) (λ z st e. fill_kind ask m r.root f w z r.points st m (keyed ∙ ap (region_key f) d) (record { frame = refl; parts = refl; fits = λ h. h })))
  act_kind code instr.Space line m keyed held launched = number_kind ask _ m.frame.stack m _ (fixed _) (λ z st e. space_of_kind ask z line st m)
  act_kind code (instr.Colors s) line m keyed held launched = partition_kind ask m (partition_slot m s) m
      (λ p. when (nat_le (length p.children) 4194304) (next (Space (length p.children) ∷ m.frame.stack) m) (broken m))
      (fixed _) (λ p. when_kind ask _ (nat_le (length p.children) 4194304) _ _
      (next_kind ask (Space (length p.children) ∷ m.frame.stack) m) (stops_kind ask yield.MachineFault m tt))
  act_kind code (instr.NewRoot n) line m keyed held launched = space_kind ask _ m.frame.stack m _ (fixed _) (λ size st.
      root_kind ask (slice_get code.spaces n) n size st m)
  act_kind code (instr.Equal s) line m keyed held launched = region_kind ask m (region_slot m s) m
      (λ r. on_colours line m (λ n st. partition r (equal_sets r.points n) equal_flag st m)) (fixed _)
      (λ r e. colours_kind ask line m (λ n st. partition r (equal_sets r.points n) equal_flag st m)
      (λ n st. made_kind ask r (equal_sets r.points n) equal_flag st m))
  act_kind code (instr.ByField s f) line m keyed held launched = region_kind ask m (region_slot m s) m
      (λ r. on_colours line m (λ n st. on_column m r f (λ zs c. partition r (by_field_sets r.points zs n) by_field_flag st m)))
      (fixed _) (λ r e. colours_kind ask line m
      (λ n st. on_column m r f (λ zs c. partition r (by_field_sets r.points zs n) by_field_flag st m))
      (λ n st. column_kind ask (column_of m r f r.points) r.root f m
      (λ zs c. partition r (by_field_sets r.points zs n) by_field_flag st m) (keyed ∙ ap (region_key f) e) (column_none m r f r.points)
      (λ zs c. made_kind ask r (by_field_sets r.points zs n) by_field_flag st m)))
  act_kind code (instr.Image s p r f) line m keyed held launched = over_three ask m s p r (λ a q b.
      when (lie_in q.root.0 (sets_of q) b) (on_column m b f (λ zs c.
      partition a (image_sets a.points (sets_of q) b.points zs c) image_flag m.frame.stack m)) (broken m))
      (λ a q b e. when_kind ask _ (lie_in q.root.0 (sets_of q) b) _ _
      (column_kind ask (column_of m b f b.points) b.root f m
      (λ zs c. partition a (image_sets a.points (sets_of q) b.points zs c) image_flag m.frame.stack m)
      (keyed ∙ ap (region_key f) e) (column_none m b f b.points)
      (λ zs c. made_kind ask a (image_sets a.points (sets_of q) b.points zs c) image_flag m.frame.stack m))
      (stops_kind ask yield.MachineFault m tt))
  act_kind code (instr.Preimage s p r f) line m keyed held launched = over_three ask m s p r (λ a q b.
      when (lie_in a.root.0 (a.points ∷ []) b) (on_column m b f (λ zs c.
      partition a (preimage_sets a.points (sets_of q) b.points zs c) (preimage_flag q.disjoint) m.frame.stack m))
      (broken m))
      (λ a q b e. when_kind ask _ (lie_in a.root.0 (a.points ∷ []) b) _ _
      (column_kind ask (column_of m b f b.points) b.root f m
      (λ zs c. partition a (preimage_sets a.points (sets_of q) b.points zs c) (preimage_flag q.disjoint) m.frame.stack m)
      (keyed ∙ ap (region_key f) e) (column_none m b f b.points)
      (λ zs c. made_kind ask a (preimage_sets a.points (sets_of q) b.points zs c) (preimage_flag q.disjoint) m.frame.stack m))
      (stops_kind ask yield.MachineFault m tt))
  act_kind code (instr.Meet p q s) line m keyed held launched = over_sets ask m p q s
      (λ a b r. partition r (both_sets (sets_of a) (sets_of b)) (both_flag a.disjoint b.disjoint) m.frame.stack m)
      (λ a b r. made_kind ask r (both_sets (sets_of a) (sets_of b)) (both_flag a.disjoint b.disjoint) m.frame.stack m)
  act_kind code (instr.Join p q s) line m keyed held launched = over_sets ask m p q s
      (λ a b r. partition r (either_sets (sets_of a) (sets_of b)) either_flag m.frame.stack m)
      (λ a b r. made_kind ask r (either_sets (sets_of a) (sets_of b)) either_flag m.frame.stack m)
  act_kind code (instr.Minus p q s) line m keyed held launched = over_sets ask m p q s
      (λ a b r. partition r (minus_sets (sets_of a) (sets_of b)) (minus_flag a.disjoint) m.frame.stack m)
      (λ a b r. made_kind ask r (minus_sets (sets_of a) (sets_of b)) (minus_flag a.disjoint) m.frame.stack m)
  act_kind code (instr.Child p) line m keyed held launched = partition_kind ask m (partition_slot m p) m
      (λ q. on_number m.frame.stack m (λ z st. child_at (coloured q.children z) line st m)) (fixed _)
      (λ q. number_kind ask _ m.frame.stack m _ (fixed _) (λ z st e. child_kind ask (coloured q.children z) line st m))
  act_kind code instr.Turn line m keyed held launched = turn_kind ask m.frame.turns line m _ refl (λ p e.
      turned _ (record { task = refl; slots = refl; later = refl; depth = refl; own = refl; needs = refl; parts = refl; fits = λ h. h }) e)
  act_kind code (instr.NextNumber c l v to) line m keyed held launched =
      count_kind ask c v to line m (slice_get m.frame.slots c) (slice_get m.frame.slots l)
  act_kind code (instr.NextPoint s c v ptr to) line m keyed held launched =
      points_kind ask c v ptr to line m (slice_get m.frame.slots s) (slice_get m.frame.slots c)
  act_kind code (instr.Call task n) line m keyed held launched = call_kind (slice_get code.tasks task) task n line m
  act_kind code (instr.Launch task s call_line args) line m keyed held launched =
      launch_kind ask launched (slice_get code.tasks task) task s call_line args line m
  act_kind code (instr.Print ps) line m keyed held launched = printing_kind ps (take_values (count_numbers ps) m.frame.stack []) m
  act_kind code instr.Assert line m keyed held launched = number_kind ask _ m.frame.stack m _ (fixed _) (λ z st e.
      when_kind ask _ (int_eq z (pos 0)) _ _ (stops_kind ask _ m tt) (next_kind ask st m))
  act_kind code instr.Return line m keyed held launched = stops_kind ask _ m tt
  act_kind code instr.ReturnValue line m keyed held launched = number_kind ask _ m.frame.stack m _ (fixed _) (λ z st e. stops_kind ask _ m tt)
