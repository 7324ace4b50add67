-- Accesses and fills, and so every instruction, on a machine with other numbers of roots and nodes.
use Rattle.std.proofs.Common.{◌≡◌, ℕ, ℤ, pos, List, [], ◌∷◌, Bool, true, false, Option, Some, None, refl, sym, ap, ◌∙◌, subst, map, option_map}
use Rattle.std.specs.Prelude.{slice_get}
use Rattle.std.specs.Ordering.{int_eq}
use Rattle.lane_kernels.specs.declared.numbers.Mode.{Mode}
use Rattle.lane_kernels.specs.declared.numbers.Mode.TheVariants as mode
use Rattle.lane_kernels.specs.declared.numbers.Width.{Width}
use Rattle.lane_kernels.specs.Numbers.{wrapped, width_of}
use Rattle.regent_tree.specs.declared.expression.Arithmetic.TheVariants as arithmetic
use Rattle.regent_tree.specs.Partitions.{equal_sets, by_field_sets, image_sets, preimage_sets, both_sets, either_sets, minus_sets}
use Rattle.regent_tree.specs.Values.{target_kept, Target}
use Rattle.task_code.specs.declared.code.Code.{Code}
use Rattle.task_code.specs.declared.code.Line.{Line}
use Rattle.task_code.specs.declared.instr.Instr.{Instr}
use Rattle.task_code.specs.declared.instr.Instr.TheVariants as instr
use Rattle.machine_terms.specs.declared.value.Value.{Value}
use Rattle.machine_terms.specs.declared.value.Value.TheVariants.{Number}
use Rattle.machine_terms.specs.Machine.{Machine, Stepped, next}
use Rattle.machine_terms.specs.Numbers.{load}
use Rattle.machine_terms.specs.Jumps.{fetch, count_round, points_round}
use Rattle.machine_terms.specs.Parts.{Found, refused, missing, found, find, set_part}
use Rattle.machine_terms.specs.Pointers.{region_slot, regions_in, cast, cast_pointer, element, Aimed, aims, fails, nowhere, aim, read_in, read_cell, read_at, set_found, set_cell, set_at, written, same_width}
use Rattle.machine_terms.specs.Regions.{sets_of, lie_in, coloured, child_at, filled, fill_cell, fill_points}
use Rattle.machine_terms.specs.Calls.{count_numbers, printing}
use Rattle.machine_terms.specs.Segments.{act, act_at, step}
use Rattle.segment_renaming.specs.Renaming.{Names, IsOneToOne, region_to, value_to, part_to, frame_to, machine_to, stepped_to}
use Rattle.segment_renaming.proofs.Alike.{sets_alike, region_slot_to, regions_to, coloured_to, aimed_to, aim_to, find_alike, set_part_to, lies_alike}
use Rattle.segment_renaming.proofs.Words.{Same, done, breaks, same_when, when_alike, same_choice, same_number, same_two, same_turn, same_space, same_colours, same_region, same_partition, same_made, same_column}
use Rattle.segment_renaming.proofs.Launches.{launch_same}
use Rattle.segment_renaming.proofs.Operations.{load_same, slot_same, store_same, discard_same, arithmetic_same, jump_same, count_same, points_same, pointer_same, move_same, cast_same, cast_pointer_same, element_same, take_same_values, call_same, printing_same, space_same, root_same, child_same, colors_same}

module _ (n : Names) (one : IsOneToOne n) where
  -- ---- accesses

  read_in_same : (a : Mode) (z : ℤ) (st : List Value) (m : Machine) →
      Same n (read_in a z (map (value_to n) st) (machine_to n m)) (read_in a z st m)
  read_in_same (mode.Reduce o) z st m = breaks n m
  read_in_same mode.Read z st m = done n refl
  read_in_same mode.Write z st m = done n refl

  read_cell_same : (root f : ℕ) (o : Found) (st : List Value) (m : Machine) →
      Same n (read_cell (n.root root) f o (map (value_to n) st) (machine_to n m)) (read_cell root f o st m)
  read_cell_same root f refused st m = breaks n m
  read_cell_same root f missing st m = done n refl
  read_cell_same root f (found k c) st m = read_in_same c.mode c.value st m

  -- what is found there
  find_same : (m : Machine) (root f p : ℕ) (more' : Found → Stepped) (t : Stepped) →
      Same n (more' (find m.frame.needs.items m.parts root f p)) t →
      Same n (more' (find (frame_to n m.frame).needs.items (map (part_to n) m.parts) (n.root root) f p)) t
  find_same m root f p more' t k = subst (λ o. Same n (more' o) t) (sym (find_alike n one m root f p)) k

  read_same : (f line : ℕ) (a : Aimed) (st : List Value) (m : Machine) →
      Same n (read_at f line (aimed_to n a) (map (value_to n) st) (machine_to n m)) (read_at f line a st m)
  read_same f line nowhere st m = breaks n m
  read_same f line (fails k) st m = done n refl
  read_same f line (aims root p) st m = find_same m root f p
      (λ o. read_cell (n.root root) f o (map (value_to n) st) (machine_to n m)) _ (read_cell_same root f (find m.frame.needs.items m.parts root f p) st m)

  -- another number at a point
  set_to : (root f p : ℕ) (z : ℤ) (m : Machine) →
      record (machine_to n m) { parts = set_part (map (part_to n) m.parts) (n.root root) f p z }
      ≡ machine_to n (record m { parts = set_part m.parts root f p z })
  set_to root f p z m = λ i. record (machine_to n m) { parts = set_part_to n one m.parts root f p z i }

  set_found_same : (root f p : ℕ) (o : Option ℤ) (st : List Value) (m : Machine) →
      Same n (set_found (n.root root) f p o (map (value_to n) st) (machine_to n m)) (set_found root f p o st m)
  set_found_same root f p None st m = breaks n m
  set_found_same root f p (Some z) st m = done n (ap (λ x. next (map (value_to n) st) x) (set_to root f p z m))

  set_cell_same : (a : Mode) (w : Width) (root f p : ℕ) (z : ℤ) (o : Found) (st : List Value) (m : Machine) →
      Same n (set_cell a w (n.root root) f p z o (map (value_to n) st) (machine_to n m)) (set_cell a w root f p z o st m)
  set_cell_same a w root f p z refused st m = breaks n m
  set_cell_same a w root f p z missing st m = done n refl
  set_cell_same a w root f p z (found k c) st m = same_when n (same_width (width_of k) w) _ _ _ _
      (set_found_same root f p (written a c.mode w c.value z) st m) (breaks n m)

  set_same : (a : Mode) (w : Width) (f line : ℕ) (z : ℤ) (o : Aimed) (st : List Value) (m : Machine) →
      Same n (set_at a w f line z (aimed_to n o) (map (value_to n) st) (machine_to n m)) (set_at a w f line z o st m)
  set_same a w f line z nowhere st m = breaks n m
  set_same a w f line z (fails k) st m = done n refl
  set_same a w f line z (aims root p) st m = find_same m root f p
      (λ o. set_cell a w (n.root root) f p z o (map (value_to n) st) (machine_to n m)) _
      (set_cell_same a w root f p z (find m.frame.needs.items m.parts root f p) st m)

  aim_same : (m : Machine) (rs : List ℕ) (t : Target) (more' more : Aimed → Stepped) →
      ((a : Aimed) → Same n (more' (aimed_to n a)) (more a)) → Same n (more' (aim (machine_to n m) rs t)) (more (aim m rs t))
  aim_same m rs t more' more k = subst (λ a. Same n (more' a) (more (aim m rs t))) (sym (aim_to n m rs t)) (k (aim m rs t))

  -- ---- fills

  filled_same : (b : Bool) (a : Mode) (old new : Machine) (more' more : Machine → Stepped) →
      Same n (more' (machine_to n new)) (more new) →
      Same n (filled b a (machine_to n old) (machine_to n new) more') (filled b a old new more)
  filled_same true mode.Write old new more' more k = k
  filled_same true mode.Read old new more' more k = breaks n old
  filled_same true (mode.Reduce o) old new more' more k = breaks n old
  filled_same false a old new more' more k = breaks n old

  fill_cell_same : (root f : ℕ) (w : Width) (x : ℕ) (z : ℤ) (o : Found) (m : Machine) (more' more : Machine → Stepped) →
      ((x : Machine) → Same n (more' (machine_to n x)) (more x)) →
      Same n (fill_cell (n.root root) f w x z o (machine_to n m) more') (fill_cell root f w x z o m more)
  fill_cell_same root f w x z refused m more' more k = breaks n m
  fill_cell_same root f w x z missing m more' more k = done n refl
  fill_cell_same root f w x z (found kind c) m more' more k =
      subst (λ y. Same n (filled (same_width (width_of kind) w) c.mode (machine_to n m) y more') (fill_cell root f w x z (found kind c) m more))
      (sym (set_to root f x (wrapped w z) m)) (filled_same (same_width (width_of kind) w) c.mode m _ more' more (k _))

  fill_same : (root f : ℕ) (w : Width) (z : ℤ) (xs : List ℕ) (st : List Value) (m : Machine) →
      Same n (fill_points (n.root root) f w z xs (map (value_to n) st) (machine_to n m)) (fill_points root f w z xs st m)
  fill_same root f w z [] st m = done n refl
  fill_same root f w z (x ∷ xs) st m = find_same m root f x
      (λ o. fill_cell (n.root root) f w x z o (machine_to n m) (fill_points (n.root root) f w z xs (map (value_to n) st))) _
      (fill_cell_same root f w x z (find m.frame.needs.items m.parts root f x) m _ _ (λ y. fill_same root f w z xs st y))

  -- ---- every instruction

  pub act_same : (code : Code) (body : List Line) (i : Instr) (line : ℕ) (m : Machine) →
      Same n (act code body i line (machine_to n m)) (act code body i line m)
  act_same code body (instr.Num z) line m = done n refl
  act_same code body (instr.Load s) line m = slot_same n m.frame.slots s (load (machine_to n m)) _ (load_same n m (slice_get m.frame.slots s))
  act_same code body (instr.Store s) line m = store_same n s m.frame.stack m
  act_same code body instr.Drop line m = discard_same n m.frame.stack m
  act_same code body (instr.Add w) line m = arithmetic_same n arithmetic.Add w line m
  act_same code body (instr.Sub w) line m = arithmetic_same n arithmetic.Subtract w line m
  act_same code body (instr.Mul w) line m = arithmetic_same n arithmetic.Multiply w line m
  act_same code body (instr.Div w) line m = arithmetic_same n arithmetic.Divide w line m
  act_same code body (instr.Rem w) line m = arithmetic_same n arithmetic.Remainder w line m
  act_same code body (instr.Neg w) line m = same_number n m.frame.stack m _ _ (λ z st. done n refl)
  act_same code body (instr.Wrap w) line m = same_number n m.frame.stack m _ _ (λ z st. done n refl)
  act_same code body instr.Eq line m = same_two n m.frame.stack m _ _ (λ a b st. done n refl)
  act_same code body instr.Ne line m = same_two n m.frame.stack m _ _ (λ a b st. done n refl)
  act_same code body instr.Lt line m = same_two n m.frame.stack m _ _ (λ a b st. done n refl)
  act_same code body instr.Le line m = same_two n m.frame.stack m _ _ (λ a b st. done n refl)
  act_same code body instr.Gt line m = same_two n m.frame.stack m _ _ (λ a b st. done n refl)
  act_same code body instr.Ge line m = same_two n m.frame.stack m _ _ (λ a b st. done n refl)
  act_same code body instr.PtrEq line m = same_two n m.frame.stack m _ _ (λ a b st. done n refl)
  act_same code body instr.PtrNe line m = same_two n m.frame.stack m _ _ (λ a b st. done n refl)
  act_same code body instr.Not line m = same_number n m.frame.stack m _ _ (λ z st. done n refl)
  act_same code body (instr.Jump to) line m = jump_same n body to m.frame.stack m
  act_same code body (instr.JumpIfNot to) line m = same_number n m.frame.stack m _ _ (λ z st.
      same_choice n (int_eq z (pos 0)) _ _ _ _ (jump_same n body to st m) (done n refl))
  act_same code body (instr.AndJump to) line m = same_number n m.frame.stack m _ _ (λ z st.
      same_choice n (int_eq z (pos 0)) _ _ _ _ (jump_same n body to (Number (pos 0) ∷ st) m) (done n refl))
  act_same code body (instr.OrJump to) line m = same_number n m.frame.stack m _ _ (λ z st.
      same_choice n (int_eq z (pos 0)) _ _ _ _ (done n refl) (jump_same n body to (Number (pos 1) ∷ st) m))
  act_same code body instr.Point line m = same_number n m.frame.stack m _ _ (λ z st. pointer_same n (target_kept z) line st m)
  act_same code body instr.IsNull line m = same_number n m.frame.stack m _ _ (λ z st. done n refl)
  act_same code body (instr.Cast rs) line m = same_number n m.frame.stack m _ _ (λ z st.
      subst (λ o. Same n (cast o z (map (value_to n) st) (machine_to n m)) (cast (regions_in m.frame.slots rs) z st m))
      (sym (regions_to n m.frame.slots rs)) (cast_same n (regions_in m.frame.slots rs) z st m))
  act_same code body (instr.CastPtr rs) line m = same_number n m.frame.stack m _ _ (λ z st.
      subst (λ o. Same n (cast_pointer o (target_kept z) (map (value_to n) st) (machine_to n m)) (cast_pointer (regions_in m.frame.slots rs) (target_kept z) st m))
      (sym (regions_to n m.frame.slots rs)) (cast_pointer_same n (regions_in m.frame.slots rs) (target_kept z) st m))
  act_same code body (instr.Move js) line m = same_number n m.frame.stack m _ _ (λ z st. move_same n js (target_kept z) st m)
  act_same code body (instr.At s) line m = same_number n m.frame.stack m _ _ (λ z st.
      subst (λ o. Same n (element o z line (map (value_to n) st) (machine_to n m)) (element (region_slot m s) z line st m))
      (sym (region_slot_to n m s)) (element_same n (region_slot m s) z line st m))
  act_same code body (instr.Read rs f) line m = same_number n m.frame.stack m _ _ (λ z st. aim_same m rs (target_kept z)
      (λ a. read_at f line a (map (value_to n) st) (machine_to n m)) (λ a. read_at f line a st m) (λ a. read_same f line a st m))
  act_same code body (instr.Write rs f w) line m = same_two n m.frame.stack m _ _ (λ v p st. aim_same m rs (target_kept p)
      (λ a. set_at mode.Write w f line v a (map (value_to n) st) (machine_to n m)) (λ a. set_at mode.Write w f line v a st m)
      (λ a. set_same mode.Write w f line v a st m))
  act_same code body (instr.Reduce rs f o w) line m = same_two n m.frame.stack m _ _ (λ v p st. aim_same m rs (target_kept p)
      (λ a. set_at (mode.Reduce o) w f line v a (map (value_to n) st) (machine_to n m)) (λ a. set_at (mode.Reduce o) w f line v a st m)
      (λ a. set_same (mode.Reduce o) w f line v a st m))
  act_same code body (instr.Fill s f w) line m = same_region n s m _ _ (λ r. same_number n m.frame.stack m _ _
      (λ z st. fill_same r.root.0 f w z r.points st m))
  act_same code body instr.Space line m = same_number n m.frame.stack m _ _ (λ z st. space_same n z line st m)
  act_same code body (instr.Colors s) line m = same_partition n s m _ _ (λ p. colors_same n p m)
  act_same code body (instr.NewRoot k) line m = same_space n m.frame.stack m _ _ (λ size st. root_same n (slice_get code.spaces k) k size st m)
  act_same code body (instr.Equal s) line m = same_region n s m _ _ (λ r. same_colours n line m _ _
      (λ k st. same_made n r _ (equal_sets r.points k) _ st m refl))
  act_same code body (instr.ByField s f) line m = same_region n s m _ _ (λ r. same_colours n line m _ _ (λ k st.
      same_column n one m r f _ _ (λ zs c. same_made n r _ (by_field_sets r.points zs k) _ st m refl)))
  act_same code body (instr.Image s p r f) line m = same_region n s m _ _ (λ a. same_partition n p m _ _ (λ q. same_region n r m _ _ (λ b.
      when_alike n _ _ _ _ _ _ (ap (λ xs. lie_in (n.root q.root.0) xs (region_to n b)) (sets_alike n q) ∙ lies_alike n one q.root.0 (sets_of q) b)
      (same_column n one m b f _ _ (λ zs c. same_made n a _ (image_sets a.points (sets_of q) b.points zs c) _ m.frame.stack m
      (ap (λ xs. image_sets a.points xs b.points zs c) (sets_alike n q)))) (breaks n m))))
  act_same code body (instr.Preimage s p r f) line m = same_region n s m _ _ (λ a. same_partition n p m _ _ (λ q. same_region n r m _ _ (λ b.
      when_alike n _ _ _ _ _ _ (lies_alike n one a.root.0 (a.points ∷ []) b)
      (same_column n one m b f _ _ (λ zs c. same_made n a _ (preimage_sets a.points (sets_of q) b.points zs c) _ m.frame.stack m
      (ap (λ xs. preimage_sets a.points xs b.points zs c) (sets_alike n q)))) (breaks n m))))
  act_same code body (instr.Meet p q s) line m = same_partition n p m _ _ (λ a. same_partition n q m _ _ (λ b. same_region n s m _ _ (λ r.
      same_made n r _ (both_sets (sets_of a) (sets_of b)) _ m.frame.stack m (λ i. both_sets (sets_alike n a i) (sets_alike n b i)))))
  act_same code body (instr.Join p q s) line m = same_partition n p m _ _ (λ a. same_partition n q m _ _ (λ b. same_region n s m _ _ (λ r.
      same_made n r _ (either_sets (sets_of a) (sets_of b)) _ m.frame.stack m (λ i. either_sets (sets_alike n a i) (sets_alike n b i)))))
  act_same code body (instr.Minus p q s) line m = same_partition n p m _ _ (λ a. same_partition n q m _ _ (λ b. same_region n s m _ _ (λ r.
      same_made n r _ (minus_sets (sets_of a) (sets_of b)) _ m.frame.stack m (λ i. minus_sets (sets_alike n a i) (sets_alike n b i)))))
  act_same code body (instr.Child p) line m = same_partition n p m _ _ (λ q. same_number n m.frame.stack m _ _ (λ z st.
      subst (λ o. Same n (child_at o line (map (value_to n) st) (machine_to n m)) (child_at (coloured q.children z) line st m))
      (sym (coloured_to n q.children z)) (child_same n (coloured q.children z) line st m)))
  act_same code body instr.Turn line m = same_turn n m.frame.turns line m _ _ (λ p. done n refl)
  act_same code body (instr.NextNumber c l v to) line m =
      slot_same n m.frame.slots c (λ o. count_round c v to line (machine_to n m) o (slice_get (map (value_to n) m.frame.slots) l)) _
      (slot_same n m.frame.slots l (λ o. count_round c v to line (machine_to n m) (option_map (value_to n) (slice_get m.frame.slots c)) o) _
      (count_same n c v to line m (slice_get m.frame.slots c) (slice_get m.frame.slots l)))
  act_same code body (instr.NextPoint s c v ptr to) line m =
      slot_same n m.frame.slots s (λ o. points_round c v ptr to line (machine_to n m) o (slice_get (map (value_to n) m.frame.slots) c)) _
      (slot_same n m.frame.slots c (λ o. points_round c v ptr to line (machine_to n m) (option_map (value_to n) (slice_get m.frame.slots s)) o) _
      (points_same n c v ptr to line m (slice_get m.frame.slots s) (slice_get m.frame.slots c)))
  act_same code body (instr.Call task k) line m = call_same n (slice_get code.tasks task) task k line m
  act_same code body (instr.Launch task s call_line args) line m = launch_same n (slice_get code.tasks task) task s call_line args line m
  act_same code body (instr.Print ps) line m = take_same_values n (count_numbers ps) m
      (λ t. printing ps t (machine_to n m)) (λ t. printing ps t m) (λ t. printing_same n ps t m)
  act_same code body instr.Assert line m = same_number n m.frame.stack m _ _ (λ z st.
      same_when n (int_eq z (pos 0)) _ _ _ _ (done n refl) (done n refl))
  act_same code body instr.Return line m = done n refl
  act_same code body instr.ReturnValue line m = same_number n m.frame.stack m _ _ (λ z st. done n refl)

  act_at_same : (code : Code) (body : List Line) (o : Option Line) (m : Machine) →
      Same n (act_at code body o (machine_to n m)) (act_at code body o m)
  act_at_same code body None m = breaks n m
  act_at_same code body (Some l) m = act_same code body l.instr l.line m

  pub step_same : (code : Code) (body : List Line) (m : Machine) →
      step code body (machine_to n m) ≡ stepped_to n (step code body m)
  step_same code body m = (act_at_same code body (fetch body m.frame.pc) m).is
