-- Accesses and fills, and so every instruction that waits for no child and makes no call, on a machine whose slots
-- are seen so.
use Rattle.std.proofs.Common.{◌≡◌, ℕ, suc, ℤ, pos, List, [], ◌∷◌, Bool, true, false, Option, Some, None, refl, sym, ap, ◌∙◌, subst, map, option_map}
use Rattle.std.specs.Prelude.{slice_get, length}
use Rattle.std.specs.Ordering.{int_eq}
use Rattle.lane_kernels.specs.declared.numbers.Mode.{Mode}
use Rattle.lane_kernels.specs.declared.numbers.Mode.TheVariants as mode
use Rattle.lane_kernels.specs.declared.numbers.Width.{Width}
use Rattle.lane_kernels.specs.Numbers.{wrapped, width_of}
use Rattle.regent_tree.specs.declared.expression.Arithmetic.TheVariants as arithmetic
use Rattle.regent_tree.specs.Partitions.{equal_sets, by_field_sets, image_sets, preimage_sets, both_sets, either_sets, minus_sets}
use Rattle.regent_tree.specs.Values.{target_kept, Target}
use Rattle.task_code.specs.declared.code.Code.{Code}
use Rattle.task_code.specs.declared.code.Line.{Line}
use Rattle.task_code.specs.declared.instr.Instr.{Instr}
use Rattle.task_code.specs.declared.instr.Instr.TheVariants as instr
use Rattle.machine_terms.specs.declared.outcome.Yield.TheVariants as yield
use Rattle.machine_terms.specs.declared.value.Value.{Value}
use Rattle.machine_terms.specs.declared.value.Value.TheVariants.{Number, Pending}
use Rattle.machine_terms.specs.Machine.{Machine, Stepped, next}
use Rattle.machine_terms.specs.Numbers.{load}
use Rattle.machine_terms.specs.Jumps.{count_round, points_round}
use Rattle.machine_terms.specs.Parts.{Found, refused, missing, found, find, set_part}
use Rattle.machine_terms.specs.Pointers.{region_slot, regions_in, cast, cast_pointer, element, Aimed, aims, fails, nowhere, aim, read_in, read_cell, read_at, set_found, set_cell, set_at, written, same_width}
use Rattle.machine_terms.specs.Regions.{sets_of, lie_in, coloured, child_at, filled, fill_cell, fill_points}
use Rattle.machine_terms.specs.Calls.{count_numbers, printing, take_values}
use Rattle.machine_terms.specs.Segments.{act}
use Rattle.eager_laws.specs.Steps.{known}
use Rattle.eager_laws.specs.Pendings.{AreSettled}
use Rattle.eager_laws.proofs.Seeing.{eager_machine, region_known, regions_known, aim_known, slot_known}
use Rattle.eager_laws.proofs.Slots.{apart_slot}
use Rattle.eager_laws.proofs.Words.{Fine, Same, IsMet, done, breaks, faulted, wants, fine_at, fine_parts, goes_on, same_when, when_alike, same_choice, same_number, same_two, same_turn, same_space, same_colours, same_region, same_partition, same_made, same_column}
use Rattle.eager_laws.proofs.Operations.{load_same, store_same, discard_same, arithmetic_same, jump_same, count_same, points_same, pointer_same, move_same, cast_same, cast_pointer_same, element_same, left_settled, printing_same, space_same, root_same, child_same, colors_same}

module _ (rs : List ℤ) (for_results : ℕ → Bool) where
  abbrev S : Stepped → Stepped → Type 0
  S s t = Same rs for_results s t

  abbrev F : Machine → Type 0
  F m = Fine rs for_results m

  abbrev T : Machine → Machine
  T m = eager_machine rs m

  -- ---- accesses

  read_in_same : (a : Mode) (z : ℤ) (st : List Value) (m : Machine) → F m → AreSettled st →
      S (read_in a z st (T m)) (read_in a z st m)
  read_in_same (mode.Reduce o) z st m f c = breaks rs for_results m f
  read_in_same mode.Read z st m f c = goes_on rs for_results _ m f (refl, c)
  read_in_same mode.Write z st m f c = goes_on rs for_results _ m f (refl, c)

  read_cell_same : (root g : ℕ) (o : Found) (st : List Value) (m : Machine) → F m → AreSettled st →
      S (read_cell root g o st (T m)) (read_cell root g o st m)
  read_cell_same root g refused st m f c = breaks rs for_results m f
  read_cell_same root g missing st m f c = wants rs for_results _ m f tt
  read_cell_same root g (found k d) st m f c = read_in_same d.mode d.value st m f c

  read_same : (g line : ℕ) (a : Aimed) (st : List Value) (m : Machine) → F m → AreSettled st →
      S (read_at g line a st (T m)) (read_at g line a st m)
  read_same g line nowhere st m f c = breaks rs for_results m f
  read_same g line (fails k) st m f c = faulted rs for_results k line m f
  read_same g line (aims root p) st m f c = read_cell_same root g (find m.frame.needs.items m.parts root g p) st m f c

  set_found_same : (root g p : ℕ) (o : Option ℤ) (st : List Value) (m : Machine) → F m → AreSettled st →
      S (set_found root g p o st (T m)) (set_found root g p o st m)
  set_found_same root g p None st m f c = breaks rs for_results m f
  set_found_same root g p (Some z) st m f c =
      goes_on rs for_results st (record m { parts = set_part m.parts root g p z }) (fine_parts rs for_results _ m f) c

  set_cell_same : (a : Mode) (w : Width) (root g p : ℕ) (z : ℤ) (o : Found) (st : List Value) (m : Machine) → F m → AreSettled st →
      S (set_cell a w root g p z o st (T m)) (set_cell a w root g p z o st m)
  set_cell_same a w root g p z refused st m f c = breaks rs for_results m f
  set_cell_same a w root g p z missing st m f c = wants rs for_results _ m f tt
  set_cell_same a w root g p z (found k d) st m f c = same_when rs for_results (same_width (width_of k) w) _ _ _ _
      (set_found_same root g p (written a d.mode w d.value z) st m f c) (breaks rs for_results m f)

  set_same : (a : Mode) (w : Width) (g line : ℕ) (z : ℤ) (o : Aimed) (st : List Value) (m : Machine) → F m → AreSettled st →
      S (set_at a w g line z o st (T m)) (set_at a w g line z o st m)
  set_same a w g line z nowhere st m f c = breaks rs for_results m f
  set_same a w g line z (fails k) st m f c = faulted rs for_results k line m f
  set_same a w g line z (aims root p) st m f c =
      set_cell_same a w root g p z (find m.frame.needs.items m.parts root g p) st m f c

  aim_same : (m : Machine) (ss : List ℕ) (t : Target) (more' more : Aimed → Stepped) →
      ((a : Aimed) → S (more' a) (more a)) → S (more' (aim (T m) ss t)) (more (aim m ss t))
  aim_same m ss t more' more k = subst (λ a. S (more' a) (more (aim m ss t))) (sym (aim_known rs m ss t)) (k (aim m ss t))

  -- ---- fills

  filled_same : (b : Bool) (a : Mode) (old new : Machine) (more' more : Machine → Stepped) → F old → S (more' (T new)) (more new) →
      S (filled b a (T old) (T new) more') (filled b a old new more)
  filled_same true mode.Write old new more' more f k = k
  filled_same true mode.Read old new more' more f k = breaks rs for_results old f
  filled_same true (mode.Reduce o) old new more' more f k = breaks rs for_results old f
  filled_same false a old new more' more f k = breaks rs for_results old f

  fill_cell_same : (root g : ℕ) (w : Width) (x : ℕ) (z : ℤ) (o : Found) (m : Machine) (more' more : Machine → Stepped) → F m →
      ((x : Machine) → F x → S (more' (T x)) (more x)) →
      S (fill_cell root g w x z o (T m) more') (fill_cell root g w x z o m more)
  fill_cell_same root g w x z refused m more' more f k = breaks rs for_results m f
  fill_cell_same root g w x z missing m more' more f k = wants rs for_results _ m f tt
  fill_cell_same root g w x z (found kind c) m more' more f k =
      filled_same (same_width (width_of kind) w) c.mode m _ more' more f (k _ (fine_parts rs for_results _ m f))

  fill_same : (root g : ℕ) (w : Width) (z : ℤ) (xs : List ℕ) (st : List Value) (m : Machine) → F m → AreSettled st →
      S (fill_points root g w z xs st (T m)) (fill_points root g w z xs st m)
  fill_same root g w z [] st m f c = goes_on rs for_results st m f c
  fill_same root g w z (x ∷ xs) st m f c =
      fill_cell_same root g w x z (find m.frame.needs.items m.parts root g x) m _ _ f (λ y h. fill_same root g w z xs st y h c)

  -- ---- every instruction

  -- it waits for no child, makes no call, and its loop counts in slots that are for no results
  abbrev pub IsPlain : Instr → Machine → Type 0
  IsPlain (instr.Load s) m = (n : ℕ) → slice_get m.frame.slots s ≡ Some (Pending n) → ⊥
  IsPlain (instr.NextNumber c l v to) m = (for_results c ≡ false) × (for_results l ≡ false)
  IsPlain (instr.NextPoint s c v ptr to) m = for_results c ≡ false
  IsPlain (instr.Call task n) m = ⊥
  IsPlain (instr.Launch task s line args) m = ⊥
  IsPlain _ m = Unit {0}

  pub act_same : (code : Code) (body : List Line) (i : Instr) (line : ℕ) (m : Machine) → F m → IsPlain i m →
      S (act code body i line (T m)) (act code body i line m)
  act_same code body (instr.Num z) line m f q = goes_on rs for_results _ m f (refl, f.stack)
  act_same code body (instr.Load s) line m f q = subst (λ o. S (load (T m) o) (load m (slice_get m.frame.slots s)))
      (sym (slot_known rs m.frame.slots s)) (load_same rs for_results m (slice_get m.frame.slots s) f q)
  act_same code body (instr.Store s) line m f q = store_same rs for_results s m.frame.stack m f f.stack
  act_same code body instr.Drop line m f q = discard_same rs for_results m.frame.stack m f f.stack
  act_same code body (instr.Add w) line m f q = arithmetic_same rs for_results arithmetic.Add w line m f
  act_same code body (instr.Sub w) line m f q = arithmetic_same rs for_results arithmetic.Subtract w line m f
  act_same code body (instr.Mul w) line m f q = arithmetic_same rs for_results arithmetic.Multiply w line m f
  act_same code body (instr.Div w) line m f q = arithmetic_same rs for_results arithmetic.Divide w line m f
  act_same code body (instr.Rem w) line m f q = arithmetic_same rs for_results arithmetic.Remainder w line m f
  act_same code body (instr.Neg w) line m f q = same_number rs for_results m.frame.stack m _ _ f f.stack (λ z st c. goes_on rs for_results _ m f (refl, c))
  act_same code body (instr.Wrap w) line m f q = same_number rs for_results m.frame.stack m _ _ f f.stack (λ z st c. goes_on rs for_results _ m f (refl, c))
  act_same code body instr.Eq line m f q = same_two rs for_results m.frame.stack m _ _ f f.stack (λ a b st c. goes_on rs for_results _ m f (refl, c))
  act_same code body instr.Ne line m f q = same_two rs for_results m.frame.stack m _ _ f f.stack (λ a b st c. goes_on rs for_results _ m f (refl, c))
  act_same code body instr.Lt line m f q = same_two rs for_results m.frame.stack m _ _ f f.stack (λ a b st c. goes_on rs for_results _ m f (refl, c))
  act_same code body instr.Le line m f q = same_two rs for_results m.frame.stack m _ _ f f.stack (λ a b st c. goes_on rs for_results _ m f (refl, c))
  act_same code body instr.Gt line m f q = same_two rs for_results m.frame.stack m _ _ f f.stack (λ a b st c. goes_on rs for_results _ m f (refl, c))
  act_same code body instr.Ge line m f q = same_two rs for_results m.frame.stack m _ _ f f.stack (λ a b st c. goes_on rs for_results _ m f (refl, c))
  act_same code body instr.PtrEq line m f q = same_two rs for_results m.frame.stack m _ _ f f.stack (λ a b st c. goes_on rs for_results _ m f (refl, c))
  act_same code body instr.PtrNe line m f q = same_two rs for_results m.frame.stack m _ _ f f.stack (λ a b st c. goes_on rs for_results _ m f (refl, c))
  act_same code body instr.Not line m f q = same_number rs for_results m.frame.stack m _ _ f f.stack (λ z st c. goes_on rs for_results _ m f (refl, c))
  act_same code body (instr.Jump to) line m f q = jump_same rs for_results body to m.frame.stack m f f.stack
  act_same code body (instr.JumpIfNot to) line m f q = same_number rs for_results m.frame.stack m _ _ f f.stack (λ z st c.
      same_choice rs for_results (int_eq z (pos 0)) _ _ _ _ (jump_same rs for_results body to st m f c) (goes_on rs for_results _ m f c))
  act_same code body (instr.AndJump to) line m f q = same_number rs for_results m.frame.stack m _ _ f f.stack (λ z st c.
      same_choice rs for_results (int_eq z (pos 0)) _ _ _ _ (jump_same rs for_results body to (Number (pos 0) ∷ st) m f (refl, c)) (goes_on rs for_results _ m f c))
  act_same code body (instr.OrJump to) line m f q = same_number rs for_results m.frame.stack m _ _ f f.stack (λ z st c.
      same_choice rs for_results (int_eq z (pos 0)) _ _ _ _ (goes_on rs for_results _ m f c) (jump_same rs for_results body to (Number (pos 1) ∷ st) m f (refl, c)))
  act_same code body instr.Point line m f q = same_number rs for_results m.frame.stack m _ _ f f.stack (λ z st c. pointer_same rs for_results (target_kept z) line st m f c)
  act_same code body instr.IsNull line m f q = same_number rs for_results m.frame.stack m _ _ f f.stack (λ z st c. goes_on rs for_results _ m f (refl, c))
  act_same code body (instr.Cast ss) line m f q = same_number rs for_results m.frame.stack m _ _ f f.stack (λ z st c.
      subst (λ o. S (cast o z st (T m)) (cast (regions_in m.frame.slots ss) z st m))
      (sym (regions_known rs m.frame.slots ss)) (cast_same rs for_results (regions_in m.frame.slots ss) z st m f c))
  act_same code body (instr.CastPtr ss) line m f q = same_number rs for_results m.frame.stack m _ _ f f.stack (λ z st c.
      subst (λ o. S (cast_pointer o (target_kept z) st (T m)) (cast_pointer (regions_in m.frame.slots ss) (target_kept z) st m))
      (sym (regions_known rs m.frame.slots ss)) (cast_pointer_same rs for_results (regions_in m.frame.slots ss) (target_kept z) st m f c))
  act_same code body (instr.Move js) line m f q = same_number rs for_results m.frame.stack m _ _ f f.stack (λ z st c. move_same rs for_results js (target_kept z) st m f c)
  act_same code body (instr.At s) line m f q = same_number rs for_results m.frame.stack m _ _ f f.stack (λ z st c.
      subst (λ o. S (element o z line st (T m)) (element (region_slot m s) z line st m))
      (sym (region_known rs m.frame.slots s)) (element_same rs for_results (region_slot m s) z line st m f c))
  act_same code body (instr.Read ss g) line m f q = same_number rs for_results m.frame.stack m _ _ f f.stack (λ z st c. aim_same m ss (target_kept z)
      (λ a. read_at g line a st (T m)) (λ a. read_at g line a st m) (λ a. read_same g line a st m f c))
  act_same code body (instr.Write ss g w) line m f q = same_two rs for_results m.frame.stack m _ _ f f.stack (λ v p st c. aim_same m ss (target_kept p)
      (λ a. set_at mode.Write w g line v a st (T m)) (λ a. set_at mode.Write w g line v a st m)
      (λ a. set_same mode.Write w g line v a st m f c))
  act_same code body (instr.Reduce ss g o w) line m f q = same_two rs for_results m.frame.stack m _ _ f f.stack (λ v p st c. aim_same m ss (target_kept p)
      (λ a. set_at (mode.Reduce o) w g line v a st (T m)) (λ a. set_at (mode.Reduce o) w g line v a st m)
      (λ a. set_same (mode.Reduce o) w g line v a st m f c))
  act_same code body (instr.Fill s g w) line m f q = same_region rs for_results s m _ _ f (λ r. same_number rs for_results m.frame.stack m _ _ f f.stack
      (λ z st c. fill_same r.root.0 g w z r.points st m f c))
  act_same code body instr.Space line m f q = same_number rs for_results m.frame.stack m _ _ f f.stack (λ z st c. space_same rs for_results z line st m f c)
  act_same code body (instr.Colors s) line m f q = same_partition rs for_results s m _ _ f (λ p. colors_same rs for_results p m f)
  act_same code body (instr.NewRoot k) line m f q = same_space rs for_results m.frame.stack m _ _ f f.stack
      (λ size st c. root_same rs for_results (slice_get code.spaces k) k size st m f c)
  act_same code body (instr.Equal s) line m f q = same_region rs for_results s m _ _ f (λ r. same_colours rs for_results line m _ _ f
      (λ k st c. same_made rs for_results r (equal_sets r.points k) _ st m f c))
  act_same code body (instr.ByField s g) line m f q = same_region rs for_results s m _ _ f (λ r. same_colours rs for_results line m _ _ f (λ k st c.
      same_column rs for_results m r g _ _ f (λ zs b. same_made rs for_results r (by_field_sets r.points zs k) _ st m f c)))
  act_same code body (instr.Image s p r g) line m f q = same_region rs for_results s m _ _ f (λ a. same_partition rs for_results p m _ _ f (λ u. same_region rs for_results r m _ _ f (λ b.
      same_when rs for_results (lie_in u.root.0 (sets_of u) b) _ _ _ _
      (same_column rs for_results m b g _ _ f (λ zs d. same_made rs for_results a (image_sets a.points (sets_of u) b.points zs d) _ m.frame.stack m f f.stack))
      (breaks rs for_results m f))))
  act_same code body (instr.Preimage s p r g) line m f q = same_region rs for_results s m _ _ f (λ a. same_partition rs for_results p m _ _ f (λ u. same_region rs for_results r m _ _ f (λ b.
      same_when rs for_results (lie_in a.root.0 (a.points ∷ []) b) _ _ _ _
      (same_column rs for_results m b g _ _ f (λ zs d. same_made rs for_results a (preimage_sets a.points (sets_of u) b.points zs d) _ m.frame.stack m f f.stack))
      (breaks rs for_results m f))))
  act_same code body (instr.Meet p u s) line m f q = same_partition rs for_results p m _ _ f (λ a. same_partition rs for_results u m _ _ f (λ b. same_region rs for_results s m _ _ f (λ r.
      same_made rs for_results r (both_sets (sets_of a) (sets_of b)) _ m.frame.stack m f f.stack)))
  act_same code body (instr.Join p u s) line m f q = same_partition rs for_results p m _ _ f (λ a. same_partition rs for_results u m _ _ f (λ b. same_region rs for_results s m _ _ f (λ r.
      same_made rs for_results r (either_sets (sets_of a) (sets_of b)) _ m.frame.stack m f f.stack)))
  act_same code body (instr.Minus p u s) line m f q = same_partition rs for_results p m _ _ f (λ a. same_partition rs for_results u m _ _ f (λ b. same_region rs for_results s m _ _ f (λ r.
      same_made rs for_results r (minus_sets (sets_of a) (sets_of b)) _ m.frame.stack m f f.stack)))
  act_same code body (instr.Child p) line m f q = same_partition rs for_results p m _ _ f (λ u. same_number rs for_results m.frame.stack m _ _ f f.stack (λ z st c.
      child_same rs for_results (coloured u.children z) line st m f c))
  act_same code body instr.Turn line m f q = same_turn rs for_results m.frame.turns line m _ _ f (λ p g. goes_on rs for_results _ _ g g.stack)
  act_same code body (instr.NextNumber c l v to) line m f q =
      subst (λ a. S (count_round c v to line (T m) a (slice_get (map (known rs) m.frame.slots) l)) (count_round c v to line m (slice_get m.frame.slots c) (slice_get m.frame.slots l)))
      (sym (apart_slot rs for_results (length rs) m.frame.slots c q.0 f.slots))
      (subst (λ b. S (count_round c v to line (T m) (slice_get m.frame.slots c) b) (count_round c v to line m (slice_get m.frame.slots c) (slice_get m.frame.slots l)))
      (sym (apart_slot rs for_results (length rs) m.frame.slots l q.1 f.slots))
      (count_same rs for_results c v to line m (slice_get m.frame.slots c) (slice_get m.frame.slots l) f))
  act_same code body (instr.NextPoint s c v ptr to) line m f q =
      subst (λ a. S (points_round c v ptr to line (T m) a (slice_get (map (known rs) m.frame.slots) c)) (points_round c v ptr to line m (slice_get m.frame.slots s) (slice_get m.frame.slots c)))
      (sym (slot_known rs m.frame.slots s))
      (subst (λ b. S (points_round c v ptr to line (T m) (option_map (known rs) (slice_get m.frame.slots s)) b) (points_round c v ptr to line m (slice_get m.frame.slots s) (slice_get m.frame.slots c)))
      (sym (apart_slot rs for_results (length rs) m.frame.slots c q f.slots))
      (points_same rs for_results c v ptr to line m (slice_get m.frame.slots s) (slice_get m.frame.slots c) f))
  act_same code body (instr.Call task k) line m f q = absurd q
  act_same code body (instr.Launch task s call_line args) line m f q = absurd q
  act_same code body (instr.Print ps) line m f q =
      printing_same rs for_results ps (take_values (count_numbers ps) m.frame.stack []) m f (left_settled rs for_results (count_numbers ps) m.frame.stack [] f.stack)
  act_same code body instr.Assert line m f q = same_number rs for_results m.frame.stack m _ _ f f.stack (λ z st c.
      same_when rs for_results (int_eq z (pos 0)) _ _ _ _ (faulted rs for_results _ line m f) (goes_on rs for_results st m f c))
  act_same code body instr.Return line m f q = wants rs for_results _ m f tt
  act_same code body instr.ReturnValue line m f q = same_number rs for_results m.frame.stack m _ _ f f.stack (λ z st c. wants rs for_results _ m f tt)
