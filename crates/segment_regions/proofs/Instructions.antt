-- Each instruction keeps what is so of all values.
use Rattle.std.proofs.Common.{arith, ◌≡◌, ◌∷◌, ◌+ℤ◌, ◌^◌, ◌==◌, ℕ, ℤ, zero, suc, Bool, List, None, Option, Some, [], false, length, pos, negsuc, true}
use Rattle.std.specs.Prelude.{All, int_lt, nat_le, nat_lt, slice_get, slice_set}
use Rattle.std.proofs.lemmas.List.Elements.{All-cons, All-contains, All-head, All-nil, All-tail}
use Rattle.lane_kernels.specs.Numbers.{width_of, wrapped}
use Rattle.lane_kernels.specs.declared.numbers.Mode.{Mode}
use Rattle.lane_kernels.specs.declared.numbers.Mode.TheVariants as mode
use Rattle.lane_kernels.specs.declared.numbers.Width.{Width}
use Rattle.plain_values.specs.Points.{has}
use Rattle.regent_tree.specs.Numbers.{computed}
use Rattle.regent_tree.specs.Values.{Region as PlainRegion, Target, null_target, point_target}
use Rattle.regent_tree.specs.declared.expression.Arithmetic.{Arithmetic}
use Rattle.regent_tree.specs.declared.expression.Comparison.{Comparison}
use Rattle.task_code.specs.declared.code.Line.{Line}
use Rattle.task_code.specs.declared.code.SpaceCode.{SpaceCode}
use Rattle.task_code.specs.declared.code.TaskCode.{TaskCode}
use Rattle.task_code.specs.declared.instr.PrintPart.{PrintPart}
use Rattle.machine_terms.specs.declared.outcome.CallOut.{CallOut}
use Rattle.machine_terms.specs.declared.outcome.Made.TheVariants as made
use Rattle.machine_terms.specs.declared.outcome.Yield.TheVariants as yield
use Rattle.machine_terms.specs.declared.value.PartitionValue.{PartitionValue}
use Rattle.machine_terms.specs.declared.value.RegionValue.{RegionValue}
use Rattle.machine_terms.specs.declared.value.Value.{Value}
use Rattle.machine_terms.specs.declared.value.Value.TheVariants as value
use Rattle.machine_terms.specs.Calls.{Taken, call_task, calling, few, printing, take_values, taken, text_of, writing}
use Rattle.machine_terms.specs.Jumps.{count_round, jump, leave, may_jump, point_at, point_round, points_round, round, size_of, take_point}
use Rattle.machine_terms.specs.Machine.{Machine, Stepped, at, with_turns}
use Rattle.machine_terms.specs.Numbers.{comparison, discard, divided, load, replaced, store, arithmetic}
use Rattle.machine_terms.specs.Parts.{Found, find, found, missing, refused, set_part}
use Rattle.machine_terms.specs.Pointers.{Aimed, aims, cast, cast_pointer, compare, element, fails, move, moved_to, nowhere, point, read_at, read_cell, read_in, same_width, set_at, set_cell, set_found, written}
use Rattle.machine_terms.specs.Regions.{Column, awaited, child_at, coloured, column, fill_cell, fill_points, filled, partition, root_of_space, space, unread, with_column}
use Rattle.segment_regions.proofs.Words.{FrameFrom, IsKeptFrom, Keeps, TakenHas, choose_keeps, got, has_stack, has_turns, next_keeps, number_keeps, number_next, pushed, taken_have, turn_keeps, two_keeps, when_keeps, yields_keeps}

-- a list where one place has another value
all_slots : {A : Type 0} (P : A → Type 0) (xs : List A) (i : ℕ) (x : A) → P x → All P xs → All P (slice_set xs i x)
all_slots P [] i x p h = h
all_slots P (y ∷ xs) zero x p h = All-cons P x xs p (All-tail P y xs h)
all_slots P (y ∷ xs) (suc i) x p h = All-cons P y (slice_set xs i x) (All-head P y xs h) (all_slots P xs i x p (All-tail P y xs h))

module _ (V : Value → Type 0) (from : ℕ) (k : IsKeptFrom V from) where
  abbrev Has : Machine → Type 0
  Has m = FrameFrom V from m.frame

  -- ---- numbers

  pub replaced_keeps : (f : ℤ → ℤ) (m : Machine) → Has m → Keeps V from k (replaced f m)
  replaced_keeps f m h = number_keeps V from k m.frame.stack m _ h h.stack (λ z st g. number_next V from k (f z) st m h g)

  divided_keeps : (o : Option ℤ) (line : ℕ) (st : List Value) (m : Machine) → Has m → All V st → Keeps V from k (divided o line st m)
  divided_keeps (Some z) line st m h g = number_next V from k z st m h g
  divided_keeps None line st m h g = (h, tt)

  pub arithmetic_keeps : (o : Arithmetic) (w : Width) (line : ℕ) (m : Machine) → Has m → Keeps V from k (arithmetic o w line m)
  arithmetic_keeps o w line m h = two_keeps V from k m.frame.stack m _ h h.stack (λ a b st g. divided_keeps (computed o w a b) line st m h g)

  pub comparison_keeps : (c : Comparison) (m : Machine) → Has m → Keeps V from k (comparison c m)
  comparison_keeps c m h = two_keeps V from k m.frame.stack m _ h h.stack (λ a b st g. number_next V from k _ st m h g)

  pub compare_keeps : (f : Bool → Bool) (m : Machine) → Has m → Keeps V from k (compare f m)
  compare_keeps f m h = two_keeps V from k m.frame.stack m _ h h.stack (λ a b st g. number_next V from k _ st m h g)

  pub load_keeps : (o : Option Value) (s : ℕ) (m : Machine) → slice_get m.frame.slots s ≡ o → Has m → Keeps V from k (load m o)
  load_keeps None s m e h = (h, tt)
  load_keeps (Some (value.Pending i)) s m e h = (h, tt)
  load_keeps (Some (value.Number z)) s m e h = number_next V from k z m.frame.stack m h h.stack
  load_keeps (Some (value.Space n)) s m e h = next_keeps V from k (value.Space n ∷ m.frame.stack) m h (pushed V from k (value.Space n) m.frame.stack (k.space n) h.stack)
  load_keeps (Some (value.Region r)) s m e h = next_keeps V from k (value.Region r ∷ m.frame.stack) m h
      (pushed V from k (value.Region r) m.frame.stack (All-contains V m.frame.slots (value.Region r) h.slots (got m.frame.slots s (value.Region r) e)) h.stack)
  load_keeps (Some (value.Partition p)) s m e h = next_keeps V from k (value.Partition p ∷ m.frame.stack) m h
      (pushed V from k (value.Partition p) m.frame.stack (All-contains V m.frame.slots (value.Partition p) h.slots (got m.frame.slots s (value.Partition p) e)) h.stack)

  pub store_keeps : (s : ℕ) (st : List Value) (m : Machine) → Has m → All V st → Keeps V from k (store s st m)
  store_keeps s [] m h g = (h, tt)
  store_keeps s (v ∷ st) m h g = when_keeps V from k (nat_lt s (length m.frame.slots)) _ _
      (record { slots = all_slots V m.frame.slots s v (All-head V v st g) h.slots; stack = All-tail V v st g; children = h.children }) (h, tt)

  pub discard_keeps : (st : List Value) (m : Machine) → Has m → All V st → Keeps V from k (discard st m)
  discard_keeps [] m h g = (h, tt)
  discard_keeps (v ∷ st) m h g = next_keeps V from k st m h (All-tail V v st g)

  -- ---- jumps and loops

  pub jump_keeps : (body : List Line) (to : ℕ) (st : List Value) (m : Machine) → Has m → All V st → Keeps V from k (jump body to st m)
  jump_keeps body to st m h g = when_keeps V from k (may_jump body m.frame.pc to) _ _ (has_stack V from k m to st h g) (h, tt)

  leave_keeps : (to : ℕ) (m : Machine) → Has m → Keeps V from k (leave to m)
  leave_keeps to m h = when_keeps V from k (nat_lt m.frame.pc to) _ _ (has_stack V from k m to m.frame.stack h h.stack) (h, tt)

  round_keeps : (c v : ℕ) (z counter : ℤ) (m : Machine) → Has m → Keeps V from k (round c v z counter m)
  round_keeps c v z counter m h = when_keeps V from k (nat_lt v (length m.frame.slots)) _ _
      (record {
        slots = all_slots V (slice_set m.frame.slots v (value.Number z)) c (value.Number (counter +ℤ pos 1)) (k.number (counter +ℤ pos 1)) (all_slots V m.frame.slots v (value.Number z) (k.number z) h.slots);
        stack = h.stack;
        children = h.children;
      }) (h, tt)

  pub count_keeps : (c v to line : ℕ) (m : Machine) (o q : Option Value) → Has m → Keeps V from k (count_round c v to line m o q)
  count_keeps c v to line m (Some (value.Number i)) (Some (value.Number n)) h = choose_keeps V from k (int_lt i n) _ _
      (turn_keeps V from k m.frame.turns line m (round c v i i) h (λ p. round_keeps c v i i (with_turns p m) (has_turns V from k m p h))) (leave_keeps to m h)
  count_keeps c v to line m (Some (value.Number i)) None h = (h, tt)
  count_keeps c v to line m (Some (value.Number i)) (Some (value.Space n)) h = (h, tt)
  count_keeps c v to line m (Some (value.Number i)) (Some (value.Region r)) h = (h, tt)
  count_keeps c v to line m (Some (value.Number i)) (Some (value.Partition p)) h = (h, tt)
  count_keeps c v to line m (Some (value.Number i)) (Some (value.Pending n)) h = (h, tt)
  count_keeps c v to line m None q h = (h, tt)
  count_keeps c v to line m (Some (value.Space n)) q h = (h, tt)
  count_keeps c v to line m (Some (value.Region r)) q h = (h, tt)
  count_keeps c v to line m (Some (value.Partition p)) q h = (h, tt)
  count_keeps c v to line m (Some (value.Pending n)) q h = (h, tt)

  take_point_keeps : (c v : ℕ) (ptr : Bool) (line i : ℕ) (m : Machine) (o : Option ℕ) → Has m → Keeps V from k (take_point c v ptr line i m o)
  take_point_keeps c v ptr line i m (Some n) h = turn_keeps V from k m.frame.turns line m _ h (λ p. round_keeps c v _ (pos i) (with_turns p m) (has_turns V from k m p h))
  take_point_keeps c v ptr line i m None h = (h, tt)

  point_round_keeps : (c v : ℕ) (ptr : Bool) (to line i : ℕ) (m : Machine) (d : Value) (o : Option ℕ) → Has m → Keeps V from k (point_round c v ptr to line i m d o)
  point_round_keeps c v ptr to line i m d (Some n) h = choose_keeps V from k (i == n) _ _ (leave_keeps to m h) (take_point_keeps c v ptr line i m (point_at d i) h)
  point_round_keeps c v ptr to line i m d None h = (h, tt)

  pub points_keep : (c v : ℕ) (ptr : Bool) (to line : ℕ) (m : Machine) (o q : Option Value) → Has m → Keeps V from k (points_round c v ptr to line m o q)
  points_keep c v ptr to line m (Some d) (Some (value.Number (pos i))) h = point_round_keeps c v ptr to line i m d (size_of d) h
  points_keep c v ptr to line m (Some d) (Some (value.Number (negsuc i))) h = (h, tt)
  points_keep c v ptr to line m (Some d) None h = (h, tt)
  points_keep c v ptr to line m (Some d) (Some (value.Space n)) h = (h, tt)
  points_keep c v ptr to line m (Some d) (Some (value.Region r)) h = (h, tt)
  points_keep c v ptr to line m (Some d) (Some (value.Partition p)) h = (h, tt)
  points_keep c v ptr to line m (Some d) (Some (value.Pending n)) h = (h, tt)
  points_keep c v ptr to line m None q h = (h, tt)

  -- ---- pointers

  pub point_keeps : (t : Target) (line : ℕ) (st : List Value) (m : Machine) → Has m → All V st → Keeps V from k (point t line st m)
  point_keeps null_target line st m h g = (h, tt)
  point_keeps (point_target n i) line st m h g = number_next V from k _ st m h g

  moved_keeps : (n : ℕ) (o : Option ℕ) (st : List Value) (m : Machine) → Has m → All V st → Keeps V from k (moved_to n o st m)
  moved_keeps n (Some j) st m h g = number_next V from k _ st m h g
  moved_keeps n None st m h g = (h, tt)

  pub move_keeps : (js : List ℕ) (t : Target) (st : List Value) (m : Machine) → Has m → All V st → Keeps V from k (move js t st m)
  move_keeps js null_target st m h g = number_next V from k _ st m h g
  move_keeps js (point_target n zero) st m h g = number_next V from k _ st m h g
  move_keeps js (point_target n (suc i)) st m h g = moved_keeps n (slice_get js i) st m h g

  pub cast_keeps : (o : Option (List PlainRegion)) (z : ℤ) (st : List Value) (m : Machine) → Has m → All V st → Keeps V from k (cast o z st m)
  cast_keeps None z st m h g = (h, tt)
  cast_keeps (Some rs) z st m h g = number_next V from k _ st m h g

  pub cast_pointer_keeps : (o : Option (List PlainRegion)) (t : Target) (st : List Value) (m : Machine) → Has m → All V st → Keeps V from k (cast_pointer o t st m)
  cast_pointer_keeps None t st m h g = (h, tt)
  cast_pointer_keeps (Some rs) null_target st m h g = number_next V from k _ st m h g
  cast_pointer_keeps (Some rs) (point_target n i) st m h g = number_next V from k _ st m h g

  pub element_keeps : (o : Option RegionValue) (z : ℤ) (line : ℕ) (st : List Value) (m : Machine) → Has m → All V st → Keeps V from k (element o z line st m)
  element_keeps None z line st m h g = (h, tt)
  element_keeps (Some r) (negsuc n) line st m h g = (h, tt)
  element_keeps (Some r) (pos n) line st m h g = when_keeps V from k (has r.points n) _ _ (number_next V from k _ st m h g) (h, tt)

  -- ---- accesses

  read_in_keeps : (a : Mode) (z : ℤ) (st : List Value) (m : Machine) → Has m → All V st → Keeps V from k (read_in a z st m)
  read_in_keeps (mode.Reduce o) z st m h g = (h, tt)
  read_in_keeps mode.Read z st m h g = number_next V from k z st m h g
  read_in_keeps mode.Write z st m h g = number_next V from k z st m h g

  read_cell_keeps : (root f : ℕ) (o : Found) (st : List Value) (m : Machine) → Has m → All V st → Keeps V from k (read_cell root f o st m)
  read_cell_keeps root f refused st m h g = (h, tt)
  read_cell_keeps root f missing st m h g = (h, tt)
  read_cell_keeps root f (found kind c) st m h g = read_in_keeps c.mode c.value st m h g

  pub read_keeps : (f line : ℕ) (a : Aimed) (st : List Value) (m : Machine) → Has m → All V st → Keeps V from k (read_at f line a st m)
  read_keeps f line nowhere st m h g = (h, tt)
  read_keeps f line (fails x) st m h g = (h, tt)
  read_keeps f line (aims root n) st m h g = read_cell_keeps root f (find m.frame.needs.items m.parts root f n) st m h g

  set_found_keeps : (root f n : ℕ) (o : Option ℤ) (st : List Value) (m : Machine) → Has m → All V st → Keeps V from k (set_found root f n o st m)
  set_found_keeps root f n None st m h g = (h, tt)
  set_found_keeps root f n (Some z) st m h g = record { slots = h.slots; stack = g; children = h.children }

  set_cell_keeps : (a : Mode) (w : Width) (root f n : ℕ) (z : ℤ) (o : Found) (st : List Value) (m : Machine) → Has m → All V st → Keeps V from k (set_cell a w root f n z o st m)
  set_cell_keeps a w root f n z refused st m h g = (h, tt)
  set_cell_keeps a w root f n z missing st m h g = (h, tt)
  set_cell_keeps a w root f n z (found kind c) st m h g = when_keeps V from k (same_width (width_of kind) w) _ _ (set_found_keeps root f n (written a c.mode w c.value z) st m h g) (h, tt)

  pub set_keeps : (a : Mode) (w : Width) (f line : ℕ) (z : ℤ) (o : Aimed) (st : List Value) (m : Machine) → Has m → All V st → Keeps V from k (set_at a w f line z o st m)
  set_keeps a w f line z nowhere st m h g = (h, tt)
  set_keeps a w f line z (fails x) st m h g = (h, tt)
  set_keeps a w f line z (aims root n) st m h g = set_cell_keeps a w root f n z (find m.frame.needs.items m.parts root f n) st m h g

  -- ---- fills

  filled_keeps : (b : Bool) (a : Mode) (old new : Machine) (more : Machine → Stepped) → Has old → Keeps V from k (more new) → Keeps V from k (filled b a old new more)
  filled_keeps true mode.Write old new more h g = g
  filled_keeps true mode.Read old new more h g = (h, tt)
  filled_keeps true (mode.Reduce o) old new more h g = (h, tt)
  filled_keeps false a old new more h g = (h, tt)

  fill_cell_keeps : (root f : ℕ) (w : Width) (x : ℕ) (z : ℤ) (o : Found) (m : Machine) (more : Machine → Stepped) → Has m → ((n : Machine) → Has n → Keeps V from k (more n)) →
      Keeps V from k (fill_cell root f w x z o m more)
  fill_cell_keeps root f w x z refused m more h g = (h, tt)
  fill_cell_keeps root f w x z missing m more h g = (h, tt)
  fill_cell_keeps root f w x z (found kind c) m more h g = filled_keeps (same_width (width_of kind) w) c.mode m (record m { parts = set_part m.parts root f x (wrapped w z) }) more h
      (g (record m { parts = set_part m.parts root f x (wrapped w z) }) (record { slots = h.slots; stack = h.stack; children = h.children }))

  pub fill_keeps : (root f : ℕ) (w : Width) (z : ℤ) (xs : List ℕ) (st : List Value) (m : Machine) → Has m → All V st → Keeps V from k (fill_points root f w z xs st m)
  fill_keeps root f w z [] st m h g = next_keeps V from k st m h g
  fill_keeps root f w z (x ∷ xs) st m h g = fill_cell_keeps root f w x z (find m.frame.needs.items m.parts root f x) m (fill_points root f w z xs st) h (λ n e. fill_keeps root f w z xs st n e g)

  -- ---- what is made

  pub space_of_keeps : (z : ℤ) (line : ℕ) (st : List Value) (m : Machine) → Has m → All V st → Keeps V from k (space z line st m)
  space_of_keeps (pos n) line st m h g = when_keeps V from k (nat_le n 4194304) _ _ (next_keeps V from k (value.Space n ∷ st) m h (pushed V from k (value.Space n) st (k.space n) g)) (h, tt)
  space_of_keeps (negsuc n) line st m h g = (h, tt)

  pub root_keeps : (o : Option SpaceCode) (n size : ℕ) (st : List Value) (m : Machine) → Has m → All V st → Keeps V from k (root_of_space o n size st m)
  root_keeps None n size st m h g = (h, tt)
  root_keeps (Some s) n size st m h g = when_keeps V from k (nat_le (length s.fields) 256) _ _
      (yields_keeps V from k (yield.Make (made.Root size n)) (at (suc m.frame.pc) st m) (has_stack V from k m (suc m.frame.pc) st h g) tt) (h, tt)

  pub partition_made : (r : RegionValue) (sets : List (List ℕ)) (d : Bool) (st : List Value) (m : Machine) → Has m → V (value.Region r) → All V st → Keeps V from k (partition r sets d st m)
  partition_made r sets d st m h v g = yields_keeps V from k (yield.Make (made.Partition r sets d)) (at (suc m.frame.pc) st m) (has_stack V from k m (suc m.frame.pc) st h g) v

  pub column_keeps : (c : Column) (root f : ℕ) (m : Machine) (more : List ℤ → Bool → Stepped) → Has m → ((zs : List ℤ) (b : Bool) → Keeps V from k (more zs b)) → Keeps V from k (with_column c root f m more)
  column_keeps unread root f m more h g = (h, tt)
  column_keeps awaited root f m more h g = (h, tt)
  column_keeps (column zs b) root f m more h g = g zs b

  pub child_keeps : (p : PartitionValue) (o : Option RegionValue) (z : ℤ) (line : ℕ) (st : List Value) (m : Machine) → V (value.Partition p) → coloured p.children z ≡ o → Has m → All V st →
      Keeps V from k (child_at o line st m)
  child_keeps p None z line st m v e h g = (h, tt)
  child_keeps p (Some r) (pos c) line st m v e h g = next_keeps V from k (value.Region r ∷ st) m h (pushed V from k (value.Region r) st (k.child p r v (got p.children c r e)) g)
  child_keeps p (Some r) (negsuc c) line st m v e h g = absurd cc

  -- ---- calls

  calling_keeps : (task line : ℕ) (t : Taken) (m : Machine) → Has m → TakenHas V from k t → Keeps V from k (calling task line t m)
  calling_keeps task line few m h g = (h, tt)
  calling_keeps task line (taken vs st) m h g = turn_keeps V from k m.frame.turns line m _ h (λ p.
      when_keeps V from k (nat_lt m.frame.depth 64) _ _
      (when_keeps V from k (nat_lt (suc m.frame.children) (2 ^ 64)) _ _
      (yields_keeps V from k (yield.Calls (record { task = task; args = vs } ∷ [])) _
      (record { slots = h.slots; stack = pushed V from k (value.Pending m.frame.children) st (k.pending m.frame.children h.children) g.1; children = omega (arith, h.children) })
      (All-cons (λ (c : CallOut). All V c.args) (record { task = task; args = vs }) [] g.0 (All-nil (λ (c : CallOut). All V c.args))))
      (has_turns V from k m p h, tt)) (has_turns V from k m p h, tt))

  pub call_keeps : (o : Option TaskCode) (task n line : ℕ) (m : Machine) → Has m → Keeps V from k (call_task o task n line m)
  call_keeps None task n line m h = (h, tt)
  call_keeps (Some t) task n line m h = when_keeps V from k (t.params == n) _ _
      (calling_keeps task line (take_values n m.frame.stack []) m h (taken_have V from k n m.frame.stack [] h.stack (All-nil V))) (h, tt)

  writing_keeps : (o : Option (List ℕ)) (st : List Value) (m : Machine) → Has m → All V st → Keeps V from k (writing o st m)
  writing_keeps None st m h g = (h, tt)
  writing_keeps (Some t) st m h g = has_stack V from k m (suc m.frame.pc) st h g

  pub printing_keeps : (ps : List PrintPart) (t : Taken) (m : Machine) → Has m → TakenHas V from k t → Keeps V from k (printing ps t m)
  printing_keeps ps few m h g = (h, tt)
  printing_keeps ps (taken vs st) m h g = writing_keeps (text_of ps vs) st m h g.1
