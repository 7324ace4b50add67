-- Instructions that find no root, on a machine with other numbers of roots and nodes.
use Rattle.std.proofs.Common.{◌≡◌, ℕ, zero, suc, ◌^◌, ℤ, pos, negsuc, List, [], ◌∷◌, Bool, Option, Some, None, refl, sym, ap, ◌∙◌, subst, map, option_map}
use Rattle.std.specs.Prelude.{slice_get, length, nat_lt, nat_le, int_lt, ◌==◌}
use Rattle.std.proofs.lemmas.List.{length-map}
use Rattle.lane_kernels.specs.declared.numbers.Width.{Width}
use Rattle.plain_values.specs.Points.{has}
use Rattle.regent_tree.specs.declared.expression.Arithmetic.{Arithmetic}
use Rattle.regent_tree.specs.Numbers.{computed}
use Rattle.regent_tree.specs.Values.{Target, null_target, point_target, Region as PlainRegion, kept_target, first_holding}
use Rattle.task_code.specs.declared.code.Line.{Line}
use Rattle.task_code.specs.declared.code.SpaceCode.{SpaceCode}
use Rattle.task_code.specs.declared.code.TaskCode.{TaskCode}
use Rattle.task_code.specs.declared.instr.PrintPart.{PrintPart}
use Rattle.machine_terms.specs.declared.outcome.Yield.TheVariants as yield
use Rattle.machine_terms.specs.declared.outcome.Made.TheVariants as made
use Rattle.machine_terms.specs.declared.value.PartitionValue.{PartitionValue}
use Rattle.machine_terms.specs.declared.value.RegionValue.{RegionValue}
use Rattle.machine_terms.specs.declared.value.Value.{Value}
use Rattle.machine_terms.specs.declared.value.Value.TheVariants.{Number, Space, Region, Partition, Pending}
use Rattle.machine_terms.specs.Machine.{Machine, Stepped, goes, when, at, put, with_turns, next, broken}
use Rattle.machine_terms.specs.Numbers.{load, store, discard, divided, arithmetic as computes}
use Rattle.machine_terms.specs.Jumps.{may_jump, jump, leave, round, count_round, take_point, point_round, points_round, size_of, point_at, taken as point_taken}
use Rattle.machine_terms.specs.Pointers.{point, move, moved_to, cast, cast_pointer, element}
use Rattle.machine_terms.specs.Regions.{space, root_of_space, child_at}
use Rattle.machine_terms.specs.Calls.{Taken, few, taken, take_values, calling, call_task, writing, printing, text_of}
use Rattle.segment_renaming.specs.Renaming.{Names, region_to, partition_to, value_to, machine_to}
use Rattle.segment_renaming.proofs.Alike.{size_alike, point_alike, text_alike, slot_to, plain_to, first_alike, taken_to, take_to}
use Rattle.segment_renaming.proofs.Words.{Same, slots_set, done, breaks, same_when, when_alike, same_choice, same_two, same_turn, same_yield}

module _ (n : Names) where
  -- ---- numbers and slots

  pub load_same : (m : Machine) (o : Option Value) → Same n (load (machine_to n m) (option_map (value_to n) o)) (load m o)
  load_same m None = done n refl
  load_same m (Some (Number z)) = done n refl
  load_same m (Some (Space s)) = done n refl
  load_same m (Some (Region r)) = done n refl
  load_same m (Some (Partition p)) = done n refl
  load_same m (Some (Pending i)) = done n refl

  pub slot_same : (slots : List Value) (s : ℕ) (more' : Option Value → Stepped) (t : Stepped) →
      Same n (more' (option_map (value_to n) (slice_get slots s))) t → Same n (more' (slice_get (map (value_to n) slots) s)) t
  slot_same slots s more' t k = subst (λ o. Same n (more' o) t) (sym (slot_to n slots s)) k

  -- a slot that is there
  pub slots_when : (s : ℕ) (m : Machine) (p' p : Stepped) → Same n p' p →
      Same n (when (nat_lt s (length (map (value_to n) m.frame.slots))) p' (broken (machine_to n m)))
      (when (nat_lt s (length m.frame.slots)) p (broken m))
  slots_when s m p' p k = when_alike n _ _ _ _ _ _ (ap (nat_lt s) (length-map m.frame.slots (value_to n))) k (breaks n m)

  pub store_same : (s : ℕ) (st : List Value) (m : Machine) →
      Same n (store s (map (value_to n) st) (machine_to n m)) (store s st m)
  store_same s [] m = breaks n m
  store_same s (v ∷ st) m = slots_when s m _ _ (done n (ap goes (slots_set n (at (suc m.frame.pc) st m) s v)))

  pub discard_same : (st : List Value) (m : Machine) → Same n (discard (map (value_to n) st) (machine_to n m)) (discard st m)
  discard_same [] m = breaks n m
  discard_same (v ∷ st) m = done n refl

  pub divided_same : (o : Option ℤ) (line : ℕ) (st : List Value) (m : Machine) →
      Same n (divided o line (map (value_to n) st) (machine_to n m)) (divided o line st m)
  divided_same None line st m = done n refl
  divided_same (Some z) line st m = done n refl

  pub arithmetic_same : (o : Arithmetic) (w : Width) (line : ℕ) (m : Machine) →
      Same n (computes o w line (machine_to n m)) (computes o w line m)
  arithmetic_same o w line m = same_two n m.frame.stack m _ _ (λ a b st. divided_same (computed o w a b) line st m)

  -- ---- jumps

  pub jump_same : (body : List Line) (to : ℕ) (st : List Value) (m : Machine) →
      Same n (jump body to (map (value_to n) st) (machine_to n m)) (jump body to st m)
  jump_same body to st m = same_when n (may_jump body m.frame.pc to) _ _ _ _ (done n refl) (breaks n m)

  pub leave_same : (to : ℕ) (m : Machine) → Same n (leave to (machine_to n m)) (leave to m)
  leave_same to m = same_when n (nat_lt m.frame.pc to) _ _ _ _ (done n refl) (breaks n m)

  pub round_same : (c v : ℕ) (z i : ℤ) (m : Machine) → Same n (round c v z i (machine_to n m)) (round c v z i m)
  round_same c v z i m = slots_when v m _ _ (done n (ap (λ x. next (map (value_to n) m.frame.stack) x)
      (ap (put c (Number _)) (slots_set n m v (Number z)) ∙ slots_set n (put v (Number z) m) c (Number _))))

  pub count_same : (c v to line : ℕ) (m : Machine) (a b : Option Value) →
      Same n (count_round c v to line (machine_to n m) (option_map (value_to n) a) (option_map (value_to n) b))
      (count_round c v to line m a b)
  count_same c v to line m (Some (Number i)) (Some (Number k)) = same_choice n (int_lt i k) _ _ _ _
      (same_turn n m.frame.turns line m _ _ (λ p. round_same c v i i (with_turns p m))) (leave_same to m)
  count_same c v to line m _ _ = breaks n m

  pub take_same : (c v : ℕ) (ptr : Bool) (line i : ℕ) (m : Machine) (o : Option ℕ) →
      Same n (take_point c v ptr line i (machine_to n m) o) (take_point c v ptr line i m o)
  take_same c v ptr line i m None = breaks n m
  take_same c v ptr line i m (Some k) =
      same_turn n m.frame.turns line m _ _ (λ p. round_same c v (point_taken ptr k) (pos i) (with_turns p m))

  pub point_same : (c v : ℕ) (ptr : Bool) (to line i : ℕ) (m : Machine) (d : Value) (o : Option ℕ) →
      Same n (point_round c v ptr to line i (machine_to n m) (value_to n d) o) (point_round c v ptr to line i m d o)
  point_same c v ptr to line i m d None = breaks n m
  point_same c v ptr to line i m d (Some k) = same_choice n (i == k) _ _ _ _ (leave_same to m)
      (subst (λ o. Same n (take_point c v ptr line i (machine_to n m) o) (take_point c v ptr line i m (point_at d i)))
      (sym (point_alike n d i)) (take_same c v ptr line i m (point_at d i)))

  pub points_same : (c v : ℕ) (ptr : Bool) (to line : ℕ) (m : Machine) (a b : Option Value) →
      Same n (points_round c v ptr to line (machine_to n m) (option_map (value_to n) a) (option_map (value_to n) b))
      (points_round c v ptr to line m a b)
  points_same c v ptr to line m (Some d) (Some (Number (pos i))) =
      subst (λ o. Same n (point_round c v ptr to line i (machine_to n m) (value_to n d) o) (point_round c v ptr to line i m d (size_of d)))
      (sym (size_alike n d)) (point_same c v ptr to line i m d (size_of d))
  points_same c v ptr to line m _ _ = breaks n m

  -- ---- pointers

  pub pointer_same : (t : Target) (line : ℕ) (st : List Value) (m : Machine) →
      Same n (point t line (map (value_to n) st) (machine_to n m)) (point t line st m)
  pointer_same null_target line st m = done n refl
  pointer_same (point_target k i) line st m = done n refl

  pub moved_same : (k : ℕ) (o : Option ℕ) (st : List Value) (m : Machine) →
      Same n (moved_to k o (map (value_to n) st) (machine_to n m)) (moved_to k o st m)
  moved_same k (Some j) st m = done n refl
  moved_same k None st m = breaks n m

  pub move_same : (js : List ℕ) (t : Target) (st : List Value) (m : Machine) →
      Same n (move js t (map (value_to n) st) (machine_to n m)) (move js t st m)
  move_same js null_target st m = done n refl
  move_same js (point_target k zero) st m = done n refl
  move_same js (point_target k (suc i)) st m = moved_same k (slice_get js i) st m

  -- a target in one of several regions
  pub first_same : (rs : List PlainRegion) (z : ℤ) (st : List Value) (m : Machine) →
      Same n (next (Number (kept_target (first_holding 0 (map (plain_to n) rs) z)) ∷ map (value_to n) st) (machine_to n m))
      (next (Number (kept_target (first_holding 0 rs z)) ∷ st) m)
  first_same rs z st m = done n (ap (λ t. next (Number (kept_target t) ∷ map (value_to n) st) (machine_to n m)) (first_alike n 0 rs z))

  pub cast_same : (o : Option (List PlainRegion)) (z : ℤ) (st : List Value) (m : Machine) →
      Same n (cast (option_map (map (plain_to n)) o) z (map (value_to n) st) (machine_to n m)) (cast o z st m)
  cast_same None z st m = breaks n m
  cast_same (Some rs) z st m = first_same rs z st m

  pub cast_pointer_same : (o : Option (List PlainRegion)) (t : Target) (st : List Value) (m : Machine) →
      Same n (cast_pointer (option_map (map (plain_to n)) o) t (map (value_to n) st) (machine_to n m)) (cast_pointer o t st m)
  cast_pointer_same None t st m = breaks n m
  cast_pointer_same (Some rs) null_target st m = done n refl
  cast_pointer_same (Some rs) (point_target k i) st m = first_same rs (pos k) st m

  pub element_same : (o : Option RegionValue) (z : ℤ) (line : ℕ) (st : List Value) (m : Machine) →
      Same n (element (option_map (region_to n) o) z line (map (value_to n) st) (machine_to n m)) (element o z line st m)
  element_same None z line st m = breaks n m
  element_same (Some r) (negsuc k) line st m = done n refl
  element_same (Some r) (pos k) line st m = same_when n (has r.points k) _ _ _ _ (done n refl) (done n refl)

  -- ---- calls, prints and ends

  pub calling_same : (task line : ℕ) (t : Taken) (m : Machine) →
      Same n (calling task line (taken_to n t) (machine_to n m)) (calling task line t m)
  calling_same task line few m = breaks n m
  calling_same task line (taken vs st) m = same_turn n m.frame.turns line m _ _ (λ p.
      same_when n (nat_lt m.frame.depth 64) _ _ _ _
      (same_when n (nat_lt (suc m.frame.children) (2 ^ 64)) _ _ _ _
      (same_when n (nat_lt (suc m.frame.pc) (2 ^ 32)) _ _ _ _ (done n refl) (done n refl)) (done n refl)) (done n refl))

  pub take_same_values : (k : ℕ) (m : Machine) (more' more : Taken → Stepped) →
      ((t : Taken) → Same n (more' (taken_to n t)) (more t)) →
      Same n (more' (take_values k (map (value_to n) m.frame.stack) [])) (more (take_values k m.frame.stack []))
  take_same_values k m more' more h = subst (λ t. Same n (more' t) (more (take_values k m.frame.stack [])))
      (sym (take_to n k m.frame.stack [])) (h (take_values k m.frame.stack []))

  pub call_same : (o : Option TaskCode) (task k line : ℕ) (m : Machine) →
      Same n (call_task o task k line (machine_to n m)) (call_task o task k line m)
  call_same None task k line m = breaks n m
  call_same (Some t) task k line m = same_when n (t.params == k) _ _ _ _
      (take_same_values k m (λ t. calling task line t (machine_to n m)) (λ t. calling task line t m) (λ t. calling_same task line t m)) (breaks n m)

  pub writing_same : (o : Option (List ℕ)) (st : List Value) (m : Machine) →
      Same n (writing o (map (value_to n) st) (machine_to n m)) (writing o st m)
  writing_same None st m = breaks n m
  writing_same (Some t) st m = done n refl

  pub printing_same : (ps : List PrintPart) (t : Taken) (m : Machine) →
      Same n (printing ps (taken_to n t) (machine_to n m)) (printing ps t m)
  printing_same ps few m = breaks n m
  printing_same ps (taken vs st) m = subst (λ o. Same n (writing o (map (value_to n) st) (machine_to n m)) (writing (text_of ps vs) st m))
      (sym (text_alike n ps vs)) (writing_same (text_of ps vs) st m)

  -- ---- regions

  pub space_same : (z : ℤ) (line : ℕ) (st : List Value) (m : Machine) →
      Same n (space z line (map (value_to n) st) (machine_to n m)) (space z line st m)
  space_same (pos k) line st m = same_when n (nat_le k 4194304) _ _ _ _ (done n refl) (done n refl)
  space_same (negsuc k) line st m = done n refl

  pub root_same : (o : Option SpaceCode) (k size : ℕ) (st : List Value) (m : Machine) →
      Same n (root_of_space o k size (map (value_to n) st) (machine_to n m)) (root_of_space o k size st m)
  root_same None k size st m = breaks n m
  root_same (Some s) k size st m = same_when n (nat_le (length s.fields) 256) _ _ _ _
      (same_yield n (yield.Make (made.Root size k)) st m) (breaks n m)

  pub child_same : (o : Option RegionValue) (line : ℕ) (st : List Value) (m : Machine) →
      Same n (child_at (option_map (region_to n) o) line (map (value_to n) st) (machine_to n m)) (child_at o line st m)
  child_same None line st m = done n refl
  child_same (Some r) line st m = done n refl

  pub colours_alike : (p : PartitionValue) → length (partition_to n p).children ≡ length p.children
  colours_alike p = length-map p.children (region_to n)

  pub colors_same : (p : PartitionValue) (m : Machine) →
      Same n (when (nat_le (length (partition_to n p).children) 4194304) (next (Space (length (partition_to n p).children) ∷ map (value_to n) m.frame.stack) (machine_to n m)) (broken (machine_to n m)))
      (when (nat_le (length p.children) 4194304) (next (Space (length p.children) ∷ m.frame.stack) m) (broken m))
  colors_same p m = subst (λ k. Same n (when (nat_le k 4194304) (next (Space k ∷ map (value_to n) m.frame.stack) (machine_to n m)) (broken (machine_to n m)))
      (when (nat_le (length p.children) 4194304) (next (Space (length p.children) ∷ m.frame.stack) m) (broken m)))
      (sym (colours_alike p)) (same_when n (nat_le (length p.children) 4194304) _ _ _ _ (done n refl) (breaks n m))
