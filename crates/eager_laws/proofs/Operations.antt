-- Instructions that touch no region, on a machine whose slots are seen so.
use Rattle.std.proofs.Common.{◌≡◌, ℕ, zero, suc, ◌^◌, ℤ, pos, negsuc, ◌+ℤ◌, List, [], ◌∷◌, Bool, true, false, Option, Some, None, refl, sym, ap, ◌∙◌, subst, map, option_map}
use Rattle.std.specs.Prelude.{slice_get, length, nat_lt, nat_le, int_lt, ◌==◌}
use Rattle.std.proofs.lemmas.List.{length-map}
use Rattle.lane_kernels.specs.declared.numbers.Width.{Width}
use Rattle.plain_values.specs.Points.{has}
use Rattle.regent_tree.specs.declared.expression.Arithmetic.{Arithmetic}
use Rattle.regent_tree.specs.Numbers.{computed}
use Rattle.regent_tree.specs.Values.{Target, null_target, point_target, Region as PlainRegion}
use Rattle.task_code.specs.declared.code.Line.{Line}
use Rattle.task_code.specs.declared.code.SpaceCode.{SpaceCode}
use Rattle.task_code.specs.declared.instr.PrintPart.{PrintPart}
use Rattle.machine_terms.specs.declared.outcome.Yield.TheVariants as yield
use Rattle.machine_terms.specs.declared.outcome.Made.TheVariants as made
use Rattle.machine_terms.specs.declared.value.RegionValue.{RegionValue}
use Rattle.machine_terms.specs.declared.value.PartitionValue.{PartitionValue}
use Rattle.machine_terms.specs.declared.value.Value.{Value}
use Rattle.machine_terms.specs.declared.value.Value.TheVariants.{Number, Space, Region, Partition, Pending}
use Rattle.machine_terms.specs.Calls.{is_pending, Taken, few, taken, take_values, writing, printing, text_of}
use Rattle.machine_terms.specs.Machine.{Machine, Stepped, goes, when, at, put, with_turns, next, broken}
use Rattle.machine_terms.specs.Numbers.{load, store, discard, divided, arithmetic as computes}
use Rattle.machine_terms.specs.Jumps.{may_jump, jump, leave, round, count_round, take_point, point_round, points_round, size_of, point_at, taken as point_taken}
use Rattle.machine_terms.specs.Pointers.{point, move, moved_to, cast, cast_pointer, element}
use Rattle.machine_terms.specs.Regions.{space, root_of_space, child_at}
use Rattle.eager_laws.specs.Steps.{known}
use Rattle.eager_laws.specs.Pendings.{AreSettled}
use Rattle.eager_laws.proofs.Seeing.{eager_machine, slots_set, size_known, point_known, known_settled}
use Rattle.eager_laws.proofs.Slots.{settled_put}
use Rattle.eager_laws.proofs.Words.{Fine, Same, done, breaks, faulted, fine_at, goes_to, goes_on, same_when, when_alike, same_choice, same_two, same_turn, same_yield}

module _ (rs : List ℤ) (for_results : ℕ → Bool) where
  abbrev S : Stepped → Stepped → Type 0
  S s t = Same rs for_results s t

  abbrev F : Machine → Type 0
  F m = Fine rs for_results m

  abbrev T : Machine → Machine
  T m = eager_machine rs m

  -- ---- numbers and slots

  -- a slot in which no child is pending
  pub load_same : (m : Machine) (o : Option Value) → F m → ((n : ℕ) → o ≡ Some (Pending n) → ⊥) →
      S (load (T m) (option_map (known rs) o)) (load m o)
  load_same m None f q = breaks rs for_results m f
  load_same m (Some (Number z)) f q = goes_on rs for_results (Number z ∷ m.frame.stack) m f (refl, f.stack)
  load_same m (Some (Space s)) f q = goes_on rs for_results (Space s ∷ m.frame.stack) m f (refl, f.stack)
  load_same m (Some (Region r)) f q = goes_on rs for_results (Region r ∷ m.frame.stack) m f (refl, f.stack)
  load_same m (Some (Partition p)) f q = goes_on rs for_results (Partition p ∷ m.frame.stack) m f (refl, f.stack)
  load_same m (Some (Pending i)) f q = absurd (q i refl)

  -- a slot that is there
  pub slots_when : (s : ℕ) (m : Machine) (p' p : Stepped) → F m → S p' p →
      S (when (nat_lt s (length (map (known rs) m.frame.slots))) p' (broken (T m)))
      (when (nat_lt s (length m.frame.slots)) p (broken m))
  slots_when s m p' p f k = when_alike rs for_results _ _ _ _ _ _ (ap (nat_lt s) (length-map m.frame.slots (known rs))) k
      (breaks rs for_results m f)

  pub fine_put : (s : ℕ) (v : Value) (m : Machine) → F m → is_pending v ≡ false → F (put s v m)
  fine_put s v m f q = record {
    stack = f.stack;
    slots = settled_put for_results (length rs) m.frame.slots s v q f.slots;
    children = f.children;
  }

  pub store_same : (s : ℕ) (st : List Value) (m : Machine) → F m → AreSettled st → S (store s st (T m)) (store s st m)
  store_same s [] m f c = breaks rs for_results m f
  store_same s (v ∷ st) m f c =
      let m2 = at (suc m.frame.pc) st m in
      slots_when s m _ _ f (done rs for_results
      (ap goes (ap (λ u. put s u (T m2)) (sym (known_settled rs v c.0)) ∙ slots_set rs m2 s v))
      (fine_put s v m2 (fine_at rs for_results _ st m f c.1) c.0))

  pub discard_same : (st : List Value) (m : Machine) → F m → AreSettled st → S (discard st (T m)) (discard st m)
  discard_same [] m f c = breaks rs for_results m f
  discard_same (v ∷ st) m f c = goes_on rs for_results st m f c.1

  pub divided_same : (o : Option ℤ) (line : ℕ) (st : List Value) (m : Machine) → F m → AreSettled st →
      S (divided o line st (T m)) (divided o line st m)
  divided_same None line st m f c = faulted rs for_results _ line m f
  divided_same (Some z) line st m f c = goes_on rs for_results (Number z ∷ st) m f (refl, c)

  pub arithmetic_same : (o : Arithmetic) (w : Width) (line : ℕ) (m : Machine) → F m →
      S (computes o w line (T m)) (computes o w line m)
  arithmetic_same o w line m f = same_two rs for_results m.frame.stack m _ _ f f.stack
      (λ a b st c. divided_same (computed o w a b) line st m f c)

  -- ---- jumps

  pub jump_same : (body : List Line) (to : ℕ) (st : List Value) (m : Machine) → F m → AreSettled st →
      S (jump body to st (T m)) (jump body to st m)
  jump_same body to st m f c = same_when rs for_results (may_jump body m.frame.pc to) _ _ _ _
      (goes_to rs for_results to st m f c) (breaks rs for_results m f)

  pub leave_same : (to : ℕ) (m : Machine) → F m → S (leave to (T m)) (leave to m)
  leave_same to m f = same_when rs for_results (nat_lt m.frame.pc to) _ _ _ _
      (goes_to rs for_results to m.frame.stack m f f.stack) (breaks rs for_results m f)

  pub round_same : (c v : ℕ) (z i : ℤ) (m : Machine) → F m → S (round c v z i (T m)) (round c v z i m)
  round_same c v z i m f = slots_when v m _ _ f (done rs for_results
      (ap (λ x. next m.frame.stack x)
      (ap (put c (Number (i +ℤ pos 1))) (slots_set rs m v (Number z)) ∙ slots_set rs (put v (Number z) m) c (Number (i +ℤ pos 1))))
      (fine_at rs for_results _ m.frame.stack _ (fine_put c _ _ (fine_put v _ m f refl) refl) f.stack))

  pub count_same : (c v to line : ℕ) (m : Machine) (a b : Option Value) → F m →
      S (count_round c v to line (T m) a b) (count_round c v to line m a b)
  count_same c v to line m (Some (Number i)) (Some (Number k)) f = same_choice rs for_results (int_lt i k) _ _ _ _
      (same_turn rs for_results m.frame.turns line m _ _ f (λ p g. round_same c v i i (with_turns p m) g)) (leave_same to m f)
  count_same c v to line m _ _ f = breaks rs for_results m f

  pub take_same : (c v : ℕ) (ptr : Bool) (line i : ℕ) (m : Machine) (o : Option ℕ) → F m →
      S (take_point c v ptr line i (T m) o) (take_point c v ptr line i m o)
  take_same c v ptr line i m None f = breaks rs for_results m f
  take_same c v ptr line i m (Some k) f =
      same_turn rs for_results m.frame.turns line m _ _ f (λ p g. round_same c v (point_taken ptr k) (pos i) (with_turns p m) g)

  pub point_same : (c v : ℕ) (ptr : Bool) (to line i : ℕ) (m : Machine) (d : Value) (o : Option ℕ) → F m →
      S (point_round c v ptr to line i (T m) (known rs d) o) (point_round c v ptr to line i m d o)
  point_same c v ptr to line i m d None f = breaks rs for_results m f
  point_same c v ptr to line i m d (Some k) f = same_choice rs for_results (i == k) _ _ _ _ (leave_same to m f)
      (subst (λ o. S (take_point c v ptr line i (T m) o) (take_point c v ptr line i m (point_at d i)))
      (sym (point_known rs d i)) (take_same c v ptr line i m (point_at d i) f))

  -- the domain as it is seen, and the counter as it is
  pub points_same : (c v : ℕ) (ptr : Bool) (to line : ℕ) (m : Machine) (a b : Option Value) → F m →
      S (points_round c v ptr to line (T m) (option_map (known rs) a) b) (points_round c v ptr to line m a b)
  points_same c v ptr to line m (Some d) (Some (Number (pos i))) f =
      subst (λ o. S (point_round c v ptr to line i (T m) (known rs d) o) (point_round c v ptr to line i m d (size_of d)))
      (sym (size_known rs d)) (point_same c v ptr to line i m d (size_of d) f)
  points_same c v ptr to line m (Some d) (Some (Number (negsuc i))) f = breaks rs for_results m f
  points_same c v ptr to line m (Some d) (Some (Space i)) f = breaks rs for_results m f
  points_same c v ptr to line m (Some d) (Some (Region i)) f = breaks rs for_results m f
  points_same c v ptr to line m (Some d) (Some (Partition i)) f = breaks rs for_results m f
  points_same c v ptr to line m (Some d) (Some (Pending i)) f = breaks rs for_results m f
  points_same c v ptr to line m (Some d) None f = breaks rs for_results m f
  points_same c v ptr to line m None b f = breaks rs for_results m f

  -- ---- pointers

  pub pointer_same : (t : Target) (line : ℕ) (st : List Value) (m : Machine) → F m → AreSettled st →
      S (point t line st (T m)) (point t line st m)
  pointer_same null_target line st m f c = faulted rs for_results _ line m f
  pointer_same (point_target k i) line st m f c = goes_on rs for_results _ m f (refl, c)

  pub moved_same : (k : ℕ) (o : Option ℕ) (st : List Value) (m : Machine) → F m → AreSettled st →
      S (moved_to k o st (T m)) (moved_to k o st m)
  moved_same k (Some j) st m f c = goes_on rs for_results _ m f (refl, c)
  moved_same k None st m f c = breaks rs for_results m f

  pub move_same : (js : List ℕ) (t : Target) (st : List Value) (m : Machine) → F m → AreSettled st →
      S (move js t st (T m)) (move js t st m)
  move_same js null_target st m f c = goes_on rs for_results _ m f (refl, c)
  move_same js (point_target k zero) st m f c = goes_on rs for_results _ m f (refl, c)
  move_same js (point_target k (suc i)) st m f c = moved_same k (slice_get js i) st m f c

  pub cast_same : (o : Option (List PlainRegion)) (z : ℤ) (st : List Value) (m : Machine) → F m → AreSettled st →
      S (cast o z st (T m)) (cast o z st m)
  cast_same None z st m f c = breaks rs for_results m f
  cast_same (Some qs) z st m f c = goes_on rs for_results _ m f (refl, c)

  pub cast_pointer_same : (o : Option (List PlainRegion)) (t : Target) (st : List Value) (m : Machine) → F m → AreSettled st →
      S (cast_pointer o t st (T m)) (cast_pointer o t st m)
  cast_pointer_same None t st m f c = breaks rs for_results m f
  cast_pointer_same (Some qs) null_target st m f c = goes_on rs for_results _ m f (refl, c)
  cast_pointer_same (Some qs) (point_target k i) st m f c = goes_on rs for_results _ m f (refl, c)

  pub element_same : (o : Option RegionValue) (z : ℤ) (line : ℕ) (st : List Value) (m : Machine) → F m → AreSettled st →
      S (element o z line st (T m)) (element o z line st m)
  element_same None z line st m f c = breaks rs for_results m f
  element_same (Some r) (negsuc k) line st m f c = faulted rs for_results _ line m f
  element_same (Some r) (pos k) line st m f c = same_when rs for_results (has r.points k) _ _ _ _
      (goes_on rs for_results _ m f (refl, c)) (faulted rs for_results _ line m f)

  -- ---- prints

  -- what is left of a stack
  abbrev pub LeavesSettled : Taken → Type 0
  LeavesSettled few = Unit {0}
  LeavesSettled (taken vs st) = AreSettled st

  pub left_settled : (k : ℕ) (st vs : List Value) → AreSettled st → LeavesSettled (take_values k st vs)
  left_settled zero st vs c = c
  left_settled (suc k) [] vs c = tt
  left_settled (suc k) (Number z ∷ st) vs c = left_settled k st (Number z ∷ vs) c.1
  left_settled (suc k) (Space s ∷ st) vs c = left_settled k st (Space s ∷ vs) c.1
  left_settled (suc k) (Region r ∷ st) vs c = left_settled k st (Region r ∷ vs) c.1
  left_settled (suc k) (Partition p ∷ st) vs c = left_settled k st (Partition p ∷ vs) c.1
  left_settled (suc k) (Pending i ∷ st) vs c = tt

  pub writing_same : (o : Option (List ℕ)) (st : List Value) (m : Machine) → F m → AreSettled st →
      S (writing o st (T m)) (writing o st m)
  writing_same None st m f c = breaks rs for_results m f
  writing_same (Some t) st m f c = done rs for_results refl (fine_at rs for_results _ st m f c)

  pub printing_same : (ps : List PrintPart) (t : Taken) (m : Machine) → F m → LeavesSettled t →
      S (printing ps t (T m)) (printing ps t m)
  printing_same ps few m f c = breaks rs for_results m f
  printing_same ps (taken vs st) m f c = writing_same (text_of ps vs) st m f c

  -- ---- regions

  pub space_same : (z : ℤ) (line : ℕ) (st : List Value) (m : Machine) → F m → AreSettled st →
      S (space z line st (T m)) (space z line st m)
  space_same (pos k) line st m f c = same_when rs for_results (nat_le k 4194304) _ _ _ _
      (goes_on rs for_results _ m f (refl, c)) (faulted rs for_results _ line m f)
  space_same (negsuc k) line st m f c = faulted rs for_results _ line m f

  pub root_same : (o : Option SpaceCode) (k size : ℕ) (st : List Value) (m : Machine) → F m → AreSettled st →
      S (root_of_space o k size st (T m)) (root_of_space o k size st m)
  root_same None k size st m f c = breaks rs for_results m f
  root_same (Some s) k size st m f c = same_when rs for_results (nat_le (length s.fields) 256) _ _ _ _
      (same_yield rs for_results (yield.Make (made.Root size k)) st m f c tt) (breaks rs for_results m f)

  pub child_same : (o : Option RegionValue) (line : ℕ) (st : List Value) (m : Machine) → F m → AreSettled st →
      S (child_at o line st (T m)) (child_at o line st m)
  child_same None line st m f c = faulted rs for_results _ line m f
  child_same (Some r) line st m f c = goes_on rs for_results _ m f (refl, c)

  pub colors_same : (p : PartitionValue) (m : Machine) → F m →
      S (when (nat_le (length p.children) 4194304) (next (Space (length p.children) ∷ m.frame.stack) (T m)) (broken (T m)))
      (when (nat_le (length p.children) 4194304) (next (Space (length p.children) ∷ m.frame.stack) m) (broken m))
  colors_same p m f = same_when rs for_results (nat_le (length p.children) 4194304) _ _ _ _
      (goes_on rs for_results _ m f (refl, f.stack)) (breaks rs for_results m f)
