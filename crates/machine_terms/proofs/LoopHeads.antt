-- What the head of a loop does, to which a jump goes back: it takes a turn, or leaves for a place
-- behind the jump, or the instance is over.
use Rattle.std.proofs.Common.{◌≡◌, ℕ, zero, suc, ◌<◌, pos, List, Bool, true, false, Option, Some, None, refl, sym}
use Rattle.std.specs.Prelude.{slice_get, length, nat_lt, int_lt, ◌==◌}
use Rattle.std.proofs.lemmas.Bool.{ltb-true}
use Rattle.task_code.specs.declared.code.Code.{Code}
use Rattle.task_code.specs.declared.code.Line.{Line}
use Rattle.task_code.specs.declared.instr.Instr.{Instr}
use Rattle.task_code.specs.declared.instr.Instr.TheVariants as instr
use Rattle.machine_terms.specs.declared.frame.Frame.{Frame}
use Rattle.machine_terms.specs.declared.outcome.Yield.{Yield}
use Rattle.machine_terms.specs.declared.value.Value.{Value}
use Rattle.machine_terms.specs.declared.value.Value.TheVariants.{Number}
use Rattle.machine_terms.specs.Machine.{Machine, Stepped, goes, stops, when, at, broken, on_turn, with_turns}
use Rattle.machine_terms.specs.Jumps.{turns_back, leave, count_round, take_point, point_round, points_round, size_of, point_at}
use Rattle.machine_terms.specs.Segments.{act}
use Rattle.machine_terms.proofs.StepKinds.{IsOver}

-- the head of a loop, to which a jump goes back from a place
pub data Head (from : ℕ) (f : Frame) : Stepped → Type 0 where
  head_stops : (y : Yield) (m : Machine) → IsOver y → Head from f (stops y m)
  head_turns : (m : Machine) → suc m.frame.turns ≡ f.turns → Head from f (goes m)
  head_leaves : (m : Machine) → m.frame.turns ≡ f.turns → from < m.frame.pc → Head from f (goes m)

-- a turn, or none
data Turns (f : Frame) : Stepped → Type 0 where
  turns_stop : (y : Yield) (m : Machine) → IsOver y → Turns f (stops y m)
  turns_go : (m : Machine) → suc m.frame.turns ≡ f.turns → Turns f (goes m)

module _ (from : ℕ) where
  of_turns : (f : Frame) (s : Stepped) → Turns f s → Head from f s
  of_turns f _ (turns_stop y m o) = head_stops y m o
  of_turns f _ (turns_go m e) = head_turns m e

  round_head : (n line : ℕ) (m : Machine) (more : Machine → Stepped) → m.frame.turns ≡ n →
      ((p : ℕ) → suc p ≡ m.frame.turns → Turns m.frame (more (with_turns p m))) →
      Head from m.frame (on_turn n line m more)
  round_head zero line m more e k = head_stops _ m tt
  round_head (suc p) line m more e k = of_turns m.frame _ (k p (sym e))

  when_turns : (f : Frame) (b : Bool) (m n : Machine) → suc m.frame.turns ≡ f.turns →
      Turns f (when b (goes m) (broken n))
  when_turns f true m n e = turns_go m e
  when_turns f false m n e = turns_stop _ n tt

  leave_head : (to : ℕ) (m : Machine) → from < to → Head from m.frame (leave to m)
  leave_head to m l = allowed (nat_lt m.frame.pc to)
    where
      allowed : (b : Bool) → Head from m.frame (when b (goes (at to m.frame.stack m)) (broken m))
      allowed true = head_leaves _ refl l
      allowed false = head_stops _ m tt

  choose_head : (f : Frame) (b : Bool) (p q : Stepped) → Head from f p → Head from f q →
      Head from f (elim b [ true ↦ p | false ↦ q ])
  choose_head f true p q k l = k
  choose_head f false p q k l = l

  count_head : (c v to line : ℕ) (m : Machine) (a b : Option Value) → from < to →
      Head from m.frame (count_round c v to line m a b)
  count_head c v to line m (Some (Number i)) (Some (Number n)) l = choose_head m.frame (int_lt i n) _ _
      (round_head m.frame.turns line m _ refl (λ p e. when_turns m.frame (nat_lt v (length m.frame.slots)) _ _ e))
      (leave_head to m l)
  count_head c v to line m _ _ l = head_stops _ m tt

  take_head : (c v : ℕ) (ptr : Bool) (line i : ℕ) (m : Machine) (o : Option ℕ) →
      Head from m.frame (take_point c v ptr line i m o)
  take_head c v ptr line i m (Some n) = round_head m.frame.turns line m _ refl
      (λ p e. when_turns m.frame (nat_lt v (length m.frame.slots)) _ _ e)
  take_head c v ptr line i m None = head_stops _ m tt

  point_head : (c v : ℕ) (ptr : Bool) (to line i : ℕ) (m : Machine) (d : Value) (o : Option ℕ) → from < to →
      Head from m.frame (point_round c v ptr to line i m d o)
  point_head c v ptr to line i m d (Some n) l = choose_head m.frame (i == n) _ _ (leave_head to m l)
      (take_head c v ptr line i m (point_at d i))
  point_head c v ptr to line i m d None l = head_stops _ m tt

  points_head : (c v : ℕ) (ptr : Bool) (to line : ℕ) (m : Machine) (a b : Option Value) → from < to →
      Head from m.frame (points_round c v ptr to line m a b)
  points_head c v ptr to line m (Some d) (Some (Number (pos i))) l = point_head c v ptr to line i m d (size_of d) l
  points_head c v ptr to line m _ _ l = head_stops _ m tt

  pub head_kind : (code : Code) (body : List Line) (i : Instr) (line : ℕ) (m : Machine) → turns_back from i ≡ true →
      Head from m.frame (act code body i line m)
  head_kind code body instr.Turn line m e = round_head m.frame.turns line m _ refl (λ p d. turns_go _ d)
  head_kind code body (instr.NextNumber c l v to) line m e =
      count_head c v to line m (slice_get m.frame.slots c) (slice_get m.frame.slots l) (ltb-true from to e)
  head_kind code body (instr.NextPoint s c v ptr to) line m e =
      points_head c v ptr to line m (slice_get m.frame.slots s) (slice_get m.frame.slots c) (ltb-true from to e)
  head_kind code body _ line m e = absurd cc
