-- How instructions on numbers, jumps and heads of loops go on.
use Rattle.std.proofs.Common.{◌≡◌, ℕ, suc, ℤ, pos, List, [], ◌∷◌, Bool, true, false, Option, Some, None, refl, ap, ◌∙◌}
use Rattle.std.specs.Prelude.{slice_set, length, nat_lt, int_lt, ◌==◌}
use Rattle.std.proofs.lemmas.List.{length-set}
use Rattle.lane_kernels.specs.declared.numbers.Width.{Width}
use Rattle.regent_tree.specs.declared.expression.Arithmetic.{Arithmetic}
use Rattle.regent_tree.specs.Numbers.{computed}
use Rattle.machine_terms.specs.declared.value.Value.{Value}
use Rattle.machine_terms.specs.declared.value.Value.TheVariants.{Number, Space, Region, Partition, Pending}
use Rattle.machine_terms.specs.Machine.{Machine, goes, when, at, with_turns, broken}
use Rattle.machine_terms.specs.Numbers.{load, store, discard, divided, arithmetic as computes}
use Rattle.machine_terms.specs.Jumps.{fetch, may_jump, jump, leave, round, count_round, take_point, point_round, points_round, size_of, point_at, goes_back}
use Rattle.machine_terms.proofs.StepKinds.{Asking, Kind, fixed, steady_at, fixed_turns, over, awaits, nexted, jumped, turned, when_kind, stops_kind, next_kind, two_kind, turn_kind, choose_kind}

module _ (ask : Asking) where
  pub load_kind : (m : Machine) (o : Option Value) → ask.slot ≡ o → Kind ask m (load m o)
  load_kind m None e = stops_kind ask _ m tt
  load_kind m (Some (Pending i)) e = awaits i e
  load_kind m (Some (Number z)) e = next_kind ask _ m
  load_kind m (Some (Space n)) e = next_kind ask _ m
  load_kind m (Some (Region r)) e = next_kind ask _ m
  load_kind m (Some (Partition p)) e = next_kind ask _ m

  pub store_kind : (s : ℕ) (st : List Value) (m : Machine) → Kind ask m (store s st m)
  store_kind s [] m = stops_kind ask _ m tt
  store_kind s (v ∷ st) m = when_kind ask m (nat_lt s (length m.frame.slots)) _ _
      (nexted _ (record { task = refl; slots = length-set m.frame.slots s v; later = refl; depth = refl; own = refl; needs = refl; parts = refl; fits = λ h. h }) refl refl)
      (stops_kind ask _ m tt)

  pub discard_kind : (st : List Value) (m : Machine) → Kind ask m (discard st m)
  discard_kind [] m = stops_kind ask _ m tt
  discard_kind (v ∷ st) m = next_kind ask st m

  pub divided_kind : (o : Option ℤ) (line : ℕ) (st : List Value) (m : Machine) →
      Kind ask m (divided o line st m)
  divided_kind (Some z) line st m = next_kind ask _ m
  divided_kind None line st m = stops_kind ask _ m tt

  pub jump_kind : (to : ℕ) (st : List Value) (m : Machine) → Kind ask m (jump ask.body to st m)
  jump_kind to st m = allowed (may_jump ask.body m.frame.pc to) refl
    where
      allowed : (b : Bool) → may_jump ask.body m.frame.pc to ≡ b →
          Kind ask m (when b (goes (at to st m)) (broken m))
      allowed true e = jumped _ (steady_at to st m) refl e
      allowed false e = stops_kind ask _ m tt

  pub leave_kind : (to : ℕ) (m : Machine) → Kind ask m (leave to m)
  leave_kind to m = allowed (nat_lt m.frame.pc to) refl
    where
      allowed : (b : Bool) → nat_lt m.frame.pc to ≡ b →
          Kind ask m (when b (goes (at to m.frame.stack m)) (broken m))
      allowed true e = jumped _ (steady_at to m.frame.stack m) refl
          (ap (λ c. elim c [ true ↦ true | false ↦ goes_back m.frame.pc (fetch ask.body to) ]) e)
      allowed false e = stops_kind ask _ m tt

  pub round_kind : (c v : ℕ) (z i : ℤ) (m : Machine) (p : ℕ) → suc p ≡ m.frame.turns →
      Kind ask m (round c v z i (with_turns p m))
  round_kind c v z i m p e = when_kind ask m (nat_lt v (length m.frame.slots)) _ _
      (turned _ (record {
        task = refl;
        slots = length-set (slice_set m.frame.slots v (Number z)) c _ ∙ length-set m.frame.slots v (Number z);
        later = refl;
        depth = refl;
        own = refl;
        needs = refl;
        parts = refl;
        fits = λ h. h;
      }) e)
      (over _ _ tt (fixed_turns p m))

  pub count_kind : (c v to line : ℕ) (m : Machine) (a b : Option Value) →
      Kind ask m (count_round c v to line m a b)
  count_kind c v to line m (Some (Number i)) (Some (Number n)) =
      choose_kind ask m (int_lt i n) _ _
      (turn_kind ask m.frame.turns line m _ refl (λ p e. round_kind c v i i m p e)) (leave_kind to m)
  count_kind c v to line m _ _ = stops_kind ask _ m tt

  pub take_kind : (c v : ℕ) (ptr : Bool) (line i : ℕ) (m : Machine) (o : Option ℕ) →
      Kind ask m (take_point c v ptr line i m o)
  take_kind c v ptr line i m (Some n) =
      turn_kind ask m.frame.turns line m _ refl (λ p e. round_kind c v _ (pos i) m p e)
  take_kind c v ptr line i m None = stops_kind ask _ m tt

  pub point_kind : (c v : ℕ) (ptr : Bool) (to line i : ℕ) (m : Machine) (d : Value) (o : Option ℕ) →
      Kind ask m (point_round c v ptr to line i m d o)
  point_kind c v ptr to line i m d (Some n) = choose_kind ask m (i == n) _ _ (leave_kind to m)
      (take_kind c v ptr line i m (point_at d i))
  point_kind c v ptr to line i m d None = stops_kind ask _ m tt

  pub points_kind : (c v : ℕ) (ptr : Bool) (to line : ℕ) (m : Machine) (a b : Option Value) →
      Kind ask m (points_round c v ptr to line m a b)
  points_kind c v ptr to line m (Some d) (Some (Number (pos i))) =
      point_kind c v ptr to line i m d (size_of d)
  points_kind c v ptr to line m _ _ = stops_kind ask _ m tt

  pub arithmetic_kind : (o : Arithmetic) (w : Width) (line : ℕ) (m : Machine) →
      Kind ask m (computes o w line m)
  arithmetic_kind o w line m = two_kind ask _ m.frame.stack m _ (fixed _)
      (λ a b st e. divided_kind (computed o w a b) line st m)
