-- From a machine that fits valid code, a step leads to one that fits, or stops well.
use Rattle.std.proofs.Common.{◌≡◌, inl, inr, ⊎_elim, ℕ, suc, ◌<◌, ◌≤◌, ◌^◌, ℤ, pos, negsuc, ◌+ℤ◌, List, ◌∷◌, Bool, true, false, cond, Option, Some, None, refl, sym, ap, ◌∙◌, subst, arith}
use Rattle.std.specs.Prelude.{slice_get, slice_set, length, int_lt, ◌==◌, ◌%◌}
use Rattle.std.specs.Ordering.{int_eq}
use Rattle.std.proofs.lemmas.Bool.{lt-ltb, eqb-false}
use Rattle.std.proofs.lemmas.Option.{slice_get-get_or, none-some}
use Rattle.std.proofs.Math.Nat.{eq-or-lt_of_le}
use Rattle.task_code.specs.declared.code.Line.{Line}
use Rattle.task_code.specs.declared.code.TaskCode.{TaskCode}
use Rattle.task_code.specs.declared.instr.Instr.{Instr}
use Rattle.task_code.specs.declared.instr.Instr.TheVariants as instr
use Rattle.machine_terms.specs.declared.value.PartitionValue.{PartitionValue}
use Rattle.machine_terms.specs.declared.value.RegionValue.{RegionValue}
use Rattle.machine_terms.specs.declared.value.Value.{Value}
use Rattle.machine_terms.specs.declared.value.Value.TheVariants as value
use Rattle.machine_terms.specs.Machine.{Machine, Stepped, goes, when, at, put, with_turns, next, broken, on_turn, on_number}
use Rattle.regent_tree.specs.Values.{target_kept}
use Rattle.machine_terms.specs.Numbers.{load, store}
use Rattle.machine_terms.specs.Pointers.{point}
use Rattle.machine_terms.specs.Jumps.{fetch, may_jump, jump, leave, round, count_round, next_number, size_of, point_at, take_point, point_round, points_round}
use Rattle.machine_terms.specs.Regions.{child, child_at, coloured, partition_in, with_partition}
use Rattle.machine_terms.specs.Segments.{act, act_at, step}
use Rattle.fit_rules.specs.Shapes.{Among, Each, HasPoint, IsPointOf, Shape, integer, truth, index, pointer, space, region, awaited, IsPartition, is_region, is_pending, Numeric, numeric_integer, numeric_truth, numeric_index, numeric_pointer, NumberIs, World, Is, is_number, Are, are_more, unknown}
use Rattle.fit_rules.specs.Marks.{HasNumber, Colour, colour_in, point_in, HasColour, child_in, top_colour, top_at, HoldsTop, ColoursStand, topped, Fact, counts, parted, lies, in_slot, Holds, AtMost, size_in, Mark, Suits, stacked}
use Rattle.fit_rules.specs.Fits.{Program, Fits}
use Rattle.fit_rules.specs.Sound.{HasPartition, To, ToStored, RoundNumber, RoundPoint, Sound, straight, colours, colours_by, colours_point, takes_child, awaits, stored, jumps, jumps_if_not, jumps_and, jumps_or, counts_numbers, counts_points, makes_root, makes_equal, makes_by_field, makes_minus, makes_meet, makes_join, makes_image, makes_preimage, makes_call, makes_launch, takes_turn, returns, returns_value, Valid}
use Rattle.fit_rules.specs.Ends.{Safe, safe_goes, safe_stops}
use Rattle.fit_laws.proofs.Held.{over, region_held}
use Rattle.fit_laws.proofs.Lookup.{each_among, value_at, as_long}
use Rattle.fit_laws.proofs.Straight.{beside_moved, fits_at, fits_topped, moved, safe_number, turned}
use Rattle.fit_laws.proofs.Pointers.{partition_at, among_coloured}
use Rattle.fit_laws.proofs.Numbers.{point_below, small_fits}
use Rattle.fit_laws.proofs.Calls.{call_safe}
use Rattle.fit_laws.proofs.Launches.{launch_safe}
use Rattle.fit_laws.proofs.Columns.{by_field_safe, image_safe, preimage_safe}
use Rattle.fit_laws.proofs.Rooting.{new_root_safe}
use Rattle.fit_laws.proofs.Making.{equal_safe, minus_safe, meet_safe, join_safe}
use Rattle.fit_laws.proofs.Settling.{settles}
use Rattle.fit_laws.proofs.Effects.{effect_safe}

module _ (g : Program) (x : World) (t : TaskCode) (k : ℕ) (m : Machine) (fit : Fits g x t k m) where
  abbrev here : Mark
  here = g.marks k m.frame.pc

  same_stack : (ss : List Shape) → here.stack ≡ ss → Are (over g x k m) ss m.frame.stack
  same_stack ss e = subst (λ y. Are (over g x k m) y m.frame.stack) e fit.suits.stack

  -- ---- slots

  stored_safe : (s : ℕ) (a : Shape) (ss : List Shape) (st : List Value) → s < length here.slots →
      ToStored g t k here s (suc m.frame.pc) → st ≡ m.frame.stack → Are (over g x k m) (a ∷ ss) st →
      Safe g x t k (store s st m)
  stored_safe s a ss _ l to e (are_more _ v _ st h b) =
      subst (λ y. Safe g x t k (when y (goes (put s v (at (suc m.frame.pc) st m))) (broken m)))
      (sym (lt-ltb s (length m.frame.slots) (omega (arith, l, as_long x here.slots m.frame.slots fit.suits.slots))))
      (safe_goes _ (record {
        inside = to.0;
        suits = to.1 x m.frame.slots st v (subst (λ y. Suits x t.params here m.frame.slots y) (sym e) fit.suits);
        beside = beside_moved g x t k m fit _ _ _ _ m.parts (omega arith) fit.beside.parts;
      }))

  -- ---- jumps

  jump_safe : (to : ℕ) (ss : List Shape) (st : List Value) → may_jump t.body m.frame.pc to ≡ true →
      To g t k (stacked here ss) to → Are (over g x k m) ss st → Safe g x t k (jump t.body to st m)
  jump_safe to ss st e h a = subst (λ b. Safe g x t k (when b (goes (at to st m)) (broken m))) (sym e)
      (safe_goes _ (fits_at g x t k m fit to ss st h a))

  next_safe : (ss : List Shape) (st : List Value) → To g t k (stacked here ss) (suc m.frame.pc) → Are (over g x k m) ss st →
      Safe g x t k (next st m)
  next_safe ss st h a = safe_goes _ (fits_at g x t k m fit (suc m.frame.pc) ss st h a)

  either : (b : Bool) (p q : Stepped) → Safe g x t k p → Safe g x t k q →
      Safe g x t k (elim b [ true ↦ p | false ↦ q ])
  either true p q h i = h
  either false p q h i = i

  leave_safe : (to : ℕ) → m.frame.pc < to → To g t k (stacked here here.stack) to → Safe g x t k (leave to m)
  leave_safe to l h = subst (λ b. Safe g x t k (when b (goes (at to m.frame.stack m)) (broken m)))
      (sym (lt-ltb m.frame.pc to l)) (safe_goes _ (fits_at g x t k m fit to here.stack m.frame.stack h fit.suits.stack))

  -- ---- turns

  moved_fits : (pc p : ℕ) (vs st : List Value) → suc p ≡ m.frame.turns → pc < length t.body →
      Suits x t.params (g.marks k pc) vs st → Fits g x t k (moved g x t k m fit pc p vs st m.parts)
  moved_fits pc p vs st e l s = record {
    inside = l;
    suits = s;
    beside = beside_moved g x t k m fit pc p vs st m.parts (omega (arith, e)) fit.beside.parts;
  }

  round_safe : (c v p : ℕ) (z i : ℤ) → suc p ≡ m.frame.turns → v < length here.slots → suc m.frame.pc < length t.body →
      Suits x t.params (g.marks k (suc m.frame.pc))
      (slice_set (slice_set m.frame.slots v (value.Number z)) c (value.Number (i +ℤ pos 1))) m.frame.stack →
      Safe g x t k (round c v z i (with_turns p m))
  round_safe c v p z i e l h s =
      subst (λ b. Safe g x t k (when b (next m.frame.stack (put c (value.Number (i +ℤ pos 1)) (put v (value.Number z) (with_turns p m))))
      (broken (with_turns p m))))
      (sym (lt-ltb v (length m.frame.slots) (omega (arith, l, as_long x here.slots m.frame.slots fit.suits.slots))))
      (safe_goes _ (moved_fits (suc m.frame.pc) p _ m.frame.stack e h s))

  -- a number in a slot
  pub record NumberAt (s : ℕ) : Type 0 where
    pub number : ℤ
    pub there : slice_get m.frame.slots s ≡ Some (value.Number number)

  number_at : (s : ℕ) (a : Shape) → slice_get here.slots s ≡ Some a → Numeric a → NumberAt s
  number_at s a e n = let v = value_at x _ _ s a fit.suits.slots e in of_value a v.value n v.of v.at
    where
      of_value : (a : Shape) (v : Value) → Numeric a → Is x a v → slice_get m.frame.slots s ≡ Some v → NumberAt s
      of_value _ _ (numeric_integer w) (is_number _ z h) e = record { number = z; there = e }
      of_value _ _ numeric_truth (is_number _ z h) e = record { number = z; there = e }
      of_value _ _ numeric_index (is_number _ z h) e = record { number = z; there = e }
      of_value _ _ (numeric_pointer n) (is_number _ z h) e = record { number = z; there = e }

  count_safe : (c l v to line : ℕ) (i e : ℤ) → v < length here.slots → m.frame.pc < to → To g t k (stacked here here.stack) to →
      suc m.frame.pc < length t.body → RoundNumber g t c l v here (g.marks k (suc m.frame.pc)) →
      slice_get m.frame.slots c ≡ Some (value.Number i) → slice_get m.frame.slots l ≡ Some (value.Number e) →
      Safe g x t k (count_round c v to line m (Some (value.Number i)) (Some (value.Number e)))
  count_safe c l v to line i e hv ht h hs r ec el = tested (int_lt i e) refl
    where
      tested : (b : Bool) → int_lt i e ≡ b → Safe g x t k (elim b [
        | true ↦ on_turn m.frame.turns line m (round c v i i)
        | false ↦ leave to m
      ])
      tested true q = turned g x t k m fit m.frame.turns line _ refl (λ p ep. round_safe c v p i i ep hv hs
          (r x m.frame.slots m.frame.stack fit.suits i e ec el q))
      tested false q = leave_safe to ht h

  next_number_safe : (c l v to line : ℕ) (a b : Shape) → slice_get here.slots c ≡ Some a → Numeric a →
      slice_get here.slots l ≡ Some b → Numeric b → v < length here.slots → m.frame.pc < to → To g t k (stacked here here.stack) to →
      suc m.frame.pc < length t.body → RoundNumber g t c l v here (g.marks k (suc m.frame.pc)) →
      Safe g x t k (next_number c l v to line m)
  next_number_safe c l v to line a b ea na eb nb hv ht h hs r =
      let i = number_at c a ea na in
      let e = number_at l b eb nb in
      subst (λ o. Safe g x t k (count_round c v to line m o (slice_get m.frame.slots l))) (sym i.there)
      (subst (λ o. Safe g x t k (count_round c v to line m (Some (value.Number i.number)) o)) (sym e.there)
      (count_safe c l v to line i.number e.number hv ht h hs r i.there e.there))

  -- ---- colours

  slot_coloured : (i : ℕ) (s : Shape) → slice_get here.slots i ≡ Some s → Numeric s →
      To g t k (topped here (s ∷ here.stack) (top_colour (colour_in i))) (suc m.frame.pc) →
      Safe g x t k (load m (slice_get m.frame.slots i))
  slot_coloured i s e n to = let v = value_at x _ _ i s fit.suits.slots e in of_value s v.value n v.of v.at to
    where
      of_number : (s : Shape) (z : ℤ) → NumberIs s z → slice_get m.frame.slots i ≡ Some (value.Number z) →
          To g t k (topped here (s ∷ here.stack) (top_colour (colour_in i))) (suc m.frame.pc) →
          Safe g x t k (load m (slice_get m.frame.slots i))
      of_number s z h e to = subst (λ o. Safe g x t k (load m o)) (sym e)
          (safe_goes _ (fits_topped g x t k m fit (suc m.frame.pc) _ _ _ to
          (are_more s _ _ _ (is_number s z h) fit.suits.stack) (subst (HasNumber z) (sym e) refl)))

      of_value : (s : Shape) (v : Value) → Numeric s → Is x s v → slice_get m.frame.slots i ≡ Some v →
          To g t k (topped here (s ∷ here.stack) (top_colour (colour_in i))) (suc m.frame.pc) →
          Safe g x t k (load m (slice_get m.frame.slots i))
      of_value _ _ (numeric_integer w) (is_number _ z h) e to = of_number (integer w) z h e to
      of_value _ _ numeric_truth (is_number _ z h) e to = of_number truth z h e to
      of_value _ _ numeric_index (is_number _ z h) e to = of_number index z h e to
      of_value _ _ (numeric_pointer n) (is_number _ z h) e to = of_number (pointer n) z h e to

  child_coloured : (i line : ℕ) (sp : Option ℕ) (a : Shape) (ss : List Shape) (c : Colour) →
      here.stack ≡ a ∷ ss → Numeric a → HasPartition here sp i → Among here.top (top_colour c) →
      To g t k (topped here (region sp unknown ∷ ss) (top_at (child_in i c))) (suc m.frame.pc) →
      Safe g x t k (child i line m)
  child_coloured i line sp a ss c e n h q to =
      let w = partition_at g x t k m fit sp i h in
      subst (λ o. Safe g x t k (with_partition o m (λ p. on_number m.frame.stack m (λ z st.
      child_at (coloured p.children z) line st m)))) (sym w.there)
      (of_stack m.frame.stack (same_stack (a ∷ ss) e) n w.partition_there w.there w.is_partition_there
      (each_among (λ y. HoldsTop y m.frame.slots m.frame.stack) here.top (top_colour c) q fit.suits.top))
    where
      of_child : (o : Option RegionValue) (z : ℤ) (st : List Value) (p : PartitionValue) →
          coloured p.children z ≡ o → Are (over g x k m) ss st →
          partition_in (slice_get m.frame.slots i) ≡ Some p → IsPartition x sp h.disjoint p →
          HasColour m.frame.slots c z → Safe g x t k (child_at o line st m)
      of_child None z st p eo b ep ip hc = safe_stops _ _ (fit.beside.parts, tt)
      of_child (Some r) z st p eo b ep ip hc = safe_goes _ (fits_topped g x t k m fit (suc m.frame.pc) _ _ _ to
          (are_more _ _ ss st (is_region sp unknown r (region_held x _ sp unknown r tt (ip.regions r (among_coloured p.children z r eo)).1)) b)
          (record { parts = p; there = ep; colour = z; has_colour = hc; child = eo }))

      of_stack : (st : List Value) → Are (over g x k m) (a ∷ ss) st → Numeric a → (p : PartitionValue) →
          partition_in (slice_get m.frame.slots i) ≡ Some p → IsPartition x sp h.disjoint p →
          HoldsTop (top_colour c) m.frame.slots st →
          Safe g x t k (on_number st m (λ z st. child_at (coloured p.children z) line st m))
      of_stack _ (are_more _ (value.Number z) _ st hv b) n p ep ip hc = of_child _ z st p refl b ep ip hc
      of_stack _ (are_more _ (value.Space z) _ st hv b) n p ep ip hc = absurd hc
      of_stack _ (are_more _ (value.Region z) _ st hv b) n p ep ip hc = absurd hc
      of_stack _ (are_more _ (value.Partition z) _ st hv b) n p ep ip hc = absurd hc
      of_stack _ (are_more _ (value.Pending z) _ st hv b) n p ep ip hc = absurd hc

  -- the point of a pointer in a slot
  point_coloured : (i line : ℕ) (a : Shape) (ss : List Shape) → here.stack ≡ a ∷ ss → Among here.top (top_colour (colour_in i)) →
      To g t k (topped here (index ∷ ss) (top_colour (point_in i))) (suc m.frame.pc) →
      Safe g x t k (on_number m.frame.stack m (λ z st. point (target_kept z) line st m))
  point_coloured i line a ss e q to = of_stack m.frame.stack (same_stack (a ∷ ss) e)
      (each_among (λ y. HoldsTop y m.frame.slots m.frame.stack) here.top (top_colour (colour_in i)) q fit.suits.top)
    where
      of_slot : (n : ℕ) (o : Option Value) → HasNumber (pos n) o → HasPoint (pos (n % 2 ^ 32)) o
      of_slot n (Some (value.Number y)) h = subst (λ u. IsPointOf (pos (n % 2 ^ 32)) (target_kept u)) (sym h) refl
      of_slot n None h = absurd h
      of_slot n (Some (value.Space y)) h = absurd h
      of_slot n (Some (value.Region y)) h = absurd h
      of_slot n (Some (value.Partition y)) h = absurd h
      of_slot n (Some (value.Pending y)) h = absurd h

      of_number : (z : ℤ) (st : List Value) → Are (over g x k m) ss st → HasNumber z (slice_get m.frame.slots i) →
          Safe g x t k (point (target_kept z) line st m)
      of_number (pos n) st b h = safe_goes _ (fits_topped g x t k m fit (suc m.frame.pc) _ _ _ to
          (are_more index _ ss st (is_number index _ (small_fits _ (point_below n))) b) (of_slot n (slice_get m.frame.slots i) h))
      of_number (negsuc n) st b h = safe_stops _ _ (fit.beside.parts, tt)

      of_stack : (st : List Value) → Are (over g x k m) (a ∷ ss) st → HoldsTop (top_colour (colour_in i)) m.frame.slots st →
          Safe g x t k (on_number st m (λ z st. point (target_kept z) line st m))
      of_stack _ (are_more _ (value.Number z) _ st hv b) h = of_number z st b h
      of_stack _ (are_more _ (value.Space z) _ st hv b) h = absurd h
      of_stack _ (are_more _ (value.Region z) _ st hv b) h = absurd h
      of_stack _ (are_more _ (value.Partition z) _ st hv b) h = absurd h
      of_stack _ (are_more _ (value.Pending z) _ st hv b) h = absurd h

  -- ---- results

  awaited_safe : (i : ℕ) (s : Shape) → slice_get here.slots i ≡ Some (awaited s) → Numeric s → Each (ColoursStand here.slots) here.facts →
      To g t k (stacked here (s ∷ here.stack)) (suc m.frame.pc) → Safe g x t k (load m (slice_get m.frame.slots i))
  awaited_safe i s e n h to =
      let v = value_at x _ _ i (awaited s) fit.suits.slots e in
      subst (λ o. Safe g x t k (load m o)) (sym v.at) (of_value v.value v.of)
    where
      of_value : (v : Value) → Is x (awaited s) v → Safe g x t k (load m (Some v))
      of_value _ (is_number _ z q) = safe_goes _ (fits_at g x t k m fit (suc m.frame.pc) _ _ to
          (are_more s _ _ _ (is_number s z q) fit.suits.stack))
      of_value _ (is_pending _ j l r) = safe_stops _ _ (
        fit.beside.parts,
        (
          fit,
          l,
          λ z q. record {
            inside = fit.inside;
            suits = settles t.params here h x _ _ j z fit.suits q;
            beside = beside_moved g x t k m fit _ _ _ _ m.parts (omega arith) fit.beside.parts;
          },
        ),
      )

  -- ---- points

  fact_at : (f : Fact) → Among here.facts f → Holds f m.frame.slots
  fact_at f h = each_among (λ y. Holds y m.frame.slots) here.facts f h fit.suits.facts

  pub record PointAt (d : Value) (i : ℕ) : Type 0 where
    pub point : ℕ
    pub there : point_at d i ≡ Some point

  point_there : (d : Value) (i n : ℕ) → size_of d ≡ Some n → i < n → PointAt d i
  point_there (value.Space s) i n e l =
      let same : s ≡ n = ap (λ o. elim o [ None ↦ 0 | Some y ↦ y ]) e in
      record { point = i; there = ap (λ b. cond b (Some i) None) (lt-ltb i s (omega (arith, same, l))) }
  point_there (value.Region r) i n e l =
      let same : length r.points ≡ n = ap (λ o. elim o [ None ↦ 0 | Some y ↦ y ]) e in
      record { point = _; there = slice_get-get_or r.points i 0 (omega (arith, same, l)) }
  point_there (value.Number z) i n e l = absurd (none-some n e)
  point_there (value.Partition q) i n e l = absurd (none-some n e)
  point_there (value.Pending j) i n e l = absurd (none-some n e)

  points_safe : (s c v : ℕ) (ptr : Bool) (to line : ℕ) (a b : Option Value) → v < length here.slots →
      m.frame.pc < to → To g t k (stacked here here.stack) to → suc m.frame.pc < length t.body →
      RoundPoint g t s c v ptr here (g.marks k (suc m.frame.pc)) →
      slice_get m.frame.slots s ≡ a → slice_get m.frame.slots c ≡ b → AtMost (size_in a) b →
      Safe g x t k (points_round c v ptr to line m a b)
  points_safe s c v ptr to line None b hv ht h hs r ea eb q = absurd q
  points_safe s c v ptr to line (Some d) b hv ht h hs r ea eb q = of_size b (size_of d) refl eb q
    where
      rounds_on : (i n : ℕ) (y : Bool) → i == n ≡ y → i ≤ n → size_of d ≡ Some n →
          slice_get m.frame.slots c ≡ Some (value.Number (pos i)) →
          Safe g x t k (elim y [ true ↦ leave to m | false ↦ take_point c v ptr line i m (point_at d i) ])
      rounds_on i n true e l es ec = leave_safe to ht h
      rounds_on i n false e l es ec =
          let p = point_there d i n es (⊎_elim (λ u. absurd (eqb-false i n e u)) (λ u. u) (eq-or-lt_of_le l)) in
          subst (λ o. Safe g x t k (take_point c v ptr line i m o)) (sym p.there)
          (turned g x t k m fit m.frame.turns line _ refl (λ w ew. round_safe c v w _ (pos i) ew hv hs
          (r x m.frame.slots m.frame.stack fit.suits d i p.point ea ec p.there)))

      of_size : (b : Option Value) (o : Option ℕ) → size_of d ≡ o → slice_get m.frame.slots c ≡ b → AtMost o b →
          Safe g x t k (points_round c v ptr to line m (Some d) b)
      of_size (Some (value.Number z)) (Some n) es eb q =
          subst (λ y. Safe g x t k (points_round c v ptr to line m (Some d) (Some (value.Number y)))) (sym q.1)
          (subst (λ o. Safe g x t k (point_round c v ptr to line q.0 m d o)) (sym es)
          (rounds_on q.0 n (q.0 == n) refl q.2 es (eb ∙ ap (λ y. Some (value.Number y)) q.1)))
      of_size None (Some n) es eb q = absurd q
      of_size (Some (value.Space z)) (Some n) es eb q = absurd q
      of_size (Some (value.Region z)) (Some n) es eb q = absurd q
      of_size (Some (value.Partition z)) (Some n) es eb q = absurd q
      of_size (Some (value.Pending z)) (Some n) es eb q = absurd q
      of_size b None es eb q = absurd q

  -- ---- all instructions

  sound_safe : length t.body ≤ 2 ^ 32 → (i : Instr) (line : ℕ) → Sound g t k m.frame.pc i →
      Safe g x t k (act g.code t.body i line m)
  sound_safe short _ line (straight i ss e to) =
      effect_safe g x t k m fit t.body i here.stack ss line e to fit.suits.stack
  sound_safe short _ line (colours z s h to) = safe_goes _ (fits_topped g x t k m fit (suc m.frame.pc) _ _ _ to
      (are_more s _ _ _ (is_number s z h) fit.suits.stack) refl)
  sound_safe short _ line (colours_by i s e n to) = slot_coloured i s e n to
  sound_safe short _ line (colours_point i a ss e n q to) = point_coloured i line a ss e q to
  sound_safe short _ line (takes_child i sp a ss c e n h q to) = child_coloured i line sp a ss c e n h q to
  sound_safe short _ line (awaits i s e n h to) = awaited_safe i s e n h to
  sound_safe short _ line (stored s a ss e l to) =
      stored_safe s a ss m.frame.stack l to refl (same_stack (a ∷ ss) e)
  sound_safe short _ line (jumps to e h) = jump_safe to here.stack m.frame.stack e h fit.suits.stack
  sound_safe short _ line (jumps_if_not to a ss e n j h i) =
      safe_number g x t k m fit a ss m.frame.stack _ n (same_stack (a ∷ ss) e)
      (λ z st q b. either (int_eq z (pos 0)) _ _ (jump_safe to ss st j h b) (next_safe ss st i b))
  sound_safe short _ line (jumps_and to a ss e n j h i) =
      safe_number g x t k m fit a ss m.frame.stack _ n (same_stack (a ∷ ss) e)
      (λ z st q b. either (int_eq z (pos 0)) _ _
      (jump_safe to (truth ∷ ss) _ j h (are_more truth _ ss st (is_number truth (pos 0) (inl refl)) b)) (next_safe ss st i b))
  sound_safe short _ line (jumps_or to a ss e n j h i) =
      safe_number g x t k m fit a ss m.frame.stack _ n (same_stack (a ∷ ss) e)
      (λ z st q b. either (int_eq z (pos 0)) _ _ (next_safe ss st i b)
      (jump_safe to (truth ∷ ss) _ j h (are_more truth _ ss st (is_number truth (pos 1) (inr refl)) b)))
  sound_safe short _ line (counts_numbers c l v to a b ea na eb nb hv ht h hs r) =
      next_number_safe c l v to line a b ea na eb nb hv ht h hs r
  sound_safe short _ line (counts_points s c v ptr to q hv ht h hs r) =
      points_safe s c v ptr to line _ _ hv ht h hs r refl refl (fact_at (counts c s) q)
  sound_safe short _ line (makes_root sp i c ss e h l os oss to) =
      new_root_safe g x t k m fit short sp i c ss (same_stack (space ∷ ss) e) h l os oss to
  sound_safe short _ line (makes_equal s sp ss e h to) =
      equal_safe g x t k m fit short s line sp ss (same_stack (space ∷ ss) e) h to
  sound_safe short _ line (makes_by_field s f sp ss e h to) =
      by_field_safe g x t k m fit short s f line sp ss (same_stack (space ∷ ss) e) h to
  sound_safe short _ line (makes_minus p q s sp sq so hp hq hs f to) =
      minus_safe g x t k m fit short p q s sp sq so hp hq hs (fact_at (parted p s) f) to
  sound_safe short _ line (makes_meet p q s sp sq so hp hq hs f to) =
      meet_safe g x t k m fit short p q s sp sq so hp hq hs (fact_at (parted p s) f) to
  sound_safe short _ line (makes_join p q s sp sq so hp hq hs f h to) =
      join_safe g x t k m fit short p q s sp sq so hp hq hs (fact_at (parted p s) f)
      (fact_at (parted q s) h) to
  sound_safe short _ line (makes_image s p r f sp sq so hs hp h q to) =
      image_safe g x t k m fit short s p r f sp sq so hs hp h (fact_at (parted p r) q) to
  sound_safe short _ line (makes_preimage s p r f sp sq so hs hp h q to) =
      preimage_safe g x t k m fit short s p r f sp sq so hs hp h
      (fact_at (lies (in_slot s) (in_slot r)) q) to
  sound_safe short _ line (makes_call task n callee args rest e p l tk o to) =
      call_safe g x t k m fit short task n line callee args rest e p l tk o to
  sound_safe short _ line (makes_launch task s call_line args callee e p l es h o to) =
      launch_safe g x t k m fit short task s call_line line args callee e p l es h o to
  sound_safe short _ line (takes_turn to) = turned g x t k m fit m.frame.turns line _ refl (λ p e.
      safe_goes _ (moved_fits (suc m.frame.pc) p m.frame.slots m.frame.stack e to.0 (to.1 x _ _ fit.suits)))
  sound_safe short _ line returns = safe_stops _ _ (fit.beside.parts, tt)
  sound_safe short _ line (returns_value a ss e n h) =
      safe_number g x t k m fit a ss m.frame.stack _ n (same_stack (a ∷ ss) e) (λ z st q b. safe_stops _ _ (fit.beside.parts, h z q))

  -- ---- steps

  fetched : length t.body ≤ 2 ^ 32 → (l : Line) × (fetch t.body m.frame.pc ≡ Some l)
  fetched small = of_body t.body m.frame.pc small fit.inside
    where
      of_body : (body : List Line) (pc : ℕ) → length body ≤ 2 ^ 32 → pc < length body →
          (l : Line) × (fetch body pc ≡ Some l)
      of_body body pc s i = (
        _,
        ap (λ b. elim b [ true ↦ slice_get body pc | false ↦ None ])
            (lt-ltb pc (2 ^ 32) (omega (arith, s, i))) ∙ slice_get-get_or body pc (record { instr = instr.Drop; line = 0 }) i,
      )

  pub step_safe : length t.body ≤ 2 ^ 32 → Valid g t k →
      Safe g x t k (step g.code t.body m)
  step_safe short valid =
      let l = fetched short in
      subst (λ o. Safe g x t k (act_at g.code t.body o m)) (sym l.1)
      (sound_safe short l.0.instr l.0.line (valid m.frame.pc l.0 l.1))
