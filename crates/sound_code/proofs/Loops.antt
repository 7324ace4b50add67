-- The code of counted loops has marks.
use Rattle.std.proofs.Common.{◌≡◌, ℕ, ◌<◌, ◌+◌, ℤ, pos, ◌+ℤ◌, List, [], ◌∷◌, true, Some, None, refl, sym, ap, ◌∙◌, subst, arith}
use Rattle.std.specs.Prelude.{slice_set, length, int_lt}
use Rattle.std.proofs.lemmas.Int.{ints}
use Rattle.lane_kernels.specs.declared.numbers.Width.{Width}
use Rattle.lane_kernels.specs.declared.numbers.Width.TheVariants.{W32, W64}
use Rattle.lane_kernels.specs.Numbers.{FitsWidth}
use Rattle.regent_tree.specs.declared.typing.Bound.{Bound}
use Rattle.task_code.specs.declared.code.TaskCode.{TaskCode}
use Rattle.task_code.specs.declared.instr.Instr.TheVariants as instr
use Rattle.machine_terms.specs.declared.value.Value.{Value}
use Rattle.machine_terms.specs.declared.value.Value.TheVariants as value
use Rattle.machine_terms.specs.Pointers.{region_in}
use Rattle.code_rules.specs.Pieces.{Piece, op, ◌⨟◌, rounds}
use Rattle.fit_rules.specs.Shapes.{Shape, integer, numeric_integer, World, Is, is_number}
use Rattle.fit_rules.specs.Marks.{Mark, stacked}
use Rattle.fit_rules.specs.Fits.{Program}
use Rattle.fit_rules.specs.Sound.{RoundNumber}
use Rattle.marked_code.specs.Marked.{typed_rounds}
use Rattle.fit_laws.proofs.Held.{none_held}
use Rattle.fit_laws.proofs.Keeping.{get_other, set_mark}
use Rattle.sound_code.specs.Ways.{Way}
use Rattle.sound_code.specs.Named.{slot_at, Ready}
use Rattle.fit_laws.proofs.Lookup.{value_at, set_at}
use Rattle.sound_code.proofs.Narrowing.{narrow_into, same_facts}
use Rattle.sound_code.proofs.Rounds.{va, co, be, head_mark, round_mark, long_be, long_head, long_round, counter_there, limit_there, head_narrow}
use Rattle.sound_code.proofs.Combining.{Marked, both, into, behind_kept, slot_high, storing}

-- one more than a number below another one fits
raised_fits : (w : Width) (i e : ℤ) → FitsWidth w i → FitsWidth w e → int_lt i e ≡ true → FitsWidth w (i +ℤ pos 1)
raised_fits W32 i e h g l = omega (arith, ints, h, g, l)
raised_fits W64 i e h g l = omega (arith, ints, h, g, l)

number_in : (x : World) (w : Width) (v : Value) (z : ℤ) → Is x (integer w) v → Some v ≡ Some (value.Number z) →
    FitsWidth w z
number_in x w _ z (is_number _ y h) e = subst (FitsWidth w) (ap (λ o. elim o [ None ↦ y | Some u ↦ number_or y u ]) e) h
  where
    number_or : ℤ → Value → ℤ
    number_or d (value.Number z) = z
    number_or d _ = d

module _ (g : Program) (t : TaskCode) (k : ℕ) (way : Way) (params : ℕ) (bs : List Bound) (m : Mark) (r : Ready way params bs m)
    (ep : params ≡ t.params) (w : Width) (hi : slot_at params (length bs) + 2 < length m.slots) where
  abbrev I : Shape
  I = integer w

  -- the slots of the variable, of its counter and of the limit
  abbrev v : ℕ
  v = va way params bs m r I I I m.facts

  abbrev c : ℕ
  c = co way params bs m r I I I m.facts

  abbrev l : ℕ
  l = be way params bs m r I I I m.facts

  -- the marks at the head and in the body
  abbrev pub head : Mark
  head = head_mark way params bs m r I I I m.facts

  abbrev pub round : Mark
  round = round_mark way params bs m r I I I m.facts

  rounds_on : RoundNumber g t c l v (stacked head []) round
  rounds_on x vs st s i e ei ee lt =
      let n = value_at x head.slots vs c I s.slots (counter_there way params bs m r I I I m.facts hi) in
      let o = value_at x head.slots vs l I s.slots (limit_there way params bs m r I I I m.facts hi) in
      let fi = number_in x w n.value i n.of (sym n.at ∙ ei) in
      let fe = number_in x w o.value e o.of (sym o.at ∙ ee) in
      let high = slot_high params (length bs) r.low in
      record {
        slots = set_at x _ _ c I _ (set_at x head.slots vs v I _ s.slots (is_number I i fi))
            (is_number I _ (raised_fits w i e fi fe lt));
        stack = none_held _ _ st s.stack;
        facts = behind_kept way params bs m c r (omega arith) _ _ (behind_kept way params bs m v r (omega arith) vs _ s.facts);
        top = tt;
        args = λ j h. ap region_in (get_other (slice_set vs v (value.Number i)) c j _ (λ q. omega (arith, q, h, high, ep))
            ∙ get_other vs v j _ (λ q. omega (arith, q, h, high, ep))) ∙ s.args j h;
      }

  -- the limit and the counter are stored, and the loop runs
  pub counted : (a b : Shape) (line : ℕ) (body : Piece) → ((x : World) (v : Value) → Is x a v → Is x I v) →
      ((x : World) (v : Value) → Is x b v → Is x I v) → Marked g t k round body (stacked head []) →
      Marked g t k (stacked m (b ∷ a ∷ []))
      (op (instr.Store l) line ⨟ op (instr.Store c) line ⨟ rounds (instr.NextNumber c l v) line body)
      (stacked m [])
  counted a b line body ha hb f =
      let high = slot_high params (length bs) r.low in
      let long = long_head way params bs m r I I I m.facts hi in
      both g t k (storing g t k m l b I (a ∷ []) line (behind_kept way params bs m l r (omega arith)) (omega (arith, high, ep)) (omega (arith, r.fixed)) tt hi hb)
      (both g t k (storing g t k (set_mark m l I []) c a I [] line (behind_kept way params bs m c r (omega arith)) (omega (arith, high, ep)) (omega (arith, r.fixed)) tt
      (omega (arith, hi, long_be way params bs m r I I I m.facts hi)) ha)
      (into g t k (record {
        marks = _;
        is = typed_rounds (stacked head []) round c l v I I line body _ (counter_there way params bs m r I I I m.facts hi) (numeric_integer w)
            (limit_there way params bs m r I I I m.facts hi) (numeric_integer w) (omega (arith, hi, long)) rounds_on
            (long_round way params bs m r I I I m.facts hi ∙ sym long) f.is;
      }) (narrow_into t.params head m (head_narrow way params bs m r I I I m.facts hi) (same_facts _ _ refl)) (sym long)))
