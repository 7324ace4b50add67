-- The frame of a launch as that of a round of the loop: the loop's variable is a colour, and its counter is behind it.
use Rattle.std.proofs.Common.{◌≡◌, ℕ, suc, ◌<◌, ◌+◌, pos, List, [], ◌∷◌, false, Some, refl, sym, ap, ◌∙◌, subst, arith}
use Rattle.std.specs.Prelude.{length, slice_get, slice_set}
use Rattle.std.proofs.lemmas.Int.{ints}
use Rattle.std.proofs.lemmas.List.{length-set}
use Rattle.regent_tree.specs.declared.typing.Bound.{Bound}
use Rattle.task_code.specs.declared.code.TaskCode.{TaskCode}
use Rattle.machine_terms.specs.declared.value.Value.{Value}
use Rattle.machine_terms.specs.declared.value.Value.TheVariants as value
use Rattle.machine_terms.specs.Pointers.{region_in}
use Rattle.fit_rules.specs.Shapes.{Are, are_more, are_none, index, is_number, is_space, Shape, space, World}
use Rattle.fit_rules.specs.Marks.{around, AtMost, Mark, size_in, stacked, Suits}
use Rattle.fit_rules.specs.Fits.{Program}
use Rattle.fit_laws.proofs.Keeping.{get_other, get_set}
use Rattle.fit_laws.proofs.Lookup.{as_long, set_at}
use Rattle.sound_code.specs.Named.{Ready, slot_at}
use Rattle.sound_code.specs.Ways.{Way}
use Rattle.sound_code.proofs.Calling.{onto}
use Rattle.sound_code.proofs.Combining.{behind_kept, slot_high}
use Rattle.sound_code.proofs.PointLoops as points
use Rattle.sound_code.proofs.PointLoops.{spaces}

-- ---- values that are pushed one after the other

abbrev pub pushed : List Value → List Value → List Value
pushed [] st = st
pushed (v ∷ vs) st = pushed vs (v ∷ st)

are_pushed : (x : World) (ss us : List Shape) (vs st : List Value) → Are x ss vs → Are x us st → Are x (onto ss us) (pushed vs st)
are_pushed x _ us _ st are_none b = b
are_pushed x _ us _ st (are_more s v ss vs h a) b = are_pushed x ss (s ∷ us) vs (v ∷ st) a (are_more s v us st h b)

pub suits_pushed : (x : World) (params : ℕ) (m : Mark) (ss : List Shape) (vs ws : List Value) → Suits x params (stacked m []) vs [] → Are (around x m vs) ss ws →
    Suits x params (stacked m (onto ss [])) vs (pushed ws [])
suits_pushed x params m ss vs ws s a = record { slots = s.slots; stack = are_pushed (around x m vs) ss [] ws [] a are_none; facts = s.facts; top = tt; args = s.args }

-- ---- the frame of a round

module _ (g : Program) (t : TaskCode) (k : ℕ) (way : Way) (params : ℕ) (bs : List Bound) (m : Mark) (r : Ready way params bs m)
    (ep : params ≡ t.params) (hi : slot_at params (length bs) + 2 < length m.slots) where
  abbrev va : ℕ
  va = slot_at params (length bs)

  abbrev co : ℕ
  co = va + 1

  abbrev be : ℕ
  be = va + 2

  abbrev pub round : Mark
  round = points.round g t k way params bs m r ep hi space index false spaces

  -- over the greatest index space, with the counter at a colour
  abbrev over : List Value → ℕ → List Value
  over vs i = slice_set (slice_set vs be (value.Space 4194304)) co (value.Number (pos i))

  abbrev pub frame : List Value → ℕ → List Value
  frame vs i = slice_set (slice_set (over vs i) va (value.Number (pos i))) co (value.Number (pos (suc i)))

  pub long_frame : (vs : List Value) (i : ℕ) → length (frame vs i) ≡ length vs
  long_frame vs i = length-set (slice_set (over vs i) va (value.Number (pos i))) co _ ∙ length-set (over vs i) va _
      ∙ length-set (slice_set vs be (value.Space 4194304)) co _ ∙ length-set vs be _

  -- the other slots are as they were
  pub other_slot : (vs : List Value) (i s : ℕ) → (va ≡ s → ⊥) → (co ≡ s → ⊥) → (be ≡ s → ⊥) → slice_get (frame vs i) s ≡ slice_get vs s
  other_slot vs i s a c b = get_other (slice_set (over vs i) va (value.Number (pos i))) co s _ c ∙ get_other (over vs i) va s _ a
      ∙ get_other (slice_set vs be (value.Space 4194304)) co s _ c ∙ get_other vs be s _ b

  pub own_slot : (vs : List Value) (i : ℕ) → length vs ≡ length m.slots → slice_get (frame vs i) va ≡ Some (value.Number (pos i))
  own_slot vs i long =
      let same : length (over vs i) ≡ length m.slots = length-set (slice_set vs be (value.Space 4194304)) co (value.Number (pos i)) ∙ length-set vs be (value.Space 4194304) ∙ long in
      get_other (slice_set (over vs i) va (value.Number (pos i))) co va _ (λ e. omega (arith, e)) ∙ get_set (over vs i) va _ (omega (arith, hi, same))

  pub round_suits : (x : World) (vs : List Value) (i : ℕ) → i < 4194304 → Suits x t.params (stacked m []) vs [] → Suits x t.params (stacked round []) (frame vs i) []
  round_suits x vs i low s =
      let high = slot_high params (length bs) r.low in
      let long : length vs ≡ length m.slots = as_long x m.slots vs s.slots in
      let n1 : length (slice_set (over vs i) va (value.Number (pos i))) ≡ length m.slots =
      length-set (over vs i) va (value.Number (pos i)) ∙ length-set (slice_set vs be (value.Space 4194304)) co (value.Number (pos i)) ∙ length-set vs be (value.Space 4194304) ∙ long in
      let at_c : slice_get (frame vs i) co ≡ Some (value.Number (pos (suc i))) = get_set (slice_set (over vs i) va (value.Number (pos i))) co _ (omega (arith, hi, n1)) in
      let at_d : size_in (slice_get (frame vs i) be) ≡ Some 4194304 =
      ap size_in (get_other (slice_set (over vs i) va (value.Number (pos i))) co be _ (λ e. omega (arith, e)) ∙ get_other (over vs i) va be _ (λ e. omega (arith, e))
      ∙ get_other (slice_set vs be (value.Space 4194304)) co be _ (λ e. omega (arith, e)) ∙ get_set vs be _ (omega (arith, hi, long))) in
      record {
        slots = set_at x _ _ co index _ (set_at x _ _ va index _ (set_at x _ _ co index _ (set_at x m.slots vs be space _ s.slots (is_space 4194304 (omega arith)))
            (is_number index (pos i) (omega (arith, ints, low)))) (is_number index (pos i) (omega (arith, ints, low)))) (is_number index (pos (suc i)) (omega (arith, ints, low)));
        stack = are_none;
        facts = (
          subst (λ y. AtMost y (slice_get (frame vs i) co)) (sym at_d) (subst (λ y. AtMost (Some 4194304) y) (sym at_c) (suc i, refl, omega (arith, low))),
          behind_kept way params bs m co r (omega arith) _ _ (behind_kept way params bs m va r (omega arith) _ _
              (behind_kept way params bs m co r (omega arith) _ _ (behind_kept way params bs m be r (omega arith) vs _ s.facts))),
        );
        top = tt;
        args = λ j q. ap region_in (other_slot vs i j (λ e. omega (arith, e, q, high, ep)) (λ e. omega (arith, e, q, high, ep)) (λ e. omega (arith, e, q, high, ep))) ∙ s.args j q;
      }
