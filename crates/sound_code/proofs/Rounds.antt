-- The marks of a loop that counts: at its head the counter and the limit or the domain stand beside the slot of
-- the variable, and in its body the variable has a value too.
use Rattle.std.proofs.Common.{◌≡◌, inl, inr, ℕ, suc, ◌<◌, ◌+◌, List, [], ◌∷◌, Some, refl, sym, ap, ◌∙◌, arith}
use Rattle.std.specs.Prelude.{slice_get, slice_set, length}
use Rattle.std.proofs.lemmas.List.{length-set}
use Rattle.regent_tree.specs.declared.typing.Bound.{Bound}
use Rattle.fit_rules.specs.Shapes.{Each, Shape}
use Rattle.fit_rules.specs.Marks.{Fact, Mark}
use Rattle.fit_laws.proofs.Keeping.{get_other, get_set}
use Rattle.sound_code.proofs.SlotShapes.{partition_plain, pointer_plain, region_plain, slot_bare, slot_is, slot_numbered, slot_plain}
use Rattle.sound_code.specs.Named.{name_shape, slot_shape}
use Rattle.sound_code.specs.Ways.{Way, shape_in}
use Rattle.sound_code.specs.Named.{HasPartBeside, IsNumbered, IsSteady, slot_at, Ready, Narrower, loops_in}
use Rattle.sound_code.proofs.Besides.{parts_behind}
use Rattle.sound_code.proofs.Combining.{slot_next}
use Rattle.sound_code.proofs.Numbering.{each_numbered, numbered_set}
use Rattle.sound_code.proofs.Narrowing.{narrow_itself, narrow_set, named_behind}
use Rattle.sound_code.proofs.Steady.{steady_below}
use Rattle.sound_code.proofs.Looping.{loop_more}

-- the shapes of the limit or domain, of the counter and of the variable, and what is known of them
module _ (way : Way) (params : ℕ) (bs : List Bound) (m : Mark) (r : Ready way params bs m) (B C V : Shape) (fs : List Fact) where
  abbrev pub va : ℕ
  va = slot_at params (length bs)

  abbrev pub co : ℕ
  co = va + 1

  abbrev pub be : ℕ
  be = va + 2

  abbrev pub head_mark : Mark
  head_mark = record { slots = slice_set (slice_set m.slots be B) co C; facts = fs; stack = []; top = []; fixed = m.fixed }

  abbrev pub round_mark : Mark
  round_mark = record {
    slots = slice_set (slice_set head_mark.slots va V) co C;
    facts = fs;
    stack = [];
    top = [];
    fixed = slot_at params (suc (length bs));
  }

  module _ (hi : be < length m.slots) where
    pub long_be : length (slice_set m.slots be B) ≡ length m.slots
    long_be = length-set m.slots be B

    pub long_head : length head_mark.slots ≡ length m.slots
    long_head = length-set (slice_set m.slots be B) co C ∙ long_be

    pub long_va : length (slice_set head_mark.slots va V) ≡ length m.slots
    long_va = length-set head_mark.slots va V ∙ long_head

    pub long_round : length round_mark.slots ≡ length m.slots
    long_round = length-set (slice_set head_mark.slots va V) co C ∙ long_va

    pub counter_there : slice_get head_mark.slots co ≡ Some C
    counter_there = get_set (slice_set m.slots be B) co C (omega (arith, hi, long_be))

    pub limit_there : slice_get head_mark.slots be ≡ Some B
    limit_there = get_other (slice_set m.slots be B) co be C (λ e. omega (arith, e)) ∙ get_set m.slots be B hi

    -- what stands beside the variable
    pub domain_there : slice_get round_mark.slots be ≡ Some B
    domain_there = get_other (slice_set head_mark.slots va V) co be C (λ e. omega (arith, e))
        ∙ get_other head_mark.slots va be V (λ e. omega (arith, e)) ∙ limit_there

    pub round_ready : (b : Bound) → b.place ≡ length bs → name_shape way params b ≡ V →
        IsNumbered (b ∷ bs) B → IsNumbered (b ∷ bs) C → IsNumbered (b ∷ bs) V → Each (IsSteady params (suc (length bs)) (loops_in way bs)) fs →
        HasPartBeside way params round_mark.slots bs b.place b.static_type → Ready way params (b ∷ bs) round_mark
    round_ready b eb es nb nc nv counts beside = record {
      named = (
        eb,
        ap (λ y. slice_get round_mark.slots (slot_at params y)) eb
            ∙ get_other (slice_set head_mark.slots va V) co va C (λ e. omega (arith, e))
            ∙ get_set head_mark.slots va V (omega (arith, hi, long_head)) ∙ ap Some (sym es),
        named_behind way params _ bs co C (named_behind way params _ bs va V
            (named_behind way params _ bs co C (named_behind way params _ bs be B r.named (omega arith)) (omega arith)) (omega arith)) (omega arith),
      );
      beside = (
        beside,
        parts_behind way params (slice_set head_mark.slots va V) bs co C
            (named_behind way params head_mark.slots bs va V
            (named_behind way params _ bs co C (named_behind way params _ bs be B r.named (omega arith)) (omega arith)) (omega arith))
            (parts_behind way params head_mark.slots bs va V
            (named_behind way params _ bs co C (named_behind way params _ bs be B r.named (omega arith)) (omega arith))
            (parts_behind way params (slice_set m.slots be B) bs co C (named_behind way params _ bs be B r.named (omega arith))
            (parts_behind way params m.slots bs be B r.named r.beside (omega arith)) (omega arith)) (omega arith)) (omega arith),
      );
      free = λ j l h.
          let next = slot_next params (length bs) r.low in
          get_other (slice_set head_mark.slots va V) co j C (λ q. omega (arith, q, l, next))
          ∙ get_other head_mark.slots va j V (λ q. omega (arith, q, l, next))
          ∙ get_other (slice_set m.slots be B) co j C (λ q. omega (arith, q, l, next))
          ∙ get_other m.slots be j B (λ q. omega (arith, q, l, next))
          ∙ r.free j (omega (arith, l, next)) (omega (arith, h, long_round));
      numbered = numbered_set (b ∷ bs) (slice_set head_mark.slots va V) co C (numbered_set (b ∷ bs) head_mark.slots va V
          (numbered_set (b ∷ bs) (slice_set m.slots be B) co C (numbered_set (b ∷ bs) m.slots be B (each_numbered bs b m.slots r.numbered) nb) nc) nv) nc;
      facts = steady_below params (suc (length bs)) (suc (length bs)) (loops_in way bs) (loops_in way (b ∷ bs)) fs (omega arith) (loop_more way b bs) counts;
      low = omega (arith, r.low);
      fixed = refl;
    }

    pub head_narrow : Narrower head_mark.slots m.slots
    head_narrow = narrow_set _ m.slots co C
        (narrow_set m.slots m.slots be B (narrow_itself m.slots) (inl (r.free be (omega arith) hi)))
        (inl (r.free co (omega arith) (omega (arith, hi))))

    pub round_narrow : Narrower round_mark.slots head_mark.slots
    round_narrow = narrow_set _ head_mark.slots co C
        (narrow_set head_mark.slots head_mark.slots va V (narrow_itself head_mark.slots)
        (inl (get_other (slice_set m.slots be B) co va C (λ e. omega (arith, e))
        ∙ get_other m.slots be va B (λ e. omega (arith, e)) ∙ r.free va (omega arith) (omega (arith, hi)))))
        (inr counter_there)
