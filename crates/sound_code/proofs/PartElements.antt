-- Elements of parts that have no name: a part is put aside with its shape, marks tell of it until the element has been taken, and what the
-- rules allow of its fields is allowed through the slot in which it is.
use Rattle.std.proofs.Common.{◌≡◌, false, inl, ℕ, zero, suc, ◌+◌, ◌<◌, ◌≤◌, List, [], ◌∷◌, true, None, Some, refl, sym, ap, ◌∙◌, subst, arith}
use Rattle.std.specs.Prelude.{length, not}
use Rattle.std.specs.Option.{option_or}
use Rattle.std.proofs.lemmas.List.{length-set}
use Rattle.plain_values.proofs.Plain.{option_or_parts}
use Rattle.lane_kernels.specs.declared.numbers.Mode.TheVariants as mode
use Rattle.regent_tree.specs.Accesses.{space_in}
use Rattle.regent_tree.specs.Lookup.{is_bound, type_named}
use Rattle.regent_tree.specs.Scopes.{Scope, bound_as}
use Rattle.regent_tree.specs.StaticTypes.{field_place, space_at}
use Rattle.regent_tree.specs.Syntax.{access_expr, at_step, Expression, field_step, Name, no_step, Steps, TaskTree, Tree}
use Rattle.regent_tree.specs.Typing.{has_wild, parent_of, reaches_of, stepped_type, type_of_element, type_of_field}
use Rattle.regent_tree.specs.declared.facts.Term.TheVariants as term
use Rattle.regent_tree.specs.declared.rights.Access.{Access}
use Rattle.regent_tree.specs.declared.rights.Access.TheVariants.{Read}
use Rattle.regent_tree.specs.declared.typing.Bound.{Bound}
use Rattle.regent_tree.specs.declared.typing.StaticType.{StaticType}
use Rattle.task_code.specs.declared.code.TaskCode.{TaskCode}
use Rattle.task_code.specs.declared.instr.Instr.TheVariants as instr
use Rattle.check_laws.proofs.Scopes.{found_by_number}
use Rattle.check_rules.specs.first.FirstInExpressions.{first_in_expression, first_of_step, first_of_taking}
use Rattle.check_rules.specs.first.Rules.{rule_if}
use Rattle.check_rules.specs.scopes.Sound.{IsSound}
use Rattle.check_rules.specs.types.KnownTypes.{known_type, known_type_after_step}
use Rattle.check_rules.specs.types.TypedForms.{element_of, field_of}
use Rattle.check_rules.specs.declared.rule.Rule.TheVariants as rule
use Rattle.check_laws.specs.SoundScopes.{IsSoundScope}
use Rattle.check_rules.proofs.Untold.{rule_none}
use Rattle.code_rules.specs.Expressions.{expr_code, steps_code}
use Rattle.code_rules.specs.Instructions.{load_code}
use Rattle.code_rules.specs.Pieces.{◌⨟◌, Piece}
use Rattle.code_rules.specs.Slots.{bound, own_slot, slot_bound, slot_named, slots_of, result, spare, typed, Where}
use Rattle.code_laws.specs.Arguments.{IsCutName}
use Rattle.code_laws.specs.Pointers.{IsCounting}
use Rattle.code_laws.specs.Simple.{a_partition_type, a_region_type, IsPartition, IsRegion}
use Rattle.code_laws.specs.Standing.{Stands}
use Rattle.code_laws.specs.Steps.{Forms}
use Rattle.code_laws.specs.Typed.{AreFurther, IsPiece, MayUse, part_element}
use Rattle.code_laws.proofs.PartTypes.{IsPartPointer, a_part_pointer, is_pointer_type, part_is, part_pointer}
use Rattle.expression_laws.specs.Needs.{mode_of}
use Rattle.fit_laws.proofs.Keeping.{get_other, get_set, set_mark}
use Rattle.fit_rules.specs.Fits.{Program}
use Rattle.fit_rules.specs.Marks.{Mark, stacked}
use Rattle.fit_rules.specs.Shapes.{Each, Origin, part, pointer, region, Shape}
use Rattle.fit_rules.specs.Sound.{Allowed, does_element}
use Rattle.sound_code.specs.Named.{HasSlots, IsFreeFrom, ReadyAt, slot_at}
use Rattle.sound_code.specs.Ways.{all_made, by_rules, origin_in, shape_of, Way}
use Rattle.sound_code.proofs.Asked.{AskedAt, Ruled, ruled}
use Rattle.sound_code.proofs.Besides.{parts_behind}
use Rattle.sound_code.proofs.Combining.{behind_kept, both, does, into, Marked, nothing_done, slot_high, storing}
use Rattle.sound_code.proofs.Counting.{counted_numeric, standing_counted}
use Rattle.sound_code.proofs.Cutting.{taken_any_child}
use Rattle.sound_code.proofs.Further.{AreTold, field_told, fields_marked, rest_told}
use Rattle.sound_code.proofs.Granting.{allowed_part}
use Rattle.sound_code.proofs.Narrowing.{named_behind, narrow_itself, narrow_over, narrow_set, same_facts}
use Rattle.sound_code.proofs.Numbering.{numbered_at, numbered_set}
use Rattle.sound_code.proofs.Parts.{cut_of, parent_there, under}
use Rattle.sound_code.proofs.Plain.{plain_origin}
use Rattle.sound_code.proofs.Through.{field_read, may_each, MayEach}
use Rattle.sound_code.proofs.Told.{Told}

-- ---- what is told

module _ (tree : Tree) (s : Scope) where
  -- of the first index, and of the second one
  pub told_first : (way : Way) (n : Name) (e : Expression) (rest : Steps) → Told way tree s (access_expr n (at_step e rest)) → Told way tree s e
  told_first all_made n e rest h = tt
  told_first (by_rules tops task) n e rest h =
      let p = option_or_parts _ _ h.1 in (h.0, (option_or_parts (first_in_expression tree task s e) _ p.1).0)

  pub told_second : (way : Way) (n : Name) (e i : Expression) (rest : Steps) → Told way tree s (access_expr n (at_step e (at_step i rest))) → Told way tree s i
  told_second all_made n e i rest h = tt
  told_second (by_rules tops task) n e i rest h =
      let taking = element_of (type_named s.names n) (known_type tree s e) in
      let a = option_or_parts (rule_if (not (is_bound s.names n)) rule.Name) _ h.1 in
      let b = option_or_parts (first_in_expression tree task s e) _ a.1 in
      let c = option_or_parts (first_of_step tree task s taking) _ b.1 in
      (h.0, (option_or_parts (first_in_expression tree task s i) _ c.1).0)

module _ (tree : Tree) (task : TaskTree) (s : Scope) (sound : IsSound tree) where
  -- of the steps behind both
  pub behind_both : (n : Name) (e i : Expression) (rest : Steps) → IsSoundScope s →
      first_in_expression tree task s (access_expr n (at_step e (at_step i rest))) ≡ None →
      AreTold tree task s sound (type_of_element s (type_of_element s (type_named s.names n) e) i) rest
  behind_both n e i rest scope h =
      let t = type_named s.names n in
      let taking = element_of t (known_type tree s e) in
      let next = known_type_after_step tree taking (type_of_element s t e) in
      let second = element_of next (known_type tree s i) in
      let own = first_in_expression tree task s e in
      let taken = first_of_step tree task s taking in
      let own2 = first_in_expression tree task s i in
      let taken2 = first_of_step tree task s second in
      let a = option_or_parts (rule_if (not (is_bound s.names n)) rule.Name) _ h in
      let b = option_or_parts own _ a.1 in
      let c = option_or_parts taken _ b.1 in
      let d = option_or_parts own2 _ c.1 in
      let f = option_or_parts taken2 _ d.1 in
      rest_told tree task s sound (access_expr n (at_step e (at_step i no_step))) rest scope
      (ap (λ o. option_or o (option_or own (option_or taken (option_or own2 (option_or taken2 None))))) a.0
      ∙ ap (λ o. option_or o (option_or taken (option_or own2 (option_or taken2 None)))) b.0
      ∙ ap (λ o. option_or o (option_or own2 (option_or taken2 None))) c.0 ∙ ap (λ o. option_or o (option_or taken2 None)) d.0
      ∙ ap (λ o. option_or o None) f.0) f.1

-- ---- slots

-- a spare slot behind those in use is free
pub spare_free : (w : Where) (deep d : ℕ) → deep ≤ d → w.params ≤ length w.scope.names →
    IsFreeFrom deep (slot_at w.params (length w.scope.names)) (spare w d)
spare_free w deep d l low = omega (arith, l, low)

-- and so is one for a result
pub result_free : (w : Where) (deep d : ℕ) → deep ≤ d → w.params ≤ length w.scope.names →
    IsFreeFrom deep (slot_at w.params (length w.scope.names)) (result w d)
result_free w deep d l low = omega (arith, l, low)

free_below : (deep d n s : ℕ) → deep ≤ d → IsFreeFrom (suc d) n s → IsFreeFrom deep n s
free_below deep d n s l h = omega (arith, l, h)

-- the field space of a part
pub part_space : (w : Where) (n : Name) (e : Expression) → IsPiece w n e →
    space_in (type_of_element w.scope (bound w n).static_type e) ≡ space_in (bound_as w.scope.names (parent_of (bound w n).static_type)).static_type
part_space w n e piece = let kind = part_is w n e piece.1 piece.2 in ap space_in kind.is ∙ kind.of_space

-- a pointer into a part goes to no other region
pub part_certain : (u : StaticType) (own sq : ℕ) → IsPartPointer u own sq → has_wild (reaches_of u) ≡ false
part_certain _ _ _ (a_part_pointer c sq args own colour) = refl

-- ---- a part that is put aside

module _ (g : Program) (t : TaskCode) (k slots : ℕ) (have : HasSlots t slots) (forms : Forms) (way : Way) (w : Where) {deep : ℕ} (m : Mark)
    (asked : AskedAt g t k slots deep forms way w m) (n : Name) (d : ℕ) where
  -- its slot is there
  pub put_room : (u : StaticType) (e i : Expression) (rest : Steps) → IsPartition u → (pc : ℕ) →
      Stands t.body pc (load_code w u (slot_named w n) (at_step e (at_step i rest)) ⨟ steps_code w d u (own_slot w u (bound w n).place) (at_step e (at_step i rest))) →
      spare w d < length m.slots
  put_room _ e i rest (a_partition_type f r p) pc st = let there = have _ _ st.1.1.1.1.0 in let room = asked.room in omega (arith, there, room)

module _ (g : Program) (t : TaskCode) (k slots : ℕ) (have : HasSlots t slots) (forms : Forms) (way : Way) (w : Where) {deep : ℕ} (m : Mark)
    (asked : AskedAt g t k slots deep forms way w m) (n : Name) (keeps : forms.keeps ≡ true) (cut : IsCutName w n) (d : ℕ) (low : deep ≤ d) where
  abbrev parent : ℕ
  parent = parent_of (bound w n).static_type

  abbrev space : ℕ
  space = space_in (bound_as w.scope.names parent).static_type

  abbrev origin : Origin
  origin = part (origin_in way w.params (term.Name parent))

  -- the mark that tells of it
  abbrev pub put_mark : Mark
  put_mark = set_mark m (spare w d) (region (Some space) origin) []

  put_ready : spare w d < length m.slots → ReadyAt (suc d) way w.params w.scope.names put_mark
  put_ready hi =
      let r = asked.ready in
      let s = spare w d in
      let names = w.scope.names in record {
        named = named_behind way w.params m.slots names s _ r.named (omega arith);
        beside = parts_behind way w.params m.slots names s _ r.named r.beside (omega arith);
        free = λ j l h.
            get_other m.slots s j _ (λ q. omega (arith, q, l, r.low))
            ∙ r.free j (free_below deep d (slot_at w.params (length names)) j low l) (omega (arith, h, length-set m.slots s (region (Some space) origin)));
        numbered = numbered_set names m.slots s _ r.numbered
            (numbered_at names m.slots _ _ r.numbered (parent_there g t k slots forms way w m asked n keeps cut));
        facts = r.facts;
        low = r.low;
        fixed = r.fixed;
      }

  pub asked_put : spare w d < length m.slots → AskedAt g t k slots (suc d) forms way w put_mark
  asked_put hi = record {
    hands = asked.hands;
    ready = put_ready hi;
    params = asked.params;
    result = asked.result;
    room = length-set m.slots (spare w d) _ ∙ asked.room;
    known = asked.known;
    ground = asked.ground;
    facts = asked.facts;
    ruled = asked.ruled;
    scoped = asked.scoped;
    cut = asked.cut;
    upto = asked.upto;
  }

  -- the part is taken, and put aside
  pub part_put : (us vs : List Shape) (u : StaticType) (e i : Expression) (rest : Steps) → IsPartition u → IsCounting (typed w e) →
      ((pc : ℕ) → Stands t.body pc (expr_code w d e) → Marked g t k (stacked m us) (expr_code w d e) (stacked m (shape_of (typed w e) ∷ us))) →
      ((pc : ℕ) → spare w d < length m.slots → Stands t.body pc (steps_code w (suc d) (type_of_element w.scope u e) (spare w d) (at_step i rest)) →
      Marked g t k (stacked put_mark us) (steps_code w (suc d) (type_of_element w.scope u e) (spare w d) (at_step i rest)) (stacked put_mark vs)) → (pc : ℕ) →
      Stands t.body pc (load_code w u (slot_named w n) (at_step e (at_step i rest)) ⨟ steps_code w d u (own_slot w u (bound w n).place) (at_step e (at_step i rest))) →
      Marked g t k (stacked m us)
      (load_code w u (slot_named w n) (at_step e (at_step i rest)) ⨟ steps_code w d u (own_slot w u (bound w n).place) (at_step e (at_step i rest)))
      (stacked put_mark vs)
  part_put us vs _ e i rest (a_partition_type f r p) h marked more pc st =
      let of = cut_of g t k slots forms way w m asked n keeps cut in
      let s = spare w d in
      let names = w.scope.names in
      let there = have _ _ st.1.1.1.1.0 in
      let hi : s < length m.slots = omega (arith, there, asked.room) in
      both g t k (nothing_done g t k _)
      (both g t k (marked pc st.1.0) (both g t k (standing_counted g t k w m (typed w e) us h)
      (both g t k
      (into g t k (taken_any_child g t k w.line m (slot_named w n) (slot_bound w parent) _ of.disjoint _ _ us (counted_numeric _ h)
      (plain_origin way w.params (term.Name parent)) (under g t k slots forms way w m asked n keeps cut) of.shape
      (parent_there g t k slots forms way w m asked n keeps cut) of.fact)
      (λ x vs st q. record { slots = q.slots; stack = q.stack; facts = q.facts; top = tt; args = q.args }) refl)
      (both g t k
      (storing g t k m s (region (Some space) origin) (region (Some space) origin) us w.line
      (behind_kept way w.params names m s asked.ready (omega arith))
      (omega (arith, slot_high w.params (length names) asked.ready.low, asked.params)) (omega (arith, asked.ready.fixed))
      (plain_origin way w.params (term.Name parent)) hi (λ x v q. q))
      (more _ hi st.1.1.1.1.1)))))

  -- an element of it is taken
  pub element_put : (us vs : List Shape) (rt : StaticType) (i : Expression) (rest : Steps) → spare w d < length m.slots → IsRegion rt → space_in rt ≡ space →
      IsCounting (typed w i) →
      ((pc : ℕ) → Stands t.body pc (expr_code w (suc d) i) →
      Marked g t k (stacked put_mark us) (expr_code w (suc d) i) (stacked put_mark (shape_of (typed w i) ∷ us))) →
      Marked g t k (stacked put_mark (shape_of (type_of_element w.scope rt i) ∷ us)) (steps_code w (suc (suc d)) (type_of_element w.scope rt i) (spare w d) rest)
      (stacked put_mark vs) → (pc : ℕ) →
      Stands t.body pc (steps_code w (suc d) rt (spare w d) (at_step i rest)) →
      Marked g t k (stacked put_mark us) (steps_code w (suc d) rt (spare w d) (at_step i rest)) (stacked put_mark vs)
  element_put us vs _ i rest hi (a_region_type c sq args r) same h marked more pc st =
      let s = spare w d in
      both g t k (marked pc st.0) (both g t k (standing_counted g t k w put_mark (typed w i) us h)
      (both g t k (does g t k _ (instr.At s) w.line (pointer 1 ∷ us)
      (does_element s (Some sq) _ us (record {
        origin = origin;
        shape = get_set m.slots s (region (Some space) origin) hi ∙ ap (λ sp. Some (region (Some sp) origin)) (sym same);
      }) (counted_numeric _ h)))
      (both g t k (nothing_done g t k _) more)))

  -- what is behind tells of it no more
  pub put_away : (us vs : List Shape) (p : Piece) → spare w d < length m.slots → Marked g t k (stacked m us) p (stacked put_mark vs) →
      Marked g t k (stacked m us) p (stacked m vs)
  put_away us vs p hi f = into g t k f
      (narrow_over t.params put_mark m vs refl
      (narrow_set m.slots m.slots (spare w d) _ (narrow_itself m.slots)
      (inl (asked.ready.free (spare w d) (spare_free w deep d low asked.ready.low) hi))) (same_facts _ _ refl))
      (sym (length-set m.slots (spare w d) _))

  -- ---- fields

  abbrev pub ways : spare w d < length m.slots → Ruled g t k slots way w put_mark
  ways hi = ruled g t k slots forms way w put_mark (asked_put hi) keeps

  -- what the rules allow of a field is allowed through the slot
  pub put_allows : (hi : spare w d < length m.slots) (u : StaticType) (own sq : ℕ) → IsPartPointer u own sq → own ≡ (bound w n).number → sq ≡ space →
      (f : Name) (a : Access) → field_place w.tree (space_in u) f < length (space_at w.tree (space_in u)).fields →
      MayEach w (ways hi).task (reaches_of u) (field_place w.tree (space_in u) f) a → (us : List Shape) →
      Each (Allowed g t (stacked put_mark us) (space_in u) (field_place w.tree (space_in u) f) (mode_of a)) (slots_of w (spare w d) u)
  put_allows hi _ _ _ (a_part_pointer c sq args own colour) number same f a l may us =
      let r = ways hi in
      let s = spare w d in
      let names = w.scope.names in
      let found : bound_as names own ≡ bound w n = ap (bound_as names) number ∙ (found_by_number w.scope.next names n cut.numbers cut.named).0 in (
        allowed_part g t w.tree w.params w.scope put_mark asked.params r.tops r.task r.known r.kept r.facts own colour s sq (field_place w.tree sq f) a us
            (subst (λ (b : Bound). IsPartition b.static_type) (sym found) cut.partition)
            (get_set m.slots s (region (Some space) origin) hi
            ∙ ap (λ sp. Some (region (Some sp) origin)) (sym same)
            ∙ ap (λ v. Some (region (Some sq) (part (origin_in v w.params (term.Name parent))))) r.by
            ∙ ap (λ (b : Bound). Some (region (Some sq) (part (origin_in (by_rules r.tops r.task) w.params (term.Name (parent_of b.static_type)))))) (sym found))
            l may.0,
        tt,
      )

  -- a field is read, and what comes behind it
  pub put_fields : (us : List Shape) (e i : Expression) (f : Name) (rest : Steps) (hi : spare w d < length m.slots) → IsPiece w n e →
      MayUse forms w (part_element w n e i) f mode.Read → AreFurther forms w (type_of_field w.tree (part_element w n e i) f) rest →
      Told way w.tree w.scope (access_expr n (at_step e (at_step i (field_step f rest)))) →
      Marked g t k (stacked put_mark (shape_of (part_element w n e i) ∷ us)) (steps_code w (suc (suc d)) (part_element w n e i) (spare w d) (field_step f rest))
      (stacked put_mark (shape_of (stepped_type w.tree w.scope (part_element w n e i) (field_step f rest)) ∷ us))
  put_fields us e i f rest hi piece may far told =
      let r = ways hi in
      let u = part_element w n e i in
      let out = type_of_field w.tree u f in
      let is = part_pointer w n e i piece in
      let pointer = is_pointer_type u _ _ is in
      let h = subst (λ v. Told v w.tree w.scope (access_expr n (at_step e (at_step i (field_step f rest))))) r.by told in
      let next = field_told w.tree r.task w.scope r.kept.sound u f rest (behind_both w.tree r.task w.scope r.kept.sound n e i (field_step f rest) h.0 h.1) in
      let reading = option_or_parts (first_of_taking w.tree (field_of u f)) _ next.0 in
      both g t k
      (field_read g t k r.tops r.task w put_mark r.known f out u (spare w d) us pointer may.keeps
      (λ vs. put_allows hi u _ _ is refl refl f Read may.field
      (may_each w r.task u f Read pointer (part_certain u _ _ is) may.field (rule_none _ rule.Read reading.1)) vs))
      (fields_marked g t k slots forms way w put_mark (asked_put hi) keeps (suc (suc d)) rest out us far next.1)
