-- The code of fills has marks: the value is put aside, and each field is filled with it.
use Rattle.std.proofs.Common.{◌≡◌, inl, ℕ, ◌<◌, List, [], ◌∷◌, true, Some, refl, sym, arith}
use Rattle.std.specs.Prelude.{slice_get, length}
use Rattle.std.proofs.lemmas.List.{length-set}
use Rattle.regent_tree.specs.Lookup.{is_bound}
use Rattle.regent_tree.specs.Syntax.{Name, Expression, fill_form}
use Rattle.regent_tree.specs.declared.typing.StaticType.{StaticType}
use Rattle.task_code.specs.declared.code.TaskCode.{TaskCode}
use Rattle.task_code.specs.declared.instr.Instr.TheVariants as instr
use Rattle.code_rules.specs.Assignments.{fill_code}
use Rattle.code_rules.specs.Slots.{Where, bound, slot_named, spare, typed}
use Rattle.code_rules.specs.Statements.{form_code}
use Rattle.code_laws.specs.Simple.{IsRegion}
use Rattle.code_laws.specs.Standing.{Stands}
use Rattle.code_laws.specs.Steps.{Forms}
use Rattle.code_laws.specs.Typed.{AreFilled, IsTyped}
use Rattle.fit_rules.specs.Marks.{Mark, stacked}
use Rattle.fit_rules.specs.Fits.{Program}
use Rattle.fit_rules.specs.Sound.{does_load}
use Rattle.fit_laws.proofs.Keeping.{get_set, set_mark}
use Rattle.sound_code.proofs.Placing.{named_as}
use Rattle.sound_code.proofs.SlotShapes.{partition_plain, pointer_plain, region_plain, slot_bare, slot_is, slot_numbered, slot_plain}
use Rattle.sound_code.specs.Named.{name_shape, slot_shape}
use Rattle.sound_code.specs.Named.{AreNamed, HasSlots}
use Rattle.regent_tree.specs.Accesses.{space_in}
use Rattle.regent_tree.specs.StaticTypes.{field_place}
use Rattle.regent_tree.specs.declared.rights.Access.TheVariants.{Write}
use Rattle.sound_code.proofs.Plain.{plain_shape}
use Rattle.sound_code.proofs.WholeTasks.{is_whole_expression}
use Rattle.sound_code.specs.Ways.{Way, shape_of}
use Rattle.sound_code.proofs.Granting.{allowed}
use Rattle.sound_code.proofs.Grounds.{HasFacts}
use Rattle.sound_code.proofs.Told.{ToldForm, told_head}
use Rattle.sound_code.proofs.Wanting.{MayFill, may_fill, may_fill_first}
use Rattle.sound_code.proofs.Asked.{Asked}
use Rattle.sound_code.proofs.Combining.{Marked, nothing_done, both, does, into, behind_kept, slot_high, storing}
use Rattle.sound_code.proofs.Counting.{becomes}
use Rattle.sound_code.proofs.Elements.{fills}
use Rattle.sound_code.proofs.Wholes.{Asks, field_few, filled_becomes, filled_settled}
use Rattle.code_laws.proofs.Wider.{any_field, filling}
use Rattle.sound_code.proofs.Expressions.{named_at, placed_at, stored}
use Rattle.sound_code.proofs.Narrowing.{narrow_itself, narrow_set, narrow_into, named_behind, same_facts}
use Rattle.sound_code.proofs.Statements.{Followed, unchanged, value_marked}

module _ (g : Program) (t : TaskCode) (k slots : ℕ) (have : HasSlots t slots) (forms : Forms) (way : Way) (w : Where) (m : Mark)
    (asked : Asked g t k slots forms way w m) where
  -- what is asked of a mark with a value put aside
  pub record At (o : Mark) : Type 0 where
    pub named : AreNamed way w.params o.slots w.scope.names
    pub facts : HasFacts way w.tree o.facts

  -- from a mark with the value in the slot
  fields_marked : (o : Mark) (r : Name) (from : StaticType) (fs : List Name) → At o →
      slice_get o.slots (spare w 0) ≡ Some (shape_of from) → is_bound w.scope.names r ≡ true → IsRegion (bound w r).static_type →
      AreFilled forms.keeps w r from fs → MayFill way w.tree w.scope (bound w r).static_type fs →
      Marked g t k (stacked o []) (fill_code w from (bound w r).static_type (slot_named w r) fs) (stacked o [])
  fields_marked o r from [] a there b is h may = nothing_done g t k _
  fields_marked o r from (f ∷ fs) a there b is h may =
      let u = (bound w r).static_type in
      let field = any_field forms.keeps w r f _ h.1 in
      let parts = may_fill_first way w.tree w.scope u f fs may field.field in
      let goes = filling forms.keeps from _ h.0 in
      both g t k (does g t k (stacked o []) (instr.Load (spare w 0)) w.line _
      (does_load (spare w 0) (shape_of from) [] there (filled_settled from _ goes) (plain_shape from)))
      (both g t k (becomes g t k w o from _ [] (filled_becomes from _ goes) (field_few _ _ _ field.keeps))
      (both g t k (fills g t k way w o asked.known u (slot_named w r) f _ [] is
      (λ us. allowed g t w.tree w.params w.scope o asked.params way asked.known asked.ground a.facts u (bound w r).place
      (field_place w.tree (space_in u) f) Write us is (named_as way w.params o.slots w.scope.names r a.named b (region_plain way w.params _ is))
      (placed_at t way w.tree w.params w.scope r asked.ground b) field.field parts.0) field.keeps)
      (fields_marked o r from fs a there b is h.2 parts.1)))

  pub fill_marked : (r : Name) (fs : List Name) (e : Expression) → IsTyped forms w e → Asks forms.keeps (is_whole_expression true w e) → ToldForm way w.tree w.scope (fill_form r fs e) → is_bound w.scope.names r ≡ true →
      IsRegion (bound w r).static_type → AreFilled forms.keeps w r (typed w e) fs → (pc : ℕ) → Stands t.body pc (form_code w (fill_form r fs e)) →
      Followed g t k forms.keeps way w.tree w.params w.scope.names m (form_code w (fill_form r fs e))
  fill_marked r fs e f whole told b is h pc st =
      let ready = asked.ready in
      let s = spare w 0 in
      let hi : s < length m.slots = stored g t k slots have forms way w m asked _ s st.1.0 in
      let a = shape_of (typed w e) in
      let o = set_mark m s a [] in
      unchanged g t k forms.keeps way w.tree _ _ m _ ready asked.scoped asked.cut
      (both g t k (value_marked g t k slots have forms way w m asked e [] f whole (told_head w.tree w.scope way (fill_form r fs e) e refl told) pc st.0)
      (both g t k (storing g t k m s a a [] w.line (behind_kept way w.params w.scope.names m s ready (omega arith))
      (omega (arith, slot_high w.params (length w.scope.names) ready.low, asked.params)) (omega (arith, ready.fixed)) (plain_shape (typed w e)) hi (λ x v q. q))
      (into g t k (fields_marked o r (typed w e) fs (record {
        named = named_behind way w.params m.slots w.scope.names s a ready.named (omega arith);
        facts = asked.facts;
      }) (get_set m.slots s a hi) b is h (may_fill way w r fs e is told))
      (narrow_into t.params o m (narrow_set m.slots m.slots s a (narrow_itself m.slots) (inl (ready.free s (omega arith) hi))) (same_facts _ _ refl))
      (sym (length-set m.slots s a)))))
