-- The code of expressions that give pointers has marks: null, elements, casts, and fields that a name's pointer goes to.
use Rattle.std.proofs.Common.{◌≡◌, ℕ, ◌<◌, ◌≤◌, ◌^◌, negsuc, List, [], ◌∷◌, map, true, false, None, Some, sym, ap, ◌∙◌, subst, arith}
use Rattle.std.specs.Prelude.{length, slice_get}
use Rattle.std.proofs.lemmas.Bool.{false≢true}
use Rattle.std.proofs.lemmas.List.{length-map}
use Rattle.regent_tree.specs.Accesses.{space_in}
use Rattle.regent_tree.specs.Scopes.{bound_as}
use Rattle.regent_tree.specs.StaticTypes.{field_place, Reach}
use Rattle.regent_tree.specs.Syntax.{access_expr, assign_form, at_step, Expression, field_step, Name, no_step, Steps}
use Rattle.regent_tree.specs.Typing.{counting_as, has_wild, reaches_of, type_of_element}
use Rattle.regent_tree.specs.declared.facts.Term.TheVariants as term
use Rattle.regent_tree.specs.declared.rights.Access.TheVariants.{Read, Reduce, Write}
use Rattle.regent_tree.specs.declared.statement.How.TheVariants as how
use Rattle.lane_kernels.specs.declared.numbers.Op.{Op}
use Rattle.code_rules.specs.Assignments.{target_code}
use Rattle.regent_tree.specs.declared.typing.StaticType.{StaticType}
use Rattle.regent_tree.specs.declared.typing.StaticType.TheVariants.{Region as region_type}
use Rattle.task_code.specs.declared.code.TaskCode.{TaskCode}
use Rattle.task_code.specs.declared.instr.Instr.TheVariants as instr
use Rattle.code_rules.specs.Expressions.{expr_code, steps_code}
use Rattle.code_rules.specs.Instructions.{cast_code, element_code, load_code, one}
use Rattle.code_rules.specs.Pieces.{Piece, ◌⨟◌}
use Rattle.code_rules.specs.Slots.{bound, own_slot, slot, slot_of_reach, typed, Where}
use Rattle.code_laws.specs.Pointers.{a_pointer_type, AreThere, counts_number, counts_pointer, IsCounting, IsPointer}
use Rattle.code_laws.specs.Simple.{a_region_type, IsInteger, IsRegion, number_index, number_integer}
use Rattle.code_laws.specs.Standing.{Stands}
use Rattle.code_laws.specs.Steps.{Forms}
use Rattle.code_laws.specs.Typed.{field_behind, IsBehind}
use Rattle.fit_rules.specs.Shapes.{Each, index, integer, numeric_index, numeric_integer, Numeric, numeric_pointer, pointer, Shape, truth}
use Rattle.fit_rules.specs.Marks.{Mark, stacked}
use Rattle.fit_rules.specs.Fits.{Program}
use Rattle.fit_rules.specs.Sound.{does_cast, does_cast_pointer, does_element, does_is_null, does_load, does_num, HasRegion, settled_number}
use Rattle.sound_code.proofs.Placing.{named_as}
use Rattle.sound_code.proofs.SlotShapes.{partition_plain, pointer_plain, region_plain, slot_bare, slot_is, slot_numbered, slot_plain}
use Rattle.sound_code.specs.Named.{name_shape, slot_shape}
use Rattle.sound_code.specs.Ways.{by_rules, shape_of, Way}
use Rattle.sound_code.proofs.Asked.{AskedAt, ruled}
use Rattle.sound_code.proofs.Combining.{both, does, Marked, nothing_done}
use Rattle.sound_code.proofs.Counting.{counted_numeric, null_fits, standing_counted}
use Rattle.sound_code.proofs.Placing.{named_at, region_named}
use Rattle.sound_code.proofs.Scoped.{pointer_aims, pointer_named, region_as, scoped_named}
use Rattle.sound_code.proofs.Besides.{part_named}
use Rattle.sound_code.proofs.Through.{allowed_through, may_read_through, may_reduce_through, may_write_through, reads_through, reduces_through, writes_through}
use Rattle.sound_code.proofs.Told.{Told, ToldForm}
use Rattle.sound_code.proofs.Wholes.{HasFew}

module _ (g : Program) (t : TaskCode) (k slots : ℕ) (forms : Forms) (way : Way) (w : Where) (m : Mark) {deep : ℕ} (asked : AskedAt g t k slots deep forms way w m) where
  abbrev Goes : List Shape → Piece → List Shape → Type 0
  Goes us p vs = Marked g t k (stacked m us) p (stacked m vs)

  -- null, and a region's element
  pub null_marked : (u : StaticType) (us : List Shape) → IsPointer u → Goes us (one w (instr.Num (negsuc 0))) (shape_of u ∷ us)
  null_marked _ us (a_pointer_type c sp args rs names) =
      does g t k _ (instr.Num (negsuc 0)) w.line _ (does_num (negsuc 0) (pointer (length rs)) us (null_fits (length rs)))

  -- the regions of a written type stand in their slots
  regions_there : (sp own : ℕ) (rs : List Reach) → AreThere w.scope.names sp rs → has_wild rs ≡ false → (us : List Shape) →
      Each (HasRegion (stacked m us) (Some sp)) (map (slot_of_reach w own) rs)
  regions_there sp own [] there certain us = tt
  regions_there sp own (Some (term.Name i) ∷ rs) there certain us = (
    subst (λ q. HasRegion (stacked m us) (Some q) (slot w (bound_as w.scope.names i).place)) there.2
        (region_named way w.params (stacked m us) (slot w (bound_as w.scope.names i).place) (bound_as w.scope.names i).static_type there.1
        (region_as way w.params m.slots w.scope.names i asked.ready.named there.1)),
    regions_there sp own rs there.3 certain us,
  )
  regions_there sp own (Some (term.Child p c) ∷ rs) there certain us = absurd there
  regions_there sp own (None ∷ rs) there certain us = absurd (false≢true (sym certain))

  few_below : (own : ℕ) (rs : List Reach) → length rs ≤ 4 → length (map (slot_of_reach w own) rs) < 2 ^ 31
  few_below own rs few = let long = length-map rs (slot_of_reach w own) in omega (arith, few, long)

  pub cast_marked : (u v : StaticType) (us : List Shape) → IsCounting u → IsPointer v → AreThere w.scope.names (space_in v) (reaches_of v) →
      has_wild (reaches_of v) ≡ false → HasFew v → Goes (shape_of u ∷ us) (cast_code w u v) (shape_of v ∷ us)
  cast_marked _ _ us (counts_pointer e sq brgs qs) (a_pointer_type d sp args rs names) there certain few =
      let ss = map (slot_of_reach w 0) rs in
      subst (λ n. Goes (pointer (length qs) ∷ us) (one w (instr.CastPtr ss)) (pointer n ∷ us)) (length-map rs (slot_of_reach w 0))
      (does g t k (stacked m (pointer (length qs) ∷ us)) (instr.CastPtr ss) w.line (pointer (length ss) ∷ us)
      (does_cast_pointer ss (Some sp) (pointer (length qs)) us (numeric_pointer (length qs)) (regions_there sp 0 rs there certain (pointer (length qs) ∷ us)) (few_below 0 rs few)))
  cast_marked _ _ us (counts_number _ (number_integer v)) (a_pointer_type d sp args rs names) there certain few =
      let ss = map (slot_of_reach w 0) rs in
      subst (λ n. Goes (integer v ∷ us) (one w (instr.Cast ss)) (pointer n ∷ us)) (length-map rs (slot_of_reach w 0))
      (does g t k (stacked m (integer v ∷ us)) (instr.Cast ss) w.line (pointer (length ss) ∷ us)
      (does_cast ss (Some sp) (integer v) us (numeric_integer v) (regions_there sp 0 rs there certain (integer v ∷ us)) (few_below 0 rs few)))
  cast_marked _ _ us (counts_number _ (number_index c)) (a_pointer_type d sp args rs names) there certain few =
      let ss = map (slot_of_reach w 0) rs in
      subst (λ n. Goes (index ∷ us) (one w (instr.Cast ss)) (pointer n ∷ us)) (length-map rs (slot_of_reach w 0))
      (does g t k (stacked m (index ∷ us)) (instr.Cast ss) w.line (pointer (length ss) ∷ us)
      (does_cast ss (Some sp) index us numeric_index (regions_there sp 0 rs there certain (index ∷ us)) (few_below 0 rs few)))

  -- an element of a region that has a name
  element_marked : (u v : StaticType) (place : ℕ) (e : Expression) (us : List Shape) → IsRegion u → HasRegion m (Some (space_in u)) (slot w place) → IsCounting v →
      Goes (shape_of (counting_as v) ∷ us) (element_code w u (slot w place)) (shape_of (type_of_element w.scope u e) ∷ us)
  element_marked _ v place e us (a_region_type c sp args r) there h = does g t k (stacked m (shape_of (counting_as v) ∷ us)) (instr.At (slot w place)) w.line (pointer 1 ∷ us)
      (does_element (slot w place) (Some sp) _ us (record { origin = there.origin; shape = there.shape }) (counted_numeric v h))

  pub null_asked : (u : StaticType) (us : List Shape) → IsPointer u → Goes (shape_of u ∷ us) (one w instr.IsNull) (truth ∷ us)
  null_asked _ us (a_pointer_type c sp args rs names) =
      does g t k (stacked m (pointer (length rs) ∷ us)) instr.IsNull w.line (truth ∷ us) (does_is_null (pointer (length rs)) us (numeric_pointer (length rs)))

  pub element_at : (u : StaticType) (place d : ℕ) (e : Expression) (us : List Shape) → IsRegion u → HasRegion m (Some (space_in u)) (slot w place) → IsCounting (typed w e) →
      ((pc : ℕ) → Stands t.body pc (expr_code w d e) → Goes us (expr_code w d e) (shape_of (typed w e) ∷ us)) → (pc : ℕ) →
      Stands t.body pc (load_code w u (slot w place) (at_step e no_step) ⨟ steps_code w d u (own_slot w u place) (at_step e no_step)) →
      Goes us (load_code w u (slot w place) (at_step e no_step) ⨟ steps_code w d u (own_slot w u place) (at_step e no_step))
      (shape_of (type_of_element w.scope u e) ∷ us)
  element_at _ place d e us (a_region_type c sp args r) there h marked pc st =
      both g t k (nothing_done g t k _)
      (both g t k (marked pc st.1.0) (both g t k (standing_counted g t k w m (typed w e) us h)
      (both g t k (element_marked (region_type c sp args r) (typed w e) place e us (a_region_type c sp args r) there h)
      (both g t k (nothing_done g t k _) (nothing_done g t k _)))))

  -- a name's pointer is loaded
  pointer_loaded : (u : StaticType) (place : ℕ) (us : List Shape) → IsPointer u → slice_get m.slots (slot w place) ≡ Some (shape_of u) →
      Goes us (one w (instr.Load (slot w place))) (shape_of u ∷ us)
  pointer_loaded _ place us (a_pointer_type c sp args rs names) there =
      does g t k (stacked m us) (instr.Load (slot w place)) w.line _ (does_load (slot w place) _ us there (settled_number _ (numeric_pointer (length rs))) tt)

  -- what a name's pointer goes to, and what stands behind that
  pub behind_marked : (d : ℕ) (x f : Name) (rest : Steps) (us vs : List Shape) → forms.keeps ≡ true → IsBehind w x f (field_behind w x f) →
      Told way w.tree w.scope (access_expr x (field_step f no_step)) → Goes (shape_of (field_behind w x f) ∷ us) (steps_code w d (field_behind w x f) 0 rest) vs →
      Goes us (expr_code w d (access_expr x (field_step f rest))) vs
  behind_marked d x f rest us vs q h told more =
      let r = ruled g t k slots forms way w m asked q in
      let u = (bound w x).static_type in
      let there = pointer_aims w.scope.names (bound w x).number u h.pointer (scoped_named w.scope.names w.scope.names x r.scoped h.named) in
      let part = part_named (by_rules r.tops r.task) w.params m.slots w.scope.next w.scope.names x h.numbers r.beside h.named in
      let may = may_read_through w r.task x f h.pointer h.certain h.field (subst (λ v. Told v w.tree w.scope (access_expr x (field_step f no_step))) r.by told).1 in
      reads_through g t k r.tops r.task w m r.known f (field_behind w x f) u (bound w x).place (own_slot w u (bound w x).place) rest
      (steps_code w d (field_behind w x f) 0 rest) us vs h.pointer
      (named_as (by_rules r.tops r.task) w.params m.slots w.scope.names x r.named h.named (pointer_plain (by_rules r.tops r.task) w.params _ h.pointer) ∙ ap Some (pointer_named (by_rules r.tops r.task) w.params u h.pointer)) h.keeps
      (λ vs. allowed_through w r.task r.tops g t m asked.params r.known r.kept r.facts r.named r.scoped u
      (field_place w.tree (space_in u) f) (bound w x).place Read vs h.pointer there part h.certain may h.field) more

  -- a field that it goes to is assigned, and reduced
  pub set_behind_marked : (x f : Name) (y : Expression) → forms.keeps ≡ true → IsBehind w x f (field_behind w x f) →
      ToldForm way w.tree w.scope (assign_form x (field_step f no_step) how.Set y) →
      Goes (shape_of (field_behind w x f) ∷ []) (target_code w x (field_step f no_step) how.Set) []
  set_behind_marked x f y q h told =
      let r = ruled g t k slots forms way w m asked q in
      let u = (bound w x).static_type in
      let told_here = subst (λ v. ToldForm v w.tree w.scope (assign_form x (field_step f no_step) how.Set y)) r.by told in
      let there = pointer_aims w.scope.names (bound w x).number u h.pointer (scoped_named w.scope.names w.scope.names x r.scoped h.named) in
      let part = part_named (by_rules r.tops r.task) w.params m.slots w.scope.next w.scope.names x h.numbers r.beside h.named in
      let may = may_write_through w r.task x f y h.pointer h.certain h.field told_here.1.form in
      let named = named_as (by_rules r.tops r.task) w.params m.slots w.scope.names x r.named h.named (pointer_plain (by_rules r.tops r.task) w.params _ h.pointer) ∙ ap Some (pointer_named (by_rules r.tops r.task) w.params u h.pointer) in
      both g t k (both g t k (pointer_loaded u (bound w x).place (shape_of (field_behind w x f) ∷ []) h.pointer named) (nothing_done g t k _))
      (writes_through g t k r.tops r.task w m r.known f (field_behind w x f) u (own_slot w u (bound w x).place) [] h.pointer h.keeps
      (λ vs. allowed_through w r.task r.tops g t m asked.params r.known r.kept r.facts r.named r.scoped u
      (field_place w.tree (space_in u) f) (bound w x).place Write vs h.pointer there part h.certain may h.field))

  pub reduce_behind_marked : (x f : Name) (o : Op) (y : Expression) (a : Shape) → forms.keeps ≡ true → Numeric a → IsInteger (field_behind w x f) →
      IsBehind w x f (field_behind w x f) → ToldForm way w.tree w.scope (assign_form x (field_step f no_step) (how.Reduce o) y) →
      Goes (a ∷ []) (target_code w x (field_step f no_step) (how.Reduce o)) []
  reduce_behind_marked x f o y a q na io h told =
      let r = ruled g t k slots forms way w m asked q in
      let u = (bound w x).static_type in
      let told_here = subst (λ v. ToldForm v w.tree w.scope (assign_form x (field_step f no_step) (how.Reduce o) y)) r.by told in
      let there = pointer_aims w.scope.names (bound w x).number u h.pointer (scoped_named w.scope.names w.scope.names x r.scoped h.named) in
      let part = part_named (by_rules r.tops r.task) w.params m.slots w.scope.next w.scope.names x h.numbers r.beside h.named in
      let may = may_reduce_through w r.task x f o y h.pointer h.certain h.field told_here.1.form in
      let named = named_as (by_rules r.tops r.task) w.params m.slots w.scope.names x r.named h.named (pointer_plain (by_rules r.tops r.task) w.params _ h.pointer) ∙ ap Some (pointer_named (by_rules r.tops r.task) w.params u h.pointer) in
      both g t k (both g t k (pointer_loaded u (bound w x).place (a ∷ []) h.pointer named) (nothing_done g t k _))
      (reduces_through g t k r.tops r.task w m r.known f (field_behind w x f) u (own_slot w u (bound w x).place) o a [] h.pointer io na h.keeps
      (λ vs. allowed_through w r.task r.tops g t m asked.params r.known r.kept r.facts r.named r.scoped u
      (field_place w.tree (space_in u) f) (bound w x).place (Reduce o) vs h.pointer there part h.certain may h.field))
