-- The code of a variable that begins with a number, a truth, an index, an index space or a pointer has marks. Where that is a
-- name's pointer into a part, the part is copied beside the variable.
use Rattle.std.proofs.Common.{◌≡◌, ◌⊎◌, ⊎_elim, inl, inr, ℕ, suc, ◌<◌, ◌+◌, List, [], ◌∷◌, Bool, true, false, ◌&&◌, None, Some, refl, sym, ap, ◌∙◌, subst, arith}
use Rattle.std.specs.Prelude.{length, slice_get, slice_set}
use Rattle.std.proofs.lemmas.Bool.{false≢true}
use Rattle.std.proofs.lemmas.List.{length-set}
use Rattle.regent_tree.specs.Accesses.{space_in}
use Rattle.regent_tree.specs.Lookup.{is_bound}
use Rattle.regent_tree.specs.StaticTypes.{Reach}
use Rattle.regent_tree.specs.Syntax.{access_expr, at_step, cast_expr, Expression, field_step, Name, no_step, null_expr, plain_initializer, var_form}
use Rattle.regent_tree.specs.Scopes.{bound_as}
use Rattle.regent_tree.specs.Typing.{owned, parent_of, reaches_of, taken_from, type_of_element}
use Rattle.regent_tree.specs.declared.facts.Term.TheVariants as term
use Rattle.regent_tree.specs.declared.typing.Bound.{Bound}
use Rattle.regent_tree.specs.declared.typing.StaticType.{StaticType}
use Rattle.regent_tree.specs.declared.typing.StaticType.TheVariants.{Pointer as pointer_type}
use Rattle.task_code.specs.declared.code.TaskCode.{TaskCode}
use Rattle.task_code.specs.declared.instr.Instr.TheVariants as instr
use Rattle.code_rules.specs.Initializers.{names_child, plain_code}
use Rattle.code_rules.specs.Expressions.{expr_code}
use Rattle.code_rules.specs.Pieces.{◌⨟◌, op}
use Rattle.code_rules.specs.Slots.{beside, bound, slot_named, spare, typed, Where}
use Rattle.code_rules.specs.Statements.{begun_form, after_form, form_code}
use Rattle.code_laws.specs.Pointers.{a_pointer_type, AreThere, IsPointer}
use Rattle.code_laws.specs.Simple.{a_region_type, IsRegion, IsSimple, simple_index, simple_integer, simple_space, simple_truth}
use Rattle.code_laws.specs.Standing.{Stands}
use Rattle.code_laws.specs.Steps.{Forms}
use Rattle.code_laws.specs.Typed.{element_field, field_behind, IsKeepable, IsPartElement, IsPointing, IsTyped}
use Rattle.code_laws.proofs.PartTypes.{a_part_pointer, IsPartPointer, part_pointer}
use Rattle.code_laws.proofs.Wider.{keepable}
use Rattle.fit_rules.specs.Shapes.{Is, numeric_pointer, part, pointer, region, Shape}
use Rattle.fit_rules.specs.Marks.{Mark, stacked}
use Rattle.fit_rules.specs.Fits.{Program}
use Rattle.fit_rules.specs.Sound.{does_load, settled_number, settled_region}
use Rattle.fit_laws.proofs.Keeping.{get_other, get_set, set_mark}
use Rattle.std.proofs.Common.{nat_lt}
use Rattle.std.proofs.Common.{Bool, false, true}
use Rattle.std.proofs.lemmas.Bool.{le-ltb}
use Rattle.regent_tree.specs.Syntax.{Expressions, call_expr}
use Rattle.code_rules.specs.Initializers.{new_place}
use Rattle.code_rules.specs.Instructions.{keeps_number}
use Rattle.code_rules.specs.Slots.{slot}
use Rattle.code_rules.specs.Statements.{put_call}
use Rattle.code_laws.specs.Pointers.{HasZero, zero_index, zero_scalar}
use Rattle.code_laws.specs.Simple.{scalar_integer, scalar_truth}
use Rattle.fit_rules.specs.Shapes.{awaited}
use Rattle.sound_code.proofs.Combining.{kept_is}
use Rattle.sound_code.proofs.Expressions.{call_left}
use Rattle.sound_code.proofs.Statements.{bind_by}
use Rattle.sound_code.proofs.Placing.{named_as}
use Rattle.sound_code.proofs.SlotShapes.{partition_plain, pointer_plain, region_plain, slot_bare, slot_is, slot_numbered, slot_plain}
use Rattle.sound_code.specs.Named.{name_shape, slot_shape}
use Rattle.sound_code.specs.Named.{HasPartBeside, HasSlots, IsNumbered, Ready, slot_at, loops_in}
use Rattle.sound_code.proofs.Plain.{plain_origin}
use Rattle.sound_code.proofs.WholeTasks.{is_value, is_whole_expression}
use Rattle.sound_code.specs.Ways.{origin_in, shape_in, shape_of, Way}
use Rattle.sound_code.proofs.Asked.{Asked}
use Rattle.sound_code.proofs.Besides.{NamesNoChild, part_named, parts_behind}
use Rattle.sound_code.proofs.Bindings.{plain_stands}
use Rattle.sound_code.proofs.Combining.{behind_kept, both, does, Marked, nothing_done, slot_high, slot_next, storing, fixed_to, fixing}
use Rattle.sound_code.proofs.Cuts.{Cut, cut_plain}
use Rattle.sound_code.proofs.Domains.{parent_numbered, part_beside, part_shape}
use Rattle.sound_code.proofs.Expressions.{stored}
use Rattle.sound_code.proofs.Narrowing.{named_behind, narrow_itself, narrow_set}
use Rattle.sound_code.proofs.NoCuts.{IsNoCut, worth_no_partition}
use Rattle.sound_code.proofs.Numbering.{each_numbered, numbered_at, numbered_more, numbered_set}
use Rattle.sound_code.proofs.PartElements.{put_room}
use Rattle.sound_code.proofs.PartTargets.{part_left}
use Rattle.sound_code.proofs.Placing.{named_at}
use Rattle.sound_code.proofs.Scoped.{Scoped}
use Rattle.sound_code.proofs.ScopedNames.{begun_scoped, region_there, scoped_bound}
use Rattle.sound_code.proofs.Statements.{bind_marked, Followed, new_name, plain_marked, value_marked}
use Rattle.sound_code.proofs.Steady.{steady_below}
use Rattle.sound_code.proofs.Told.{Told, ToldForm, told_heads, told_plain}
use Rattle.sound_code.proofs.Wholes.{Asks, asks_first, asks_second, begun_worth, IsWorth, kept_of, owned_same, worth_named, worth_numbered}
use Rattle.sound_code.proofs.Looping.{loop_more}

either : (b : Bool) → (b ≡ true) ⊎ (b ≡ false)
either true = inl refl
either false = inr refl

-- ---- what names a part

-- regions that have names, in scope, are no parts
there_no_child : (all : List Bound) (sp : ℕ) (rs : List Reach) → AreThere all sp rs → names_child rs ≡ true → ⊥
there_no_child all sp [] h e = false≢true e
there_no_child all sp (Some (term.Name i) ∷ rs) h e = false≢true e
there_no_child all sp (Some (term.Child p c) ∷ rs) h e = h
there_no_child all sp (None ∷ rs) h e = false≢true e

simple_no_child : (t : StaticType) → IsSimple t → names_child (reaches_of t) ≡ true → ⊥
simple_no_child _ (simple_integer w) e = false≢true e
simple_no_child _ simple_truth e = false≢true e
simple_no_child _ (simple_space k) e = false≢true e
simple_no_child _ (simple_index k) e = false≢true e

-- a name's pointer
data IsCopy (w : Where) : Expression → Type 0 where
  is_copy : (y : Name) → IsPointing w (access_expr y no_step) → IsPointer (bound w y).static_type → is_bound w.scope.names y ≡ true → IsCopy w (access_expr y no_step)

module _ (forms : Forms) (w : Where) where
  there : (u : StaticType) → AreThere w.scope.names (space_in u) (reaches_of u) → names_child (reaches_of u) ≡ true → ⊥
  there u h e = there_no_child w.scope.names (space_in u) (reaches_of u) h e

  pointing_copy : (e : Expression) → IsPointer (typed w e) → IsPointing w e → IsTyped forms w e → names_child (reaches_of (typed w e)) ≡ true → IsCopy w e
  pointing_copy (access_expr n no_step) p h f c = is_copy n h p f.0
  pointing_copy (access_expr n (at_step e no_step)) p h f c =
      absurd (there (type_of_element w.scope (bound w n).static_type e) (region_there w (bound w n) (bound w n).static_type e f.4 f.5) c)
  pointing_copy (access_expr n (at_step e (field_step g no_step))) p h f c = absurd (there (element_field w n e g) h c)
  pointing_copy (access_expr n (field_step g no_step)) p h f c = absurd (there (field_behind w n g) h c)
  pointing_copy (null_expr t) p h f c = absurd (there (typed w (null_expr t)) f.1.1 c)
  pointing_copy (cast_expr t e) p h f c = absurd (there (typed w (cast_expr t e)) f.1.1 c)
  pointing_copy (access_expr n (at_step e (field_step a (field_step b rest)))) p h f c =
      absurd (there (typed w (access_expr n (at_step e (field_step a (field_step b rest))))) h c)
  pointing_copy (access_expr n (field_step a (field_step b rest))) p h f c = absurd (there (typed w (access_expr n (field_step a (field_step b rest)))) h c)
  pointing_copy (access_expr n (at_step e (at_step i (field_step a rest)))) p h f c =
      absurd (there (typed w (access_expr n (at_step e (at_step i (field_step a rest))))) h c)
  pointing_copy _ p h f c = absurd h

  -- or an element of a part
  begun_copy : (b : Bool) (e : Expression) → IsKeepable b w e → IsTyped forms w e → names_child (reaches_of (typed w e)) ≡ true → IsCopy w e ⊎ IsPartElement e
  begun_copy b e h f c = ⊎_elim (λ s. absurd (simple_no_child (typed w e) s c))
      (λ p. ⊎_elim (λ q. inl (pointing_copy e p.0 q f c)) (λ q. inr q) p.1) (keepable b w e h)

-- a number names no child
zero_no_child : (u : StaticType) → HasZero u → NamesNoChild u
zero_no_child _ (zero_scalar _ (scalar_integer w)) = refl
zero_no_child _ (zero_scalar _ scalar_truth) = refl
zero_no_child _ (zero_index k) = refl

-- ---- a name with a part beside it

named_part : (way : Way) (params : ℕ) (bs : List Bound) (m : Mark) (b : Bound) (D V : Shape) → Ready way params bs m → slot_at params (length bs) + 2 < length m.slots →
    b.place ≡ length bs → name_shape way params b ≡ V → IsNumbered (b ∷ bs) D → IsNumbered (b ∷ bs) V →
    ((ss : List Shape) → slice_get ss (slot_at params (length bs) + 2) ≡ Some D → HasPartBeside way params ss bs b.place b.static_type) →
    Ready way params (b ∷ bs) (fixed_to (slot_at params (suc (length bs))) (set_mark (set_mark m (slot_at params (length bs) + 2) D []) (slot_at params (length bs)) V []))
named_part way params bs m b D V r hi e es nd nv stood =
    let va = slot_at params (length bs) in
    let be = va + 2 in
    let first = slice_set m.slots be D in
    let long : length first ≡ length m.slots = length-set m.slots be D in
    let named = named_behind way params m.slots bs be D r.named (omega arith) in record {
      named = (
        e,
        ap (λ y. slice_get (slice_set first va V) (slot_at params y)) e ∙ get_set first va V (omega (arith, hi, long)) ∙ ap Some (sym es),
        named_behind way params first bs va V named (omega arith),
      );
      beside = (
        stood (slice_set first va V) (get_other first va be V (λ q. omega (arith, q)) ∙ get_set m.slots be D hi),
        parts_behind way params first bs va V named (parts_behind way params m.slots bs be D r.named r.beside (omega arith)) (omega arith),
      );
      free = λ j l h.
          let next = slot_next params (length bs) r.low in
          get_other first va j V (λ q. omega (arith, q, l, next)) ∙ get_other m.slots be j D (λ q. omega (arith, q, l, next))
          ∙ r.free j (omega (arith, l, next)) (omega (arith, h, long, length-set first va V));
      numbered = numbered_set (b ∷ bs) first va V (numbered_set (b ∷ bs) m.slots be D (each_numbered bs b m.slots r.numbered) nd) nv;
      facts = steady_below params (length bs) (suc (length bs)) (loops_in way bs) (loops_in way (b ∷ bs)) m.facts (omega arith) (loop_more way b bs) r.facts;
      low = omega (arith, r.low);
      fixed = refl;
    }

module _ (g : Program) (t : TaskCode) (k slots : ℕ) (have : HasSlots t slots) (forms : Forms) (way : Way) (w : Where) (m : Mark)
    (asked : Asked g t k slots forms way w m) where
  abbrev Named : Name → StaticType → Bound
  Named x u = new_name g t k slots have forms way w m asked x u

  -- a pointer into a part is copied, and the part
  copy_marked : (x y : Name) (u : StaticType) → IsPointer u → names_child (reaches_of u) ≡ true → slice_get m.slots (slot_named w y) ≡ Some (shape_of u) →
      HasPartBeside way w.params m.slots w.scope.names (bound w y).place u → Scoped forms.keeps way (Named x (owned w.scope.next u) ∷ w.scope.names) →
      Cut forms.keeps way w.tree w.params m.facts (Named x (owned w.scope.next u) ∷ w.scope.names) → (pc : ℕ) →
      Stands t.body pc (plain_code w (owned w.scope.next u) (access_expr y no_step)) →
      Followed g t k forms.keeps way w.tree w.params (Named x (owned w.scope.next u) ∷ w.scope.names) m
      (plain_code w (owned w.scope.next u) (access_expr y no_step) ⨟ op (instr.Store (slot_at w.params (length w.scope.names))) w.line)
  copy_marked x y _ (a_pointer_type c sp args (Some (term.Child p d) ∷ rs) aims) child there h scoped cut pc st =
      let r = asked.ready in
      let bs = w.scope.names in
      let va = slot_at w.params (length bs) in
      let be = va + 2 in
      let n = length (Some (term.Child p d) ∷ rs) in
      let D : Shape = region (Some sp) (part (origin_in way w.params (term.Name (parent_of (bound_as bs p).static_type)))) in
      let high = slot_high w.params (length bs) r.low in
      let hi : be < length m.slots = stored g t k slots have forms way w m asked _ _ st.1.1 in
      let us : List Shape = pointer n ∷ [] in
      let first = set_mark m be D [] in
      let number = numbered_at bs m.slots _ D r.numbered h.shape in record {
        next = fixed_to (slot_at w.params (suc (length bs))) (set_mark first va (pointer n) []);
        is = fixing g t k _ (set_mark first va (pointer n) []) _ _ (both g t k (both g t k
            (both g t k (does g t k (stacked m []) (instr.Load (slot_named w y)) w.line us (does_load _ (pointer n) [] there (settled_number _ (numeric_pointer n)) tt))
            (nothing_done g t k _))
            (both g t k (does g t k (stacked m us) (instr.Load (beside w (bound w y).place)) w.line (D ∷ us) (does_load _ D us h.shape (settled_region _ _) (plain_origin way w.params (term.Name (parent_of (bound_as bs p).static_type)))))
            (storing g t k m be D D us w.line (behind_kept way w.params bs m be r (omega arith)) (omega (arith, high, asked.params)) (omega (arith, r.fixed)) (plain_origin way w.params (term.Name (parent_of (bound_as bs p).static_type))) hi (λ z v i. i))))
            (storing g t k first va (pointer n) (pointer n) [] w.line (behind_kept way w.params bs m va r (omega arith)) (omega (arith, high, asked.params))
            (omega (arith, r.fixed)) tt (omega (arith, hi, length-set m.slots be D)) (λ z v i. i)));
        ready = named_part way w.params bs m (Named x (pointer_type c sp args (Some (term.Child p d) ∷ rs))) D (pointer n) r hi refl (slot_plain (nat_lt (length bs) w.params) (pointer n) refl)
            (numbered_more bs (Named x (pointer_type c sp args (Some (term.Child p d) ∷ rs))) D number) tt (λ ss e. record {
              behind = r.low;
              is_partition = h.is_partition;
              is_region = h.is_region;
              space = h.space;
              shape = e;
            });
        narrower = narrow_set (slice_set m.slots be D) m.slots va _ (narrow_set m.slots m.slots be D (narrow_itself m.slots) (inl (r.free be (omega arith) hi)))
            (inl (r.free va (omega arith) (omega (arith, hi))));
        facts = λ l a. a;
        new = λ l a. inl a;
        scoped = scoped;
        cut = cut;
      }
  copy_marked x y _ (a_pointer_type c sp args (Some (term.Name i) ∷ rs) aims) child there h scoped cut pc st = absurd (false≢true child)
  copy_marked x y _ (a_pointer_type c sp args (None ∷ rs) aims) child there h scoped cut pc st = absurd (false≢true child)
  copy_marked x y _ (a_pointer_type c sp args [] aims) child there h scoped cut pc st = absurd (false≢true child)

  copied_marked : (x : Name) (e : Expression) → IsCopy w e → names_child (reaches_of (typed w e)) ≡ true → IsWorth (typed w e) →
      Scoped forms.keeps way (Named x (owned w.scope.next (typed w e)) ∷ w.scope.names) →
      Cut forms.keeps way w.tree w.params m.facts (Named x (owned w.scope.next (typed w e)) ∷ w.scope.names) → (pc : ℕ) →
      Stands t.body pc (begun_form w None (Some (plain_initializer e))) →
      Followed g t k forms.keeps way w.tree w.params (Named x (owned w.scope.next (typed w e)) ∷ w.scope.names) m (begun_form w None (Some (plain_initializer e)))
  copied_marked x _ (is_copy y falls goes there) child worth scoped cut pc st = copy_marked x y (bound w y).static_type goes child
      (named_as way w.params m.slots w.scope.names y asked.ready.named there (pointer_plain way w.params _ goes) ∙ ap Some (worth_named way w.params _ worth))
      (part_named way w.params m.slots w.scope.next w.scope.names y falls asked.ready.beside there) scoped cut pc st.0

  -- a pointer into a part, which was put aside where it stands beside the new name
  put_marked : (x n : Name) (e i : Expression) (u : StaticType) (own sq : ℕ) → IsPartPointer u own sq → slot_at w.params (length w.scope.names) + 2 < length m.slots →
      (D : Shape) → IsNumbered w.scope.names D →
      ((ss : List Shape) → slice_get ss (slot_at w.params (length w.scope.names) + 2) ≡ Some D → HasPartBeside way w.params ss w.scope.names (length w.scope.names) u) →
      Marked g t k (stacked m []) (expr_code w 0 (access_expr n (at_step e (at_step i no_step))))
      (stacked (set_mark m (slot_at w.params (length w.scope.names) + 2) D []) (shape_of u ∷ [])) →
      Scoped forms.keeps way (Named x (owned w.scope.next u) ∷ w.scope.names) →
      Cut forms.keeps way w.tree w.params m.facts (Named x (owned w.scope.next u) ∷ w.scope.names) →
      Followed g t k forms.keeps way w.tree w.params (Named x (owned w.scope.next u) ∷ w.scope.names) m
      (plain_code w (owned w.scope.next u) (access_expr n (at_step e (at_step i no_step))) ⨟ op (instr.Store (slot_at w.params (length w.scope.names))) w.line)
  put_marked x n e i _ _ _ (a_part_pointer c sp args own colour) hi D number stood f scoped cut =
      let r = asked.ready in
      let bs = w.scope.names in
      let va = slot_at w.params (length bs) in
      let be = va + 2 in
      let u = pointer_type c sp args (Some (term.Child own colour) ∷ []) in
      let V = shape_of u in
      let high = slot_high w.params (length bs) r.low in
      let first = set_mark m be D [] in record {
        next = fixed_to (slot_at w.params (suc (length bs))) (set_mark first va V []);
        is = fixing g t k _ (set_mark first va V []) _ _ (both g t k (both g t k f (nothing_done g t k _))
            (storing g t k first va V V [] w.line (behind_kept way w.params bs m va r (omega arith)) (omega (arith, high, asked.params))
            (omega (arith, r.fixed)) tt (omega (arith, hi, length-set m.slots be D)) (λ z v i. i)));
        ready = named_part way w.params bs m (Named x u) D V r hi refl (slot_plain (nat_lt (length bs) w.params) V refl) (numbered_more bs (Named x u) D number) tt stood;
        narrower = narrow_set (slice_set m.slots be D) m.slots va _ (narrow_set m.slots m.slots be D (narrow_itself m.slots) (inl (r.free be (omega arith) hi)))
            (inl (r.free va (omega arith) (omega (arith, hi))));
        facts = λ l a. a;
        new = λ l a. inl a;
        scoped = scoped;
        cut = cut;
      }

  -- a pointer into a region is what a loop over it takes
  element_taken : (t : StaticType) (i : Expression) → IsRegion t → taken_from t ≡ type_of_element w.scope t i
  element_taken _ i (a_region_type c sp args r) = refl

  element_marked : (x : Name) (y : Expression) → IsPartElement y → IsTyped forms w y → Asks forms.keeps (is_whole_expression true w y) → Told way w.tree w.scope y →
      Scoped forms.keeps way (Named x (owned w.scope.next (typed w y)) ∷ w.scope.names) →
      Cut forms.keeps way w.tree w.params m.facts (Named x (owned w.scope.next (typed w y)) ∷ w.scope.names) → (pc : ℕ) →
      Stands t.body pc (expr_code w 0 y) →
      Followed g t k forms.keeps way w.tree w.params (Named x (owned w.scope.next (typed w y)) ∷ w.scope.names) m (begun_form w None (Some (plain_initializer y)))
  element_marked x (access_expr n (at_step e (at_step i no_step))) is f whole told scoped cut pc st =
      let y = access_expr n (at_step e (at_step i no_step)) in
      let bs = w.scope.names in
      let near : spare w 0 ≡ slot_at w.params (length bs) + 2 = omega arith in
      let rt = type_of_element w.scope (bound w n).static_type e in
      let hi = put_room g t k slots have forms way w m asked n 0 (bound w n).static_type e i no_step f.1.0.partition pc st in
      let D = part_shape g t k slots have forms way w m asked n f.0 f.1.0 in
      put_marked x n e i (typed w y) _ _ (part_pointer w n e i f.1) (subst (λ s. s < length m.slots) near hi) D
      (parent_numbered g t k slots have forms way w m asked n f.0 f.1.0)
      (λ ss there. subst (HasPartBeside way w.params ss bs (length bs)) (element_taken rt i f.1.2)
      (part_beside g t k slots have forms way w m asked n f.0 f.1.0 e f.1.1 ss there))
      (subst (λ s. Marked g t k (stacked m []) (expr_code w 0 y) (stacked (set_mark m s D []) (shape_of (typed w y) ∷ []))) near
      (part_left g t k slots have forms way w m asked f.0 n e i [] f.1 f.2 f.3 whole told pc st)) scoped cut
  element_marked x _ is f whole told scoped cut pc st = absurd is

  pub begun_marked : (x : Name) (e : Expression) → ToldForm way w.tree w.scope (var_form x None (Some (plain_initializer e))) → IsKeepable forms.keeps w e → IsTyped forms w e →
      Asks forms.keeps (is_value true (owned w.scope.next (typed w e)) && is_whole_expression true w e) → (pc : ℕ) →
      Stands t.body pc (begun_form w None (Some (plain_initializer e))) →
      Followed g t k forms.keeps way w.tree w.params (after_form w (var_form x None (Some (plain_initializer e)))).scope.names m (begun_form w None (Some (plain_initializer e)))
  begun_marked x e told keep typing whole pc st =
      let form = var_form x None (Some (plain_initializer e)) in
      let inside = asks_second forms.keeps _ (is_whole_expression true w e) whole in
      let is = kept_of forms.keeps w e keep in
      let worth = begun_worth forms.keeps w e w.scope.next keep (asks_first _ _ _ whole) in
      let u = owned w.scope.next (typed w e) in
      let same = owned_same w.scope.next (typed w e) is in
      let b = Named x u in
      let scoped = scoped_bound forms.keeps way w.tree w.scope form b refl told asked.scoped
      (λ all. begun_scoped forms w all forms.keeps e w.scope.next keep typing) in
      let cut = cut_plain forms.keeps way w.tree w.scope form b w.params m.facts m.facts refl told (λ l h. h) asked.cut
      (subst IsNoCut (sym same) (worth_no_partition (typed w e) worth)) in
      let heads = told_plain way forms w e typing inside (told_heads w.tree w.scope way form told) in
      let stands = plain_stands t.body w e w.scope.next (typed w e) pc is st.0 in
      ⊎_elim (λ child. ⊎_elim (λ copy. copied_marked x e copy child worth scoped cut pc st)
      (λ part. element_marked x e part typing inside heads scoped cut pc stands) (begun_copy forms w forms.keeps e keep typing child))
      (λ none. bind_marked g t k slots have forms way w m asked x (shape_of (typed w e)) u _
      (λ x v. subst (λ s. Is x s v) (sym (ap (shape_in way w.params) same ∙ worth_named way w.params _ worth)))
      (subst (λ y. IsNumbered (b ∷ w.scope.names) (shape_in way w.params y)) (sym same) (worth_numbered way w.params (b ∷ w.scope.names) (typed w e) worth))
      scoped cut (subst NamesNoChild (sym same) none)
      (plain_marked g t k slots have forms way w m asked (typed w e) e w.scope.next _ _ is none
      (value_marked g t k slots have forms way w m asked e [] typing inside heads pc stands))
      (stored g t k slots have forms way w m asked _ _ st.1)) (either (names_child (reaches_of (typed w e))))

  -- a variable that begins with a call's result as it comes
  pub begun_called : (x : Name) (task : Name) (args : Expressions) → ToldForm way w.tree w.scope (var_form x None (Some (plain_initializer (call_expr task args)))) →
      IsKeepable forms.keeps w (call_expr task args) → IsTyped forms w (call_expr task args) →
      Asks forms.keeps (is_value true (owned w.scope.next (typed w (call_expr task args))) && is_whole_expression true w (call_expr task args)) →
      keeps_number (typed w (call_expr task args)) (owned w.scope.next (typed w (call_expr task args))) ≡ true → (pc : ℕ) →
      Stands t.body pc (put_call w (slot w (new_place w)) task args) →
      Followed g t k forms.keeps way w.tree w.params (after_form w (var_form x None (Some (plain_initializer (call_expr task args))))).scope.names m (put_call w (slot w (new_place w)) task args)
  begun_called x task args told keep typing whole keeps pc st =
      let e = call_expr task args in
      let form = var_form x None (Some (plain_initializer e)) in
      let inside = asks_second forms.keeps _ (is_whole_expression true w e) whole in
      let is = kept_of forms.keeps w e keep in
      let worth = begun_worth forms.keeps w e w.scope.next keep (asks_first _ _ _ whole) in
      let u = owned w.scope.next (typed w e) in
      let same = owned_same w.scope.next (typed w e) is in
      let b = Named x u in
      let scoped = scoped_bound forms.keeps way w.tree w.scope form b refl told asked.scoped
      (λ all. begun_scoped forms w all forms.keeps e w.scope.next keep typing) in
      let cut = cut_plain forms.keeps way w.tree w.scope form b w.params m.facts m.facts refl told (λ l h. h) asked.cut
      (subst IsNoCut (sym same) (worth_no_partition (typed w e) worth)) in
      let heads = told_plain way forms w e typing inside (told_heads w.tree w.scope way form told) in
      let still : nat_lt (length w.scope.names) w.params ≡ false = le-ltb (length w.scope.names) w.params asked.ready.low in
      bind_by g t k slots have forms way w m asked x (awaited (shape_of (typed w e))) u (put_call w (slot w (new_place w)) task args)
      (λ y v h. subst (λ c. Is y (slot_shape c (shape_in way w.params u)) v) (sym still)
      (subst (λ s. Is y (slot_shape false s) v) (sym (ap (shape_in way w.params) same ∙ worth_named way w.params _ worth))
      (kept_is y (typed w e) (typed w e) (subst (λ z. keeps_number (typed w e) z ≡ true) same keeps) v h)))
      (subst (λ y. IsNumbered (b ∷ w.scope.names) (shape_in way w.params y)) (sym same) (worth_numbered way w.params (b ∷ w.scope.names) (typed w e) worth))
      scoped cut (subst NamesNoChild (sym same) (zero_no_child (typed w e) typing.1))
      (λ o h. call_left g t k slots have forms way w m asked task args [] typing inside heads pc st.0 _ o h)
      (stored g t k slots have forms way w m asked _ _ st.1.1)
