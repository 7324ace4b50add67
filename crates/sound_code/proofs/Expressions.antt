-- The code of expressions has marks: each leads from a mark to the same with a value on the stack.
use Rattle.fit_rules.specs.Marks.{ColoursStand}
use Rattle.fit_rules.specs.Shapes.{Each, index, integer, numeric_index, numeric_integer, numeric_truth, truth}
use Rattle.std.proofs.Common.{slice_get}
use Rattle.code_rules.specs.Expressions.{count}
use Rattle.sound_code.proofs.Wholes.{IsWorth, worth_pointer, worth_simple}
use Rattle.sound_code.proofs.Placing.{named_as}
use Rattle.sound_code.proofs.SlotShapes.{partition_plain, pointer_plain, region_plain, slot_bare, slot_is, slot_numbered, slot_plain}
use Rattle.sound_code.specs.Named.{is_still, name_shape, slot_shape}
use Rattle.sound_code.proofs.Plain.{plain_shape}
use Rattle.sound_code.proofs.Parts.{child_code, coloured, cut_code, part_regions}
use Rattle.code_laws.specs.Arguments.{IsCutName}
use Rattle.std.proofs.lemmas.Bool.{and_parts, false≢true, or_cases}
use Rattle.code_laws.proofs.Wider.{any_field, compared, converting, counting, signed_as}
use Rattle.code_laws.specs.Pointers.{HasSigns, signs_counted, signs_plain, IsCounting}
use Rattle.regent_tree.specs.declared.expression.Sign.TheVariants.{Minus}
use Rattle.std.proofs.Common.{◌≡◌, inl, ℕ, suc, ◌<◌, ◌≤◌, List, [], ◌∷◌, Some, refl, sym, ap, ◌∙◌, subst, arith, ⊎_elim, true, Bool, false, ◌||◌}
use Rattle.std.specs.Prelude.{length}
use Rattle.std.proofs.lemmas.List.{length-set}
use Rattle.regent_tree.specs.declared.expression.Operator.TheVariants.{Or, And, Compare, Compute}
use Rattle.regent_tree.specs.declared.expression.Sign.{Sign}
use Rattle.regent_tree.specs.declared.typing.StaticType.{StaticType}
use Rattle.regent_tree.specs.declared.typing.StaticType.TheVariants.{Integer as integer_type, Truth as truth_type}
use Rattle.regent_tree.specs.StaticTypes.{task_named}
use Rattle.regent_tree.specs.Syntax.{Name, Expression, number_expr, truth_expr, chain_expr, prefix_expr, access_expr, call_expr, convert_expr, space_expr, Expressions, no_expr, an_expr, Links, no_link, a_link, no_step, field_step, at_step, is_null_expr, null_expr, cast_expr}
use Rattle.regent_tree.specs.Typing.{linked_type, type_of_element, param_types, params_at, signed_type}
use Rattle.regent_tree.specs.Values.{kept_truth}
use Rattle.task_code.specs.declared.code.TaskCode.{TaskCode}
use Rattle.task_code.specs.declared.instr.Instr.TheVariants as instr
use Rattle.machine_terms.specs.Jumps.{fetch}
use Rattle.code_rules.specs.Pieces.{Piece, ◌⨟◌, line_of, over}
use Rattle.code_rules.specs.Expressions.{expr_code, exprs_code, links_code}
use Rattle.code_rules.specs.Instructions.{converted_code, signs_code, standing_code, one, place_of_task}
use Rattle.code_rules.specs.Slots.{Where, bound, result, spare, typed, slot_named}
use Rattle.code_laws.specs.Simple.{IsSimple, simple_integer, simple_truth, simple_space, simple_index, IsInteger, an_integer, IsTruth, a_truth_type, IsScalar, scalar_integer, SignsFit, of_a_truth, of_an_integer, not_before, minus_before, AreRegions, IsPartition}
use Rattle.code_laws.specs.Standing.{Stands}
use Rattle.code_laws.specs.Steps.{Forms}
use Rattle.code_laws.specs.Typed.{ArePassed, IsIndexed, IsTyped, AreTypedLinks}
use Rattle.fit_rules.specs.Shapes.{Shape, awaited, integer, truth, space, Numeric, numeric_integer, numeric_truth}
use Rattle.fit_rules.specs.Marks.{Mark, stacked}
use Rattle.fit_rules.specs.Fits.{Program}
use Rattle.fit_rules.specs.Sound.{does_num, does_load, does_negate, does_invert, does_space}
use Rattle.marked_code.specs.Marked.{leads_waiting, typed_op, typed_and, typed_or}
use Rattle.fit_laws.proofs.Keeping.{get_set, set_mark}
use Rattle.sound_code.specs.Named.{slot_at, HasSlots, IsFreeFrom, loops_in}
use Rattle.sound_code.specs.Ways.{Way, shape_of}
use Rattle.sound_code.proofs.Granting.{allowed, May}
use Rattle.sound_code.proofs.WholeTasks.{are_whole_arguments, are_whole_links, is_whole_expression, names_region, takes_part}
use Rattle.sound_code.proofs.Counting.{becomes, compares, compute_counted, number_counted, signs_counted as counted_signs, standing_counted}
use Rattle.sound_code.proofs.Wholes.{Asks, asks_first, asks_second, Becomes, given_whole, HasFew, read_worth, value_worth, regions_asked, whole_argument, worth_few, worth_named, worth_settled, index_whole, region_no_partition}
use Rattle.sound_code.proofs.Handed.{all_handed, cut_handed, cut_unconverted, given_cut_is, handed, handed_unconverted, worth_handed, given_child, part_handed, same_code}
use Rattle.sound_code.proofs.Cutting.{colours_marked}
use Rattle.sound_code.proofs.Pointing.{behind_marked, cast_marked, element_at, null_asked, null_marked}
use Rattle.sound_code.proofs.Handing.{calls, handed_marked}
pub use Rattle.sound_code.proofs.Placing.{named_at, placed_at, region_named, simple_named}
use Rattle.sound_code.proofs.Told.{Told, ToldArgs, ToldLinks, told_arg, told_at, told_call, told_called, told_cast, told_chain, told_convert, told_element, told_is_null, told_link, told_prefix, told_space}
use Rattle.sound_code.proofs.Wanting.{may_read}
use Rattle.sound_code.proofs.Steady.{steady_stand}
use Rattle.expression_laws.specs.Needs.{mode_of}
use Rattle.regent_tree.specs.Accesses.{space_in}
use Rattle.regent_tree.specs.StaticTypes.{field_place}
use Rattle.regent_tree.specs.declared.rights.Access.{Access}
use Rattle.regent_tree.specs.declared.rights.Access.TheVariants.{Read}
use Rattle.fit_rules.specs.Sound.{Allowed}
use Rattle.code_laws.specs.Typed.{IsAnyField}
use Rattle.sound_code.proofs.Asked.{Asked, AskedAt}
use Rattle.sound_code.proofs.Calling.{onto, scalar_numeric, zero_numeric}
use Rattle.sound_code.proofs.Combining.{Marked, nothing_done, both, does, into, behind_kept, slot_high, storing}
use Rattle.sound_code.proofs.Elements.{reads}
use Rattle.sound_code.proofs.Further.{behind_further, point_further, told_point}
use Rattle.sound_code.proofs.PartElements.{asked_put, element_put, part_space, part_put, put_away, put_fields, put_mark, put_room, result_free, told_first, told_second}
use Rattle.sound_code.proofs.Narrowing.{narrow_itself, narrow_set, narrow_over, same_facts}
use Rattle.fit_laws.proofs.Numbers.{truth_is}

-- ---- types

signs_keep : (t : StaticType) (ss : List Sign) → SignsFit t ss → signed_type ss t ≡ t
signs_keep _ _ of_a_truth = refl
signs_keep _ _ (of_an_integer w) = refl
signs_keep _ _ (not_before ss h) = refl
signs_keep _ _ (minus_before w ss h) = refl

plain_signs : (t : StaticType) (ss : List Sign) → SignsFit t ss → IsSimple t
plain_signs _ _ of_a_truth = simple_truth
plain_signs _ _ (of_an_integer w) = simple_integer w
plain_signs _ _ (not_before ss h) = simple_truth
plain_signs _ _ (minus_before w ss h) = simple_integer w

pub integer_is_plain : (t : StaticType) → IsInteger t → IsScalar t
integer_is_plain _ (an_integer w) = scalar_integer w

pub truth_shape : (t : StaticType) → IsTruth t → shape_of t ≡ truth
truth_shape _ a_truth_type = refl

-- ---- expressions

-- the colour of a part
abbrev index_in : Expression → Expression
index_in (access_expr n (at_step i no_step)) = i
index_in e = e

abbrev takes_index : Expression → Bool
takes_index (access_expr n (at_step i no_step)) = true
takes_index e = false

-- what takes an element takes no part
part_untyped : (forms : Forms) (w : Where) (e : Expression) → IsTyped forms w e → takes_part true w e ≡ true → ⊥
part_untyped forms w (access_expr n (at_step i no_step)) f h = region_no_partition (bound w n).static_type f.4 (and_parts _ _ h).0
part_untyped forms w _ f h = false≢true h

-- a part names no region
part_asked : (w : Where) (e : Expression) (n : Name) (i : Expression) → e ≡ access_expr n (at_step i no_step) →
    (names_region w e || (takes_part true w e || is_whole_expression true w e)) ≡ true → (takes_part true w e || is_whole_expression true w e) ≡ true
part_asked w e n i same h = ⊎_elim (λ r. absurd (false≢true (subst (λ y. names_region w y ≡ true) same r))) (λ q. q) (or_cases (names_region w e) _ h)

module _ (g : Program) (t : TaskCode) (k slots : ℕ) (have : HasSlots t slots) (forms : Forms) (way : Way) (w : Where) (m : Mark)
    {deep : ℕ} (asked : AskedAt g t k slots deep forms way w m) where
  -- code that leads from one stack to another
  abbrev Goes : List Shape → Piece → List Shape → Type 0
  Goes us p vs = Marked g t k (stacked m us) p (stacked m vs)

  -- a slot in which something is stored is there
  pub stored : (pc s : ℕ) → fetch t.body pc ≡ Some (line_of (instr.Store s) w.line) → s < length m.slots
  stored pc s e = let l = have pc _ e in let r = asked.room in omega (arith, l, r)

  standing_marked : (u : StaticType) (us : List Shape) → IsSimple u → Goes us (standing_code w u) us
  standing_marked _ us (simple_integer v) = nothing_done g t k _
  standing_marked _ us simple_truth = nothing_done g t k _
  standing_marked _ us (simple_space c) = nothing_done g t k _
  standing_marked _ us (simple_index c) = nothing_done g t k _

  signs_marked : (u : StaticType) (ss : List Sign) (us : List Shape) → SignsFit u ss →
      Goes (shape_of u ∷ us) (signs_code w u ss) (shape_of u ∷ us)
  signs_marked _ _ us of_a_truth = nothing_done g t k _
  signs_marked _ _ us (of_an_integer v) = nothing_done g t k _
  signs_marked _ _ us (not_before ss h) = both g t k (signs_marked truth_type ss us h)
      (does g t k (stacked m (truth ∷ us)) instr.Not w.line (truth ∷ us) (does_invert truth us numeric_truth))
  signs_marked _ _ us (minus_before v ss h) = both g t k (signs_marked (integer_type v) ss us h)
      (does g t k (stacked m (integer v ∷ us)) (instr.Neg v) w.line (integer v ∷ us)
      (does_negate v (integer v) us (numeric_integer v)))

  pub converted_marked : (u v : StaticType) (us : List Shape) → Becomes u v → HasFew v →
      Goes (shape_of u ∷ us) (converted_code w u v) (shape_of v ∷ us)
  converted_marked u v us h few = becomes g t k w m u v us h few

  -- prefixes, behind what stands for a number
  prefix_marked : (u : StaticType) (ss : List Sign) (us : List Shape) → HasSigns u ss →
      Goes (shape_of u ∷ us) (standing_code w u ⨟ signs_code w u ss) (shape_of (signed_type ss u) ∷ us)
  prefix_marked u ss us (signs_plain _ _ h) = both g t k (standing_marked u _ (plain_signs u ss h))
      (subst (λ y. Goes (shape_of u ∷ us) (signs_code w u ss) (shape_of y ∷ us)) (sym (signs_keep u ss h)) (signs_marked u ss us h))
  prefix_marked u _ us (signs_counted _ ss c h) = both g t k (standing_counted g t k w m u us c) (counted_signs g t k w m u (Minus ∷ ss) us c h)

  or_marked : (us : List Shape) (p : Piece) → Goes us p (truth ∷ us) → Goes (truth ∷ us) (over instr.OrJump w.line p) (truth ∷ us)
  or_marked us p f = record { marks = _; is = typed_or (stacked m (truth ∷ us)) truth us w.line p _ refl numeric_truth f.is }

  and_marked : (us : List Shape) (p : Piece) → Goes us p (truth ∷ us) → Goes (truth ∷ us) (over instr.AndJump w.line p) (truth ∷ us)
  and_marked us p f = record { marks = _; is = typed_and (stacked m (truth ∷ us)) truth us w.line p _ refl numeric_truth f.is }

  -- a result that may be pending is put aside, and waited for
  awaited_marked : (s : ℕ) (r : Shape) (us : List Shape) → Numeric r → IsFreeFrom deep (slot_at w.params (length w.scope.names)) s → slot_at w.params (length w.scope.names) ≤ s →
      s < length m.slots → Goes (awaited r ∷ us) (one w (instr.Store s) ⨟ one w (instr.Load s)) (r ∷ us)
  awaited_marked s r us nr clear low hi =
      let ready = asked.ready in
      let high = slot_high w.params (length w.scope.names) ready.low in
      into g t k (both g t k
      (storing g t k m s (awaited r) (awaited r) us w.line (behind_kept way w.params w.scope.names m s ready low)
      (omega (arith, low, high, asked.params)) (omega (arith, low, ready.fixed)) tt hi (λ x v h. h))
      (record {
        marks = _;
        is = typed_op _ _ _ w.line (leads_waiting (set_mark m s (awaited r) us) s r (get_set m.slots s (awaited r) hi) nr
            (steady_stand w.params (length w.scope.names) (loops_in way w.scope.names) _ m.facts ready.facts));
      }))
      (narrow_over t.params (set_mark m s (awaited r) us) m (r ∷ us) refl
      (narrow_set m.slots m.slots s (awaited r) (narrow_itself m.slots) (inl (ready.free s clear hi))) (same_facts _ _ refl))
      (sym (length-set m.slots s (awaited r)))

  -- an access to a field through a name that the rules grant
  pub touched : (n f : Name) (out : StaticType) (a : Access) → IsAnyField w n f out →
      May way w.tree w.scope (bound w n).static_type (field_place w.tree (space_in (bound w n).static_type) f) a → (us : List Shape) →
      Allowed g t (stacked m us) (space_in (bound w n).static_type) (field_place w.tree (space_in (bound w n).static_type) f) (mode_of a) (slot_named w n)
  touched n f out a field may us = allowed g t w.tree w.params w.scope m asked.params way asked.known asked.ground asked.facts
      (bound w n).static_type (bound w n).place (field_place w.tree (space_in (bound w n).static_type) f) a us field.region
      (named_as way w.params m.slots w.scope.names n asked.ready.named field.named (region_plain way w.params _ field.region)) (placed_at t way w.tree w.params w.scope n asked.ground field.named)
      field.field may

  -- a part is left on the stack, as the child by its colour, which lies within the region of which its partition is
  part_passed : (d : ℕ) (us : List Shape) (p : StaticType) (e : Expression) (u : StaticType) (n : Name) (i : Expression) → e ≡ access_expr n (at_step i no_step) →
      forms.keeps ≡ true → IsCutName w n → AreRegions (typed w e) p → IsTyped forms w i → IsCounting (typed w i) →
      ((pc : ℕ) → Stands t.body pc (expr_code w d i) → Goes us (expr_code w d i) (shape_of (typed w i) ∷ us)) → (pc : ℕ) → Stands t.body pc (expr_code w d e) →
      Goes us (expr_code w d e) (handed way w p e ∷ us)
  part_passed d us p e u n i same keeps cut regions fine counting marked pc st =
      let code = child_code g t k slots forms way w m asked n keeps cut d us (bound w n).static_type i cut.partition counting
      (λ q s. coloured g t k slots forms way w m asked d us i fine counting (marked q s)) pc
      (subst (λ y. Stands t.body pc (expr_code w d y)) same st) in
      let here = subst (λ y. AreRegions (typed w y) p) same regions in
      subst (λ y. Goes us (expr_code w d y) (handed way w p y ∷ us)) (sym same)
      (subst (λ s. Goes us (expr_code w d (access_expr n (at_step i no_step))) (s ∷ us)) (sym (part_handed way w n i _ p here))
      (subst (λ sp. Goes us (expr_code w d (access_expr n (at_step i no_step))) (given_child way w sp n i ∷ us))
      (sym (part_regions w n i p cut.partition here)) code))

  -- and a partition, as one of the region of which it is
  cut_passed : (d : ℕ) (us : List Shape) (p : StaticType) (e : Expression) (n : Name) → e ≡ access_expr n no_step → forms.keeps ≡ true → IsCutName w n →
      IsPartition p → Goes us (expr_code w d e) (handed way w p e ∷ us)
  cut_passed d us p e n same keeps named is =
      subst (λ y. Goes us (expr_code w d y) (handed way w p y ∷ us)) (sym same)
      (subst (λ s. Goes us (expr_code w d (access_expr n no_step)) (s ∷ us)) (sym (cut_handed way w n p is ∙ given_cut_is way w (bound w n).static_type named.partition))
      (cut_code g t k slots forms way w m asked n keeps named d us))

-- a name's value is loaded, and waited for where it may be pending
pub worth_loaded : (g : Program) (t : TaskCode) (k : ℕ) (w : Where) (m : Mark) (s : ℕ) (c : Bool) (u : StaticType) (us : List Shape) → IsWorth u →
    Each (ColoursStand m.slots) m.facts → slice_get m.slots s ≡ Some (slot_shape c (shape_of u)) →
    Marked g t k (stacked m us) (one w (instr.Load s)) (stacked m (shape_of u ∷ us))
worth_loaded g t k w m s true u us is stand h = does g t k _ (instr.Load s) w.line _ (does_load _ _ us h (worth_settled _ is) (plain_shape _))
worth_loaded g t k w m s false _ us (worth_simple _ (simple_integer v)) stand h =
    record { marks = _; is = typed_op _ _ _ w.line (leads_waiting (stacked m us) s (integer v) h (numeric_integer v) stand) }
worth_loaded g t k w m s false _ us (worth_simple _ simple_truth) stand h =
    record { marks = _; is = typed_op _ _ _ w.line (leads_waiting (stacked m us) s truth h numeric_truth stand) }
worth_loaded g t k w m s false _ us (worth_simple _ (simple_index c)) stand h =
    record { marks = _; is = typed_op _ _ _ w.line (leads_waiting (stacked m us) s index h numeric_index stand) }
worth_loaded g t k w m s false _ us (worth_simple _ (simple_space c)) stand h =
    does g t k _ (instr.Load s) w.line _ (does_load _ _ us h (worth_settled _ (worth_simple _ (simple_space c))) tt)
worth_loaded g t k w m s false _ us (worth_pointer c sp args rs few) stand h =
    does g t k _ (instr.Load s) w.line _ (does_load _ _ us h (worth_settled _ (worth_pointer c sp args rs few)) tt)

module _ (g : Program) (t : TaskCode) (k slots : ℕ) (have : HasSlots t slots) (forms : Forms) (way : Way) (w : Where) where
  abbrev GoesAt : Mark → List Shape → Piece → List Shape → Type 0
  GoesAt m us p vs = Marked g t k (stacked m us) p (stacked m vs)

  mutual
    pub expr_at : {deep : ℕ} (m : Mark) (asked : AskedAt g t k slots deep forms way w m) (d : ℕ) → deep ≤ d → (e : Expression) (us : List Shape) → IsTyped forms w e → Asks forms.keeps (is_whole_expression true w e) →
        Told way w.tree w.scope e → (pc : ℕ) → Stands t.body pc (expr_code w d e) → GoesAt m us (expr_code w d e) (shape_of (typed w e) ∷ us)
    expr_at m asked d within (number_expr z v) us fine whole told pc st = does g t k _ (instr.Num z) w.line _ (does_num z (integer v) us fine)
    expr_at m asked d within (truth_expr b) us fine whole told pc st = does g t k _ (instr.Num (kept_truth b)) w.line _ (does_num _ truth us (truth_is b))
    expr_at m asked d within (access_expr x no_step) us fine whole told pc st =
        let is = read_worth forms.keeps _ fine.1 whole in
        let h = named_at way w.params m.slots w.scope.names x asked.ready.named fine.0 ∙ ap (λ s. Some (slot_shape (is_still w.params (bound w x)) s)) (worth_named way w.params _ is) in
        both g t k (worth_loaded g t k w m (slot_named w x) (is_still w.params (bound w x)) (bound w x).static_type us is
        (steady_stand w.params (length w.scope.names) (loops_in way w.scope.names) _ m.facts asked.ready.facts) h) (nothing_done g t k _)
    expr_at m asked d within (access_expr x (at_step e (field_step f no_step))) us fine whole told pc st =
        let field = any_field forms.keeps w x f _ fine.3 in
        let number = counting forms.keeps _ fine.1 in
        let h = named_as way w.params m.slots w.scope.names x asked.ready.named field.named (region_plain way w.params _ field.region) in
        reads g t k way w m asked.known (bound w x).static_type (bound w x).place e f no_step _ d us _ field.region
        (region_named way w.params m (slot_named w x) (bound w x).static_type field.region h) number fine.2
        (touched g t k slots have forms way w m asked x f _ Read field (may_read w x e f number field.region t way asked.ground told))
        field.keeps (λ q s. expr_at m asked d within e us fine.0 whole (told_element w.tree w.scope way x e f told) q s) (nothing_done g t k _) pc st
    expr_at m asked d within (prefix_expr signs e) us fine whole told pc st =
        both g t k (expr_at m asked d within e us fine.0 whole (told_prefix w.tree w.scope way signs e told) pc st.0)
        (prefix_marked g t k slots have forms way w m asked (typed w e) signs us (signed_as forms.keeps _ signs fine.1))
    expr_at m asked d within (chain_expr first rest) us fine whole told pc st =
        let parts = told_chain w.tree w.scope way first rest told in
        both g t k (expr_at m asked d within first us fine.0 (asks_first _ _ _ whole) parts.0 pc st.0)
        (links_at m asked d within (typed w first) rest us fine.1 (asks_second _ _ _ whole) parts.1 _ st.1)
    expr_at m asked d within (call_expr task args) us fine whole told pc st =
        let u = task_named w.tree task in
        let place = place_of_task w.tree task in
        let types = param_types w.tree u in
        let same = asked.known.results place u fine.2.0 in
        let nr : Numeric (g.results place) = subst Numeric (sym same) (zero_numeric _ fine.1) in
        subst (λ y. GoesAt m us (expr_code w d (call_expr task args)) (y ∷ us)) same
        (both g t k (args_at m asked d within (params_at w.tree w.scope u args) types args us fine.3 whole (told_call w.tree w.scope way task args told) pc st.0)
        (both g t k (calls g t k slots forms way w m asked task (params_at w.tree w.scope u args) args us fine.2 fine.3 whole (told_called w.tree w.scope way task args told))
        (awaited_marked g t k slots have forms way w m asked (result w d) (g.results place) us nr (result_free w _ d within asked.ready.low) (omega arith) (stored g t k slots have forms way w m asked _ (result w d) st.1.1.0))))
    expr_at m asked d within (convert_expr c e) us fine whole told pc st =
        let number = counting forms.keeps _ fine.1 in
        both g t k (expr_at m asked d within e us fine.0 whole (told_convert w.tree w.scope way c e told) pc st.0)
        (both g t k (standing_counted g t k w m (typed w e) us number) (number_counted g t k w m c (typed w e) us number (converting forms.keeps c fine.2)))
    expr_at m asked d within (space_expr c e) us fine whole told pc st = both g t k (expr_at m asked d within e us fine.0 whole (told_space w.tree w.scope way c e told) pc st.0)
        (does g t k (stacked m (shape_of (typed w e) ∷ us)) instr.Space w.line (space ∷ us)
        (does_space _ us (scalar_numeric _ (integer_is_plain _ fine.1))))
    expr_at m asked d within (access_expr x (field_step f no_step)) us fine whole told pc st = ⊎_elim
        (λ a. behind_marked g t k slots forms way w m asked d x f no_step us _ fine.0 a.0 told (nothing_done g t k _)) (λ c.
        colours_marked g t k slots forms way w m asked d x f us (bound w x).static_type (bound w x).place c.partition
        (named_as way w.params m.slots w.scope.names x asked.ready.named c.named (partition_plain way w.params _ c.partition))) fine.1
    expr_at m asked d within (access_expr x (at_step e no_step)) us fine whole told pc st =
        let h = named_as way w.params m.slots w.scope.names x asked.ready.named fine.3 (region_plain way w.params _ fine.4) in
        element_at g t k slots forms way w m asked (bound w x).static_type (bound w x).place d e us fine.4
        (region_named way w.params m (slot_named w x) (bound w x).static_type fine.4 h) fine.2
        (λ q s. expr_at m asked d within e us fine.1 (asks_second _ _ _ whole) (told_at w.tree w.scope way x e told) q s) pc st
    expr_at m asked d within (is_null_expr e) us fine whole told pc st = both g t k (expr_at m asked d within e us fine.2 whole (told_is_null w.tree w.scope way e told) pc st.0)
        (null_asked g t k slots forms way w m asked (typed w e) us fine.1)
    expr_at m asked d within (null_expr p) us fine whole told pc st = null_marked g t k slots forms way w m asked (typed w (null_expr p)) us fine.1.0
    expr_at m asked d within (cast_expr p e) us fine whole told pc st =
        let v = typed w (cast_expr p e) in
        both g t k (expr_at m asked d within e us fine.3 (asks_second _ _ _ whole) (told_cast w.tree w.scope way p e told) pc st.0)
        (cast_marked g t k slots forms way w m asked (typed w e) v us fine.2 fine.1.0 fine.1.1 fine.4 (worth_few v (value_worth v (asks_first _ _ _ whole fine.0))))
    expr_at m asked d within (access_expr x (field_step f (field_step l rest))) us fine whole told pc st =
        behind_further g t k slots forms way w m asked fine.0 d x f (field_step l rest) us fine.1 fine.3 told
    expr_at m asked d within (access_expr x (at_step e (field_step f (field_step l rest)))) us fine whole told pc st =
        let field = any_field forms.keeps w x f _ fine.4 in
        let number = counting forms.keeps _ fine.2 in
        let h = named_as way w.params m.slots w.scope.names x asked.ready.named field.named (region_plain way w.params _ field.region) in
        let first = told_point w.tree w.scope way x e f (field_step l rest) told in
        reads g t k way w m asked.known (bound w x).static_type (bound w x).place e f (field_step l rest) _ d us _ field.region
        (region_named way w.params m (slot_named w x) (bound w x).static_type field.region h) number fine.3
        (touched g t k slots have forms way w m asked x f _ Read field (may_read w x e f number field.region t way asked.ground first))
        field.keeps (λ q s. expr_at m asked d within e us fine.1 whole (told_element w.tree w.scope way x e f first) q s)
        (point_further g t k slots forms way w m asked fine.0 (suc d) x e f (field_step l rest) us fine.6 told) pc st
    expr_at m asked d within (access_expr x (at_step e (at_step i no_step))) us fine whole told pc st =
        let hi = put_room g t k slots have forms way w m asked x d (bound w x).static_type e i no_step fine.1.0.partition pc st in
        put_away g t k slots have forms way w m asked x fine.0 fine.1.0 d within us _ _ hi
        (part_put g t k slots have forms way w m asked x fine.0 fine.1.0 d within us _ (bound w x).static_type e i no_step fine.1.0.partition fine.2.1
        (λ q s. expr_at m asked d within e us fine.2.0 (asks_first _ _ _ whole) (told_first w.tree w.scope way x e (at_step i no_step) told) q s)
        (λ q hi s. element_put g t k slots have forms way w m asked x fine.0 fine.1.0 d within us _ (type_of_element w.scope (bound w x).static_type e) i no_step hi
        fine.1.2 (part_space w x e fine.1) fine.3.1
        (λ q s. expr_at (put_mark g t k slots have forms way w m asked x fine.0 fine.1.0 d within)
        (asked_put g t k slots have forms way w m asked x fine.0 fine.1.0 d within hi) (suc d) (omega arith) i us fine.3.0 (asks_second _ _ _ whole)
        (told_second w.tree w.scope way x e i no_step told) q s) (nothing_done g t k _) q s) pc st)
    expr_at m asked d within (access_expr x (at_step e (at_step i (field_step f rest)))) us fine whole told pc st =
        let hi = put_room g t k slots have forms way w m asked x d (bound w x).static_type e i (field_step f rest) fine.1.0.partition pc st in
        put_away g t k slots have forms way w m asked x fine.0 fine.1.0 d within us _ _ hi
        (part_put g t k slots have forms way w m asked x fine.0 fine.1.0 d within us _ (bound w x).static_type e i (field_step f rest) fine.1.0.partition fine.2.1
        (λ q s. expr_at m asked d within e us fine.2.0 (asks_first _ _ _ whole) (told_first w.tree w.scope way x e (at_step i (field_step f rest)) told) q s)
        (λ q hi s. element_put g t k slots have forms way w m asked x fine.0 fine.1.0 d within us _ (type_of_element w.scope (bound w x).static_type e) i (field_step f rest) hi
        fine.1.2 (part_space w x e fine.1) fine.3.1
        (λ q s. expr_at (put_mark g t k slots have forms way w m asked x fine.0 fine.1.0 d within)
        (asked_put g t k slots have forms way w m asked x fine.0 fine.1.0 d within hi) (suc d) (omega arith) i us fine.3.0 (asks_second _ _ _ whole)
        (told_second w.tree w.scope way x e i (field_step f rest) told) q s)
        (put_fields g t k slots have forms way w m asked x fine.0 fine.1.0 d within us e i f rest hi fine.1 fine.4 fine.5 told) q s) pc st)
    expr_at m asked d within _ us fine whole told pc st = absurd fine

    pub links_at : {deep : ℕ} (m : Mark) (asked : AskedAt g t k slots deep forms way w m) (d : ℕ) → deep ≤ d → (u : StaticType) (ls : Links) (us : List Shape) → AreTypedLinks forms w u ls → Asks forms.keeps (are_whole_links true w ls) →
        ToldLinks way w.tree w.scope ls → (pc : ℕ) → Stands t.body pc (links_code w d u ls) →
        GoesAt m (shape_of u ∷ us) (links_code w d u ls) (shape_of (linked_type w.tree w.scope u ls) ∷ us)
    links_at m asked d within u no_link us fine whole told pc st = nothing_done g t k _
    links_at m asked d within u (a_link Or e rest) us fine whole told pc st =
        let parts = told_link w.tree w.scope way Or e rest told in
        subst (λ y. GoesAt m (y ∷ us) (links_code w d u (a_link Or e rest)) (shape_of (linked_type w.tree w.scope truth_type rest) ∷ us))
        (sym (truth_shape u fine.0))
        (both g t k (or_marked g t k slots have forms way w m asked us (expr_code w d e) (subst (λ y. GoesAt m us (expr_code w d e) (y ∷ us))
        (truth_shape _ fine.1) (expr_at m asked d within e us fine.2 (asks_first _ _ _ whole) parts.0 _ st.0.1)))
        (links_at m asked d within truth_type rest us fine.3 (asks_second _ _ _ whole) parts.1 _ st.1))
    links_at m asked d within u (a_link And e rest) us fine whole told pc st =
        let parts = told_link w.tree w.scope way And e rest told in
        subst (λ y. GoesAt m (y ∷ us) (links_code w d u (a_link And e rest)) (shape_of (linked_type w.tree w.scope truth_type rest) ∷ us))
        (sym (truth_shape u fine.0))
        (both g t k (and_marked g t k slots have forms way w m asked us (expr_code w d e) (subst (λ y. GoesAt m us (expr_code w d e) (y ∷ us))
        (truth_shape _ fine.1) (expr_at m asked d within e us fine.2 (asks_first _ _ _ whole) parts.0 _ st.0.1)))
        (links_at m asked d within truth_type rest us fine.3 (asks_second _ _ _ whole) parts.1 _ st.1))
    links_at m asked d within u (a_link (Compute c) e rest) us fine whole told pc st =
        let parts = told_link w.tree w.scope way (Compute c) e rest told in
        let one = counting forms.keeps u fine.0 in
        let two = counting forms.keeps (typed w e) fine.1 in
        both g t k (standing_counted g t k w m u us one)
        (both g t k (expr_at m asked d within e _ fine.2 (asks_first _ _ _ whole) parts.0 _ st.1.0)
        (both g t k (standing_counted g t k w m (typed w e) _ two)
        (both g t k (compute_counted g t k w m c u (typed w e) us one two)
        (links_at m asked d within _ rest us fine.3 (asks_second _ _ _ whole) parts.1 _ st.1.1.1.1))))
    links_at m asked d within u (a_link (Compare c) e rest) us fine whole told pc st =
        let parts = told_link w.tree w.scope way (Compare c) e rest told in
        let h = compares g t k w m c u (typed w e) (compared forms.keeps c u (typed w e) fine.0) in
        both g t k (h.first us)
        (both g t k (expr_at m asked d within e _ fine.1 (asks_first _ _ _ whole) parts.0 _ st.1.0)
        (both g t k (h.second _)
        (both g t k (h.compared us)
        (links_at m asked d within _ rest us fine.2 (asks_second _ _ _ whole) parts.1 _ st.1.1.1.1))))

    -- what stands for the colour of a part
    index_at : {deep : ℕ} (m : Mark) (asked : AskedAt g t k slots deep forms way w m) (d : ℕ) → deep ≤ d → (us : List Shape) (e : Expression) (n : Name) (i : Expression) → e ≡ access_expr n (at_step i no_step) → IsTyped forms w i →
        Asks forms.keeps (is_whole_expression true w i) → Told way w.tree w.scope i → (pc : ℕ) → Stands t.body pc (expr_code w d i) →
        GoesAt m us (expr_code w d i) (shape_of (typed w i) ∷ us)
    index_at m asked d within us (access_expr x (at_step j no_step)) n i same fine whole told pc st =
        subst (λ y. IsTyped forms w y → Asks forms.keeps (is_whole_expression true w y) → Told way w.tree w.scope y → (pc : ℕ) → Stands t.body pc (expr_code w d y) →
        GoesAt m us (expr_code w d y) (shape_of (typed w y) ∷ us)) (ap index_in same)
        (λ f h o q s. expr_at m asked d within j us f h o q s) fine whole told pc st
    index_at m asked d within us _ n i same fine whole told pc st = absurd (false≢true (ap takes_index same))

    -- arguments of parameters of these types
    pub args_at : {deep : ℕ} (m : Mark) (asked : AskedAt g t k slots deep forms way w m) (d : ℕ) → deep ≤ d → (ts ps : List StaticType) (es : Expressions) (us : List Shape) → ArePassed forms w ts ps es → Asks forms.keeps (are_whole_arguments true w ps es) →
        ToldArgs way w.tree w.scope es → (pc : ℕ) → Stands t.body pc (exprs_code w d ts es) → GoesAt m us (exprs_code w d ts es) (onto (all_handed way w ps es) us)
    args_at m asked d within [] [] no_expr us fine whole told pc st = nothing_done g t k _
    args_at m asked d within (u ∷ ts) (p ∷ ps) (an_expr e es) us fine whole told pc st =
        let parts = told_arg w.tree w.scope way e es told in
        given_whole forms.keeps forms.takes w u p e (IsTyped forms w e) (IsIndexed forms w e)
        (GoesAt m us (exprs_code w d (u ∷ ts) (an_expr e es)) (onto (all_handed way w (p ∷ ps) (an_expr e es)) us)) (asks_first _ _ _ whole)
        (λ enters is. both g t k (expr_at m asked d within e us is (whole_argument forms.keeps w p e (asks_first _ _ _ whole) enters.worth enters.other (part_untyped forms w e is)) parts.0 pc st.0)
        (both g t k (subst (λ y. GoesAt m (shape_of (typed w e) ∷ us) (converted_code w (typed w e) u) (y ∷ us))
        (enters.same ∙ sym (worth_handed way w p e enters.worth))
        (converted_marked g t k slots have forms way w m asked (typed w e) u us enters.goes enters.few))
        (args_at m asked d within ts ps es (handed way w p e ∷ us) fine.1 (asks_second _ _ _ whole) parts.1 _ st.1.1)))
        (λ y takes h. both g t k (handed_marked g t k slots forms way w m asked y takes d u p e us h)
        (both g t k (subst (λ q. GoesAt m (handed way w p e ∷ us) q (handed way w p e ∷ us)) (sym (handed_unconverted w y u p e h)) (nothing_done g t k _))
        (args_at m asked d within ts ps es (handed way w p e ∷ us) fine.1 (asks_second _ _ _ whole) parts.1 _ st.1.1)))
        (λ keeps a. both g t k (part_passed g t k slots have forms way w m asked d us p e (typed w e) a.name a.index a.is keeps a.cut a.regions (subst (IsIndexed forms w) a.is a.part).0
        (subst (IsIndexed forms w) a.is a.part).1
        (λ q s. index_at m asked d within us e a.name a.index a.is (subst (IsIndexed forms w) a.is a.part).0
        (λ b. index_whole w a.name a.index (subst (λ y. (takes_part true w y || is_whole_expression true w y) ≡ true) a.is
        (part_asked w e a.name a.index a.is (and_parts _ _ (regions_asked (typed w e) p _ a.regions (asks_first _ _ _ whole b))).1)))
        (told_at w.tree w.scope way a.name a.index (subst (Told way w.tree w.scope) a.is parts.0)) q s) pc st.0)
        (both g t k (subst (λ q. GoesAt m (handed way w p e ∷ us) q (handed way w p e ∷ us)) (sym (ap (converted_code w (typed w e)) a.same ∙ same_code w (typed w e) p a.regions)) (nothing_done g t k _))
        (args_at m asked d within ts ps es (handed way w p e ∷ us) fine.1 (asks_second _ _ _ whole) parts.1 _ st.1.1)))
        (λ keeps a. both g t k (cut_passed g t k slots have forms way w m asked d us p e a.name a.is keeps a.cut a.partition)
        (both g t k (subst (λ q. GoesAt m (handed way w p e ∷ us) q (handed way w p e ∷ us)) (sym (ap (converted_code w (typed w e)) a.same ∙ cut_unconverted w (typed w e) p a.partition))
        (nothing_done g t k _))
        (args_at m asked d within ts ps es (handed way w p e ∷ us) fine.1 (asks_second _ _ _ whole) parts.1 _ st.1.1))) fine.0
    args_at m asked d within [] [] (an_expr e es) us fine whole told pc st = absurd fine
    args_at m asked d within [] (p ∷ ps) es us fine whole told pc st = absurd fine
    args_at m asked d within (u ∷ ts) [] es us fine whole told pc st = absurd fine
    args_at m asked d within (u ∷ ts) (p ∷ ps) no_expr us fine whole told pc st = absurd fine

-- between two statements
module _ (g : Program) (t : TaskCode) (k slots : ℕ) (have : HasSlots t slots) (forms : Forms) (way : Way) (w : Where) (m : Mark)
    (asked : Asked g t k slots forms way w m) where
  pub expr_marked : (d : ℕ) (e : Expression) (us : List Shape) → IsTyped forms w e → Asks forms.keeps (is_whole_expression true w e) →
      Told way w.tree w.scope e → (pc : ℕ) → Stands t.body pc (expr_code w d e) → Marked g t k (stacked m us) (expr_code w d e) (stacked m (shape_of (typed w e) ∷ us))
  expr_marked d e us fine whole told pc st = expr_at g t k slots have forms way w m asked d (omega arith) e us fine whole told pc st

  pub args_marked : (d : ℕ) (ts ps : List StaticType) (es : Expressions) (us : List Shape) → ArePassed forms w ts ps es → Asks forms.keeps (are_whole_arguments true w ps es) →
      ToldArgs way w.tree w.scope es → (pc : ℕ) → Stands t.body pc (exprs_code w d ts es) →
      Marked g t k (stacked m us) (exprs_code w d ts es) (stacked m (onto (all_handed way w ps es) us))
  args_marked d ts ps es us fine whole told pc st = args_at g t k slots have forms way w m asked d (omega arith) ts ps es us fine whole told pc st

  -- a call, whose result may be pending on the stack
  pub call_left : (task : Name) (args : Expressions) (us : List Shape) → IsTyped forms w (call_expr task args) → Asks forms.keeps (is_whole_expression true w (call_expr task args)) →
      Told way w.tree w.scope (call_expr task args) → (pc : ℕ) → Stands t.body pc (exprs_code w 0 (params_at w.tree w.scope (task_named w.tree task) args) args) → (p : Piece) (n : Mark) →
      Marked g t k (stacked m (awaited (shape_of (typed w (call_expr task args))) ∷ us)) p n →
      Marked g t k (stacked m us) (exprs_code w 0 (params_at w.tree w.scope (task_named w.tree task) args) args
      ⨟ one w (instr.Call (place_of_task w.tree task) (count args)) ⨟ p) n
  call_left task args us fine whole told pc st p n f =
      let u = task_named w.tree task in
      let place = place_of_task w.tree task in
      let types = param_types w.tree u in
      let same = asked.known.results place u fine.2.0 in
      both g t k (args_at g t k slots have forms way w m asked 0 (omega arith) (params_at w.tree w.scope u args) types args us fine.3 whole (told_call w.tree w.scope way task args told) pc st)
      (both g t k (calls g t k slots forms way w m asked task (params_at w.tree w.scope u args) args us fine.2 fine.3 whole (told_called w.tree w.scope way task args told))
      (subst (λ y. Marked g t k (stacked m (awaited y ∷ us)) p n) (sym same) f))
