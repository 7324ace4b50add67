-- The code of statements without blocks has marks.
use Rattle.std.proofs.Common.{◌≡◌, inl, ℕ, suc, ◌<◌, ◌≤◌, List, [], ◌∷◌, pos, negsuc, cond, Bool, true, false, Some, refl, sym, ap, ◌∙◌, subst, arith}
use Rattle.std.specs.Prelude.{get_or, slice_get, slice_set, length}
use Rattle.std.proofs.lemmas.List.{length-map, length-set}
use Rattle.std.proofs.lemmas.Int.{ints}
use Rattle.std.proofs.lemmas.Option.{slice_get-get_or}
use Rattle.std.proofs.Math.ListN.{get_or-map}
use Rattle.lane_kernels.specs.declared.numbers.Width.TheVariants.{W32, W64}
use Rattle.regent_tree.specs.declared.statement.How.TheVariants as how
use Rattle.regent_tree.specs.declared.typing.Bound.{Bound}
use Rattle.regent_tree.specs.declared.typing.StaticType.{StaticType}
use Rattle.regent_tree.specs.declared.typing.StaticType.TheVariants.{Integer as integer_type, Truth as truth_type}
use Rattle.regent_tree.specs.Lookup.{is_bound}
use Rattle.regent_tree.specs.StaticTypes.{space_at, spaces_of, task_named}
use Rattle.regent_tree.specs.Syntax.{Name, Tree, Expression, Expressions, number_expr, truth_expr, chain_expr, prefix_expr, access_expr, call_expr, convert_expr, is_null_expr, null_expr, cast_expr, space_expr, no_step, field_step, at_step, assert_form, assign_form, call_form, return_form}
use Rattle.regent_tree.specs.Typing.{owned, param_types, params_at, reaches_of}
use Rattle.task_code.specs.declared.code.SpaceCode.{SpaceCode}
use Rattle.task_code.specs.declared.code.TaskCode.{TaskCode}
use Rattle.task_code.specs.declared.instr.Instr.TheVariants as instr
use Rattle.machine_terms.specs.Contents.{no_space}
use Rattle.code_rules.specs.Expressions.{expr_code}
use Rattle.code_rules.specs.Initializers.{beside_code, names_child, new_place, plain_code, zero_kept}
use Rattle.code_rules.specs.Instructions.{one}
use Rattle.code_rules.specs.Pieces.{Piece, empty, op, ◌⨟◌, branch, loop}
use Rattle.code_rules.specs.Programs.{code_of, space_code}
use Rattle.code_rules.specs.Slots.{beside, Where, typed, bound, slot_named}
use Rattle.code_rules.specs.Statements.{form_code}
use Rattle.code_laws.specs.Pointers.{a_pointer_type, BeginsItself, GivesBack, HasZero, IsPointer, itself_null, itself_plain, zero_index, zero_scalar}
use Rattle.code_laws.specs.Simple.{IsTruth, scalar_integer, scalar_truth, simple_integer, simple_truth, simple_space, simple_index, IsSpace, a_space_type}
use Rattle.code_laws.specs.Standing.{Stands}
use Rattle.code_laws.specs.Steps.{Forms}
use Rattle.code_laws.specs.Typed.{ArePassed, IsCallable, IsMakable, IsTyped}
use Rattle.fit_rules.specs.Shapes.{Each, Shape, index, integer, truth, space, region, own_as, NumberIs, Is, World, numeric_index, numeric_integer, numeric_pointer, numeric_truth, pointer}
use Rattle.fit_rules.specs.Marks.{Mark, stacked}
use Rattle.fit_rules.specs.Fits.{Program}
use Rattle.fit_rules.specs.Sound.{IsOther, does_num, does_assert, does_drop}
use Rattle.marked_code.specs.Marked.{leads_back, leads_making, typed_op, typed_branch, typed_loop}
use Rattle.fit_laws.proofs.Keeping.{get_other, get_set, set_mark}
use Rattle.std.proofs.Common.{nat_lt, Bool, true, false}
use Rattle.code_rules.proofs.KeptCalls.{assigned_either}
use Rattle.code_rules.specs.Assignments.{right_code, target_code}
use Rattle.code_rules.specs.Statements.{put_call}
use Rattle.sound_code.proofs.Expressions.{stored}
use Rattle.sound_code.proofs.Expressions.{call_left}
use Rattle.sound_code.specs.Named.{is_still}
use Rattle.regent_tree.specs.Syntax.{call_expr}
use Rattle.sound_code.proofs.SlotShapes.{partition_plain, pointer_plain, region_plain, slot_bare, slot_is, slot_numbered, slot_plain}
use Rattle.sound_code.specs.Named.{name_shape, slot_shape}
use Rattle.sound_code.proofs.Plain.{plain_in}
use Rattle.sound_code.proofs.Counting.{null_fits}
use Rattle.sound_code.specs.Places.{AreMore}
use Rattle.sound_code.specs.Named.{slot_at, HasSlots, IsNumbered, Ready, Narrower, loops_in}
use Rattle.sound_code.proofs.WholeTasks.{are_whole_arguments, is_whole_expression}
use Rattle.sound_code.specs.Ways.{Way, shape_in, shape_of}
use Rattle.sound_code.proofs.Wholes.{Asks, Becomes, becomes_plain, IsKept, IsWorth, kept_pointer, kept_simple, simple_few, worth_few, worth_named, worth_pointer, worth_simple}
use Rattle.sound_code.proofs.Steady.{steady_below}
use Rattle.sound_code.proofs.Told.{Told, ToldArgs, ToldCall}
use Rattle.sound_code.proofs.Asked.{Asked}
use Rattle.sound_code.proofs.Cuts.{Cut}
use Rattle.sound_code.proofs.Scoped.{Scoped}
use Rattle.sound_code.proofs.Numbering.{each_numbered, numbered_set}
use Rattle.machine_terms.specs.declared.value.Value.{Value}
use Rattle.sound_code.proofs.Calling.{zero_numeric}
use Rattle.code_laws.proofs.Wider.{zero_simple}
use Rattle.sound_code.proofs.Handing.{calls}
use Rattle.sound_code.proofs.Combining.{bare_number, bare_space, IsBare, Marked, nothing_done, both, does, into, behind_kept, fixed_to, fixing, named_kept, bare_awaited, keeping_call, keeping_slot, slot_high, slot_next, storing}
use Rattle.sound_code.proofs.Expressions.{args_marked, converted_marked, expr_marked, named_at, truth_shape}
use Rattle.sound_code.proofs.Besides.{NamesNoChild, none_beside, parts_behind}
use Rattle.sound_code.proofs.Narrowing.{AtLeast, fewer_facts, narrow_long, narrow_itself, narrow_set, narrow_into, named_behind}
use Rattle.sound_code.proofs.Looping.{loop_more, MayStore}

kept_bare : (u : StaticType) → IsWorth u → IsBare (shape_of u)
kept_bare _ (worth_simple _ (simple_integer v)) = bare_number _ (numeric_integer v)
kept_bare _ (worth_simple _ simple_truth) = bare_number _ numeric_truth
kept_bare _ (worth_simple _ (simple_space c)) = bare_space
kept_bare _ (worth_simple _ (simple_index c)) = bare_number _ numeric_index
kept_bare _ (worth_pointer k sp args rs few) = bare_number _ (numeric_pointer _)

slot_kept : (c : Bool) (u : StaticType) → IsWorth u → IsBare (slot_shape c (shape_of u))
slot_kept true u is = kept_bare u is
slot_kept false _ (worth_simple _ (simple_integer v)) = bare_awaited _ (numeric_integer v)
slot_kept false _ (worth_simple _ simple_truth) = bare_awaited _ numeric_truth
slot_kept false _ (worth_simple _ (simple_space c)) = bare_space
slot_kept false _ (worth_simple _ (simple_index c)) = bare_awaited _ numeric_index
slot_kept false _ (worth_pointer k sp args rs few) = bare_number _ (numeric_pointer _)

-- ---- marks between statements

-- one more name
pub named_more : (way : Way) (params : ℕ) (bs : List Bound) (m : Mark) (b : Bound) → Ready way params bs m →
    slot_at params (length bs) < length m.slots → b.place ≡ length bs → IsNumbered (b ∷ bs) (name_shape way params b) →
    NamesNoChild b.static_type →
    Ready way params (b ∷ bs) (fixed_to (slot_at params (suc (length bs))) (set_mark m (slot_at params (length bs)) (name_shape way params b) []))
named_more way params bs m b r hi e numbered none = record {
  named = (
    e,
    ap (λ y. slice_get (slice_set m.slots (slot_at params (length bs)) (name_shape way params b)) (slot_at params y)) e
        ∙ get_set m.slots _ _ hi,
    named_behind way params m.slots bs _ _ r.named (omega arith),
  );
  beside = (
    none_beside way params _ bs b.place b.static_type none,
    parts_behind way params m.slots bs _ _ r.named r.beside (omega arith),
  );
  free = λ j l h.
      let next = slot_next params (length bs) r.low in
      get_other m.slots _ j _ (λ q. omega (arith, q, l, next))
      ∙ r.free j (omega (arith, l, next)) (omega (arith, h, length-set m.slots (slot_at params (length bs)) (name_shape way params b)));
  numbered = numbered_set (b ∷ bs) m.slots (slot_at params (length bs)) (name_shape way params b) (each_numbered bs b m.slots r.numbered) numbered;
  facts = steady_below params (length bs) (suc (length bs)) (loops_in way bs) (loops_in way (b ∷ bs)) m.facts (omega arith) (loop_more way b bs) r.facts;
  low = omega (arith, r.low);
  fixed = refl;
}

module _ (g : Program) (t : TaskCode) (k : ℕ) (keeps : Bool) (way : Way) (tree : Tree) where
  -- what stands behind a statement
  pub record Followed (params : ℕ) (bs : List Bound) (m : Mark) (p : Piece) : Type 0 where
    pub next : Mark
    pub is : Marked g t k (stacked m []) p (stacked next [])
    pub ready : Ready way params bs next
    pub narrower : Narrower next.slots m.slots
    pub facts : AtLeast m.facts next.facts
    pub new : AreMore params m.facts next.facts
    pub scoped : Scoped keeps way bs
    pub cut : Cut keeps way tree params next.facts bs

  -- a statement after which all is as before
  pub unchanged : (params : ℕ) (bs : List Bound) (m : Mark) (p : Piece) → Ready way params bs m → Scoped keeps way bs →
      Cut keeps way tree params m.facts bs → Marked g t k (stacked m []) p (stacked m []) → Followed params bs m p
  unchanged params bs m p r o c f = record { next = m; is = f; ready = r; narrower = narrow_itself m.slots; facts = λ l a. a; new = λ l a. inl a; scoped = o; cut = c }

  -- a block that begins and ends in the same scope
  pub closed_block : (params : ℕ) (bs : List Bound) (m : Mark) (p : Piece) → Followed params bs m p →
      Marked g t k (stacked m []) p (stacked m [])
  closed_block params bs m p f = into g t k f.is (narrow_into t.params f.next m f.narrower (fewer_facts _ _ f.facts))
      (sym (narrow_long _ _ f.narrower))

module _ (g : Program) (t : TaskCode) (k slots : ℕ) (have : HasSlots t slots) (forms : Forms) (way : Way) (w : Where) (m : Mark)
    (asked : Asked g t k slots forms way w m) where
  -- a name that is bound next
  abbrev pub new_name : Name → StaticType → Bound
  new_name n u = record {
    name = n;
    number = w.scope.next;
    place = length w.scope.names;
    static_type = u;
    by_loop = false;
  }

  beside_marked : (u : StaticType) (e : Expression) (n : Mark) → IsKept u → names_child (reaches_of u) ≡ false → Marked g t k n (beside_code w u e) n
  beside_marked _ (access_expr x no_step) n (kept_simple _ (simple_integer v)) none = nothing_done g t k n
  beside_marked _ (access_expr x no_step) n (kept_simple _ simple_truth) none = nothing_done g t k n
  beside_marked _ (access_expr x no_step) n (kept_simple _ (simple_space c)) none = nothing_done g t k n
  beside_marked _ (access_expr x no_step) n (kept_simple _ (simple_index c)) none = nothing_done g t k n
  beside_marked _ (access_expr x no_step) n (kept_pointer _ (a_pointer_type c sp args rs names)) none =
      subst (λ b. Marked g t k n (cond b (one w (instr.Load (beside w (bound w x).place)) ⨟ one w (instr.Store (beside w (new_place w)))) empty) n)
      (sym none) (nothing_done g t k n)
  beside_marked _ (access_expr x (field_step _ _)) n p none = nothing_done g t k n
  beside_marked _ (access_expr x (at_step _ _)) n p none = nothing_done g t k n
  beside_marked _ (number_expr _ _) n p none = nothing_done g t k n
  beside_marked _ (truth_expr _) n p none = nothing_done g t k n
  beside_marked _ (chain_expr _ _) n p none = nothing_done g t k n
  beside_marked _ (prefix_expr _ _) n p none = nothing_done g t k n
  beside_marked _ (call_expr _ _) n p none = nothing_done g t k n
  beside_marked _ (convert_expr _ _) n p none = nothing_done g t k n
  beside_marked _ (is_null_expr _) n p none = nothing_done g t k n
  beside_marked _ (null_expr _) n p none = nothing_done g t k n
  beside_marked _ (cast_expr _ _) n p none = nothing_done g t k n
  beside_marked _ (space_expr _ _) n p none = nothing_done g t k n

  pub plain_marked : (u : StaticType) (e : Expression) (i : ℕ) (n o : Mark) → IsKept u → names_child (reaches_of u) ≡ false →
      Marked g t k n (expr_code w 0 e) o → Marked g t k n (plain_code w (owned i u) e) o
  plain_marked _ e i n o (kept_simple _ (simple_integer v)) none f = both g t k f (beside_marked (integer_type v) e o (kept_simple _ (simple_integer v)) none)
  plain_marked _ e i n o (kept_simple _ simple_truth) none f = both g t k f (beside_marked truth_type e o (kept_simple _ simple_truth) none)
  plain_marked _ e i n o (kept_simple _ (simple_space c)) none f = both g t k f (beside_marked _ e o (kept_simple _ (simple_space c)) none)
  plain_marked _ e i n o (kept_simple _ (simple_index c)) none f = both g t k f (beside_marked _ e o (kept_simple _ (simple_index c)) none)
  plain_marked _ e i n o (kept_pointer _ (a_pointer_type c sp args rs names)) none f =
      both g t k f (beside_marked _ e o (kept_pointer _ (a_pointer_type c sp args rs names)) none)

  pub value_marked : (e : Expression) (us : List Shape) → IsTyped forms w e → Asks forms.keeps (is_whole_expression true w e) → Told way w.tree w.scope e → (pc : ℕ) → Stands t.body pc (expr_code w 0 e) →
      Marked g t k (stacked m us) (expr_code w 0 e) (stacked m (shape_of (typed w e) ∷ us))
  value_marked e us f whole told pc st = expr_marked g t k slots have forms way w m asked 0 e us f whole told pc st

  pub test_marked : (e : Expression) (us : List Shape) → IsTruth (typed w e) → IsTyped forms w e → Asks forms.keeps (is_whole_expression true w e) → Told way w.tree w.scope e → (pc : ℕ) →
      Stands t.body pc (expr_code w 0 e) → Marked g t k (stacked m us) (expr_code w 0 e) (stacked m (truth ∷ us))
  test_marked e us h f simple told pc st = subst (λ y. Marked g t k (stacked m us) (expr_code w 0 e) (stacked m (y ∷ us)))
      (truth_shape _ h) (value_marked e us f simple told pc st)

  -- a value of a type is stored as that of a new name of an alike type
  pub bind_by : (n : Name) (a : Shape) (u : StaticType) (q : Piece) → ((x : World) (v : Value) → Is x a v → Is x (name_shape way w.params (new_name n u)) v) →
      IsNumbered (new_name n u ∷ w.scope.names) (shape_in way w.params u) → Scoped forms.keeps way (new_name n u ∷ w.scope.names) →
      Cut forms.keeps way w.tree w.params m.facts (new_name n u ∷ w.scope.names) → NamesNoChild u →
      ((o : Mark) → Marked g t k (stacked m (a ∷ [])) (op (instr.Store (slot_at w.params (length w.scope.names))) w.line) o → Marked g t k (stacked m []) q o) → slot_at w.params (length w.scope.names) < length m.slots →
      Followed g t k forms.keeps way w.tree w.params (new_name n u ∷ w.scope.names) m
      q
  bind_by n a u q becomes numbered scoped cut none f hi =
      let r = asked.ready in
      let s = slot_at w.params (length w.scope.names) in
      record {
        next = fixed_to (slot_at w.params (suc (length w.scope.names))) (set_mark m s (name_shape way w.params (new_name n u)) []);
        is = fixing g t k _ (set_mark m s (name_shape way w.params (new_name n u)) []) _ _ (f _ (storing g t k m s a (name_shape way w.params (new_name n u)) [] w.line (behind_kept way w.params w.scope.names m s r (omega arith))
            (omega (arith, slot_high w.params (length w.scope.names) r.low, asked.params)) (omega (arith, r.fixed)) (slot_bare (nat_lt (length w.scope.names) w.params) (shape_in way w.params u) (plain_in way w.params u)) hi
            becomes));
        ready = named_more way w.params w.scope.names m (new_name n u) r hi refl (slot_numbered (new_name n u ∷ w.scope.names) (nat_lt (length w.scope.names) w.params) (shape_in way w.params u) numbered) none;
        narrower = narrow_set m.slots m.slots s _ (narrow_itself m.slots) (inl (r.free s (omega arith) hi));
        facts = λ l a. a;
        new = λ l a. inl a;
        scoped = scoped;
        cut = cut;
      }

  pub bind_as : (n : Name) (a : Shape) (u : StaticType) (p : Piece) → ((x : World) (v : Value) → Is x a v → Is x (name_shape way w.params (new_name n u)) v) →
      IsNumbered (new_name n u ∷ w.scope.names) (shape_in way w.params u) → Scoped forms.keeps way (new_name n u ∷ w.scope.names) →
      Cut forms.keeps way w.tree w.params m.facts (new_name n u ∷ w.scope.names) → NamesNoChild u →
      Marked g t k (stacked m []) p (stacked m (a ∷ [])) → slot_at w.params (length w.scope.names) < length m.slots →
      Followed g t k forms.keeps way w.tree w.params (new_name n u ∷ w.scope.names) m
      (p ⨟ op (instr.Store (slot_at w.params (length w.scope.names))) w.line)
  bind_as n a u p becomes numbered scoped cut none f hi =
      bind_by n a u (p ⨟ op (instr.Store (slot_at w.params (length w.scope.names))) w.line) becomes numbered scoped cut none (λ o h. both g t k f h) hi

  pub bind_marked : (n : Name) (a : Shape) (u : StaticType) (p : Piece) → ((x : World) (v : Value) → Is x a v → Is x (shape_in way w.params u) v) →
      IsNumbered (new_name n u ∷ w.scope.names) (shape_in way w.params u) → Scoped forms.keeps way (new_name n u ∷ w.scope.names) →
      Cut forms.keeps way w.tree w.params m.facts (new_name n u ∷ w.scope.names) → NamesNoChild u →
      Marked g t k (stacked m []) p (stacked m (a ∷ [])) → slot_at w.params (length w.scope.names) < length m.slots →
      Followed g t k forms.keeps way w.tree w.params (new_name n u ∷ w.scope.names) m
      (p ⨟ op (instr.Store (slot_at w.params (length w.scope.names))) w.line)
  bind_marked n a u p becomes = bind_as n a u p (λ x v h. slot_is x (nat_lt (length w.scope.names) w.params) (shape_in way w.params u) v (becomes x v h))

  pub zero_marked : (u : StaticType) → HasZero u →
      Marked g t k (stacked m []) (one w (instr.Num (zero_kept u))) (stacked m (shape_of u ∷ []))
  zero_marked _ (zero_scalar _ (scalar_integer W32)) = does g t k _ (instr.Num (pos 0)) w.line _ (does_num (pos 0) (integer W32) [] (omega (arith, ints)))
  zero_marked _ (zero_scalar _ (scalar_integer W64)) = does g t k _ (instr.Num (pos 0)) w.line _ (does_num (pos 0) (integer W64) [] (omega (arith, ints)))
  zero_marked _ (zero_scalar _ scalar_truth) = does g t k _ (instr.Num (pos 0)) w.line _ (does_num (pos 0) truth [] (inl refl))
  zero_marked _ (zero_index c) = does g t k _ (instr.Num (pos 0)) w.line _ (does_num (pos 0) index [] (omega (arith, ints)))

  pub begin_marked : (u : StaticType) → BeginsItself w.scope.names u → Marked g t k (stacked m []) (one w (instr.Num (zero_kept u))) (stacked m (shape_of u ∷ []))
  begin_marked u (itself_plain _ z) = zero_marked u z
  begin_marked u (itself_null _ p) = of_pointer u p.0
    where
      of_pointer : (u : StaticType) → IsPointer u → Marked g t k (stacked m []) (one w (instr.Num (zero_kept u))) (stacked m (shape_of u ∷ []))
      of_pointer _ (a_pointer_type c sp args rs names) =
          does g t k _ (instr.Num (negsuc 0)) w.line _ (does_num (negsuc 0) (pointer (length rs)) [] (null_fits (length rs)))

  pub space_marked : (e : Expression) → IsSpace (typed w e) → IsTyped forms w e → Asks forms.keeps (is_whole_expression true w e) → Told way w.tree w.scope e → (pc : ℕ) →
      Stands t.body pc (expr_code w 0 e) → Marked g t k (stacked m []) (expr_code w 0 e) (stacked m (space ∷ []))
  space_marked e is f whole told pc st = subst (λ y. Marked g t k (stacked m []) (expr_code w 0 e) (stacked m (y ∷ []))) (space_shape (typed w e) is)
      (value_marked e [] f whole told pc st)
    where
      space_shape : (u : StaticType) → IsSpace u → shape_of u ≡ space
      space_shape _ (a_space_type c) = refl

  -- a root is made, whose field space is there
  pub root_marked : (e : Expression) (sp i : ℕ) → Each (IsOther i) m.slots → IsSpace (typed w e) → IsTyped forms w e → Asks forms.keeps (is_whole_expression true w e) → Told way w.tree w.scope e → IsMakable w.tree sp → (pc : ℕ) →
      Stands t.body pc (expr_code w 0 e) →
      Marked g t k (stacked m []) (expr_code w 0 e ⨟ one w (instr.NewRoot sp)) (stacked m (region (Some sp) (own_as i) ∷ []))
  root_marked e sp i others is f whole told can pc st =
      both g t k (space_marked e is f whole told pc st) (record {
        marks = _;
        is = typed_op _ _ _ w.line (leads_making (stacked m (space ∷ [])) sp i c [] refl there few others tt);
      })
    where
      c : SpaceCode
      c = get_or (code_of w.tree).spaces sp no_space

      there : slice_get g.code.spaces sp ≡ Some c
      there = ap (λ y. slice_get y.spaces sp) asked.known.code
          ∙ slice_get-get_or (code_of w.tree).spaces sp no_space (subst (λ n. sp < n) (sym (length-map (spaces_of w.tree) space_code)) can.there)

      few : length c.fields ≤ 256
      few = subst (λ n. n ≤ 256) (sym (ap (λ y. length y.fields) (get_or-map space_code (spaces_of w.tree) sp _)
          ∙ length-map (space_at w.tree sp).fields _)) can.few

  -- where what the rules tell of a call is told
  pub assign_marked : (x : Name) (e : Expression) → Becomes (typed w e) (bound w x).static_type → IsWorth (bound w x).static_type → IsTyped forms w e →
      Asks forms.keeps (is_whole_expression true w e) → Told way w.tree w.scope e → is_bound w.scope.names x ≡ true → MayStore way (bound w x) → (pc : ℕ) →
      Stands t.body pc (form_code w (assign_form x no_step how.Set e)) → Followed g t k forms.keeps way w.tree w.params w.scope.names m (form_code w (assign_form x no_step how.Set e))
  assign_marked x e goes is f whole told b free pc =
      let r = asked.ready in
      let h = named_at way w.params m.slots w.scope.names x r.named b ∙ ap (λ s. Some (slot_shape (is_still w.params (bound w x)) s)) (worth_named way w.params _ is) in
      assigned_either (λ p. Stands t.body pc p → Followed g t k forms.keeps way w.tree w.params w.scope.names m p) w (slot_named w x)
      (right_code w x no_step how.Set e ⨟ target_code w x no_step how.Set)
      (λ st. unchanged g t k forms.keeps way w.tree _ _ m _ r asked.scoped asked.cut (both g t k (both g t k (value_marked e [] f whole told pc st.0.0)
      (converted_marked g t k slots have forms way w m asked _ _ [] goes (worth_few _ is)))
      (keeping_slot g t k m (slot_named w x) (is_still w.params (bound w x)) (shape_of (bound w x).static_type) w.line
      (named_kept way w.params w.scope.names m x r b free) (kept_bare _ is) (slot_kept _ _ is) (stored g t k slots have forms way w m asked _ (slot_named w x) st.1) h))) x no_step how.Set e
      (λ task args same keeps still. subst (λ e. IsTyped forms w e → Asks forms.keeps (is_whole_expression true w e) → Told way w.tree w.scope e →
      Stands t.body pc (put_call w (slot_named w x) task args) → Followed g t k forms.keeps way w.tree w.params w.scope.names m (put_call w (slot_named w x) task args)) (sym same)
      (λ f whole told st. unchanged g t k forms.keeps way w.tree _ _ m _ r asked.scoped asked.cut
      (call_left g t k slots have forms way w m asked task args [] f whole told pc st.0 _ _
      (keeping_call g t k m (slot_named w x) (typed w (call_expr task args)) (bound w x).static_type w.line keeps
      (named_kept way w.params w.scope.names m x r b free) (stored g t k slots have forms way w m asked _ (slot_named w x) st.1.1)
      (h ∙ ap (λ c. Some (slot_shape c (shape_of (bound w x).static_type))) still)))) f whole told)

  pub return_marked : (e : Expression) → GivesBack (typed w e) w.result → IsTyped forms w e → Asks forms.keeps (is_whole_expression true w e) → Told way w.tree w.scope e → (pc : ℕ) → Stands t.body pc (expr_code w 0 e) →
      Followed g t k forms.keeps way w.tree w.params w.scope.names m (form_code w (return_form (Some e)))
  return_marked e gives f simple told pc st = unchanged g t k forms.keeps way w.tree _ _ m _ asked.ready asked.scoped asked.cut (both g t k (value_marked e [] f simple told pc st)
      (both g t k (converted_marked g t k slots have forms way w m asked _ _ [] (becomes_plain _ _ gives.0) (simple_few _ (zero_simple _ gives.1))) (record {
        marks = _;
        is = typed_op _ _ _ w.line (leads_back (stacked m (shape_of w.result ∷ [])) (stacked m []) (shape_of w.result) []
            refl (zero_numeric _ gives.1) (λ z h. subst (λ y. NumberIs y z) (sym asked.result) h) refl);
      })))

  pub assert_marked : (e : Expression) → IsTruth (typed w e) → IsTyped forms w e → Asks forms.keeps (is_whole_expression true w e) → Told way w.tree w.scope e → (pc : ℕ) → Stands t.body pc (expr_code w 0 e) →
      Followed g t k forms.keeps way w.tree w.params w.scope.names m (form_code w (assert_form e))
  assert_marked e h f simple told pc st = unchanged g t k forms.keeps way w.tree _ _ m _ asked.ready asked.scoped asked.cut (both g t k (test_marked e [] h f simple told pc st)
      (does g t k (stacked m (truth ∷ [])) instr.Assert w.line [] (does_assert truth [] numeric_truth)))

  -- a call whose result is left
  pub call_marked : (task : Name) (args : Expressions) → IsCallable forms w task args →
      ArePassed forms w (params_at w.tree w.scope (task_named w.tree task) args) (param_types w.tree (task_named w.tree task)) args →
      Asks forms.keeps (are_whole_arguments true w (param_types w.tree (task_named w.tree task)) args) → ToldCall way w.tree w.scope task args → ToldArgs way w.tree w.scope args →
      (pc : ℕ) → Stands t.body pc (form_code w (call_form task args)) →
      Followed g t k forms.keeps way w.tree w.params w.scope.names m (form_code w (call_form task args))
  call_marked task args is passed simple called told pc st =
      let u = task_named w.tree task in
      let ts = params_at w.tree w.scope u args in
      unchanged g t k forms.keeps way w.tree _ _ m _ asked.ready asked.scoped asked.cut
      (both g t k (args_marked g t k slots have forms way w m asked 0 ts (param_types w.tree u) args [] passed simple told pc st.0)
      (both g t k (calls g t k slots forms way w m asked task ts args [] is passed simple called)
      (does g t k _ instr.Drop w.line [] (does_drop _ []))))

  pub while_marked : (test : Expression) (p : Piece) → IsTruth (typed w test) → IsTyped forms w test → Asks forms.keeps (is_whole_expression true w test) → Told way w.tree w.scope test → (pc : ℕ) →
      Stands t.body pc (expr_code w 0 test) → Marked g t k (stacked m []) p (stacked m []) →
      Marked g t k (stacked m []) (loop w.line (expr_code w 0 test) p) (stacked m [])
  while_marked test p h f simple told pc st body =
      let q = test_marked test [] h f simple told pc st in
      record {
        marks = _;
        is = typed_loop (stacked m []) (stacked m (truth ∷ [])) truth w.line _ _ _ _ body.is q.is refl numeric_truth
            (λ x vs st y. y);
      }

  pub branch_marked : (line : ℕ) (test : Expression) (p q : Piece) → IsTruth (typed w test) → IsTyped forms w test → Asks forms.keeps (is_whole_expression true w test) → Told way w.tree w.scope test → (pc : ℕ) →
      Stands t.body pc (expr_code w 0 test) →
      Marked g t k (stacked m []) p (stacked m []) → Marked g t k (stacked m []) q (stacked m []) →
      Marked g t k (stacked m []) (expr_code w 0 test ⨟ branch line p q) (stacked m [])
  branch_marked line test p q h f simple told pc st one two = both g t k (test_marked test [] h f simple told pc st) (record {
    marks = _;
    is = typed_branch (stacked m (truth ∷ [])) (stacked m []) truth [] line _ _ _ _ refl numeric_truth one.is two.is;
  })
