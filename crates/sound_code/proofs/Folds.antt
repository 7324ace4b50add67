-- The code that folds a number into a variable has marks.
use Rattle.std.proofs.Common.{◌≡◌, inl, ℕ, ◌<◌, [], ◌∷◌, false, true, Some, refl, sym, ap, ◌∙◌, subst, arith}
use Rattle.std.specs.Prelude.{slice_get, length}
use Rattle.std.proofs.lemmas.List.{length-set}
use Rattle.std.proofs.lemmas.Option.{same_Some}
use Rattle.lane_kernels.specs.declared.numbers.Width.{Width}
use Rattle.regent_tree.specs.declared.expression.Arithmetic.{Arithmetic}
use Rattle.regent_tree.specs.declared.expression.Comparison.{Comparison}
use Rattle.task_code.specs.declared.code.TaskCode.{TaskCode}
use Rattle.task_code.specs.declared.instr.Instr.TheVariants as instr
use Rattle.code_rules.specs.Instructions.{computing, comparing, one}
use Rattle.code_rules.specs.Pieces.{◌⨟◌, over}
use Rattle.code_rules.specs.Slots.{Where, spare}
use Rattle.fit_rules.specs.Shapes.{Shape, anything, integer, truth, Numeric, numeric_integer, numeric_truth}
use Rattle.fit_rules.specs.Marks.{Mark, stacked}
use Rattle.fit_rules.specs.Fits.{Program}
use Rattle.fit_rules.specs.Sound.{settled_number, does_load, does_compute, does_compare, does_wrap}
use Rattle.marked_code.specs.Marked.{typed_if}
use Rattle.fit_laws.proofs.Keeping.{get_other, get_set, set_mark}
use Rattle.std.proofs.Common.{◌||◌, nat_lt, Bool, true, false}
use Rattle.fit_rules.specs.Marks.{ColoursStand}
use Rattle.fit_rules.specs.Shapes.{Each}
use Rattle.std.proofs.Common.{List}
use Rattle.regent_tree.specs.declared.typing.StaticType.TheVariants.{Integer as integer_type}
use Rattle.sound_code.proofs.Expressions.{worth_loaded}
use Rattle.sound_code.proofs.Steady.{steady_stand}
use Rattle.sound_code.proofs.Wholes.{worth_simple}
use Rattle.sound_code.specs.Named.{loops_in}
use Rattle.code_laws.specs.Simple.{simple_integer}
use Rattle.sound_code.proofs.SlotShapes.{partition_plain, pointer_plain, region_plain, slot_bare, slot_is, slot_numbered, slot_plain}
use Rattle.sound_code.specs.Named.{name_shape, slot_shape}
use Rattle.sound_code.specs.Ways.{Way}
use Rattle.lane_kernels.specs.declared.numbers.Op.{Op}
use Rattle.lane_kernels.specs.declared.numbers.Op.TheVariants.{Greatest, Least, Product, Sum}
use Rattle.regent_tree.specs.Lookup.{is_bound}
use Rattle.regent_tree.specs.Syntax.{Name}
use Rattle.regent_tree.specs.Typing.{width_of_type}
use Rattle.regent_tree.specs.declared.expression.Arithmetic.TheVariants.{Add, Multiply}
use Rattle.regent_tree.specs.declared.expression.Comparison.TheVariants.{Greater, Less}
use Rattle.regent_tree.specs.declared.typing.StaticType.{StaticType}
use Rattle.machine_terms.specs.Jumps.{fetch}
use Rattle.code_rules.specs.Assignments.{fold_code}
use Rattle.code_rules.specs.Pieces.{line_of}
use Rattle.code_rules.specs.Slots.{bound, slot_named}
use Rattle.code_laws.specs.Simple.{an_integer, IsInteger}
use Rattle.code_laws.specs.Standing.{Stands}
use Rattle.code_laws.specs.Steps.{Forms}
use Rattle.sound_code.specs.Named.{HasSlots, Ready}
use Rattle.sound_code.specs.Ways.{shape_in}
use Rattle.sound_code.proofs.Asked.{Asked}
use Rattle.sound_code.proofs.Combining.{named_kept}
use Rattle.sound_code.proofs.Expressions.{stored}
use Rattle.sound_code.proofs.Placing.{named_at}
use Rattle.sound_code.proofs.Narrowing.{narrow_itself, narrow_set, narrow_into, same_facts}
use Rattle.sound_code.proofs.Combining.{bare_number, KeepsNumber, Marked, both, does, into, behind_kept, IsBare, bare_awaited, keeping_slot, slot_high, storing}
use Rattle.sound_code.proofs.Looping.{MayStore}

abbrev IsAny : Shape → Type 0
IsAny anything = Unit {0}
IsAny _ = ⊥

module _ (g : Program) (t : TaskCode) (k : ℕ) (way : Way) (w : Where) (m : Mark) (r : Ready way w.params w.scope.names m)
    (ep : w.params ≡ t.params) (s : ℕ) (c0 : Bool) (v : Width) (there : slice_get m.slots s ≡ Some (slot_shape c0 (integer v))) (hi : s < length m.slots)
    (kept : KeepsNumber m s) where
  abbrev V : Shape
  V = integer v

  no_any : (c : Bool) → IsAny (slot_shape c (integer v)) → ⊥
  no_any true h = h
  no_any false h = h

  bare_slot : (c : Bool) → IsBare (slot_shape c (integer v))
  bare_slot true = bare_number _ (numeric_integer v)
  bare_slot false = bare_awaited _ (numeric_integer v)

  -- the old value is loaded, and waited for where it may be pending
  int_loaded : (o : Mark) (us : List Shape) → slice_get o.slots s ≡ Some (slot_shape c0 (integer v)) → Each (ColoursStand o.slots) o.facts →
      Marked g t k (stacked o us) (one w (instr.Load s)) (stacked o (integer v ∷ us))
  int_loaded o us at stand = worth_loaded g t k w o s c0 (integer_type v) us (worth_simple _ (simple_integer v)) stand at

  wrap_marked : (a : Shape) → Numeric a → Marked g t k (stacked m (a ∷ [])) (one w (instr.Wrap v)) (stacked m (V ∷ []))
  wrap_marked a n = does g t k (stacked m (a ∷ [])) (instr.Wrap v) w.line (V ∷ []) (does_wrap v a [] n)

  -- with the old value, by a sum or a product
  pub computed_marked : (o : Arithmetic) (a : Shape) → Numeric a →
      Marked g t k (stacked m (a ∷ []))
      (one w (instr.Wrap v) ⨟ one w (instr.Load s) ⨟ one w (computing o v) ⨟ one w (instr.Store s)) (stacked m [])
  computed_marked o a n = both g t k (wrap_marked a n)
      (both g t k (int_loaded m (V ∷ []) there (steady_stand w.params (length w.scope.names) (loops_in way w.scope.names) _ m.facts r.facts))
      (both g t k (does g t k (stacked m (V ∷ V ∷ [])) (computing o v) w.line (V ∷ [])
      (does_compute o v V V [] (numeric_integer v) (numeric_integer v)))
      (keeping_slot g t k m s c0 V w.line kept (bare_number V (numeric_integer v)) (bare_slot c0) hi there)))

  -- the lesser or the greater of both, by a slot of its own
  module _ (low : spare w 0 < length m.slots) where
    abbrev u : ℕ
    u = spare w 0

    abbrev aside : Mark
    aside = set_mark m u V []

    other : u ≡ s → ⊥
    other e = no_any c0 (subst IsAny (same_Some anything (slot_shape c0 V) (sym (r.free u (omega arith) low) ∙ ap (slice_get m.slots) e ∙ there)) tt)

    kept_there : slice_get aside.slots s ≡ Some (slot_shape c0 V)
    kept_there = get_other m.slots u s V other ∙ there

    aside_there : slice_get aside.slots u ≡ Some V
    aside_there = get_set m.slots u V low

    pub chosen_marked : (c : Comparison) (a : Shape) → Numeric a →
        Marked g t k (stacked m (a ∷ []))
        (one w (instr.Wrap v) ⨟ one w (instr.Store u) ⨟ one w (instr.Load u) ⨟ one w (instr.Load s)
        ⨟ one w (comparing c false) ⨟ over instr.JumpIfNot w.line (one w (instr.Load u) ⨟ one w (instr.Store s)))
        (stacked m [])
    chosen_marked c a n =
        let settled = settled_number V (numeric_integer v) in
        let long : length aside.slots ≡ length m.slots = length-set m.slots u V in
        let taken = both g t k (does g t k (stacked aside []) (instr.Load u) w.line (V ∷ []) (does_load u V [] aside_there settled tt))
        (keeping_slot g t k aside s c0 V w.line kept (bare_number V (numeric_integer v)) (bare_slot c0) (omega (arith, hi, long)) kept_there) in
        into g t k (both g t k (wrap_marked a n)
        (both g t k (storing g t k m u V V [] w.line (behind_kept way w.params w.scope.names m u r (omega arith)) (omega (arith, slot_high w.params (length w.scope.names) r.low, ep)) (omega (arith, r.fixed)) tt low (λ x y h. h))
        (both g t k (does g t k (stacked aside []) (instr.Load u) w.line (V ∷ []) (does_load u V [] aside_there settled tt))
        (both g t k (int_loaded aside (V ∷ []) kept_there (steady_stand w.params (length w.scope.names) (loops_in way w.scope.names) _ m.facts r.facts))
        (both g t k (does g t k (stacked aside (V ∷ V ∷ [])) (comparing c false) w.line (truth ∷ [])
        (does_compare c V V [] (numeric_integer v) (numeric_integer v)))
        (record {
          marks = _;
          is = typed_if (stacked aside (truth ∷ [])) truth [] w.line _ _ refl numeric_truth taken.is;
        }))))))
        (narrow_into t.params aside m (narrow_set m.slots m.slots u V (narrow_itself m.slots) (inl (r.free u (omega arith) low))) (same_facts _ _ refl))
        (sym long)

-- ---- into a variable

module _ (g : Program) (t : TaskCode) (k slots : ℕ) (have : HasSlots t slots) (forms : Forms) (way : Way) where
  -- a slot from which something is loaded is there
  loaded : (pc s line : ℕ) → fetch t.body pc ≡ Some (line_of (instr.Load s) line) → s < slots
  loaded pc s line e = have pc _ e

  -- a number is folded into a variable of an integer type
  pub folded : (w : Where) (m : Mark) (x : Name) (o : Op) (s : Shape) (u : StaticType) → (bound w x).static_type ≡ u → Numeric s →
      IsInteger u → is_bound w.scope.names x ≡ true → MayStore way (bound w x) → Asked g t k slots forms way w m → (pc : ℕ) →
      Stands t.body pc (fold_code w (slot_named w x) o (width_of_type u)) →
      Marked g t k (stacked m (s ∷ [])) (fold_code w (slot_named w x) o (width_of_type u)) (stacked m [])
  folded w m x o s _ e ns (an_integer v) b free a pc st = by o pc st
    where
      c0 : Bool
      c0 = (bound w x).by_loop || nat_lt (bound w x).place w.params

      there : slice_get m.slots (slot_named w x) ≡ Some (slot_shape c0 (integer v))
      there = named_at way w.params m.slots w.scope.names x a.ready.named b ∙ ap (λ y. Some (slot_shape c0 (shape_in way w.params y))) e

      kept : KeepsNumber m (slot_named w x)
      kept = named_kept way w.params w.scope.names m x a.ready b free

      by : (o : Op) (pc : ℕ) → Stands t.body pc (fold_code w (slot_named w x) o v) →
          Marked g t k (stacked m (s ∷ [])) (fold_code w (slot_named w x) o v) (stacked m [])
      by Sum pc st = let l = loaded _ (slot_named w x) w.line st.1.0 in
          computed_marked g t k way w m a.ready a.params (slot_named w x) c0 v there (omega (arith, l, a.room)) kept Add s ns
      by Product pc st = let l = loaded _ (slot_named w x) w.line st.1.0 in
          computed_marked g t k way w m a.ready a.params (slot_named w x) c0 v there (omega (arith, l, a.room)) kept Multiply s ns
      by Least pc st = let l = loaded _ (slot_named w x) w.line st.1.1.1.0 in
          chosen_marked g t k way w m a.ready a.params (slot_named w x) c0 v there (omega (arith, l, a.room)) kept
          (stored g t k slots have forms way w m a _ (spare w 0) st.1.0) Less s ns
      by Greatest pc st = let l = loaded _ (slot_named w x) w.line st.1.1.1.0 in
          chosen_marked g t k way w m a.ready a.params (slot_named w x) c0 v there (omega (arith, l, a.room)) kept
          (stored g t k slots have forms way w m a _ (spare w 0) st.1.0) Greater s ns
