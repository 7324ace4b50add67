-- Pieces that have marks, put together: one behind the other, and with a value that is stored.
use Rattle.std.proofs.Common.{◌≡◌, ℕ, suc, ◌<◌, ◌≤◌, ◌+◌, List, [], ◌∷◌, Bool, true, false, Some, None, refl, sym, ap, ◌∙◌, subst, arith}
use Rattle.std.specs.Prelude.{slice_get, slice_set, length, ◌==◌}
use Rattle.std.proofs.lemmas.Bool.{eqb-true, eqb-false}
use Rattle.std.proofs.lemmas.List.{length-set}
use Rattle.regent_tree.specs.declared.typing.Bound.{Bound}
use Rattle.task_code.specs.declared.code.TaskCode.{TaskCode}
use Rattle.task_code.specs.declared.instr.Instr.{Instr}
use Rattle.task_code.specs.declared.instr.Instr.TheVariants as instr
use Rattle.machine_terms.specs.declared.value.Value.{Value}
use Rattle.machine_terms.specs.Pointers.{region_in}
use Rattle.machine_terms.specs.Regions.{partition_in}
use Rattle.code_rules.specs.Pieces.{Piece, empty, op, ◌⨟◌}
use Rattle.fit_rules.specs.Shapes.{Each, IsPlain, Shape, Numeric, numeric_integer, numeric_truth, numeric_index, numeric_pointer, space, World, Is, is_number, is_space, Are}
use Rattle.fit_rules.specs.Marks.{around, Holds, Mark, Into, stacked}
use Rattle.fit_rules.specs.Fits.{Program}
use Rattle.fit_rules.specs.Sound.{Effect}
use Rattle.fit_laws.proofs.Held.{none_held, plain_held}
use Rattle.fit_laws.proofs.Keeping.{are_first, are_others, get_set, get_other, set_mark, stores_behind}
use Rattle.fit_laws.proofs.Lookup.{value_at, as_long}
use Rattle.marked_code.specs.Marked.{leads_on, leads_storing, Typed, typed_empty, typed_op, typed_both, typed_into}
use Rattle.fit_rules.specs.Shapes.{awaited, is_pending}
use Rattle.std.proofs.lemmas.Bool.{false≢true}
use Rattle.lane_kernels.specs.declared.numbers.Width.TheVariants.{W32, W64}
use Rattle.regent_tree.specs.declared.typing.StaticType.{StaticType}
use Rattle.regent_tree.specs.declared.typing.StaticType.TheVariants.{Index as index_type, Integer as integer_type, Truth as truth_type}
use Rattle.code_rules.specs.Instructions.{keeps_number}
use Rattle.fit_rules.specs.Shapes.{index, numeric_index, numeric_integer, numeric_truth}
use Rattle.code_laws.proofs.Accesses.{index_fits}
use Rattle.sound_code.specs.Ways.{shape_of}
use Rattle.sound_code.specs.Named.{slot_shape}
use Rattle.sound_code.proofs.SlotShapes.{slot_is}
use Rattle.sound_code.specs.Named.{slot_at, Ready, loops_in, ReadyAt}
use Rattle.sound_code.specs.Ways.{Way}
use Rattle.sound_code.proofs.Narrowing.{set_kept}
use Rattle.sound_code.proofs.Plain.{numeric_plain}
use Rattle.sound_code.proofs.Steady.{behind_same, between_same, SameParts, steady_holds, behind_loops, other_loops}
use Rattle.sound_code.proofs.Looping.{no_loop, loop_low, MayStore}
use Rattle.regent_tree.specs.Lookup.{is_bound}
use Rattle.regent_tree.specs.Scopes.{bound_to}
use Rattle.regent_tree.specs.Syntax.{Name}

-- a shape of no region and no partition: a number's, or that of an index space
pub data IsBare : Shape → Type 0 where
  bare_number : (a : Shape) → Numeric a → IsBare a
  bare_space : IsBare space
  bare_awaited : (a : Shape) → Numeric a → IsBare (awaited a)

bare_plain : (a : Shape) → IsBare a → IsPlain a
bare_plain _ (bare_number a n) = numeric_plain a n
bare_plain _ bare_space = tt
bare_plain _ (bare_awaited a n) = tt

-- so these stay where such values are put for such
no_region : (x : World) (a : Shape) (v : Value) → IsBare a → Is x a v → (region_in (Some v) ≡ None) × (partition_in (Some v) ≡ None)
no_region x _ _ (bare_number _ (numeric_integer w)) (is_number _ z h) = (refl, refl)
no_region x _ _ (bare_number _ numeric_truth) (is_number _ z h) = (refl, refl)
no_region x _ _ (bare_number _ numeric_index) (is_number _ z h) = (refl, refl)
no_region x _ _ (bare_number _ (numeric_pointer n)) (is_number _ z h) = (refl, refl)
no_region x _ _ (bare_awaited a n) (is_number _ z h) = (refl, refl)
no_region x _ _ (bare_awaited a n) (is_pending _ i l f) = (refl, refl)
no_region x _ _ bare_space (is_space n l) = (refl, refl)
no_region x _ _ bare_space (is_number _ z h) = absurd h

-- a result is of a slot's shape where its number is one of the type as it is
pub kept_is : (x : World) (a u : StaticType) → keeps_number a u ≡ true → (v : Value) → Is x (awaited (shape_of a)) v → Is x (slot_shape false (shape_of u)) v
kept_is x (integer_type W32) (integer_type W32) e v h = h
kept_is x (integer_type W64) (integer_type W64) e v h = h
kept_is x truth_type truth_type e v h = h
kept_is x (index_type j) (index_type k) e v h = h
kept_is x (integer_type w) (index_type k) e _ (is_number _ z p) = is_number (awaited index) z (index_fits w z p)
kept_is x (integer_type w) (index_type k) e _ (is_pending _ i l f) = is_pending index i l (λ z p. index_fits w z (f z p))
kept_is x _ _ e v h = absurd (false≢true e)

kept_slot_bare : (a u : StaticType) → keeps_number a u ≡ true → IsBare (slot_shape false (shape_of u))
kept_slot_bare (integer_type W32) (integer_type W32) e = bare_awaited _ (numeric_integer W32)
kept_slot_bare (integer_type W64) (integer_type W64) e = bare_awaited _ (numeric_integer W64)
kept_slot_bare truth_type truth_type e = bare_awaited _ numeric_truth
kept_slot_bare (index_type j) (index_type k) e = bare_awaited _ numeric_index
kept_slot_bare (integer_type w) (index_type k) e = bare_awaited _ numeric_index
kept_slot_bare _ _ e = absurd (false≢true e)

same_parts : (x : World) (ss : List Shape) (vs : List Value) (s : ℕ) (a : Shape) (v : Value) → IsBare a → Are x ss vs →
    slice_get ss s ≡ Some a → Is x a v → s < length ss → (i : ℕ) → SameParts vs (slice_set vs s v) i
same_parts x ss vs s a v na are e h l i = of_test (s == i) refl
  where
    of_test : (b : Bool) → s == i ≡ b → SameParts vs (slice_set vs s v) i
    of_test false q =
        let same = get_other vs s i v (eqb-false s i q) in (ap region_in same, ap partition_in same)
    of_test true q =
        let old = value_at x ss vs s a are e in
        let set = get_set vs s v (omega (arith, l, as_long x ss vs are)) in
        let was = no_region x a old.value na old.of in
        let is = no_region x a v na h in
        subst (SameParts vs (slice_set vs s v)) (eqb-true s i q)
        (ap region_in set ∙ is.0 ∙ sym (ap region_in old.at ∙ was.0), ap partition_in set ∙ is.1 ∙ sym (ap partition_in old.at ∙ was.1))

-- a mark where other slots stay
abbrev pub fixed_to : ℕ → Mark → Mark
fixed_to l m = record m { fixed = l }

-- the slot behind, where names are more than the parameters
pub slot_high : (params p : ℕ) → params ≤ p → params ≤ slot_at params p
slot_high params p h = omega (arith, h)

pub slot_next : (params p : ℕ) → params ≤ p → slot_at params (suc p) ≡ slot_at params p + 3
slot_next params p h = omega (arith, h)

-- a mark's facts stay where a slot is set behind those of the names
abbrev pub Keeps : Mark → ℕ → Type 0
Keeps m s = (vs : List Value) (v : Value) → Each (λ k. Holds k vs) m.facts → Each (λ k. Holds k (slice_set vs s v)) m.facts

pub behind_kept : {deep : ℕ} (way : Way) (params : ℕ) (bs : List Bound) (m : Mark) (s : ℕ) → ReadyAt deep way params bs m → slot_at params (length bs) ≤ s → Keeps m s
behind_kept way params bs m s r h vs v k =
    let same = behind_same params (length bs) s vs v r.low h in
    steady_holds params (length bs) r.low (loops_in way bs) vs (slice_set vs s v) same.0 same.1
    (behind_loops params (length bs) s (loops_in way bs) vs v r.low h (loop_low way params m.slots bs r.named)) m.facts r.facts k

-- and where a name's slot is set that holds no region and no partition before and after
abbrev pub KeepsNumber : Mark → ℕ → Type 0
KeepsNumber m s = (vs : List Value) (v : Value) →
    ((i : ℕ) → SameParts vs (slice_set vs s v) i) →
    Each (λ k. Holds k vs) m.facts → Each (λ k. Holds k (slice_set vs s v)) m.facts

pub named_kept : (way : Way) (params : ℕ) (bs : List Bound) (m : Mark) (n : Name) → Ready way params bs m → is_bound bs n ≡ true → MayStore way (bound_to bs n) →
    KeepsNumber m (slot_at params (bound_to bs n).place)
named_kept way params bs m n r there free vs v same k =
    let p = (bound_to bs n).place in
    steady_holds params (length bs) r.low (loops_in way bs) vs (slice_set vs (slot_at params p) v) (between_same params p (length bs) vs v) (λ i l. same (slot_at params i))
    (other_loops params p (loops_in way bs) vs v (no_loop way params m.slots bs n r.named there free)) m.facts r.facts k

module _ (g : Program) (t : TaskCode) (k : ℕ) where
  -- a piece with some marks
  pub record Marked (m : Mark) (p : Piece) (n : Mark) : Type 0 where
    pub marks : List Mark
    pub is : Typed g t k m p marks n

  pub nothing_done : (m : Mark) → Marked m empty m
  nothing_done m = record { marks = []; is = typed_empty m }

  pub both : {m n o : Mark} {a b : Piece} → Marked m a n → Marked n b o → Marked m (a ⨟ b) o
  both f h = record { marks = _; is = typed_both _ _ _ _ _ _ _ f.is h.is }

  pub does : (m : Mark) (i : Instr) (line : ℕ) (us : List Shape) → Effect g t m i m.stack us →
      Marked m (op i line) (stacked m us)
  does m i line us e = record { marks = _; is = typed_op m _ i line (leads_on m i us e) }

  pub into : {m n o : Mark} {p : Piece} → Marked m p n → Into t.params n o → length o.slots ≡ length n.slots → Marked m p o
  into f h l = record { marks = _; is = typed_into _ _ _ _ _ f.is h l }

  pub storing : (m : Mark) (s : ℕ) (a b : Shape) (us : List Shape) (line : ℕ) → Keeps m s → t.params ≤ s → m.fixed ≤ s → IsPlain b →
      s < length m.slots → ((x : World) (v : Value) → Is x a v → Is x b v) →
      Marked (stacked m (a ∷ us)) (op (instr.Store s) line) (set_mark m s b us)
  storing m s a b us line kept lo fixed plain hi h = record {
    marks = _;
    is = typed_op _ _ _ line (leads_storing (stacked m (a ∷ us)) (set_mark m s b us) s a us refl hi
        (stores_behind t.params (stacked m (a ∷ us)) s a b us refl lo fixed plain kept h) (length-set m.slots s b));
  }

  -- the slots of one name more stay while something stands on the stack
  pub fixing : (m n : Mark) (l : ℕ) (p : Piece) → Marked m p (stacked n []) → Marked m p (stacked (fixed_to l n) [])
  fixing m n l p f = into f (λ x vs st q.
      record { slots = q.slots; stack = none_held _ _ st q.stack; facts = q.facts; top = tt; args = q.args }) refl

  -- a result that may be pending, in the slot of a number of which it is one as it is
  pub keeping_call : (m : Mark) (s : ℕ) (a u : StaticType) (line : ℕ) → keeps_number a u ≡ true → KeepsNumber m s →
      s < length m.slots → slice_get m.slots s ≡ Some (slot_shape false (shape_of u)) →
      Marked (stacked m (awaited (shape_of a) ∷ [])) (op (instr.Store s) line) (stacked m [])
  keeping_call m s a u line keeps kept hi e = record {
    marks = _;
    is = typed_op _ _ _ line (leads_storing (stacked m (awaited (shape_of a) ∷ [])) (stacked m []) s (awaited (shape_of a)) [] refl hi
        (λ x vs st v q.
        let is = kept_is x a u keeps v (plain_held (around x m vs) x.held (awaited (shape_of a)) v tt (are_first (around x m vs) (awaited (shape_of a)) [] v st q.stack)) in
        let same = same_parts x m.slots vs s (slot_shape false (shape_of u)) v (kept_slot_bare a u keeps) q.slots e is hi in record {
          slots = set_kept x m.slots vs s (slot_shape false (shape_of u)) v q.slots e is;
          stack = none_held _ _ st (are_others (around x m vs) (awaited (shape_of a)) [] v st q.stack);
          facts = kept vs v same q.facts;
          top = tt;
          args = λ i l. (same i).0 ∙ q.args i l;
        }) refl);
  }

  -- the same in a slot in which a child may be pending
  pub keeping_slot : (m : Mark) (s : ℕ) (c : Bool) (a : Shape) (line : ℕ) → KeepsNumber m s → IsBare a → IsBare (slot_shape c a) →
      s < length m.slots → slice_get m.slots s ≡ Some (slot_shape c a) →
      Marked (stacked m (a ∷ [])) (op (instr.Store s) line) (stacked m [])
  keeping_slot m s c a line kept na nb hi e = record {
    marks = _;
    is = typed_op _ _ _ line (leads_storing (stacked m (a ∷ [])) (stacked m []) s a [] refl hi
        (λ x vs st v q.
        let is = slot_is x c a v (plain_held (around x m vs) x.held a v (bare_plain a na) (are_first (around x m vs) a [] v st q.stack)) in
        let same = same_parts x m.slots vs s (slot_shape c a) v nb q.slots e is hi in record {
          slots = set_kept x m.slots vs s (slot_shape c a) v q.slots e is;
          stack = none_held _ _ st (are_others (around x m vs) a [] v st q.stack);
          facts = kept vs v same q.facts;
          top = tt;
          args = λ i l. (same i).0 ∙ q.args i l;
        }) refl);
  }

  -- a number in the place of a number, or an index space in that of one, where nothing else stands on the stack
  pub keeping : (m : Mark) (s : ℕ) (a : Shape) (line : ℕ) → KeepsNumber m s → IsBare a →
      s < length m.slots → slice_get m.slots s ≡ Some a →
      Marked (stacked m (a ∷ [])) (op (instr.Store s) line) (stacked m [])
  keeping m s a line kept na hi e = record {
    marks = _;
    is = typed_op _ _ _ line (leads_storing (stacked m (a ∷ [])) (stacked m []) s a [] refl hi
        (λ x vs st v q.
        let is = plain_held (around x m vs) x.held a v (bare_plain a na) (are_first (around x m vs) a [] v st q.stack) in
        let same = same_parts x m.slots vs s a v na q.slots e is hi in record {
          slots = set_kept x m.slots vs s a v q.slots e is;
          stack = none_held _ _ st (are_others (around x m vs) a [] v st q.stack);
          facts = kept vs v same q.facts;
          top = tt;
          args = λ i l. (same i).0 ∙ q.args i l;
        }) refl);
  }
