-- The code that makes of a value what is wanted has marks: an index or a pointer that counts as a number, the operands of
-- comparisons, and a value that goes into something of another type.
use Rattle.std.proofs.Common.{ℕ, suc, ◌<◌, ◌≤◌, ◌+◌, ◌^◌, negsuc, List, [], ◌∷◌, Bool, true, false, cond, None, Some, refl, arith}
use Rattle.std.specs.Prelude.{length}
use Rattle.std.proofs.lemmas.Int.{ints}
use Rattle.std.proofs.lemmas.List.{length-map}
use Rattle.lane_kernels.specs.declared.numbers.Width.{Width}
use Rattle.lane_kernels.specs.declared.numbers.Width.TheVariants.{W32, W64}
use Rattle.regent_tree.specs.declared.expression.Arithmetic.{Arithmetic}
use Rattle.regent_tree.specs.declared.expression.Comparison.{Comparison}
use Rattle.regent_tree.specs.declared.expression.Operator.TheVariants.{Compare, Compute}
use Rattle.regent_tree.specs.declared.expression.Sign.{Sign}
use Rattle.regent_tree.specs.declared.expression.Sign.TheVariants.{Minus, Not}
use Rattle.regent_tree.specs.declared.types.NumberTerm.{NumberTerm}
use Rattle.regent_tree.specs.declared.typing.StaticType.{StaticType}
use Rattle.regent_tree.specs.StaticTypes.{number_type}
use Rattle.regent_tree.specs.Facts.{is_subregion}
use Rattle.regent_tree.specs.StaticTypes.{Reach}
use Rattle.regent_tree.specs.Typing.{are_pointers, counting_as, has_wild, least_above, operated, position_of, positions}
use Rattle.regent_tree.specs.declared.facts.Known.{Known}
use Rattle.regent_tree.specs.declared.facts.Term.{Term}
use Rattle.task_code.specs.declared.code.TaskCode.{TaskCode}
use Rattle.task_code.specs.declared.instr.Instr.TheVariants as instr
use Rattle.machine_terms.specs.declared.value.Value.{Value}
use Rattle.code_rules.specs.Instructions.{as_number_code, comparing, computing, converted_code, one, operand_code, operating, sign_code, signs_code, standing_code}
use Rattle.code_rules.specs.Pieces.{empty, Piece}
use Rattle.code_rules.specs.Slots.{Where}
use Rattle.code_laws.specs.Pointers.{AllMinus, AreCompared, a_pointer_type, compared_different, compared_equal, compared_left, compared_plain, compared_right, counts_number, counts_pointer, fills_alike, fills_index, GoesInto, into_index, into_plain, into_space, IsCounting, IsNumberTerm, term_index, term_integer}
use Rattle.code_laws.specs.Simple.{AreAlike, compare_numbers, compare_truths, IsNumber, number_index, number_integer, term_32, term_64, two_integers, two_truths}
use Rattle.code_laws.proofs.Wider.{counted}
use Rattle.fit_rules.specs.Shapes.{Are, are_more, Each, index, integer, is_number, NumberIs, Numeric, numeric_index, numeric_integer, numeric_pointer, numeric_truth, pointer, Shape, truth, World}
use Rattle.fit_rules.specs.Marks.{Mark, stacked}
use Rattle.fit_rules.specs.Fits.{Program}
use Rattle.fit_rules.specs.Sound.{does_compare, does_compute, does_move, does_negate, does_point, does_pointers_differ, does_pointers_equal, does_wrap}
use Rattle.sound_code.specs.Ways.{shape_of}
use Rattle.sound_code.proofs.Wholes.{Becomes, becomes_plain, becomes_pointer, HasFew}
use Rattle.sound_code.proofs.Combining.{both, does, into, Marked, nothing_done}

pub number_numeric : (u : StaticType) → IsNumber u → Numeric (shape_of u)
number_numeric _ (number_integer w) = numeric_integer w
number_numeric _ (number_index k) = numeric_index

pub counted_numeric : (u : StaticType) → IsCounting u → Numeric (shape_of (counting_as u))
counted_numeric u h = number_numeric (counting_as u) (counted u h)

-- null is a pointer
pub null_fits : (n : ℕ) → NumberIs (pointer n) (negsuc 0)
null_fits n = (omega (arith, ints), omega arith)

-- a number is an index
as_index : (x : World) (v : Width) (us : List Shape) (st : List Value) → Are x (integer v ∷ us) st → Are x (index ∷ us) st
as_index x W32 us _ (are_more _ _ _ vs (is_number _ z p) a) = are_more index _ us vs (is_number index z (omega (arith, ints, p))) a
as_index x W64 us _ (are_more _ _ _ vs (is_number _ z p) a) = are_more index _ us vs (is_number index z p) a

-- the shape of an operand, which stands for a number or is compared as a pointer
abbrev pub operand_shape : Bool → StaticType → Shape
operand_shape b u = cond b (shape_of u) (shape_of (counting_as u))

module _ (g : Program) (t : TaskCode) (k : ℕ) (w : Where) (m : Mark) where
  abbrev Goes : List Shape → Piece → List Shape → Type 0
  Goes us p vs = Marked g t k (stacked m us) p (stacked m vs)

  index_of : (us vs : List Shape) (p : Piece) (v : Width) → Goes us p (integer v ∷ vs) → Goes us p (index ∷ vs)
  index_of us vs p v f = into g t k f
      (λ x ss st q. record { slots = q.slots; stack = as_index _ v vs st q.stack; facts = q.facts; top = tt; args = q.args }) refl

  -- what counts as a number stands for it
  pub standing_counted : (u : StaticType) (us : List Shape) → IsCounting u → Goes (shape_of u ∷ us) (standing_code w u) (shape_of (counting_as u) ∷ us)
  standing_counted _ us (counts_number _ (number_integer v)) = nothing_done g t k _
  standing_counted _ us (counts_number _ (number_index c)) = nothing_done g t k _
  standing_counted _ us (counts_pointer c sp args rs) =
      does g t k (stacked m (pointer (length rs) ∷ us)) instr.Point w.line (index ∷ us) (does_point (pointer (length rs)) us (numeric_pointer (length rs)))

  minus_counted : (u : StaticType) (us : List Shape) → IsCounting u →
      Goes (shape_of (counting_as u) ∷ us) (sign_code w u Minus) (shape_of (counting_as u) ∷ us)
  minus_counted _ us (counts_number _ (number_integer v)) =
      does g t k (stacked m (integer v ∷ us)) (instr.Neg v) w.line (integer v ∷ us) (does_negate v (integer v) us (numeric_integer v))
  minus_counted _ us (counts_number _ (number_index c)) = index_of _ us _ W64
      (does g t k (stacked m (index ∷ us)) (instr.Neg W64) w.line (integer W64 ∷ us) (does_negate W64 index us numeric_index))
  minus_counted _ us (counts_pointer c sp args rs) = index_of _ us _ W64
      (does g t k (stacked m (index ∷ us)) (instr.Neg W64) w.line (integer W64 ∷ us) (does_negate W64 index us numeric_index))

  pub signs_counted : (u : StaticType) (ss : List Sign) (us : List Shape) → IsCounting u → AllMinus ss →
      Goes (shape_of (counting_as u) ∷ us) (signs_code w u ss) (shape_of (counting_as u) ∷ us)
  signs_counted u [] us h a = nothing_done g t k _
  signs_counted u (Minus ∷ ss) us h a = both g t k (signs_counted u ss us h a) (minus_counted u us h)
  signs_counted u (Not ∷ ss) us h a = absurd a

  -- a conversion to a number type
  index_from : (u : StaticType) (us : List Shape) → IsCounting u → Goes (shape_of (counting_as u) ∷ us) empty (index ∷ us)
  index_from _ us (counts_number _ (number_integer v)) = index_of _ us _ v (nothing_done g t k _)
  index_from _ us (counts_number _ (number_index c)) = nothing_done g t k _
  index_from _ us (counts_pointer c sp args rs) = nothing_done g t k _

  pub number_counted : (c : NumberTerm) (u : StaticType) (us : List Shape) → IsCounting u → IsNumberTerm c →
      Goes (shape_of (counting_as u) ∷ us) (as_number_code w c) (shape_of (number_type c) ∷ us)
  number_counted _ u us h (term_integer _ term_32) =
      does g t k _ (instr.Wrap W32) w.line _ (does_wrap W32 (shape_of (counting_as u)) us (counted_numeric u h))
  number_counted _ u us h (term_integer _ term_64) =
      does g t k _ (instr.Wrap W64) w.line _ (does_wrap W64 (shape_of (counting_as u)) us (counted_numeric u h))
  number_counted _ u us h (term_index c) = index_from u us h

  -- ---- operators

  computed : (c : Arithmetic) (a b : Shape) (us : List Shape) → Numeric a → Numeric b → Goes (b ∷ a ∷ us) (one w (computing c W64)) (index ∷ us)
  computed c a b us na nb = index_of _ us _ W64 (does g t k _ _ w.line _ (does_compute c W64 a b us na nb))

  pub compute_counted : (c : Arithmetic) (u v : StaticType) (us : List Shape) → IsCounting u → IsCounting v →
      Goes (shape_of (counting_as v) ∷ shape_of (counting_as u) ∷ us) (one w (operating (Compute c) u v)) (shape_of (operated (Compute c) u v) ∷ us)
  compute_counted c _ _ us (counts_number _ (number_integer a)) (counts_number _ (number_integer b)) = does g t k _ _ w.line _
      (does_compute c _ (integer a) (integer b) us (numeric_integer a) (numeric_integer b))
  compute_counted c _ _ us (counts_number _ (number_integer a)) (counts_number _ (number_index j)) = computed c _ _ us (numeric_integer a) numeric_index
  compute_counted c _ _ us (counts_number _ (number_integer a)) (counts_pointer j sp args rs) = computed c _ _ us (numeric_integer a) numeric_index
  compute_counted c _ _ us (counts_number _ (number_index i)) (counts_number _ (number_integer b)) = computed c _ _ us numeric_index (numeric_integer b)
  compute_counted c _ _ us (counts_number _ (number_index i)) (counts_number _ (number_index j)) = computed c _ _ us numeric_index numeric_index
  compute_counted c _ _ us (counts_number _ (number_index i)) (counts_pointer j sp args rs) = computed c _ _ us numeric_index numeric_index
  compute_counted c _ _ us (counts_pointer i sp args rs) (counts_number _ (number_integer b)) = computed c _ _ us numeric_index (numeric_integer b)
  compute_counted c _ _ us (counts_pointer i sp args rs) (counts_number _ (number_index j)) = computed c _ _ us numeric_index numeric_index
  compute_counted c _ _ us (counts_pointer i sp args rs) (counts_pointer j sq brgs qs) = computed c _ _ us numeric_index numeric_index

  -- the operands of a comparison, and what compares them
  pub record Compares (c : Comparison) (u v : StaticType) : Type 0 where
    pub first : (us : List Shape) → Goes (shape_of u ∷ us) (operand_code w (are_pointers u v) u) (operand_shape (are_pointers u v) u ∷ us)
    pub second : (us : List Shape) → Goes (shape_of v ∷ us) (operand_code w (are_pointers u v) v) (operand_shape (are_pointers u v) v ∷ us)
    pub compared : (us : List Shape) →
        Goes (operand_shape (are_pointers u v) v ∷ operand_shape (are_pointers u v) u ∷ us) (one w (operating (Compare c) u v)) (truth ∷ us)

  compared_as : (c : Comparison) (a b : Shape) (us : List Shape) → Numeric a → Numeric b → Goes (b ∷ a ∷ us) (one w (comparing c false)) (truth ∷ us)
  compared_as c a b us na nb = does g t k _ _ w.line _ (does_compare c a b us na nb)

  pub compares : (c : Comparison) (u v : StaticType) → AreCompared c u v → Compares c u v
  compares c _ _ (compared_plain _ _ v (compare_numbers _ _ (number_integer a) h)) = record {
    first = λ us. nothing_done g t k _;
    second = λ us. standing_counted v us (counts_number v h);
    compared = λ us. compared_as c _ _ us (numeric_integer a) (counted_numeric v (counts_number v h));
  }
  compares c _ _ (compared_plain _ _ v (compare_numbers _ _ (number_index i) h)) = record {
    first = λ us. nothing_done g t k _;
    second = λ us. standing_counted v us (counts_number v h);
    compared = λ us. compared_as c _ _ us numeric_index (counted_numeric v (counts_number v h));
  }
  compares c _ _ (compared_plain _ _ _ compare_truths) = record {
    first = λ us. nothing_done g t k _;
    second = λ us. nothing_done g t k _;
    compared = λ us. compared_as c _ _ us numeric_truth numeric_truth;
  }
  compares c _ _ (compared_left _ i sp args rs _ (number_integer b)) = record {
    first = λ us. standing_counted _ us (counts_pointer i sp args rs);
    second = λ us. nothing_done g t k _;
    compared = λ us. compared_as c _ _ us numeric_index (numeric_integer b);
  }
  compares c _ _ (compared_left _ i sp args rs _ (number_index j)) = record {
    first = λ us. standing_counted _ us (counts_pointer i sp args rs);
    second = λ us. nothing_done g t k _;
    compared = λ us. compared_as c _ _ us numeric_index numeric_index;
  }
  compares c _ _ (compared_right _ _ j sp args rs (number_integer a)) = record {
    first = λ us. nothing_done g t k _;
    second = λ us. standing_counted _ us (counts_pointer j sp args rs);
    compared = λ us. compared_as c _ _ us (numeric_integer a) numeric_index;
  }
  compares c _ _ (compared_right _ _ j sp args rs (number_index i)) = record {
    first = λ us. nothing_done g t k _;
    second = λ us. standing_counted _ us (counts_pointer j sp args rs);
    compared = λ us. compared_as c _ _ us numeric_index numeric_index;
  }
  compares _ _ _ (compared_equal _ _ (a_pointer_type i sp args rs n) (a_pointer_type j sq brgs qs o)) = record {
    first = λ us. nothing_done g t k _;
    second = λ us. nothing_done g t k _;
    compared = λ us. does g t k _ instr.PtrEq w.line _ (does_pointers_equal (pointer (length rs)) (pointer (length qs)) us (numeric_pointer _) (numeric_pointer _));
  }
  compares _ _ _ (compared_different _ _ (a_pointer_type i sp args rs n) (a_pointer_type j sq brgs qs o)) = record {
    first = λ us. nothing_done g t k _;
    second = λ us. nothing_done g t k _;
    compared = λ us. does g t k _ instr.PtrNe w.line _ (does_pointers_differ (pointer (length rs)) (pointer (length qs)) us (numeric_pointer _) (numeric_pointer _));
  }

  -- ---- conversions

  -- a value is converted to an alike type
  pub converted_at : (u v : StaticType) (us : List Shape) → AreAlike u v → Goes (shape_of u ∷ us) (converted_code w u v) (shape_of v ∷ us)
  converted_at _ _ us (two_integers W32 W32) = nothing_done g t k _
  converted_at _ _ us (two_integers W32 W64) =
      does g t k (stacked m (integer W32 ∷ us)) (instr.Wrap W64) w.line _ (does_wrap W64 (integer W32) us (numeric_integer W32))
  converted_at _ _ us (two_integers W64 W32) =
      does g t k (stacked m (integer W64 ∷ us)) (instr.Wrap W32) w.line _ (does_wrap W32 (integer W64) us (numeric_integer W64))
  converted_at _ _ us (two_integers W64 W64) = nothing_done g t k _
  converted_at _ _ us two_truths = nothing_done g t k _

  -- to that of what it goes into
  pub gone_into : (u v : StaticType) (us : List Shape) → GoesInto u v → Goes (shape_of u ∷ us) (converted_code w u v) (shape_of v ∷ us)
  gone_into _ _ us (into_plain u v (fills_alike _ _ a)) = converted_at u v us a
  gone_into _ _ us (into_plain _ _ (fills_index _ c (number_integer v))) = index_of _ us _ v (nothing_done g t k _)
  gone_into _ _ us (into_plain _ _ (fills_index _ c (number_index i))) = nothing_done g t k _
  gone_into _ _ us (into_index c sp args rs j) = standing_counted _ us (counts_pointer c sp args rs)
  gone_into _ _ us (into_space i j) = nothing_done g t k _

  -- a pointer's positions are moved to those of another list of few regions
  position_low : (known : List Known) (a : Term) (j : ℕ) (bs : List Reach) → least_above known a j bs ≤ j + length bs
  position_low known a j [] = omega arith
  position_low known a j (None ∷ bs) = let l = position_low known a (suc j) bs in omega (arith, l)
  position_low known a j (Some b ∷ bs) = chosen (is_subregion known a b) (position_low known a (suc j) bs)
    where
      chosen : (c : Bool) → least_above known a (suc j) bs ≤ suc j + length bs → cond c (suc j) (least_above known a (suc j) bs) ≤ j + suc (length bs)
      chosen true l = omega arith
      chosen false l = omega (arith, l)

  positions_low : (known : List Known) (from to : List Reach) → Each (λ j. j ≤ length to) (positions known from to)
  positions_low known [] to = tt
  positions_low known (a ∷ from) to = (chosen (has_wild to) a, positions_low known from to)
    where
      chosen : (c : Bool) (a : Reach) → cond c 0 (position_of known to a) ≤ length to
      chosen true a = omega arith
      chosen false None = omega arith
      chosen false (Some a) = let l = position_low known a 0 to in omega (arith, l)

  below_limit : (n : ℕ) → n ≤ 4 → n < 2 ^ 31
  below_limit n l = omega (arith, l)

  -- a value becomes one of another type
  pub becomes : (u v : StaticType) (us : List Shape) → Becomes u v → HasFew v → Goes (shape_of u ∷ us) (converted_code w u v) (shape_of v ∷ us)
  becomes u v us (becomes_plain _ _ h) few = gone_into u v us h
  becomes _ _ us (becomes_pointer _ c sp args rs (a_pointer_type d sq brgs qs names)) few =
      let long = length-map qs (λ a. cond (has_wild rs) 0 (position_of w.scope.known rs a)) in
      does g t k (stacked m (pointer (length qs) ∷ us)) (instr.Move (positions w.scope.known qs rs)) w.line (pointer (length rs) ∷ us)
      (does_move (positions w.scope.known qs rs) (length qs) (length rs) us (omega (arith, long)) (positions_low w.scope.known qs rs) (below_limit (length rs) few))
