-- Numbers of shapes: what is wrapped, compared or kept in a field is of its shape.
use Rattle.std.proofs.Common.{inl, inr, ℕ, ◌%◌, ◌^◌, ◌<◌, ℤ, pos, Bool, true, false, refl, sym, subst, arith}
use Rattle.std.proofs.lemmas.Int.{ints, SFits-int_wrap, int_wrap_fits}
use native.Mathlib.Nat.{mod-lt}
use Rattle.lane_kernels.specs.declared.numbers.Width.{Width}
use Rattle.lane_kernels.specs.declared.numbers.Width.TheVariants.{W32, W64}
use Rattle.lane_kernels.specs.Numbers.{FitsWidth, wrapped, std_width, width_of}
use Rattle.lane_kernels.specs.declared.numbers.FieldKind.{FieldKind}
use Rattle.lane_kernels.specs.declared.numbers.FieldKind.TheVariants as kind
use Rattle.regent_tree.specs.Values.{kept_truth}
use Rattle.fit_rules.specs.Shapes.{Shape, integer, truth, index, pointer, Numeric, numeric_integer, numeric_truth, numeric_index, numeric_pointer, NumberIs}
use Rattle.fit_rules.specs.Fits.{Program, kept_as, kind_at, shape_at}

pub wrapped_fits : (w : Width) (z : ℤ) → FitsWidth w (wrapped w z)
wrapped_fits w z = SFits-int_wrap (std_width w) z

pub truth_is : (b : Bool) → NumberIs truth (kept_truth b)
truth_is true = inr refl
truth_is false = inl refl

pub small_fits : (n : ℕ) → n < 2 ^ 32 → FitsWidth W64 (pos n)
small_fits n h = omega (arith, ints, h)

narrow : (z : ℤ) → FitsWidth W32 z → FitsWidth W64 z
narrow z h = omega (arith, ints, h)

-- each number of a shape fits 64 bits
pub number_fits : (s : Shape) (z : ℤ) → Numeric s → NumberIs s z → FitsWidth W64 z
number_fits _ z (numeric_integer W32) h = narrow z h
number_fits _ z (numeric_integer W64) h = h
number_fits _ z numeric_truth (inl e) = subst (FitsWidth W64) (sym e) (omega (arith, ints))
number_fits _ z numeric_truth (inr e) = subst (FitsWidth W64) (sym e) (omega (arith, ints))
number_fits _ z numeric_index h = h
number_fits _ z (numeric_pointer n) h = h.0

-- the shape of what a field of a kind keeps
pub data KeptAs : FieldKind → Shape → Type 0 where
  kept_int : KeptAs kind.Int32 (integer W32)
  kept_int64 : KeptAs kind.Int64 (integer W64)
  kept_as_truth : KeptAs kind.Truth truth
  kept_index : KeptAs kind.Index index
  kept_pointer : (n : ℕ) → KeptAs kind.Pointer (pointer n)

kept_of : (k : FieldKind) (n : ℕ) → KeptAs k (kept_as k n)
kept_of kind.Int32 n = kept_int
kept_of kind.Int64 n = kept_int64
kept_of kind.Truth n = kept_as_truth
kept_of kind.Index n = kept_index
kept_of kind.Pointer n = kept_pointer n

pub is_kept : (g : Program) (sp f : ℕ) → KeptAs (kind_at g sp f) (shape_at g sp f)
is_kept g sp f = kept_of (kind_at g sp f) (g.positions sp f)

-- what a field keeps is of its shape once it is wrapped
pub kept_is : (k : FieldKind) (s : Shape) (z : ℤ) → KeptAs k s → NumberIs s z →
    NumberIs s (wrapped (width_of k) z)
kept_is _ _ z kept_int h = wrapped_fits W32 z
kept_is _ _ z kept_int64 h = wrapped_fits W64 z
kept_is _ _ z kept_as_truth h = subst (NumberIs truth)
    (sym (int_wrap_fits (std_width W64) z (number_fits _ z numeric_truth h))) h
kept_is _ _ z kept_index h = wrapped_fits W64 z
kept_is _ _ z (kept_pointer n) h =
    subst (NumberIs (pointer n)) (sym (int_wrap_fits (std_width W64) z h.0)) h

pub kept_numeric : (k : FieldKind) (s : Shape) → KeptAs k s → Numeric s
kept_numeric _ _ kept_int = numeric_integer W32
kept_numeric _ _ kept_int64 = numeric_integer W64
kept_numeric _ _ kept_as_truth = numeric_truth
kept_numeric _ _ kept_index = numeric_index
kept_numeric _ _ (kept_pointer n) = numeric_pointer n

-- ---- pointers

pub point_below : (n : ℕ) → n % 2 ^ 32 < 2 ^ 32
point_below n = mod-lt n (omega arith)
