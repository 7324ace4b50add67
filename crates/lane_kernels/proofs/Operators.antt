-- The laws of the reduction operators.
use Rattle.std.proofs.Common.{◌≡◌, ◌+ℤ◌, ◌*ℤ◌, ℤ, pos, FitsSigned, ap, sym, ◌∙◌, arith}
use Rattle.std.proofs.Math.IntN.{+ℤ_assoc, +ℤ_comm, +ℤ_idl, *ℤ_comm, *ℤ-one, one}
use Rattle.std.proofs.lemmas.Int.{ints, clamps, int_wrap_fits, SFits-int_wrap, int_wrap-add_left, int_wrap-add_right, int_wrap-mul_left, int_wrap-mul_right}
use Rattle.std.specs.Int.{int_wrap, int_min, int_max}
use Rattle.std.specs.Int as int
use Rattle.lane_kernels.proofs.Products.{*ℤ_assoc}
use Rattle.lane_kernels.proofs.Wraps.{wrapped-wrapped}
use Rattle.lane_kernels.specs.Laws.{IsClosed, IsAssociative, IsCommutative, HasIdentity}
use Rattle.lane_kernels.specs.Numbers.{applied, identity_of, std_width, FitsWidth, wrapped}
use Rattle.lane_kernels.specs.declared.numbers.Op.{Op}
use Rattle.lane_kernels.specs.declared.numbers.Op.TheVariants.{Sum, Product, Least, Greatest}
use Rattle.lane_kernels.specs.declared.numbers.Width.{Width}
use Rattle.lane_kernels.specs.declared.numbers.Width.TheVariants.{W32, W64}

pub closed : (op : Op) (w : Width) → IsClosed op w
closed Sum w a b = SFits-int_wrap (std_width w) _
closed Product w a b = SFits-int_wrap (std_width w) _
closed Least w a b = SFits-int_wrap (std_width w) _
closed Greatest w a b = SFits-int_wrap (std_width w) _

module _ (w : int.Width) (a b : ℤ) where
  min_fits : FitsSigned w a → FitsSigned w b → FitsSigned w (int_min a b)
  min_fits f g = grind (arith, ints)

  max_fits : FitsSigned w a → FitsSigned w b → FitsSigned w (int_max a b)
  max_fits f g = grind (arith, ints)

  pub wrap-min : FitsSigned w a → FitsSigned w b → int_wrap w (int_min a b) ≡ int_min a b
  wrap-min f g = int_wrap_fits w _ (min_fits f g)

  pub wrap-max : FitsSigned w a → FitsSigned w b → int_wrap w (int_max a b) ≡ int_max a b
  wrap-max f g = int_wrap_fits w _ (max_fits f g)

min_assoc : (a b c : ℤ) → int_min (int_min a b) c ≡ int_min a (int_min b c)
min_assoc a b c = omega (arith, ints, clamps)

max_assoc : (a b c : ℤ) → int_max (int_max a b) c ≡ int_max a (int_max b c)
max_assoc a b c = omega (arith, ints, clamps)

min_comm : (a b : ℤ) → int_min a b ≡ int_min b a
min_comm a b = omega (arith, ints, clamps)

max_comm : (a b : ℤ) → int_max a b ≡ int_max b a
max_comm a b = omega (arith, ints, clamps)

pub associative : (op : Op) (w : Width) → IsAssociative op w
associative Sum w a b c _ _ _ =
    int_wrap-add_left (std_width w) (a +ℤ b) c ∙ ap (wrapped w) (+ℤ_assoc a b c) ∙ sym (int_wrap-add_right (std_width w) a (b +ℤ c))
associative Product w a b c _ _ _ =
    int_wrap-mul_left (std_width w) (a *ℤ b) c ∙ ap (wrapped w) (*ℤ_assoc a b c) ∙ sym (int_wrap-mul_right (std_width w) a (b *ℤ c))
associative Least w a b c f g h =
    let v = std_width w in
    ap (λ z. int_wrap v (int_min z c)) (wrap-min v a b f g) ∙ ap (int_wrap v) (min_assoc a b c) ∙ sym (ap (λ z. int_wrap v (int_min a z)) (wrap-min v b c g h))
associative Greatest w a b c f g h =
    let v = std_width w in
    ap (λ z. int_wrap v (int_max z c)) (wrap-max v a b f g) ∙ ap (int_wrap v) (max_assoc a b c) ∙ sym (ap (λ z. int_wrap v (int_max a z)) (wrap-max v b c g h))

pub commutative : (op : Op) (w : Width) → IsCommutative op w
commutative Sum w a b _ _ = ap (wrapped w) (+ℤ_comm a b)
commutative Product w a b _ _ = ap (wrapped w) (*ℤ_comm a b)
commutative Least w a b _ _ = ap (wrapped w) (min_comm a b)
commutative Greatest w a b _ _ = ap (wrapped w) (max_comm a b)

least_below : (w : Width) (a : ℤ) → FitsWidth w a → int_max (identity_of Greatest w) a ≡ a
least_below W32 a f = omega (arith, ints, clamps)
least_below W64 a f = omega (arith, ints, clamps)

greatest_above : (w : Width) (a : ℤ) → FitsWidth w a → int_min (identity_of Least w) a ≡ a
greatest_above W32 a f = omega (arith, ints, clamps)
greatest_above W64 a f = omega (arith, ints, clamps)

identity_fits : (op : Op) (w : Width) → FitsWidth w (identity_of op w)
identity_fits Sum W32 = omega (arith, ints)
identity_fits Sum W64 = omega (arith, ints)
identity_fits Product W32 = omega (arith, ints)
identity_fits Product W64 = omega (arith, ints)
identity_fits Least W32 = omega (arith, ints)
identity_fits Least W64 = omega (arith, ints)
identity_fits Greatest W32 = omega (arith, ints)
identity_fits Greatest W64 = omega (arith, ints)

pub identity : (op : Op) (w : Width) → HasIdentity op w
unfolding one
identity Sum w =
    (identity_fits Sum w, λ a f. ap (wrapped w) (+ℤ_idl a) ∙ int_wrap_fits (std_width w) a f)
identity Product w =
    (identity_fits Product w, λ a f. ap (wrapped w) (*ℤ_comm (pos 1) a ∙ *ℤ-one a) ∙ int_wrap_fits (std_width w) a f)
identity Least w =
    (identity_fits Least w, λ a f. ap (wrapped w) (greatest_above w a f) ∙ int_wrap_fits (std_width w) a f)
identity Greatest w =
    (identity_fits Greatest w, λ a f. ap (wrapped w) (least_below w a f) ∙ int_wrap_fits (std_width w) a f)

-- an operator's result at 64 bits has its result at each width
pub wrapped-applied : (op : Op) (w : Width) (a b : ℤ) → wrapped w (applied op W64 a b) ≡ applied op w a b
wrapped-applied Sum w a b = wrapped-wrapped w _
wrapped-applied Product w a b = wrapped-wrapped w _
wrapped-applied Least w a b = wrapped-wrapped w _
wrapped-applied Greatest w a b = wrapped-wrapped w _
