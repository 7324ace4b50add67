-- The laws of a reduction operator at a width, over the numbers of that width.
use Rattle.std.specs.Prelude.{◌≡◌, ℤ}
use Rattle.lane_kernels.specs.Numbers.{FitsWidth, applied, identity_of}
use Rattle.lane_kernels.specs.declared.numbers.Op.{Op}
use Rattle.lane_kernels.specs.declared.numbers.Width.{Width}

-- the result is a number of the width, whatever the operands
abbrev pub IsClosed : Op → Width → Type 0
IsClosed op w = (a b : ℤ) → FitsWidth w (applied op w a b)

abbrev pub IsAssociative : Op → Width → Type 0
IsAssociative op w =
    (a b c : ℤ) → FitsWidth w a → FitsWidth w b → FitsWidth w c →
    applied op w (applied op w a b) c ≡ applied op w a (applied op w b c)

abbrev pub IsCommutative : Op → Width → Type 0
IsCommutative op w =
    (a b : ℤ) → FitsWidth w a → FitsWidth w b → applied op w a b ≡ applied op w b a

-- the operator's identity is a number of the width, and leaves each number of the width as it is
abbrev pub HasIdentity : Op → Width → Type 0
HasIdentity op w =
    FitsWidth w (identity_of op w)
    × ((a : ℤ) → FitsWidth w a → applied op w (identity_of op w) a ≡ a)
