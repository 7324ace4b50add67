-- Numbers of 32 and 64 bits, and the reduction operators on them.
use Rattle.std.specs.Prelude.{◌-◌, ◌^◌, ℤ, pos, negsuc, ◌+ℤ◌, ◌*ℤ◌, FitsSigned}
use Rattle.std.specs.Int.{w32, w64, int_wrap, int_min, int_max}
use Rattle.std.specs.Int as int
use Rattle.lane_kernels.specs.declared.numbers.FieldKind.{FieldKind}
use Rattle.lane_kernels.specs.declared.numbers.FieldKind.TheVariants.{Int32, Int64, Truth}
use Rattle.lane_kernels.specs.declared.numbers.FieldKind.TheVariants.{Index, Pointer}
use Rattle.lane_kernels.specs.declared.numbers.Op.{Op}
use Rattle.lane_kernels.specs.declared.numbers.Op.TheVariants.{Sum, Product, Least, Greatest}
use Rattle.lane_kernels.specs.declared.numbers.Width.{Width}
use Rattle.lane_kernels.specs.declared.numbers.Width.TheVariants.{W32, W64}

-- the width as std names it
abbrev pub std_width : Width → int.Width
std_width W32 = w32
std_width W64 = w64

-- the least number of a width
abbrev pub least_number : Width → ℤ
least_number W32 = negsuc (2 ^ 31 - 1)
least_number W64 = negsuc (2 ^ 63 - 1)

-- the greatest number of a width
abbrev pub greatest_number : Width → ℤ
greatest_number W32 = pos (2 ^ 31 - 1)
greatest_number W64 = pos (2 ^ 63 - 1)

-- z is a number of the width: from the least to the greatest
abbrev pub FitsWidth : Width → ℤ → Type 0
FitsWidth w z = FitsSigned (std_width w) z

-- what is left of z at a width: its two's complement there
abbrev pub wrapped : Width → ℤ → ℤ
wrapped w z = int_wrap (std_width w) z

-- the result of an operator at a width
abbrev pub applied : Op → Width → ℤ → ℤ → ℤ
applied Sum w a b = wrapped w (a +ℤ b)
applied Product w a b = wrapped w (a *ℤ b)
applied Least w a b = wrapped w (int_min a b)
applied Greatest w a b = wrapped w (int_max a b)

-- the number that an operator leaves out of account
abbrev pub identity_of : Op → Width → ℤ
identity_of Sum w = pos 0
identity_of Product w = pos 1
identity_of Least w = greatest_number w
identity_of Greatest w = least_number w

-- the width of the numbers that a field keeps
abbrev pub width_of : FieldKind → Width
width_of Int32 = W32
width_of Int64 = W64
width_of Truth = W64
width_of Index = W64
width_of Pointer = W64
