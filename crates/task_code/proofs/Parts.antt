-- Widths, operators, printed parts and arguments of launches compare equal exactly where they are the same.
use Rattle.std.proofs.Common.{rules}
use Rattle.std.specs.Prelude.{◌≡◌, Bool, true, false, ℕ, ℤ, List}
use Rattle.std.specs.Cmp.Lexicographic.{pointwise_decides}
use Rattle.index_launch.specs.declared.points.LaunchArg.{LaunchArg}
use Rattle.index_launch.specs.contracts.points.LaunchArgPartialEq.TheImpl.{eq-value as arg_eq}
use Rattle.lane_kernels.specs.declared.numbers.Width.{Width}
use Rattle.lane_kernels.specs.contracts.numbers.WidthPartialEq.TheImpl.{eq-value as width_eq}
use Rattle.lane_kernels.specs.declared.numbers.Op.{Op}
use Rattle.lane_kernels.specs.contracts.numbers.OpPartialEq.TheImpl.{eq-value as op_eq}
use Rattle.task_code.specs.declared.instr.PrintPart.{PrintPart}
use Rattle.task_code.specs.contracts.instr.PrintPartPartialEq.TheImpl.{eq-value as part_eq}

pub width_exact : (x y : Width) → (width_eq.it x y ≡ true → x ≡ y) × (x ≡ y → width_eq.it x y ≡ true)
width_exact x y = search (rules)

pub op_exact : (x y : Op) → (op_eq.it x y ≡ true → x ≡ y) × (x ≡ y → op_eq.it x y ≡ true)
op_exact x y = search (rules)

pub part_exact : (x y : PrintPart) → (part_eq.it x y ≡ true → x ≡ y) × (x ≡ y → part_eq.it x y ≡ true)
part_exact x y = search (rules, pointwise_decides)

pub arg_exact : (x y : LaunchArg) → (arg_eq.it x y ≡ true → x ≡ y) × (x ≡ y → arg_eq.it x y ≡ true)
arg_exact x y = search (rules)
