-- The same of instructions that have a list.
use Rattle.std.proofs.Common.{rules}
use Rattle.std.specs.Prelude.{◌≡◌, Bool, true, ℕ, ℤ, List, nat_eq}
use mathlib.Core.Path.{refl, sym}
use mathlib.Core.Bool.{true≢false, ◌&&◌}
use Rattle.std.specs.Cmp.{first_so, second_so}
use Rattle.std.specs.Cmp.Lexicographic.{pointwise, pointwise_decides}
use Rattle.index_launch.specs.declared.points.LaunchArg.{LaunchArg}
use Rattle.lane_kernels.specs.declared.numbers.Width.{Width}
use Rattle.lane_kernels.specs.declared.numbers.Op.{Op}
use Rattle.lane_kernels.specs.contracts.numbers.WidthPartialEq.TheImpl.{eq-value as width_eq}
use Rattle.lane_kernels.specs.contracts.numbers.OpPartialEq.TheImpl.{eq-value as op_eq}
use Rattle.task_code.specs.declared.instr.PrintPart.{PrintPart}
use Rattle.task_code.specs.declared.instr.Instr.{Instr}
use Rattle.task_code.specs.declared.instr.Instr.TheVariants as i
use Rattle.task_code.specs.contracts.instr.InstrPartialEq.TheImpl.{eq-value as instr_eq}
use Rattle.task_code.proofs.Parts.{arg_exact, part_exact, width_exact, op_exact}

pub same_cast : (a : List ℕ) (other : Instr) → instr_eq.it (i.Cast a) other ≡ true → i.Cast a ≡ other
same_cast a (i.Cast v) h = search (rules, pointwise_decides)
same_cast a other h = absurd (true≢false (sym h))

pub same_cast_ptr : (a : List ℕ) (other : Instr) → instr_eq.it (i.CastPtr a) other ≡ true → i.CastPtr a ≡ other
same_cast_ptr a (i.CastPtr v) h = search (rules, pointwise_decides)
same_cast_ptr a other h = absurd (true≢false (sym h))

pub same_move : (a : List ℕ) (other : Instr) → instr_eq.it (i.Move a) other ≡ true → i.Move a ≡ other
same_move a (i.Move v) h = search (rules, pointwise_decides)
same_move a other h = absurd (true≢false (sym h))

pub same_read : (a : List ℕ) (b : ℕ) (other : Instr) → instr_eq.it (i.Read a b) other ≡ true → i.Read a b ≡ other
same_read a b (i.Read v w) h = search (rules, pointwise_decides)
same_read a b other h = absurd (true≢false (sym h))

pub same_write : (a : List ℕ) (b : ℕ) (c : Width) (other : Instr) → instr_eq.it (i.Write a b c) other ≡ true → i.Write a b c ≡ other
same_write a b c (i.Write v w x) h = search (rules, pointwise_decides, width_exact)
same_write a b c other h = absurd (true≢false (sym h))

pub same_print : (a : List PrintPart) (other : Instr) → instr_eq.it (i.Print a) other ≡ true → i.Print a ≡ other
same_print a (i.Print v) h = search (rules, pointwise_decides, part_exact)
same_print a other h = absurd (true≢false (sym h))

pub same_reduce : (a : List ℕ) (b : ℕ) (c : Op) (d : Width) (other : Instr) → instr_eq.it (i.Reduce a b c d) other ≡ true → i.Reduce a b c d ≡ other
same_reduce a b c d (i.Reduce v w x y) h =
    let operands = nat_eq b w && (op_eq.it c x && width_eq.it d y) in
    let behind_list : operands ≡ true = second_so (pointwise nat_eq a v) operands h in
    let behind_field : (op_eq.it c x && width_eq.it d y) ≡ true = second_so (nat_eq b w) (op_eq.it c x && width_eq.it d y) behind_list in
    let operator : c ≡ x = (op_exact c x).0 (first_so (op_eq.it c x) (width_eq.it d y) behind_field) in
    search (rules, pointwise_decides, width_exact)
same_reduce a b c d other h = absurd (true≢false (sym h))

pub same_launch : (a b c : ℕ) (d : List LaunchArg) (other : Instr) → instr_eq.it (i.Launch a b c d) other ≡ true → i.Launch a b c d ≡ other
same_launch a b c d (i.Launch v w x y) h = search (rules, pointwise_decides, arg_exact)
same_launch a b c d other h = absurd (true≢false (sym h))
