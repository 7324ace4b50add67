-- The same of instructions that have a width.
use Rattle.std.proofs.Common.{rules}
use Rattle.std.specs.Prelude.{◌≡◌, Bool, true, ℕ, ℤ, List}
use mathlib.Core.Path.{refl, sym}
use mathlib.Core.Bool.{true≢false}
use Rattle.lane_kernels.specs.declared.numbers.Width.{Width}
use Rattle.task_code.specs.declared.instr.Instr.{Instr}
use Rattle.task_code.specs.declared.instr.Instr.TheVariants as i
use Rattle.task_code.specs.contracts.instr.InstrPartialEq.TheImpl.{eq-value as instr_eq}
use Rattle.task_code.proofs.Parts.{width_exact}

pub same_add : (a : Width) (other : Instr) → instr_eq.it (i.Add a) other ≡ true → i.Add a ≡ other
same_add a (i.Add v) h = search (rules, width_exact)
same_add a other h = absurd (true≢false (sym h))

pub same_sub : (a : Width) (other : Instr) → instr_eq.it (i.Sub a) other ≡ true → i.Sub a ≡ other
same_sub a (i.Sub v) h = search (rules, width_exact)
same_sub a other h = absurd (true≢false (sym h))

pub same_mul : (a : Width) (other : Instr) → instr_eq.it (i.Mul a) other ≡ true → i.Mul a ≡ other
same_mul a (i.Mul v) h = search (rules, width_exact)
same_mul a other h = absurd (true≢false (sym h))

pub same_div : (a : Width) (other : Instr) → instr_eq.it (i.Div a) other ≡ true → i.Div a ≡ other
same_div a (i.Div v) h = search (rules, width_exact)
same_div a other h = absurd (true≢false (sym h))

pub same_rem : (a : Width) (other : Instr) → instr_eq.it (i.Rem a) other ≡ true → i.Rem a ≡ other
same_rem a (i.Rem v) h = search (rules, width_exact)
same_rem a other h = absurd (true≢false (sym h))

pub same_neg : (a : Width) (other : Instr) → instr_eq.it (i.Neg a) other ≡ true → i.Neg a ≡ other
same_neg a (i.Neg v) h = search (rules, width_exact)
same_neg a other h = absurd (true≢false (sym h))

pub same_wrap : (a : Width) (other : Instr) → instr_eq.it (i.Wrap a) other ≡ true → i.Wrap a ≡ other
same_wrap a (i.Wrap v) h = search (rules, width_exact)
same_wrap a other h = absurd (true≢false (sym h))

pub same_fill : (a : ℕ) (b : ℕ) (c : Width) (other : Instr) → instr_eq.it (i.Fill a b c) other ≡ true → i.Fill a b c ≡ other
same_fill a b c (i.Fill v w x) h = search (rules, width_exact)
same_fill a b c other h = absurd (true≢false (sym h))
