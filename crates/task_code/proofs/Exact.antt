-- Instructions compare equal exactly where they are the same.
use Rattle.std.proofs.Common.{rules}
use Rattle.std.specs.Prelude.{◌≡◌, Bool, true}
use mathlib.Core.Path.{refl, subst}
use Rattle.std.specs.Cmp.Lexicographic.{pointwise, pointwise_decides}
use Rattle.index_launch.specs.contracts.points.LaunchArgPartialEq.TheImpl.{eq-value as arg_eq}
use Rattle.task_code.specs.declared.instr.Instr.{Instr}
use Rattle.task_code.specs.declared.instr.Instr.TheVariants as i
use Rattle.task_code.specs.contracts.instr.InstrPartialEq.TheImpl.{eq-value as instr_eq}
use Rattle.task_code.proofs.Parts.{arg_exact, part_exact, width_exact, op_exact}
use Rattle.task_code.proofs.Plain.{same_num, same_load, same_store, same_drop, same_eq, same_ne, same_lt, same_le, same_gt, same_ge, same_ptr_eq, same_ptr_ne, same_not, same_jump, same_jump_if_not, same_and_jump, same_or_jump, same_point, same_is_null, same_at, same_space, same_colors, same_new_root, same_equal, same_by_field, same_image, same_preimage, same_meet, same_join, same_minus, same_child, same_turn, same_next_number, same_next_point, same_call, same_assert, same_return, same_return_value}
use Rattle.task_code.proofs.Wide.{same_add, same_sub, same_mul, same_div, same_rem, same_neg, same_wrap, same_fill}
use Rattle.task_code.proofs.Lists.{same_cast, same_cast_ptr, same_launch, same_move, same_read, same_write, same_print, same_reduce}

instr_same : (x other : Instr) → instr_eq.it x other ≡ true → x ≡ other
instr_same (i.Num a) other h = same_num a other h
instr_same (i.Load a) other h = same_load a other h
instr_same (i.Store a) other h = same_store a other h
instr_same i.Drop other h = same_drop other h
instr_same (i.Add a) other h = same_add a other h
instr_same (i.Sub a) other h = same_sub a other h
instr_same (i.Mul a) other h = same_mul a other h
instr_same (i.Div a) other h = same_div a other h
instr_same (i.Rem a) other h = same_rem a other h
instr_same (i.Neg a) other h = same_neg a other h
instr_same (i.Wrap a) other h = same_wrap a other h
instr_same i.Eq other h = same_eq other h
instr_same i.Ne other h = same_ne other h
instr_same i.Lt other h = same_lt other h
instr_same i.Le other h = same_le other h
instr_same i.Gt other h = same_gt other h
instr_same i.Ge other h = same_ge other h
instr_same i.PtrEq other h = same_ptr_eq other h
instr_same i.PtrNe other h = same_ptr_ne other h
instr_same i.Not other h = same_not other h
instr_same (i.Jump a) other h = same_jump a other h
instr_same (i.JumpIfNot a) other h = same_jump_if_not a other h
instr_same (i.AndJump a) other h = same_and_jump a other h
instr_same (i.OrJump a) other h = same_or_jump a other h
instr_same i.Point other h = same_point other h
instr_same i.IsNull other h = same_is_null other h
instr_same (i.Cast a) other h = same_cast a other h
instr_same (i.CastPtr a) other h = same_cast_ptr a other h
instr_same (i.Move a) other h = same_move a other h
instr_same (i.At a) other h = same_at a other h
instr_same (i.Read a b) other h = same_read a b other h
instr_same (i.Write a b c) other h = same_write a b c other h
instr_same (i.Reduce a b c d) other h = same_reduce a b c d other h
instr_same (i.Fill a b c) other h = same_fill a b c other h
instr_same i.Space other h = same_space other h
instr_same (i.Colors a) other h = same_colors a other h
instr_same (i.NewRoot a) other h = same_new_root a other h
instr_same (i.Equal a) other h = same_equal a other h
instr_same (i.ByField a b) other h = same_by_field a b other h
instr_same (i.Image a b c d) other h = same_image a b c d other h
instr_same (i.Preimage a b c d) other h = same_preimage a b c d other h
instr_same (i.Meet a b c) other h = same_meet a b c other h
instr_same (i.Join a b c) other h = same_join a b c other h
instr_same (i.Minus a b c) other h = same_minus a b c other h
instr_same (i.Child a) other h = same_child a other h
instr_same i.Turn other h = same_turn other h
instr_same (i.NextNumber a b c d) other h = same_next_number a b c d other h
instr_same (i.NextPoint a b c d e) other h = same_next_point a b c d e other h
instr_same (i.Call a b) other h = same_call a b other h
instr_same (i.Launch a b c d) other h = same_launch a b c d other h
instr_same (i.Print a) other h = same_print a other h
instr_same i.Assert other h = same_assert other h
instr_same i.Return other h = same_return other h
instr_same i.ReturnValue other h = same_return_value other h

instr_self : (x : Instr) → instr_eq.it x x ≡ true
instr_self (i.Num a) = search (rules)
instr_self (i.Load a) = search (rules)
instr_self (i.Store a) = search (rules)
instr_self i.Drop = refl
instr_self (i.Add a) = search (rules, width_exact)
instr_self (i.Sub a) = search (rules, width_exact)
instr_self (i.Mul a) = search (rules, width_exact)
instr_self (i.Div a) = search (rules, width_exact)
instr_self (i.Rem a) = search (rules, width_exact)
instr_self (i.Neg a) = search (rules, width_exact)
instr_self (i.Wrap a) = search (rules, width_exact)
instr_self i.Eq = refl
instr_self i.Ne = refl
instr_self i.Lt = refl
instr_self i.Le = refl
instr_self i.Gt = refl
instr_self i.Ge = refl
instr_self i.PtrEq = refl
instr_self i.PtrNe = refl
instr_self i.Not = refl
instr_self (i.Jump a) = search (rules)
instr_self (i.JumpIfNot a) = search (rules)
instr_self (i.AndJump a) = search (rules)
instr_self (i.OrJump a) = search (rules)
instr_self i.Point = refl
instr_self i.IsNull = refl
instr_self (i.Cast a) = search (rules, pointwise_decides)
instr_self (i.CastPtr a) = search (rules, pointwise_decides)
instr_self (i.Move a) = search (rules, pointwise_decides)
instr_self (i.At a) = search (rules)
instr_self (i.Read a b) = search (rules, pointwise_decides)
instr_self (i.Write a b c) = search (rules, pointwise_decides, width_exact)
instr_self (i.Reduce a b c d) = search (rules, pointwise_decides, width_exact, op_exact)
instr_self (i.Fill a b c) = search (rules, width_exact)
instr_self i.Space = refl
instr_self (i.Colors a) = search (rules)
instr_self (i.NewRoot a) = search (rules)
instr_self (i.Equal a) = search (rules)
instr_self (i.ByField a b) = search (rules)
instr_self (i.Image a b c d) = search (rules)
instr_self (i.Preimage a b c d) = search (rules)
instr_self (i.Meet a b c) = search (rules)
instr_self (i.Join a b c) = search (rules)
instr_self (i.Minus a b c) = search (rules)
instr_self (i.Child a) = search (rules)
instr_self i.Turn = refl
instr_self (i.NextNumber a b c d) = search (rules)
instr_self (i.NextPoint a b c d e) = search (rules)
instr_self (i.Call a b) = search (rules)
instr_self (i.Launch a b c d) =
    let same : pointwise arg_eq.it d d ≡ true = (pointwise_decides arg_exact d d).1 refl in
    search (rules)
instr_self (i.Print a) = search (rules, pointwise_decides, part_exact)
instr_self i.Assert = refl
instr_self i.Return = refl
instr_self i.ReturnValue = refl

pub instr_exact : (x y : Instr) → (instr_eq.it x y ≡ true → x ≡ y) × (x ≡ y → instr_eq.it x y ≡ true)
instr_exact x y = (instr_same x y, λ same. subst (λ z. instr_eq.it x z ≡ true) same (instr_self x))
