-- An instruction whose operands are numbers is the same as one that compares equal to it.
use Rattle.std.proofs.Common.{rules}
use Rattle.std.specs.Prelude.{◌≡◌, Bool, true, ℕ, ℤ, List}
use mathlib.Core.Path.{refl, sym}
use mathlib.Core.Bool.{true≢false}
use Rattle.task_code.specs.declared.instr.Instr.{Instr}
use Rattle.task_code.specs.declared.instr.Instr.TheVariants as i
use Rattle.task_code.specs.contracts.instr.InstrPartialEq.TheImpl.{eq-value as instr_eq}

pub same_num : (a : ℤ) (other : Instr) → instr_eq.it (i.Num a) other ≡ true → i.Num a ≡ other
same_num a (i.Num v) h = search (rules)
same_num a other h = absurd (true≢false (sym h))

pub same_load : (a : ℕ) (other : Instr) → instr_eq.it (i.Load a) other ≡ true → i.Load a ≡ other
same_load a (i.Load v) h = search (rules)
same_load a other h = absurd (true≢false (sym h))

pub same_store : (a : ℕ) (other : Instr) → instr_eq.it (i.Store a) other ≡ true → i.Store a ≡ other
same_store a (i.Store v) h = search (rules)
same_store a other h = absurd (true≢false (sym h))

pub same_drop : (other : Instr) → instr_eq.it i.Drop other ≡ true → i.Drop ≡ other
same_drop i.Drop h = refl
same_drop other h = absurd (true≢false (sym h))

pub same_eq : (other : Instr) → instr_eq.it i.Eq other ≡ true → i.Eq ≡ other
same_eq i.Eq h = refl
same_eq other h = absurd (true≢false (sym h))

pub same_ne : (other : Instr) → instr_eq.it i.Ne other ≡ true → i.Ne ≡ other
same_ne i.Ne h = refl
same_ne other h = absurd (true≢false (sym h))

pub same_lt : (other : Instr) → instr_eq.it i.Lt other ≡ true → i.Lt ≡ other
same_lt i.Lt h = refl
same_lt other h = absurd (true≢false (sym h))

pub same_le : (other : Instr) → instr_eq.it i.Le other ≡ true → i.Le ≡ other
same_le i.Le h = refl
same_le other h = absurd (true≢false (sym h))

pub same_gt : (other : Instr) → instr_eq.it i.Gt other ≡ true → i.Gt ≡ other
same_gt i.Gt h = refl
same_gt other h = absurd (true≢false (sym h))

pub same_ge : (other : Instr) → instr_eq.it i.Ge other ≡ true → i.Ge ≡ other
same_ge i.Ge h = refl
same_ge other h = absurd (true≢false (sym h))

pub same_ptr_eq : (other : Instr) → instr_eq.it i.PtrEq other ≡ true → i.PtrEq ≡ other
same_ptr_eq i.PtrEq h = refl
same_ptr_eq other h = absurd (true≢false (sym h))

pub same_ptr_ne : (other : Instr) → instr_eq.it i.PtrNe other ≡ true → i.PtrNe ≡ other
same_ptr_ne i.PtrNe h = refl
same_ptr_ne other h = absurd (true≢false (sym h))

pub same_not : (other : Instr) → instr_eq.it i.Not other ≡ true → i.Not ≡ other
same_not i.Not h = refl
same_not other h = absurd (true≢false (sym h))

pub same_jump : (a : ℕ) (other : Instr) → instr_eq.it (i.Jump a) other ≡ true → i.Jump a ≡ other
same_jump a (i.Jump v) h = search (rules)
same_jump a other h = absurd (true≢false (sym h))

pub same_jump_if_not : (a : ℕ) (other : Instr) → instr_eq.it (i.JumpIfNot a) other ≡ true → i.JumpIfNot a ≡ other
same_jump_if_not a (i.JumpIfNot v) h = search (rules)
same_jump_if_not a other h = absurd (true≢false (sym h))

pub same_and_jump : (a : ℕ) (other : Instr) → instr_eq.it (i.AndJump a) other ≡ true → i.AndJump a ≡ other
same_and_jump a (i.AndJump v) h = search (rules)
same_and_jump a other h = absurd (true≢false (sym h))

pub same_or_jump : (a : ℕ) (other : Instr) → instr_eq.it (i.OrJump a) other ≡ true → i.OrJump a ≡ other
same_or_jump a (i.OrJump v) h = search (rules)
same_or_jump a other h = absurd (true≢false (sym h))

pub same_point : (other : Instr) → instr_eq.it i.Point other ≡ true → i.Point ≡ other
same_point i.Point h = refl
same_point other h = absurd (true≢false (sym h))

pub same_is_null : (other : Instr) → instr_eq.it i.IsNull other ≡ true → i.IsNull ≡ other
same_is_null i.IsNull h = refl
same_is_null other h = absurd (true≢false (sym h))

pub same_at : (a : ℕ) (other : Instr) → instr_eq.it (i.At a) other ≡ true → i.At a ≡ other
same_at a (i.At v) h = search (rules)
same_at a other h = absurd (true≢false (sym h))

pub same_space : (other : Instr) → instr_eq.it i.Space other ≡ true → i.Space ≡ other
same_space i.Space h = refl
same_space other h = absurd (true≢false (sym h))

pub same_colors : (a : ℕ) (other : Instr) → instr_eq.it (i.Colors a) other ≡ true → i.Colors a ≡ other
same_colors a (i.Colors v) h = search (rules)
same_colors a other h = absurd (true≢false (sym h))

pub same_new_root : (a : ℕ) (other : Instr) → instr_eq.it (i.NewRoot a) other ≡ true → i.NewRoot a ≡ other
same_new_root a (i.NewRoot v) h = search (rules)
same_new_root a other h = absurd (true≢false (sym h))

pub same_equal : (a : ℕ) (other : Instr) → instr_eq.it (i.Equal a) other ≡ true → i.Equal a ≡ other
same_equal a (i.Equal v) h = search (rules)
same_equal a other h = absurd (true≢false (sym h))

pub same_by_field : (a : ℕ) (b : ℕ) (other : Instr) → instr_eq.it (i.ByField a b) other ≡ true → i.ByField a b ≡ other
same_by_field a b (i.ByField v w) h = search (rules)
same_by_field a b other h = absurd (true≢false (sym h))

pub same_image : (a : ℕ) (b : ℕ) (c : ℕ) (d : ℕ) (other : Instr) → instr_eq.it (i.Image a b c d) other ≡ true → i.Image a b c d ≡ other
same_image a b c d (i.Image v w x y) h = search (rules)
same_image a b c d other h = absurd (true≢false (sym h))

pub same_preimage : (a : ℕ) (b : ℕ) (c : ℕ) (d : ℕ) (other : Instr) → instr_eq.it (i.Preimage a b c d) other ≡ true → i.Preimage a b c d ≡ other
same_preimage a b c d (i.Preimage v w x y) h = search (rules)
same_preimage a b c d other h = absurd (true≢false (sym h))

pub same_meet : (a : ℕ) (b : ℕ) (c : ℕ) (other : Instr) → instr_eq.it (i.Meet a b c) other ≡ true → i.Meet a b c ≡ other
same_meet a b c (i.Meet v w x) h = search (rules)
same_meet a b c other h = absurd (true≢false (sym h))

pub same_join : (a : ℕ) (b : ℕ) (c : ℕ) (other : Instr) → instr_eq.it (i.Join a b c) other ≡ true → i.Join a b c ≡ other
same_join a b c (i.Join v w x) h = search (rules)
same_join a b c other h = absurd (true≢false (sym h))

pub same_minus : (a : ℕ) (b : ℕ) (c : ℕ) (other : Instr) → instr_eq.it (i.Minus a b c) other ≡ true → i.Minus a b c ≡ other
same_minus a b c (i.Minus v w x) h = search (rules)
same_minus a b c other h = absurd (true≢false (sym h))

pub same_child : (a : ℕ) (other : Instr) → instr_eq.it (i.Child a) other ≡ true → i.Child a ≡ other
same_child a (i.Child v) h = search (rules)
same_child a other h = absurd (true≢false (sym h))

pub same_turn : (other : Instr) → instr_eq.it i.Turn other ≡ true → i.Turn ≡ other
same_turn i.Turn h = refl
same_turn other h = absurd (true≢false (sym h))

pub same_next_number : (a : ℕ) (b : ℕ) (c : ℕ) (d : ℕ) (other : Instr) → instr_eq.it (i.NextNumber a b c d) other ≡ true → i.NextNumber a b c d ≡ other
same_next_number a b c d (i.NextNumber v w x y) h = search (rules)
same_next_number a b c d other h = absurd (true≢false (sym h))

pub same_next_point : (a : ℕ) (b : ℕ) (c : ℕ) (d : Bool) (e : ℕ) (other : Instr) → instr_eq.it (i.NextPoint a b c d e) other ≡ true → i.NextPoint a b c d e ≡ other
same_next_point a b c d e (i.NextPoint v w x y z) h = search (rules)
same_next_point a b c d e other h = absurd (true≢false (sym h))

pub same_call : (a : ℕ) (b : ℕ) (other : Instr) → instr_eq.it (i.Call a b) other ≡ true → i.Call a b ≡ other
same_call a b (i.Call v w) h = search (rules)
same_call a b other h = absurd (true≢false (sym h))

pub same_assert : (other : Instr) → instr_eq.it i.Assert other ≡ true → i.Assert ≡ other
same_assert i.Assert h = refl
same_assert other h = absurd (true≢false (sym h))

pub same_return : (other : Instr) → instr_eq.it i.Return other ≡ true → i.Return ≡ other
same_return i.Return h = refl
same_return other h = absurd (true≢false (sym h))

pub same_return_value : (other : Instr) → instr_eq.it i.ReturnValue other ≡ true → i.ReturnValue ≡ other
same_return_value i.ReturnValue h = refl
same_return_value other h = absurd (true≢false (sym h))
