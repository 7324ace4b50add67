-- Single instructions, and the few behind an operand: what a value becomes where another type is wanted,
-- and which instruction an operator, a prefix, a conversion or a step comes to.
use Rattle.std.specs.Prelude.{ℕ, List, [], ◌∷◌, Bool, true, false, cond}
use Rattle.std.specs.List.{position_or_len}
use Rattle.std.specs.Prelude.{bytes_eq}
use Rattle.lane_kernels.specs.declared.numbers.Width.{Width}
use Rattle.lane_kernels.specs.declared.numbers.Width.TheVariants.{W32, W64}
use Rattle.regent_tree.specs.declared.expression.Arithmetic.{Arithmetic}
use Rattle.regent_tree.specs.declared.expression.Arithmetic.TheVariants as arithmetic
use Rattle.regent_tree.specs.declared.expression.Comparison.{Comparison}
use Rattle.regent_tree.specs.declared.expression.Comparison.TheVariants as comparison
use Rattle.regent_tree.specs.declared.expression.Operator.{Operator}
use Rattle.regent_tree.specs.declared.expression.Operator.TheVariants.{Compare, Compute}
use Rattle.regent_tree.specs.declared.expression.Sign.{Sign}
use Rattle.regent_tree.specs.declared.expression.Sign.TheVariants.{Minus, Not}
use Rattle.regent_tree.specs.declared.types.NumberTerm.{NumberTerm}
use Rattle.regent_tree.specs.declared.types.NumberTerm.TheVariants as number
use Rattle.regent_tree.specs.declared.typing.StaticType.{StaticType}
use Rattle.regent_tree.specs.declared.typing.StaticType.TheVariants.{Integer as integer_type, Truth as truth_type, Index as index_type, Pointer as pointer_type, Partition as partition_type}
use Rattle.regent_tree.specs.Syntax.{Name, Tree, ItemForm, task_item, TaskTree, Steps, no_step, field_step, at_step}
use Rattle.regent_tree.specs.StaticTypes.{field_place}
use Rattle.regent_tree.specs.Typing.{operated, are_pointers, reaches_of, positions, width_of_type}
use Rattle.regent_tree.specs.Accesses.{space_in}
use Rattle.task_code.specs.declared.instr.Instr.{Instr}
use Rattle.task_code.specs.declared.instr.Instr.TheVariants as instr
use Rattle.code_rules.specs.Pieces.{Piece, empty, op, ◌⨟◌}
use Rattle.code_rules.specs.Slots.{Where, slots_of, spare, stays}

abbrev pub tasks_of : Tree → List TaskTree
tasks_of [] = []
tasks_of (i ∷ items) = with_task i.form (tasks_of items)
  where
    with_task : ItemForm → List TaskTree → List TaskTree
    with_task (task_item t) rest = t ∷ rest
    with_task _ rest = rest

abbrev pub place_of_task : Tree → Name → ℕ
place_of_task tree n = position_or_len (λ (t : TaskTree). bytes_eq t.name n) (tasks_of tree)

-- ---- single instructions

abbrev pub one : Where → Instr → Piece
one w i = op i w.line

-- a pointer stands for its point number
abbrev pub standing_code : Where → StaticType → Piece
standing_code w (pointer_type k sp args rs) = one w instr.Point
standing_code w _ = empty

abbrev pub operand_code : Where → Bool → StaticType → Piece
operand_code w true t = empty
operand_code w false t = standing_code w t

-- a number where an integer is wanted: it is wrapped, unless it has that width already
abbrev pub width_code : Where → StaticType → Width → Piece
width_code w (integer_type W32) W32 = empty
width_code w (integer_type W64) W64 = empty
width_code w from v = one w (instr.Wrap v)

-- a value of a type where another type is wanted
abbrev pub converted_code : Where → StaticType → StaticType → Piece
converted_code w from (integer_type v) = width_code w from v
converted_code w from (index_type k) = standing_code w from
converted_code w from (pointer_type k sp args reaches) =
    one w (instr.Move (positions w.scope.known (reaches_of from) reaches))
converted_code w from _ = empty

-- a number of the one type is one of the other as it is
abbrev pub keeps_number : StaticType → StaticType → Bool
keeps_number (integer_type W32) (integer_type W32) = true
keeps_number (integer_type W64) (integer_type W64) = true
keeps_number truth_type truth_type = true
keeps_number (integer_type v) (index_type k) = true
keeps_number (index_type j) (index_type k) = true
keeps_number from to = false

abbrev pub computing : Arithmetic → Width → Instr
computing arithmetic.Add v = instr.Add v
computing arithmetic.Subtract v = instr.Sub v
computing arithmetic.Multiply v = instr.Mul v
computing arithmetic.Divide v = instr.Div v
computing arithmetic.Remainder v = instr.Rem v

abbrev pub comparing : Comparison → Bool → Instr
comparing comparison.Equal true = instr.PtrEq
comparing comparison.NotEqual true = instr.PtrNe
comparing comparison.Equal false = instr.Eq
comparing comparison.NotEqual false = instr.Ne
comparing comparison.Less _ = instr.Lt
comparing comparison.AtMost _ = instr.Le
comparing comparison.Greater _ = instr.Gt
comparing comparison.AtLeast _ = instr.Ge

abbrev pub operating : Operator → StaticType → StaticType → Instr
operating (Compute o) t u = computing o (width_of_type (operated (Compute o) t u))
operating (Compare c) t u = comparing c (are_pointers t u)
operating _ t u = instr.Drop

abbrev pub sign_code : Where → StaticType → Sign → Piece
sign_code w t Not = one w instr.Not
sign_code w t Minus = one w (instr.Neg (width_of_type t))

abbrev pub signs_code : Where → StaticType → List Sign → Piece
signs_code w t [] = empty
signs_code w t (s ∷ ss) = signs_code w t ss ⨟ sign_code w t s

abbrev pub as_number_code : Where → NumberTerm → Piece
as_number_code w number.Int32 = one w (instr.Wrap W32)
as_number_code w number.Int64 = one w (instr.Wrap W64)
as_number_code w (number.Index k) = empty

abbrev pub cast_code : Where → StaticType → StaticType → Piece
cast_code w (pointer_type k sp args rs) to = one w (instr.CastPtr (slots_of w 0 to))
cast_code w _ to = one w (instr.Cast (slots_of w 0 to))

-- `x.f` and `x[e]` of a thing of a type, with its region's slot or its own
abbrev pub field_code : Where → StaticType → ℕ → Name → Piece
field_code w (partition_type d r p) s f = one w (instr.Colors s)
field_code w t s f = one w (instr.Read (slots_of w s t) (field_place w.tree (space_in t) f))

abbrev pub element_code : Where → StaticType → ℕ → Piece
element_code w (partition_type d r p) s = one w (instr.Child s)
element_code w t s = one w (instr.At s)

-- a child with steps behind it is put into a slot
abbrev pub kept_code : Where → ℕ → StaticType → Steps → Piece
kept_code w d (partition_type e r p) (field_step f rest) = one w (instr.Store (spare w d))
kept_code w d (partition_type e r p) (at_step f rest) = one w (instr.Store (spare w d))
kept_code w d t rest = empty

-- where the region of an element is
abbrev pub slot_after : Where → ℕ → StaticType → ℕ → ℕ
slot_after w d (partition_type e r p) s = spare w d
slot_after w d t s = s

-- a variable before the steps of an access
abbrev pub load_code : Where → StaticType → ℕ → Steps → Piece
load_code w t s no_step = one w (instr.Load s)
load_code w t s steps = cond (stays t) empty (one w (instr.Load s))
