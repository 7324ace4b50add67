-- The code of assignments, of reductions and of fills: the value stands on the stack, and goes to its target.
use Rattle.std.specs.Prelude.{ℕ, suc, List, [], ◌∷◌}
use Rattle.lane_kernels.specs.declared.numbers.Op.{Op}
use Rattle.lane_kernels.specs.declared.numbers.Op.TheVariants.{Sum, Product, Greatest}
use Rattle.lane_kernels.specs.declared.numbers.Width.{Width}
use Rattle.lane_kernels.specs.Numbers.{width_of}
use Rattle.regent_tree.specs.declared.statement.How.{How}
use Rattle.regent_tree.specs.declared.statement.How.TheVariants as how
use Rattle.regent_tree.specs.declared.typing.StaticType.{StaticType}
use Rattle.regent_tree.specs.Syntax.{Name, Expression, access_expr, Steps, no_step, field_step, at_step}
use Rattle.regent_tree.specs.StaticTypes.{field_type, field_place, field_kind}
use Rattle.regent_tree.specs.Typing.{stepped_type, type_of_element, type_of_field, width_of_type}
use Rattle.regent_tree.specs.Accesses.{space_in, args_in}
use Rattle.regent_tree.specs.Execution.{before_last, last_field}
use Rattle.task_code.specs.declared.instr.Instr.{Instr}
use Rattle.task_code.specs.declared.instr.Instr.TheVariants as instr
use Rattle.code_rules.specs.Pieces.{Piece, empty, ◌⨟◌, over}
use Rattle.code_rules.specs.Slots.{Where, typed, spare, bound, slot_named, slots_of, own_slot}
use Rattle.code_rules.specs.Instructions.{one, converted_code, slot_after}
use Rattle.code_rules.specs.Expressions.{expr_code}

-- the slot of the region into which a pointer goes, after these steps
abbrev pub slot_behind : Where → ℕ → StaticType → ℕ → Steps → ℕ
slot_behind w d t s no_step = s
slot_behind w d t s (field_step f rest) =
    slot_behind w d (type_of_field w.tree t f) 0 rest
slot_behind w d t s (at_step e rest) =
    slot_behind w (suc d) (type_of_element w.scope t e) (slot_after w d t s) rest

-- a number is folded into a variable
abbrev pub smaller : Op → Instr
smaller Greatest = instr.Gt
smaller _ = instr.Lt

abbrev pub fold_code : Where → ℕ → Op → Width → Piece
fold_code w x Sum v = one w (instr.Wrap v) ⨟ one w (instr.Load x) ⨟ one w (instr.Add v)
    ⨟ one w (instr.Store x)
fold_code w x Product v = one w (instr.Wrap v) ⨟ one w (instr.Load x) ⨟ one w (instr.Mul v)
    ⨟ one w (instr.Store x)
fold_code w x o v = one w (instr.Wrap v) ⨟ one w (instr.Store (spare w 0))
    ⨟ one w (instr.Load (spare w 0)) ⨟ one w (instr.Load x) ⨟ one w (smaller o)
    ⨟ over instr.JumpIfNot w.line (one w (instr.Load (spare w 0)) ⨟ one w (instr.Store x))

abbrev pub set_code : Where → ℕ → How → StaticType → Piece
set_code w x how.Set t = one w (instr.Store x)
set_code w x (how.Reduce o) t = fold_code w x o (width_of_type t)

abbrev pub put_code : Where → StaticType → ℕ → Name → How → Piece
put_code w t s f how.Set = one w (instr.Write (slots_of w s t)
    (field_place w.tree (space_in t) f)
    (width_of (field_kind w.tree (space_in t) (field_place w.tree (space_in t) f))))
put_code w t s f (how.Reduce o) = one w (instr.Reduce (slots_of w s t)
    (field_place w.tree (space_in t) f) o
    (width_of (field_kind w.tree (space_in t) (field_place w.tree (space_in t) f))))

abbrev pub target_code : Where → Name → Steps → How → Piece
target_code w n no_step h = set_code w (slot_named w n) h (bound w n).static_type
target_code w n steps h =
    let t = (bound w n).static_type in
    expr_code w 0 (access_expr n (before_last steps))
    ⨟ put_code w (stepped_type w.tree w.scope t (before_last steps))
    (slot_behind w 0 t (own_slot w t (bound w n).place) (before_last steps)) (last_field steps) h

abbrev pub right_code : Where → Name → Steps → How → Expression → Piece
right_code w n steps (how.Reduce o) e = expr_code w 0 e
right_code w n steps how.Set e =
    expr_code w 0 e ⨟ converted_code w (typed w e) (typed w (access_expr n steps))

-- each field is filled with the value that was put aside
abbrev pub fill_code : Where → StaticType → StaticType → ℕ → List Name → Piece
fill_code w from t r [] = empty
fill_code w from t r (f ∷ fs) =
    let place = field_place w.tree (space_in t) f in
    one w (instr.Load (spare w 0))
    ⨟ converted_code w from (field_type w.tree (space_in t) (args_in t) f)
    ⨟ one w (instr.Fill r place (width_of (field_kind w.tree (space_in t) place)))
    ⨟ fill_code w from t r fs
