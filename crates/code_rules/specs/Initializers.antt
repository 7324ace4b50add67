-- The code of initializers. The value of a new variable is left on the stack; its slot is filled behind.
use Rattle.std.specs.Prelude.{ℕ, ℤ, pos, negsuc, List, ◌∷◌, Bool, true, false, cond, Option, Some, None, length}
use Rattle.regent_tree.specs.declared.expression.Arithmetic.TheVariants.{Subtract}
use Rattle.regent_tree.specs.declared.expression.Operator.TheVariants.{Compute}
use Rattle.regent_tree.specs.declared.facts.Term.TheVariants as term
use Rattle.regent_tree.specs.declared.types.TypeTerm.{TypeTerm}
use Rattle.regent_tree.specs.declared.typing.StaticType.{StaticType}
use Rattle.regent_tree.specs.declared.typing.StaticType.TheVariants.{Partition as partition_type}
use Rattle.regent_tree.specs.Syntax.{Name, Expression, chain_expr, access_expr, no_link, a_link, no_step, Initializer, region_initializer, equal_initializer, by_field_initializer, image_initializer, preimage_initializer, both_initializer, either_initializer, plain_initializer}
use Rattle.regent_tree.specs.StaticTypes.{Reach, field_place, place_of_space}
use Rattle.regent_tree.specs.Typing.{parent_of, reaches_of, is_pointer}
use Rattle.regent_tree.specs.Accesses.{space_in}
use Rattle.task_code.specs.declared.instr.Instr.TheVariants as instr
use Rattle.code_rules.specs.Pieces.{Piece, empty, ◌⨟◌}
use Rattle.code_rules.specs.Slots.{Where, typed, beside, bound, slot_named, slot_bound}
use Rattle.code_rules.specs.Instructions.{one, converted_code}
use Rattle.code_rules.specs.Expressions.{expr_code}

-- where the next name is bound
abbrev pub new_place : Where → ℕ
new_place w = length w.scope.names

abbrev pub field_of : Where → Name → Name → ℕ
field_of w r f = field_place w.tree (space_in (bound w r).static_type) f

-- whether a pointer's type names a child, whose region must stand beside the variable
abbrev pub names_child : List Reach → Bool
names_child (Some (term.Child p c) ∷ rs) = true
names_child _ = false

-- a variable that begins as another one, whose child's region is copied; of an element the region
-- stands there already
abbrev pub beside_code : Where → StaticType → Expression → Piece
beside_code w t (access_expr n no_step) = cond (names_child (reaches_of t))
    (one w (instr.Load (beside w (bound w n).place)) ⨟ one w (instr.Store (beside w (new_place w))))
    empty
beside_code w t e = empty

-- a difference of partitions
abbrev pub plain_code : Where → StaticType → Expression → Piece
plain_code w (partition_type e r own)
    (chain_expr (access_expr p no_step) (a_link (Compute Subtract) (access_expr q no_step) no_link)) =
    one w (instr.Minus (slot_named w p) (slot_named w q) (slot_bound w r))
plain_code w t e = expr_code w 0 e ⨟ beside_code w t e

-- of a written type, converted to it; a partition stays as it is
abbrev pub written_code : Where → StaticType → Expression → Piece
written_code w (partition_type d r own) e = plain_code w (partition_type d r own) e
written_code w t e = expr_code w 0 e ⨟ converted_code w (typed w e) t

abbrev pub declared_code : Where → Option TypeTerm → StaticType → Expression → Piece
declared_code w None t e = plain_code w t e
declared_code w (Some term) t e = written_code w t e

abbrev pub initialized_code : Where → Option TypeTerm → StaticType → Initializer → Piece
initialized_code w term t (region_initializer e u) =
    expr_code w 0 e ⨟ one w (instr.NewRoot (place_of_space w.tree u.name))
initialized_code w term t (equal_initializer r e) =
    expr_code w 0 e ⨟ one w (instr.Equal (slot_named w r))
initialized_code w term t (by_field_initializer r f e) =
    expr_code w 0 e ⨟ one w (instr.ByField (slot_named w r) (field_of w r f))
initialized_code w term t (image_initializer s p r f) =
    one w (instr.Image (slot_named w s) (slot_named w p) (slot_named w r) (field_of w r f))
initialized_code w term t (preimage_initializer s p r f) =
    one w (instr.Preimage (slot_named w s) (slot_named w p) (slot_named w r) (field_of w r f))
initialized_code w term t (both_initializer p q) = one w (instr.Meet (slot_named w p) (slot_named w q)
    (slot_bound w (parent_of (bound w p).static_type)))
initialized_code w term t (either_initializer p q) = one w (instr.Join (slot_named w p) (slot_named w q)
    (slot_bound w (parent_of (bound w p).static_type)))
initialized_code w term t (plain_initializer e) = declared_code w term t e

-- 0, false or null
abbrev pub zero_kept : StaticType → ℤ
zero_kept t = cond (is_pointer t) (negsuc 0) (pos 0)

abbrev pub initializer_code : Where → Option TypeTerm → StaticType → Option Initializer → Piece
initializer_code w term t None = one w (instr.Num (zero_kept t))
initializer_code w term t (Some initializer) = initialized_code w term t initializer
