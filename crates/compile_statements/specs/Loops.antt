-- The heads of loops.
use Rattle.std.specs.Prelude.{ℕ, pos}
use Rattle.task_code.specs.declared.instr.Instr.{Instr}
use Rattle.task_code.specs.declared.instr.Instr.TheVariants as instr
use Rattle.regent_tree.specs.Typing.{is_pointer}
use Rattle.regent_tree.specs.declared.typing.StaticType.{StaticType}
use Rattle.regent_tree.specs.Syntax.{Expression}
use Rattle.code_rules.specs.Expressions.{expr_code}
use Rattle.code_rules.specs.Initializers.{new_place}
use Rattle.code_rules.specs.Instructions.{one}
use Rattle.code_rules.specs.Pieces.{Piece, ◌⨟◌}
use Rattle.code_rules.specs.Slots.{Where, beside, counter, slot}
use Rattle.compile_statements.specs.declared.loops.Head.{Head}
use Rattle.compile_statements.specs.declared.loops.Head.TheVariants as head

-- the instruction of a head, by the place behind its loop
abbrev pub head_instr : Head → ℕ → Instr
head_instr (head.Number counter limit variable) past = instr.NextNumber counter limit variable past
head_instr (head.Point domain counter variable pointers) past = instr.NextPoint domain counter variable pointers past

-- the head of a new loop over numbers, and over points
abbrev pub number_head : Where → Head
number_head w = head.Number (counter w (new_place w)) (beside w (new_place w)) (slot w (new_place w))

abbrev pub point_head : Where → StaticType → Head
point_head w t = head.Point (beside w (new_place w)) (counter w (new_place w)) (slot w (new_place w)) (is_pointer t)

-- what stands before them
abbrev pub numbers_code : Where → Expression → Expression → Piece
numbers_code w from to = expr_code w 0 from ⨟ expr_code w 0 to
    ⨟ one w (instr.Store (beside w (new_place w))) ⨟ one w (instr.Store (counter w (new_place w)))

abbrev pub domain_code : Where → Expression → Piece
domain_code w domain = expr_code w 0 domain ⨟ one w (instr.Store (beside w (new_place w)))

-- the counter of a loop that goes point by point
abbrev pub counter_code : Where → Piece
counter_code w = one w (instr.Num (pos 0)) ⨟ one w (instr.Store (counter w (new_place w)))
