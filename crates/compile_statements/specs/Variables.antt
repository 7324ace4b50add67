-- The code of a `var` whose variable has a given type.
use Rattle.std.specs.Prelude.{Option}
use Rattle.regent_tree.specs.Syntax.{Initializer}
use Rattle.regent_tree.specs.declared.typing.StaticType.{StaticType}
use Rattle.regent_tree.specs.declared.types.TypeTerm.{TypeTerm}
use Rattle.task_code.specs.declared.instr.Instr.TheVariants as instr
use Rattle.code_rules.specs.Initializers.{initializer_code, new_place}
use Rattle.code_rules.specs.Instructions.{one}
use Rattle.code_rules.specs.Pieces.{Piece, ◌⨟◌}
use Rattle.code_rules.specs.Slots.{Where, slot}
use Rattle.code_rules.specs.Statements.{call_begun, kept_or}

-- its value goes into its slot from the stack
abbrev pub from_stack : Where → Option TypeTerm → StaticType → Option Initializer → Piece
from_stack w term t i = initializer_code w term t i ⨟ one w (instr.Store (slot w (new_place w)))

-- a call's result goes there as it comes, where that may be
abbrev pub begun_as : Where → Option TypeTerm → StaticType → Option Initializer → Piece
begun_as w term t i = kept_or w (slot w (new_place w)) (call_begun w t i) (from_stack w term t i)
