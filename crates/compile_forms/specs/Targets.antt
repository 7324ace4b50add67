-- Targets of assignments by their last step.
use Rattle.std.specs.Prelude.{[]}
use Rattle.regent_tree.specs.Syntax.{Name, Steps, access_expr}
use Rattle.regent_tree.specs.Typing.{stepped_type}
use Rattle.regent_tree.specs.declared.expression.Step.{At, Field, Step}
use Rattle.regent_tree.specs.declared.statement.How.{How}
use Rattle.code_rules.specs.Assignments.{put_code, slot_behind}
use Rattle.code_rules.specs.Expressions.{expr_code}
use Rattle.code_rules.specs.Pieces.{Piece, ◌⨟◌}
use Rattle.code_rules.specs.Slots.{Where, bound, own_slot}

-- the field that a step takes
abbrev pub field_in : Step → Name
field_in (Field f) = f
field_in (At e) = []

-- a value goes to a field of what an access comes to
abbrev pub held_code : Where → Name → Steps → Name → How → Piece
held_code w n front f h =
    let t = (bound w n).static_type in
    expr_code w 0 (access_expr n front)
    ⨟ put_code w (stepped_type w.tree w.scope t front)
    (slot_behind w 0 t (own_slot w t (bound w n).place) front) f h
