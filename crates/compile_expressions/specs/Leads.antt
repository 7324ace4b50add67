-- What the steps of an access come to.
use Rattle.std.specs.Prelude.{◌≡◌, ℕ, List}
use Rattle.regent_tree.specs.Syntax.{Name, Steps, access_expr}
use Rattle.regent_tree.specs.Typing.{stepped_type}
use Rattle.task_code.specs.declared.code.Line.{Line}
use Rattle.code_rules.specs.Assignments.{slot_behind}
use Rattle.code_rules.specs.Emitted.{emitted}
use Rattle.code_rules.specs.Expressions.{expr_code, steps_code}
use Rattle.code_rules.specs.Slots.{Where, bound, own_slot, typed}
use Rattle.compile_expressions.specs.declared.reached.Reached.{Reached}

-- With the code so far, and from a thing that was reached, the rest of the steps comes to what all of them
-- come to from another: to the same code, type and slot.
pub record Leads (w : Where) (before after : List Line) (from now : Reached) (steps rest : Steps) : Type 0 where
  pub code : emitted after (steps_code w now.depth now.static_type now.slot rest)
      ≡ emitted before (steps_code w from.depth from.static_type from.slot steps)
  pub typed : stepped_type w.tree w.scope now.static_type rest
      ≡ stepped_type w.tree w.scope from.static_type steps
  pub slot : slot_behind w now.depth now.static_type now.slot rest
      ≡ slot_behind w from.depth from.static_type from.slot steps

-- an access has put its code behind a body, and has reached what it comes to
pub record IsReached (w : Where) (before after : List Line) (depth : ℕ) (n : Name) (steps : Steps) (r : Reached) : Type 0 where
  pub code : after ≡ emitted before (expr_code w depth (access_expr n steps))
  pub typed : r.static_type ≡ typed w (access_expr n steps)
  pub slot : r.slot ≡ slot_behind w depth (bound w n).static_type (own_slot w (bound w n).static_type (bound w n).place) steps
