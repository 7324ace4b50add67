use Rattle.std.proofs.Common.{◌≡◌, drop}
use Rattle.regent_tree.specs.Plain.{steps_in}
use Rattle.regent_tree.specs.Typing.{stepped_type}
use Rattle.compile_types.specs.Here.{where_of}
use Rattle.compile_types.proofs.typing.stepped_type.Given as goal

abbrev pub invariant-loop-step : goal.invariant-loop-step
invariant-loop-step l =
    stepped_type (where_of l.here).tree (where_of l.here).scope l.t (steps_in (drop l.step-index l.steps))
    ≡ stepped_type (where_of l.here).tree (where_of l.here).scope l.fn.head (steps_in l.steps)
