-- What is known of a program that is accepted.
use Rattle.std.specs.Prelude.{List, [], map, ◌≡◌}
use Rattle.lane_kernels.specs.declared.numbers.Width.{Width}
use Rattle.regent_tree.specs.Limits.{WithinLimits}
use Rattle.regent_tree.specs.StaticTypes.{entry_name, task_named}
use Rattle.regent_tree.specs.Syntax.{Tree}
use Rattle.regent_tree.specs.Typing.{param_types, width_of_type}
use Rattle.check_rules.specs.Breaches.{breaches}
use Rattle.check_rules.specs.declared.loop_shape.LoopShape.{LoopShape}
use Rattle.check_rules.specs.launches.Shapes.{loops}

-- the widths of the numbers that are given to the task that runs first
abbrev pub input_widths : Tree → List Width
input_widths tree = map width_of_type (param_types tree (task_named tree (entry_name tree)))

-- it is within the limits, it breaches no rule, and these are the widths of its inputs and its loops
pub record IsAccepted (tree : Tree) (inputs : List Width) (all : List LoopShape) : Type 0 where
  pub within : WithinLimits tree
  pub sound : breaches tree ≡ []
  pub takes : inputs ≡ input_widths tree
  pub shaped : all ≡ loops tree
