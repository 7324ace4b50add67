-- A task instance, as the laws speak of it.
use Rattle.std.specs.Prelude.{List, ℕ}
use Rattle.regent_tree.specs.Running.{Calls}
use Rattle.regent_tree.specs.Syntax.{TaskTree, Tree}
use Rattle.regent_tree.specs.Values.{Value}

-- a task instance: its program, what calls give, its task, its arguments, and the roots that were there when
-- it began
pub record Instance : Type 0 where
  pub tree : Tree
  pub calls : Calls
  pub task : TaskTree
  pub args : List Value
  pub roots : ℕ
