-- Where a body is checked.
use Rattle.std.specs.Prelude.{◌≡◌}
use Rattle.regent_tree.specs.PlainProgram.{task_of, tree_of}
use Rattle.regent_tree.specs.Syntax.{TaskTree, Tree}
use Rattle.check_rules.specs.rules.Privileges.{rights_declared}
use Rattle.check_expressions.specs.declared.site.Site.{Site}

abbrev pub tree_at : Site → Tree
tree_at s = tree_of s.declared.now

abbrev pub task_at : Site → TaskTree
task_at s = task_of s.task.now

-- the privileges at hand are those that the task declares
abbrev pub HoldsDeclared : Site → Type 0
HoldsDeclared s = s.held ≡ rights_declared (tree_at s) (task_at s)
