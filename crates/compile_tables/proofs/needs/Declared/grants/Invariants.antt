use Rattle.std.proofs.Common.{◌≡◌, ◌++◌, drop}
use Rattle.regent_tree.specs.PlainProgram.{task_of, tree_of}
use Rattle.code_rules.specs.Needs.{needs_of_grants}
use Rattle.compile_tables.proofs.needs.Declared.grants.Given as goal

abbrev pub invariant-loop-grant : goal.invariant-loop-grant
invariant-loop-grant l =
    l.needs ++ needs_of_grants (tree_of l.self.tables.now) (task_of l.self.task.now) (drop l.grant-index l.grants) l.places
    ≡ l.initial.needs ++ needs_of_grants (tree_of l.self.tables.now) (task_of l.self.task.now) l.grants l.places
