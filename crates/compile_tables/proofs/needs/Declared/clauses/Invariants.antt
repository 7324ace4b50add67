use Rattle.std.proofs.Common.{◌≡◌, ◌++◌, drop}
use Rattle.regent_tree.specs.PlainProgram.{task_of, tree_of}
use Rattle.code_rules.specs.Needs.{needs_of_clauses}
use Rattle.compile_tables.proofs.needs.Declared.clauses.Given as goal

abbrev pub invariant-loop-clause : goal.invariant-loop-clause
invariant-loop-clause l =
    l.needs ++ needs_of_clauses (tree_of l.self.tables.now) (task_of l.self.task.now) (drop l.clause-index l.clauses)
    ≡ l.initial.needs ++ needs_of_clauses (tree_of l.self.tables.now) (task_of l.self.task.now) l.clauses
