use Rattle.std.proofs.Common.{◌≡◌, ◌++◌, take}
use Rattle.std.specs.Prelude.{flat_map}
use Rattle.regent_tree.specs.PlainProgram.{tree_of}
use Rattle.check_rules.specs.rules.Privileges.{rights_of_clause}
use Rattle.check_expressions.proofs.rights.Declaring.add_clauses.Given as goal

abbrev pub invariant-loop-clause : goal.invariant-loop-clause
invariant-loop-clause l = l.rights.items ≡ l.initial.rights.items
    ++ flat_map (rights_of_clause (tree_of l.self.tables.now) l.self.params.now) (take l.clause-index l.clauses)
