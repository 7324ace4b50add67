use Rattle.regent_tree.specs.PlainProgram.{tree_of}
use Rattle.check_rules.specs.rules.Privileges.{rights_of_clause}
use Rattle.check_expressions.proofs.Granted.{added}
use Rattle.check_expressions.proofs.rights.Declaring.add_clauses.Goals as goal

pub loop-clause-preserved : goal.loop-clause-preserved
loop-clause-preserved c =
    added (rights_of_clause (tree_of c.args.self.now.tables.now) c.args.self.now.params.now)
    c.args.clauses.now c.loop-clause.clause-index c.clause-item.result _ _ _ c.loop-clause-test.true c.clause-item.is
    c.loop-clause.invariant c.in_ok-add_clause.ensures
