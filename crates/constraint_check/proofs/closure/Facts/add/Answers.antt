use Rattle.std.proofs.Common.{◌≡◌, ◌∙◌, sym, ap, subst, List, [], ◌∷◌, ◌++◌}
use Rattle.regent_tree.specs.Facts.{above_end}
use Rattle.regent_tree.specs.declared.facts.Known.{Known}
use Rattle.constraint_check.specs.Rows.{IsClosed, facts_of}
use Rattle.constraint_check.proofs.Table.{facts_of-with_row}
use Rattle.constraint_check.proofs.closure.Facts.add.Goals as goal

-- where memory ran out the rows are the old ones
pub invariant_of-self : goal.invariant_of-self
invariant_of-self c = subst IsClosed (sym c.in_err-add_fact.ensures.err) c.self.invariant

-- the facts of the new rows are the old ones and the new one
facts_are : (c : goal.In_ok-add_fact) → facts_of c.add_fact.new.rows.items ≡ facts_of c.self.inside.rows.items ++ c.args.known ∷ []
facts_are c =
    ap facts_of c.in_ok-add_fact.ensures.ok
    ∙ facts_of-with_row c.self.inside.rows.items c.args.known (above_end c.self.inside.rows.items c.args.known)

pub returns-clause-ok : goal.returns-clause-ok
returns-clause-ok c = facts_are c ∙ ap (λ (facts : List Known). facts ++ c.args.known ∷ []) c.self.view_is
