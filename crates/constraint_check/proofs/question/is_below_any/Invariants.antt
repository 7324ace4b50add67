use Rattle.std.proofs.Common.{◌≡◌, drop}
use Rattle.std.specs.List.{list_any}
use Rattle.regent_tree.specs.Facts.{is_below}
use Rattle.regent_tree.specs.declared.facts.Term.TheVariants.{Name}
use Rattle.constraint_check.proofs.question.is_below_any.Given as goal

abbrev pub invariant-loop-name : goal.invariant-loop-name
invariant-loop-name l = list_any (λ n. is_below l.rows l.a (Name n)) (drop l.name-index l.names)
    ≡ list_any (λ n. is_below l.rows l.a (Name n)) l.names
