use Rattle.std.proofs.Common.{◌≡◌, take}
use Rattle.regent_tree.specs.Facts.{united}
use Rattle.constraint_check.proofs.row.unite.Given as goal

abbrev pub invariant-loop-term : goal.invariant-loop-term
invariant-loop-term l = l.terms.items ≡ united l.initial.terms.items (take l.term-index l.more)
