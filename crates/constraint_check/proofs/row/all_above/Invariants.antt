use Rattle.std.proofs.Common.{◌≡◌, [], ◌∷◌, take, fold}
use Rattle.regent_tree.specs.Facts.{with_raised}
use Rattle.constraint_check.proofs.row.all_above.Given as goal

abbrev pub invariant-loop-row : goal.invariant-loop-row
invariant-loop-row l = l.above.items ≡ fold (with_raised l.term) (l.term ∷ []) (take l.row-index l.rows)
