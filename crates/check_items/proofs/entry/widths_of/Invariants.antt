use Rattle.std.proofs.Common.{◌≡◌, take, map}
use Rattle.regent_tree.specs.declared.types.Param.{Param}
use Rattle.check_items.specs.Entries.{width_of_term}
use Rattle.check_items.proofs.entry.widths_of.Given as goal

abbrev pub invariant-loop-param : goal.invariant-loop-param
invariant-loop-param l = l.widths.items ≡ map (λ (p : Param). width_of_term p.term) (take l.param-index l.params)
