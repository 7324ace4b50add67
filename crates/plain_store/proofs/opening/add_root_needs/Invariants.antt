use Rattle.std.proofs.Common.{◌≡◌, ◌++◌}
use Rattle.machine_terms.specs.Makes.{root_needs}
use Rattle.plain_store.proofs.opening.add_root_needs.Given as goal

abbrev pub invariant-loop-field : goal.invariant-loop-field
invariant-loop-field l = l.needs ≡ l.initial.needs ++ root_needs l.root.0 l.field
