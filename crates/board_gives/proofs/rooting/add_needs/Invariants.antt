use Rattle.std.proofs.Common.{◌≡◌, ◌++◌}
use Rattle.board_terms.specs.Makes.{needs_of_root}
use Rattle.board_gives.proofs.rooting.add_needs.Given as goal

abbrev pub invariant-loop-field : goal.invariant-loop-field
invariant-loop-field l = l.needs ≡ l.initial.needs ++ needs_of_root l.root l.node.0 l.field
