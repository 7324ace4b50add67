use Rattle.std.proofs.Common.{◌≡◌, drop}
use Rattle.board_terms.specs.Closings.{closed_all}
use Rattle.physical_instances.specs.Kept.{map_of}
use Rattle.board_state.proofs.closing.close_all.Given as goal

abbrev pub invariant-loop-root : goal.invariant-loop-root
invariant-loop-root l = closed_all (drop l.root-index l.roots) (map_of l.contents) ≡ closed_all l.roots (map_of l.initial.contents)
