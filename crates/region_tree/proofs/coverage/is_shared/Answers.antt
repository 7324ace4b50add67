use Rattle.std.proofs.Common.{sym, ◌∙◌}
use Rattle.std.proofs.lemmas.Bool.{false≢true}
use Rattle.region_tree.proofs.SharedModes.{covers-from_shared}
use Rattle.region_tree.proofs.coverage.is_shared.Goals as goal
use Rattle.region_tree.proofs.coverage.is_shared.Goals.{then-are_in_mode, else-are_in_mode}

pub returns-then-are_in_mode-2 : goal.returns-then-are_in_mode-2
returns-then-are_in_mode-2 c h = elim c.if-are_in_mode.branch [
  | then-are_in_mode w ↦ covers-from_shared c.args.tree.now c.args.ours.now c.args.theirs.now
      c.args.need.now (sym c.are_in_mode.ensures ∙ w.if-are_in_mode.true)
      (sym w.are_in_mode-then-are_in_mode.ensures ∙ sym w.value-is ∙ c.if-are_in_mode-2.true)
      (c.has_all_points.ensures h)
  | else-are_in_mode w ↦ absurd
      (false≢true (sym w.if-are_in_mode.false ∙ sym w.value-is ∙ c.if-are_in_mode-2.true))
]
