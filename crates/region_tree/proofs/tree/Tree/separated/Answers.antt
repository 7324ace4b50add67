use Rattle.std.proofs.Common.{sym, ◌∙◌}
use Rattle.region_tree.proofs.Apart.{apart_from_separated, separated_tells}
use Rattle.region_tree.proofs.tree.Tree.separated.Goals as goal

pub returns-clause-paths : goal.returns-clause-paths
returns-clause-paths c =
    separated_tells c.paths_part.result c.args.self.now c.args.a.0 c.args.b.0
    c.paths_part.ensures.value

pub returns-clause-apart : goal.returns-clause-apart
returns-clause-apart c h =
    apart_from_separated c.args.self.now c.paths_part.ensures.tree c.args.a.0 c.args.b.0
    c.requires.first c.requires.second (sym c.paths_part.ensures.value ∙ h)
