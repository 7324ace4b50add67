use Rattle.region_tree.proofs.Dividing.{only_result}
use Rattle.region_tree.proofs.required_part.points_only.Goals as goal

pub returns : goal.returns
returns c =
    only_result c.args.needs.now c.args.root.0 c.args.field
    c.args.mode c.in_ok-own.own c.in_ok-others.others c.minus.result c.requires
    c.in_ok-own.ensures.has c.in_ok-others.ensures.has c.minus.ensures.value
    c.minus.ensures.points
