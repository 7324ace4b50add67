use Rattle.std.proofs.Common.{◌∙◌}
use Rattle.plain_values.specs.Points.{IsPoints}
use Rattle.point_sets.specs.declared.TheConstants.{POINT_LIMIT}
use Rattle.partitions.proofs.Colours.{map_agree}
use Rattle.partitions.proofs.Inside.{filtered_parts}
use Rattle.partitions.proofs.Reached.{image_is}
use Rattle.partitions.proofs.images.image.Goals as goal

pub returns-clause-sets : goal.returns-clause-sets
returns-clause-sets c =
    c.in_ok-images.ensures.value
    ∙ map_agree (IsPoints POINT_LIMIT) _ _
    (λ set inside. image_is c.args.parent.now c.args.region.now c.args.values.now
    c.args.pointers c.in_ok-links.links c.new.ensures.parent c.in_ok-links.ensures.links set)
    c.args.sets.now c.in_ok-images.ensures.points

pub returns-clause-parts : goal.returns-clause-parts
returns-clause-parts c =
    rw (returns-clause-sets c) (filtered_parts c.args.parent.now _ c.args.sets.now
    c.new.ensures.parent.rising)
