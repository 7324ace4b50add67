use Rattle.std.proofs.Common.{◌<◌, ◌∙◌, arith}
use Rattle.point_sets.specs.declared.TheConstants.{POINT_LIMIT}
use Rattle.partitions.proofs.Colours.{colours_agree}
use Rattle.partitions.proofs.Apart.{field_apart}
use Rattle.partitions.proofs.Inside.{field_parts}
use Rattle.partitions.proofs.Reached.{field_is}
use Rattle.partitions.proofs.fields.by_field.Goals as goal

pub returns-clause-sets : goal.returns-clause-sets
returns-clause-sets c =
    c.in_ok-sets.ensures
    ∙ colours_agree _ _ c.args.colours (λ k l. let low : k < POINT_LIMIT = omega arith in
    field_is c.args.region.now c.args.values.now c.in_ok-links.links c.new.ensures.region
    c.in_ok-links.ensures.links k low)

pub returns-clause-parts : goal.returns-clause-parts
returns-clause-parts c =
    rw (returns-clause-sets c) (field_parts c.args.region.now c.args.values.now c.args.colours
    c.new.ensures.region.rising)

pub returns-clause-apart : goal.returns-clause-apart
returns-clause-apart c =
    rw (returns-clause-sets c) (field_apart c.args.region.now c.args.values.now c.args.colours
    c.new.ensures.region.rising)
