use Rattle.std.proofs.Common.{◌≡◌, length, ap, sym, ◌∙◌, refl, add-one, arith}
use Rattle.regent_tree.specs.Partitions.{equal_part}
use Rattle.partitions.proofs.Apart.{equal_apart}
use Rattle.partitions.proofs.Colours.{colours_more}
use Rattle.partitions.proofs.Inside.{equal_parts}
use Rattle.partitions.proofs.equal_sizes.equal.Goals as goal

pub loop-colour-preserved : goal.loop-colour-preserved
loop-colour-preserved c =
    let r = c.in_ok-points.points.items in
    let colour = c.loop-colour.colour in
    let before = c.loop-colour.invariant in
    let pushed = c.in_ok-push.ensures.items in
    let more = colours_more (equal_part r c.args.colours) colour in
    let slice = c.deref.ensures.value in
    let first = c.first_place-first.ensures.value in
    let end = c.first_place-end.ensures.value in
    let count = c.len-count.ensures.value ∙ ap length (sym c.in_ok-points.ensures.value) in
    let part : c.in_ok-from_sorted.field-0 ≡ equal_part r c.args.colours colour =
    c.in_ok-from_sorted.ensures.value ∙ rw (slice, first, end, count, add-one) refl in
    cc

pub returns-clause-sets : goal.returns-clause-sets
returns-clause-sets c =
    let all : c.loop-colour.colour ≡ c.args.colours = omega arith in
    let region = c.in_ok-points.ensures.value in
    rw (c.loop-colour.invariant, all, region) refl

pub returns-clause-parts : goal.returns-clause-parts
returns-clause-parts c =
    rw (returns-clause-sets c) (equal_parts c.args.region.now c.args.colours
    c.listed.ensures.points)

pub returns-clause-apart : goal.returns-clause-apart
returns-clause-apart c =
    rw (returns-clause-sets c) (equal_apart c.args.region.now c.args.colours
    c.listed.ensures.points.rising)
