use Rattle.std.proofs.Common.{ap, ◌+◌, ◌-◌, ◌/◌, ◌∙◌}
use Rattle.bit_planes.specs.Words.{placed}
use Rattle.bit_planes.proofs.Joining.{no_points}
use Rattle.bit_planes.proofs.builder.PlaneBuilder.new.Goals as goal

pub returns-clause-none : goal.returns-clause-none
returns-clause-none c =
    ap (placed (c.args.first / 64)) (c.in_ok-words.ensures.items_if_clones_equal (λ y e. e)) ∙ no_points (c.args.first / 64) (c.args.last / 64 + 1 - c.args.first / 64)
