use Rattle.std.proofs.Common.{ℕ, [], ◌∷◌}
use Rattle.partitions.specs.Links.{targets_of}
use Rattle.partitions.proofs.Colours.{colours_more}
use Rattle.partitions.proofs.links.Links.targets_of_first.Goals as goal

pub loop-point-preserved : goal.loop-point-preserved
loop-point-preserved c =
    let before = c.loop-point.invariant in
    let pushed = c.in_ok-push.ensures.items in
    let made = c.in_ok-targets-2.ensures in
    let more = colours_more (λ (x : ℕ). targets_of c.args.self.now (x ∷ [])) c.loop-point.point in
    cc
