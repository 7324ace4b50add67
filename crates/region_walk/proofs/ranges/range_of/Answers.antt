use Rattle.std.proofs.Common.{⊎_elim, get_or}
use Rattle.region_walk.proofs.Heads.{outside_whole}
use Rattle.region_walk.proofs.ranges.range_of.Goals as goal

pub returns-in-Ok-clause-others : goal.returns-in-Ok-clause-others
returns-in-Ok-clause-others g c =
    let range = c.end_of.ensures.range in
    λ i d l o u. outside_whole (g.P.Paths.forest c.args.tree.now) c.args.context c.args.op c.args.need.now c.in-Ok.top (get_or c.args.users.now i d)
    c.in-Ok.ensures.forest c.in-Ok.ensures.user u
    (⊎_elim (λ a. range.before i d a) (λ b. range.behind i d b l) o)
