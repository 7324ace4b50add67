use Rattle.std.proofs.Common.{◌≡◌, ◌≤◌, ◌+◌, drop}
use Rattle.region_walk.specs.Found.{put_met}
use Rattle.region_walk.specs.Keeping.{live, live_users}
use Rattle.region_walk.specs.Near.{near_users}
use Rattle.region_walk.proofs.users.Users.find_all.Given as goal

abbrev pub invariant-loop-need : goal.invariant-loop-need
invariant-loop-need g l = record {
  found : put_met (g.P.Paths.forest l.tree) l.context.0 (drop l.need-index l.needs) (live_users (live l.listed) l.self) l.found
      ≡ put_met (g.P.Paths.forest l.tree) l.context.0 l.needs (live_users (live l.listed) l.self) l.initial.found;
  bound : l.steps + near_users (g.P.Paths.forest l.tree) l.context.0 (drop l.need-index l.needs) (live_users (live l.listed) l.self)
      ≤ l.initial.steps + near_users (g.P.Paths.forest l.tree) l.context.0 l.needs (live_users (live l.listed) l.self);
  steps : l.initial.steps ≤ l.steps;
}
