use Rattle.std.proofs.Common.{◌≡◌, ◌≤◌, ◌+◌, ◌-◌, drop, filter, length}
use Rattle.region_walk.specs.Found.{put_all}
use Rattle.region_walk.specs.Keeping.{live, live_users}
use Rattle.region_walk.specs.Near.{is_met, is_near}
use Rattle.region_walk.proofs.users.Users.find.Given as goal

abbrev pub invariant-loop-place : goal.invariant-loop-place
invariant-loop-place g l = record {
  below : l.place ≤ length l.users;
  found : put_all (filter (is_met (g.P.Paths.forest l.tree) l.context.0 l.need) (live_users (live l.listed) (drop l.place l.users))) l.found
      ≡ put_all (filter (is_met (g.P.Paths.forest l.tree) l.context.0 l.need) (live_users (live l.listed) l.users)) l.initial.found;
  bound : l.steps + length (filter (is_near (g.P.Paths.forest l.tree) l.context.0 l.need) (live_users (live l.listed) (drop l.place l.users)))
      ≤ l.initial.steps + length (filter (is_near (g.P.Paths.forest l.tree) l.context.0 l.need) (live_users (live l.listed) l.users));
  steps : l.initial.steps ≤ l.steps;
}

abbrev pub decreases-loop-place : goal.decreases-loop-place
decreases-loop-place g l = length l.users - l.place
