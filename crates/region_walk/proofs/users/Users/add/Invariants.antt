use Rattle.std.proofs.Common.{◌≡◌, ◌++◌, IsPermutation, drop, filter, map}
use Rattle.region_finder.specs.Listings.{placed}
use Rattle.region_walk.specs.Users.{is_of_another, listed_need}
use Rattle.region_walk.proofs.users.Users.add.Given as goal

abbrev pub invariant-loop-need : goal.invariant-loop-need
invariant-loop-need g l = record {
  added : IsPermutation
      (map (listed_need l.context l.op) (map (placed (g.P.Paths.forest l.tree)) l.needs) ++ l.initial.self)
      (map (listed_need l.context l.op) (map (placed (g.P.Paths.forest l.tree)) (drop l.need-index l.needs)) ++ l.self);
  others : filter (is_of_another l.op.0) l.self ≡ filter (is_of_another l.op.0) l.initial.self;
}
