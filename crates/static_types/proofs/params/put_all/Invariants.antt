use Rattle.std.proofs.Common.{◌≡◌, take, map}
use Rattle.regent_tree.specs.Typing.{put}
use Rattle.static_types.proofs.params.put_all.Given as goal

abbrev pub invariant-loop-reach : goal.invariant-loop-reach
invariant-loop-reach l = l.all ≡ map (put l.types) (take l.reach-index l.reaches)
