use Rattle.std.proofs.Common.{◌≡◌, take, map}
use Rattle.regent_tree.specs.Typing.{put_in}
use Rattle.compile_types.proofs.calls.all_put_in.Given as goal

abbrev pub invariant-loop-t : goal.invariant-loop-t
invariant-loop-t l = l.all.items ≡ map (put_in l.types) (take l.t-index l.wanted)
