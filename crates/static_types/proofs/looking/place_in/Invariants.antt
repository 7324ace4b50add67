use Rattle.std.proofs.Common.{◌≡◌, ◌+◌, drop}
use Rattle.regent_tree.specs.StaticTypes.{place_in}
use Rattle.static_types.proofs.looking.place_in.Given as goal

abbrev pub invariant-loop-place : goal.invariant-loop-place
invariant-loop-place l = l.place + place_in (drop l.place l.params) l.name ≡ place_in l.params l.name
