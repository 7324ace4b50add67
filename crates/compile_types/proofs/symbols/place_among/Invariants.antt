use Rattle.std.proofs.Common.{◌≡◌, ◌+◌, drop}
use Rattle.compile_types.specs.Symbols.{named_tasks, place_among}
use Rattle.compile_types.proofs.symbols.place_among.Given as goal

abbrev pub invariant-loop-place : goal.invariant-loop-place
invariant-loop-place l =
    l.place + place_among (named_tasks (drop l.place l.tasks)) l.name ≡ place_among (named_tasks l.tasks) l.name
