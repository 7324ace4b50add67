use Rattle.std.proofs.Common.{◌≡◌, ◌++◌, drop}
use Rattle.compile_types.specs.Symbols.{named_tasks, tasks_in}
use Rattle.compile_types.proofs.symbols.tasks_among.Given as goal

abbrev pub invariant-loop-item : goal.invariant-loop-item
invariant-loop-item l = named_tasks l.tasks.items ++ tasks_in (drop l.item-index l.items) ≡ tasks_in l.items
