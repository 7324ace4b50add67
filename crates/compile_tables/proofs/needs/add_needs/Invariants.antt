use Rattle.std.proofs.Common.{◌≡◌, ◌++◌, map, take}
use Rattle.compile_tables.specs.Needs.{need_at}
use Rattle.compile_tables.proofs.needs.add_needs.Given as goal

abbrev pub invariant-loop-field : goal.invariant-loop-field
invariant-loop-field l = l.needs ≡ l.initial.needs ++ map (need_at l.param l.mode) (take l.field-index l.fields)
