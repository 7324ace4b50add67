use Rattle.std.proofs.Common.{◌≡◌, map, take}
use Rattle.task_code.specs.declared.code.FieldCode.{FieldCode}
use Rattle.board_gives.proofs.rooting.kinds_in.Given as goal

abbrev pub invariant-loop-field : goal.invariant-loop-field
invariant-loop-field l = l.kinds.items ≡ map (λ (f : FieldCode). f.kind) (take l.field-index l.fields)
