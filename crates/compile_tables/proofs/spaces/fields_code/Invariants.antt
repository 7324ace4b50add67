use Rattle.std.proofs.Common.{◌≡◌, take, map}
use Rattle.compile_tables.specs.Spaces.{field_code}
use Rattle.compile_tables.proofs.spaces.fields_code.Given as goal

abbrev pub invariant-loop-field : goal.invariant-loop-field
invariant-loop-field l = l.codes ≡ map field_code (take l.field-index l.fields)
