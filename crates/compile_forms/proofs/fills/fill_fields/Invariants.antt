use Rattle.std.proofs.Common.{◌≡◌, drop}
use Rattle.code_rules.specs.Assignments.{fill_code}
use Rattle.code_rules.specs.Emitted.{emitted}
use Rattle.compile_types.specs.Here.{where_of}
use Rattle.compile_forms.proofs.fills.fill_fields.Given as goal

abbrev pub invariant-loop-field : goal.invariant-loop-field
invariant-loop-field l =
    emitted l.body (fill_code (where_of l.here) l.from l.t l.slot (drop l.field-index l.fields))
    ≡ emitted l.fn.body (fill_code (where_of l.here) l.from l.t l.slot l.fields)
