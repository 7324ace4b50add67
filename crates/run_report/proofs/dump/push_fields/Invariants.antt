use Rattle.std.proofs.Common.{◌≡◌, ◌++◌, drop}
use Rattle.run_report.specs.Dumps.{field_lines}
use Rattle.run_report.proofs.dump.push_fields.Given as goal

abbrev pub invariant-loop-place : goal.invariant-loop-place
invariant-loop-place l =
    l.text.items ++ field_lines (drop l.place l.fields) (drop l.place l.columns)
    ≡ l.fn.text.items ++ field_lines l.fields l.columns
