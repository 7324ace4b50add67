use Rattle.std.proofs.Common.{◌≡◌, ◌++◌, drop}
use Rattle.run_report.specs.Dumps.{values_text}
use Rattle.run_report.proofs.values.push_values.Given as goal

abbrev pub invariant-loop-number : goal.invariant-loop-number
invariant-loop-number l =
    l.text.items ++ values_text l.kind (drop l.number-index l.numbers)
    ≡ l.fn.text.items ++ values_text l.kind l.numbers
