use Rattle.std.proofs.Common.{◌≡◌, drop}
use Rattle.plain_run.specs.Answers.{with_numbers}
use Rattle.plain_run.proofs.answers.Answers.take.Given as goal

abbrev pub invariant-loop-number : goal.invariant-loop-number
invariant-loop-number l =
    with_numbers (drop l.number-index l.numbers) (record { kept = l.self-inside.kept.items; count = l.self-inside.count })
    ≡ with_numbers l.numbers l.fn.self
