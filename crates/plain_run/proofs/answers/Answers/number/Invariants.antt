use Rattle.std.proofs.Common.{◌≡◌, drop}
use Rattle.plain_run.specs.Answers.{answer_in}
use Rattle.plain_run.proofs.answers.Answers.number.Given as goal

abbrev pub invariant-loop-answer : goal.invariant-loop-answer
invariant-loop-answer l =
    answer_in (drop l.answer-index l.self.kept) l.child ≡ answer_in l.self.kept l.child
