use Rattle.std.proofs.Common.{◌∙◌, ap}
use Rattle.check_rules.specs.Breaches.{breaches}
use Rattle.regent_tree.specs.PlainProgram.{tree_of}
use Rattle.regent_tree.specs.declared.program.Program.{Program}
use Rattle.regent_run.proofs.judge.judge_program.Goals as goal

pub judge_accepted-requires-clause-sound : goal.judge_accepted-requires-clause-sound
judge_accepted-requires-clause-sound c =
    ap (λ (p : Program). breaches (tree_of p)) c.in-Ok.ensures.same ∙ c.in-Ok.ensures.accepted
