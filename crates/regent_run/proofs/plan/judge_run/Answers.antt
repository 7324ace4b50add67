use Rattle.std.proofs.Common.{◌∙◌, ◌<◌, ◌^◌, ℕ, ap, refl, rules, subst}
use Rattle.code_laws.specs.Programs.{job_of}
use Rattle.command_words.specs.Given.{run_given}
use Rattle.regent_tree.specs.PlainProgram.{tree_of}
use Rattle.regent_run.proofs.Meant.{plan_is}
use Rattle.regent_run.proofs.plan.judge_run.Goals as goal

pub returns : goal.returns
returns c =
    let few : c.turns_or_default.result < 2 ^ 64 = search rules in
    let found = rw c.in-Some.is at c.in_ok-inputs.ensures in
    plan_is (tree_of c.args.program.now) (run_given c.args.asked.now) c.inputs.result.now c.in-Some.inputs _ c.requires.within c.requires.sound c.requires.written
    c.inputs.ensures (rw c.as_slice.ensures.value at found) (subst (λ (n : ℕ). n < 2 ^ 64) c.turns_or_default.ensures few)
    (c.in_ok-job_of.ensures ∙ ap (λ (n : ℕ). job_of (tree_of c.args.program.now) c.in-Some.inputs n) c.turns_or_default.ensures)
    c.workers_or_default.ensures refl refl
