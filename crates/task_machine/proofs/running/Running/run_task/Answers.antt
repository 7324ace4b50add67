use Rattle.std.proofs.Common.{rules, refl, ap, ◌∙◌, length}
use Rattle.std.proofs.lemmas.Option.{slice_get_read}
use Rattle.task_machine.specs.Acts.{machine_at}
use Rattle.machine_terms.specs.Segments.{after, stop_from}
use Rattle.task_machine.proofs.Tasks.{no_task, other_slots, faults_later, runs_on}
use Rattle.task_machine.proofs.running.Running.run_task.Goals as goal

pub returns-in_default : goal.returns-in_default
returns-in_default c = no_task c.args.code.now c.args.self.now (search rules) (search rules)

pub returns-then-len-task : goal.returns-then-len-task
returns-then-len-task c = other_slots c.args.code.now c.args.self.now (search rules) c.in-Some.task.now
    (slice_get_read c.args.code.now.tasks (length c.args.code.now.tasks) c.args.self.now.frame.task c.in-Some.task.now refl (search rules) (search rules))
    (search rules)

pub returns-in-Some-later : goal.returns-in-Some-later
returns-in-Some-later c = faults_later c.args.code.now c.args.self.now (search rules) c.in-Some.task.now
    (slice_get_read c.args.code.now.tasks (length c.args.code.now.tasks) c.args.self.now.frame.task c.in-Some.task.now refl (search rules) (search rules))
    (search rules) c.in-Some-later.fault (search rules)

pub returns-in_ok-run-in-None : goal.returns-in_ok-run-in-None
returns-in_ok-run-in-None c = c.in_ok-run-in-None.ensures
    ∙ ap (λ b. after (stop_from c.args.code.now b c.args.self.now.text (machine_at c.args.self.now.frame.pc c.args.self.now))) c.as_slice-in-None.ensures
    ∙ runs_on c.args.code.now c.args.self.now (search rules) c.in-Some.task.now
    (slice_get_read c.args.code.now.tasks (length c.args.code.now.tasks) c.args.self.now.frame.task c.in-Some.task.now refl (search rules) (search rules))
    (search rules) (search rules)
