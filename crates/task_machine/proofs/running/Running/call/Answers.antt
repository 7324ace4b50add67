use Rattle.std.proofs.Common.{rules, refl, ap, sym, ◌∙◌, length}
use Rattle.std.proofs.lemmas.Option.{slice_get_read}
use Rattle.task_machine.specs.Acts.{came, machine_at}
use Rattle.task_machine.proofs.Taking.{called_with}
use Rattle.task_machine.proofs.running.Running.call.Goals as goal

pub returns-in_ok-issue-in-Some-2 : goal.returns-in_ok-issue-in-Some-2
returns-in_ok-issue-in-Some-2 c =
    c.in_ok-issue-in-Some-2.ensures c.args.self.now.frame.stack
    ∙ ap (came c.args.self.now.text) (sym (called_with c.args.code.now c.args.task c.args.count c.args.line
    (machine_at c.args.pc c.args.self.now) c.in-Some.called.now c.in-Some-2.args.items c.take_values.new.stack
    (slice_get_read c.args.code.now.tasks (length c.args.code.now.tasks) c.args.task c.in-Some.called.now refl (search rules) (search rules))
    (search rules) (search rules)))
