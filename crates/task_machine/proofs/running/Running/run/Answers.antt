use Rattle.std.proofs.Common.{rules, refl, ap, sym, ◌∙◌, length}
use Rattle.std.proofs.lemmas.Option.{slice_get_read}
use Rattle.task_machine.proofs.Operating.{advance_goes}
use Rattle.task_machine.proofs.Coming.{next_goes, jump_goes, broken_ends, fault_ends, stop_ends, last_ends}
use Rattle.task_machine.specs.Acts.{shown_after}
use Rattle.machine_terms.specs.Segments.{after}
use Rattle.task_machine.proofs.running.Running.run.Goals as goal

pub loop-line-smaller-in-Some-checked_add : goal.loop-line-smaller-in-Some-checked_add
loop-line-smaller-in-Some-checked_add c =
    (next_goes c.args.code.now c.args.body.now c.loop-line.self c.advance.new.self c.act.new.self c.loop-line.pc c.in-Some.line.now
    c.in_ok-act.field-0 (search rules)
    (slice_get_read c.args.body.now (length c.args.body.now) c.loop-line.pc c.in-Some.line.now refl (search rules) (search rules))
    (search rules) (search rules) c.in-Next.is c.in-Some-checked_add.next (search rules)).fewer

pub loop-line-preserved-in-Some-checked_add : goal.loop-line-preserved-in-Some-checked_add
loop-line-preserved-in-Some-checked_add c =
    sym (next_goes c.args.code.now c.args.body.now c.loop-line.self c.advance.new.self c.act.new.self c.loop-line.pc c.in-Some.line.now
    c.in_ok-act.field-0 (search rules)
    (slice_get_read c.args.body.now (length c.args.body.now) c.loop-line.pc c.in-Some.line.now refl (search rules) (search rules))
    (search rules) (search rules) c.in-Next.is c.in-Some-checked_add.next (search rules)).same
    ∙ c.loop-line.invariant

pub returns-in-None : goal.returns-in-None
returns-in-None c =
    last_ends c.args.code.now c.args.body.now c.loop-line.self c.advance.new.self c.act.new.self c.loop-line.pc c.in-Some.line.now
    c.in_ok-act.field-0 (search rules)
    (slice_get_read c.args.body.now (length c.args.body.now) c.loop-line.pc c.in-Some.line.now refl (search rules) (search rules))
    (search rules) (search rules) c.in-Next.is (search rules)
    ∙ ap after c.loop-line.invariant

pub loop-line-smaller : goal.loop-line-smaller
loop-line-smaller c =
    (jump_goes c.args.code.now c.args.body.now c.loop-line.self c.advance.new.self c.act.new.self c.loop-line.pc c.in-Some.line.now
    c.in_ok-act.field-0 (search rules)
    (slice_get_read c.args.body.now (length c.args.body.now) c.loop-line.pc c.in-Some.line.now refl (search rules) (search rules))
    (search rules) (search rules) c.in-Jump.to c.in-Jump.is).fewer

pub loop-line-preserved : goal.loop-line-preserved
loop-line-preserved c =
    sym (jump_goes c.args.code.now c.args.body.now c.loop-line.self c.advance.new.self c.act.new.self c.loop-line.pc c.in-Some.line.now
    c.in_ok-act.field-0 (search rules)
    (slice_get_read c.args.body.now (length c.args.body.now) c.loop-line.pc c.in-Some.line.now refl (search rules) (search rules))
    (search rules) (search rules) c.in-Jump.to c.in-Jump.is).same
    ∙ c.loop-line.invariant

pub returns-in-Broken : goal.returns-in-Broken
returns-in-Broken c =
    broken_ends c.args.code.now c.args.body.now c.loop-line.self c.advance.new.self c.act.new.self c.loop-line.pc c.in-Some.line.now
    c.in_ok-act.field-0 (search rules)
    (slice_get_read c.args.body.now (length c.args.body.now) c.loop-line.pc c.in-Some.line.now refl (search rules) (search rules))
    (search rules) (search rules) c.in-Broken.is
    ∙ ap after c.loop-line.invariant

pub returns-in-Fault : goal.returns-in-Fault
returns-in-Fault c =
    fault_ends c.args.code.now c.args.body.now c.loop-line.self c.advance.new.self c.act.new.self c.loop-line.pc c.in-Some.line.now
    c.in_ok-act.field-0 (search rules)
    (slice_get_read c.args.body.now (length c.args.body.now) c.loop-line.pc c.in-Some.line.now refl (search rules) (search rules))
    (search rules) (search rules) c.in-Fault.fault c.in-Fault.is
    ∙ ap after c.loop-line.invariant

pub returns-in-Stop : goal.returns-in-Stop
returns-in-Stop c =
    ap (shown_after c.take_ends.result) c.take_ends.ensures.state
    ∙ stop_ends c.args.code.now c.args.body.now c.loop-line.self c.advance.new.self c.act.new.self c.loop-line.pc c.in-Some.line.now
    c.in_ok-act.field-0 (search rules)
    (slice_get_read c.args.body.now (length c.args.body.now) c.loop-line.pc c.in-Some.line.now refl (search rules) (search rules))
    (search rules) (search rules) c.in-Stop.is c.take_ends.result (search rules)
    ∙ ap after c.loop-line.invariant

pub loop-line-smaller-in-Some-advance : goal.loop-line-smaller-in-Some-advance
loop-line-smaller-in-Some-advance c =
    (advance_goes c.args.code.now c.args.body.now c.loop-line.pc c.loop-line.self c.in-Some-advance.to c.advance.new.self
    (c.in-Some-advance.ensures.done c.args.code.now)).fewer

pub loop-line-preserved-in-Some-advance : goal.loop-line-preserved-in-Some-advance
loop-line-preserved-in-Some-advance c =
    sym (advance_goes c.args.code.now c.args.body.now c.loop-line.pc c.loop-line.self c.in-Some-advance.to c.advance.new.self
    (c.in-Some-advance.ensures.done c.args.code.now)).same
    ∙ c.loop-line.invariant
