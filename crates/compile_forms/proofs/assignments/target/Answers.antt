use Rattle.compile_types.specs.Here.{where_of}
use Rattle.compile_forms.proofs.Targets.{held}
use Rattle.compile_forms.proofs.assignments.target.Goals as goal

pub returns-in-Some : goal.returns-in-Some
returns-in-Some c =
    rw (held (where_of c.args.here.now) c.args.name.now c.args.steps.now c.in-Some.front.now c.in-Some.last.now
    c.args.how c.in-Some.ensures) c.put_at.ensures
