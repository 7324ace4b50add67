use Rattle.trace_picture.specs.Views.{cut, whole}
use Rattle.trace_picture.proofs.verdict.put.Goals as goal

pub returns-in-Ok : goal.returns-in-Ok
returns-in-Ok g c = whole c.in-Ok.ensures.ok

pub returns-in-Err : goal.returns-in-Err
returns-in-Err g c = cut c.in-Err.ensures.cause.failed c.in-Err.ensures.err
