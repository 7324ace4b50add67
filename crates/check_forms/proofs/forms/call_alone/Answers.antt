use Rattle.std.proofs.lemmas.Result.{err_from_is_err_and}
use Rattle.check_forms.proofs.forms.call_alone.Goals as goal

pub returns-in_err-call : goal.returns-in_err-call
returns-in_err-call c =
    let p = err_from_is_err_and c.from_residual-in_err-call.result c.from_residual-in_err-call.ensures.1 in
    rw (p.1, p.2, c.in_ok-types.ensures.0, ← c.in_ok-types.ensures.1, ← c.deref.ensures.value) c.in_err-call.ensures
