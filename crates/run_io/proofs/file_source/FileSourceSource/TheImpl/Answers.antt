-- A source that tells nothing meets what its trait says of what is told, whatever the result.
use Rattle.std.proofs.Common.{Result, Ok, Err, OnOk, OnErr, refl}
use Rattle.run_io.proofs.file_source.FileSourceSource.TheImpl.Goals as goal

on_ok : {T E : Type 0} (r : Result T E) (P : Type 0) → P → OnOk r P
on_ok (Ok x) P p = p
on_ok (Err e) P p = tt

on_err : {T E : Type 0} (r : Result T E) (P : Type 0) → P → OnErr r P
on_err (Ok x) P p = tt
on_err (Err e) P p = p

pub begin-tells : goal.begin-tells
begin-tells g c = record {
  cause = c.ensures.cause;
  steady = c.ensures.steady;
  counted = refl;
  named = refl;
  begun = on_ok c.result _ refl;
  passed = on_ok c.result _ refl;
  err_left = on_err c.result _ refl;
  err_later = on_err c.result _ refl;
}

pub read-tells : goal.read-tells
read-tells g c = record {
  cause = c.ensures.cause;
  steady = c.ensures.steady;
  bound = c.ensures.bound;
  moved = on_ok c.result _ refl;
  behind = tt;
  end = tt;
  before_begin = λ none. cc;
  err_left = on_err c.result _ refl;
  err_buffer = tt;
  later = refl;
  begins = refl;
  names = refl;
}
