-- The laws, from the inductions.
use Rattle.value_laws.specs.Laws.{ValuesFit}
use Rattle.value_laws.proofs.Values.{value_is}

pub values_fit : ValuesFit
values_fit task roots h place e written limits told u st = value_is task roots h place e written limits told u st
