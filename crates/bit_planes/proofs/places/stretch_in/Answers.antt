use Rattle.std.proofs.Common.{arith, ⊎_elim}
use Rattle.std.proofs.lemmas.Bool.{cases_lt}
use Rattle.bit_planes.proofs.Bits.{are_words}
use Rattle.bit_planes.proofs.Placed.{none_past, stretch_found}
use Rattle.bit_planes.proofs.places.stretch_in.Goals as goal

pub returns-then-end-from-clause-none : goal.returns-then-end-from-clause-none
returns-then-end-from-clause-none c =
    λ z l. none_past c.args.words.now (are_words c.args.words.now c.type_inv.words) z (omega arith)

pub returns-then-start-end-clause-none : goal.returns-then-start-end-clause-none
returns-then-start-end-clause-none c =
    λ z l. ⊎_elim (λ u. c.first_bit-start.ensures.none z l (omega arith)) (λ o. none_past c.args.words.now (are_words c.args.words.now c.type_inv.words) z (omega arith)) (cases_lt z c.first_bit-start.result)

pub returns-clause-some : goal.returns-clause-some
returns-clause-some c =
    let within = c.first_bit-start.ensures.within in
    stretch_found c.args.words.now (are_words c.args.words.now c.type_inv.words) c.args.from c.first_bit-start.result c.first_bit.result (omega arith) c.first_bit-start.ensures c.first_bit.ensures
