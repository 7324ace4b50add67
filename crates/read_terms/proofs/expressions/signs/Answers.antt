use Rattle.std.proofs.Common.{◌∙◌, refl, sym}
use Rattle.std.proofs.lemmas.Result.{err_from_is_err_and}
use Rattle.regent_grammar.specs.Symbols.{comes}
use Rattle.regent_grammar.specs.Expressions.{is_sign, a_sign}
use Rattle.regent_grammar.specs.Guards.{takes, is_sound}
use Rattle.regent_grammar.proofs.Facts.{all_rules}
use Rattle.read_terms.proofs.Loops.{Repeats, repeats, front_none, goes_on, ends, stops}
use Rattle.read_terms.proofs.expressions.signs.Goals as goal

again : Repeats (comes is_sign) a_sign
unfolding all_rules is_sound takes
again = repeats (comes is_sign) a_sign refl refl

pub loop-rest-init : goal.loop-rest-init
loop-rest-init c = rw c.new-signs.ensures (front_none _)

pub loop-rest-preserved : goal.loop-rest-preserved
loop-rest-preserved c =
    rw (c.in_ok-push.ensures.ok) (goes_on again _ _ _ _ _ (sym c.comes_sign.ensures ∙ c.loop-rest-test.true)
    c.in_ok-sign.ensures c.loop-rest.invariant)

pub loop-rest-smaller : goal.loop-rest-smaller
loop-rest-smaller c = again.shorter _ _ _ c.in_ok-sign.ensures

pub returns : goal.returns
returns c = ends again _ _ _ (sym c.comes_sign.ensures ∙ c.loop-rest-test.false) c.loop-rest.invariant

pub returns-in_err-sign : goal.returns-in_err-sign
returns-in_err-sign c =
    let p = err_from_is_err_and c.from_residual.result c.from_residual.ensures.1 in
    rw (p.1, p.2)
    (stops again _ _ _ _ (sym c.comes_sign.ensures ∙ c.loop-rest-test.true) c.loop-rest.invariant c.in_err-sign.ensures)
