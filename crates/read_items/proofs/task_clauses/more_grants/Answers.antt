use Rattle.std.proofs.Common.{◌∙◌, refl, sym}
use Rattle.std.proofs.lemmas.Result.{err_from_is_err_and}
use Rattle.regent_grammar.specs.Guards.{takes, is_sound}
use Rattle.regent_grammar.specs.Items.{is_grant, grant}
use Rattle.regent_grammar.specs.Symbols.{comes}
use Rattle.regent_grammar.proofs.Facts.{all_rules}
use Rattle.read_terms.proofs.Loops.{Repeats, repeats, goes_on, ends, stops}
use Rattle.read_items.proofs.task_clauses.more_grants.Goals as goal

again : Repeats (comes is_grant) grant
unfolding all_rules is_sound takes
again = repeats (comes is_grant) grant refl refl

pub loop-rest-preserved : goal.loop-rest-preserved
loop-rest-preserved c =
    rw (c.in_ok-push-2.ensures.ok) (goes_on again _ _ _ _ _ (sym c.comes_grant.ensures ∙ c.loop-rest-test.true)
    c.in_ok-grant.ensures c.loop-rest.invariant)

pub loop-rest-smaller : goal.loop-rest-smaller
loop-rest-smaller c = again.shorter _ _ _ c.in_ok-grant.ensures

pub returns : goal.returns
returns c = ends again _ _ _ (sym c.comes_grant.ensures ∙ c.loop-rest-test.false) c.loop-rest.invariant

pub returns-in_err-grant : goal.returns-in_err-grant
returns-in_err-grant c =
    let p = err_from_is_err_and c.from_residual-in_err-grant.result c.from_residual-in_err-grant.ensures.1 in
    rw (p.1, p.2)
    (stops again _ _ _ _ (sym c.comes_grant.ensures ∙ c.loop-rest-test.true) c.loop-rest.invariant c.in_err-grant.ensures)
