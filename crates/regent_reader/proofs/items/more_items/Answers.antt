use Rattle.std.proofs.Common.{◌∙◌, sym}
use Rattle.std.proofs.lemmas.Result.{err_from_is_err_and}
use Rattle.std.proofs.lemmas.List.{map_push}
use Rattle.regent_grammar.specs.Items.{item}
use Rattle.regent_grammar.specs.Symbols as symbols
use Rattle.regent_grammar.proofs.Facts.{item_sound, item_takes}
use Rattle.read_terms.proofs.Loops.{Repeats, repeats, goes_on, ends, stops}
use Rattle.regent_reader.proofs.items.more_items.Goals as goal

again : Repeats symbols.goes_on item
again = repeats symbols.goes_on item item_sound item_takes

pub loop-rest-preserved : goal.loop-rest-preserved
loop-rest-preserved c =
    rw (c.in_ok-push.ensures.items, map_push)
    (goes_on again _ _ _ _ _ (sym c.goes_on.ensures.same ∙ c.loop-rest-test.true)
    c.in_ok-item.ensures c.loop-rest.invariant)

pub loop-rest-smaller : goal.loop-rest-smaller
loop-rest-smaller c = again.shorter _ _ _ c.in_ok-item.ensures

pub returns : goal.returns
returns c =
    rw (sym (c.goes_on.ensures.ends c.loop-rest-test.false))
    (ends again _ _ _ (sym c.goes_on.ensures.same ∙ c.loop-rest-test.false) c.loop-rest.invariant)

pub returns-in_err-item : goal.returns-in_err-item
returns-in_err-item c =
    let p = err_from_is_err_and c.from_residual.result c.from_residual.ensures.1 in
    rw (p.1, p.2)
    (stops again _ _ _ _ (sym c.goes_on.ensures.same ∙ c.loop-rest-test.true) c.loop-rest.invariant c.in_err-item.ensures)
