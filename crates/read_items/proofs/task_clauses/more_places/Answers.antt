use Rattle.std.proofs.Common.{◌∙◌, refl, sym}
use Rattle.std.proofs.lemmas.Result.{err_from_is_err_and}
use Rattle.regent_grammar.specs.Guards.{takes, is_sound}
use Rattle.regent_grammar.specs.Rules.{◌⊳◌}
use Rattle.regent_grammar.specs.Singles.{a_mark}
use Rattle.regent_grammar.specs.Items.{place}
use Rattle.regent_grammar.specs.Symbols.{comes, is_mark}
use Rattle.regent_lex.specs.declared.tables.Mark.TheVariants as mark
use Rattle.regent_grammar.proofs.Facts.{all_rules}
use Rattle.read_terms.proofs.Loops.{Repeats, repeats, goes_on, ends, stops}
use Rattle.read_items.proofs.task_clauses.more_places.Goals as goal

again : Repeats (comes (is_mark mark.Comma)) (a_mark mark.Comma ⊳ place)
unfolding all_rules is_sound takes
again = repeats (comes (is_mark mark.Comma)) (a_mark mark.Comma ⊳ place) refl refl

pub loop-alloc-preserved : goal.loop-alloc-preserved
loop-alloc-preserved c =
    rw (c.in_ok-push-2.ensures.ok) (goes_on again _ _ _ _ _ (sym c.comes_mark.ensures ∙ c.loop-alloc-test.true)
    c.in_ok-place.ensures c.loop-alloc.invariant)

pub loop-alloc-smaller : goal.loop-alloc-smaller
loop-alloc-smaller c = again.shorter _ _ _ c.in_ok-place.ensures

pub returns : goal.returns
returns c = ends again _ _ _ (sym c.comes_mark.ensures ∙ c.loop-alloc-test.false) c.loop-alloc.invariant

pub returns-in_err-place : goal.returns-in_err-place
returns-in_err-place c =
    let p = err_from_is_err_and c.from_residual-in_err-place.result c.from_residual-in_err-place.ensures.1 in
    rw (p.1, p.2)
    (stops again _ _ _ _ (sym c.comes_mark.ensures ∙ c.loop-alloc-test.true) c.loop-alloc.invariant c.in_err-place.ensures)
