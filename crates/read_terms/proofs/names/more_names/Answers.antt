use Rattle.std.proofs.Common.{◌∙◌, refl, sym}
use Rattle.std.proofs.lemmas.Result.{err_from_is_err_and}
use Rattle.regent_grammar.specs.Guards.{takes, is_sound}
use Rattle.regent_grammar.specs.Rules.{◌⊳◌}
use Rattle.regent_grammar.specs.Singles.{a_mark, name}
use Rattle.regent_grammar.specs.Symbols.{comes, is_mark}
use Rattle.regent_lex.specs.declared.tables.Mark.TheVariants as mark
use Rattle.regent_grammar.proofs.Facts.{all_rules}
use Rattle.read_terms.proofs.Loops.{Repeats, repeats, goes_on, ends, stops}
use Rattle.read_terms.proofs.names.more_names.Goals as goal

again : Repeats (comes (is_mark mark.Comma)) (a_mark mark.Comma ⊳ name)
unfolding all_rules is_sound takes
again = repeats (comes (is_mark mark.Comma)) (a_mark mark.Comma ⊳ name) refl refl

pub loop-alloc-preserved : goal.loop-alloc-preserved
loop-alloc-preserved c =
    rw (c.in_ok-push-2.ensures.ok) (goes_on again _ _ _ _ _ (sym c.comes_mark.ensures ∙ c.loop-alloc-test.true)
    c.in_ok-name.ensures c.loop-alloc.invariant)

pub loop-alloc-smaller : goal.loop-alloc-smaller
loop-alloc-smaller c = again.shorter _ _ _ c.in_ok-name.ensures

pub returns : goal.returns
returns c = ends again _ _ _ (sym c.comes_mark.ensures ∙ c.loop-alloc-test.false) c.loop-alloc.invariant

pub returns-in_err-name : goal.returns-in_err-name
returns-in_err-name c =
    let p = err_from_is_err_and c.from_residual-in_err-name.result c.from_residual-in_err-name.ensures.1 in
    rw (p.1, p.2)
    (stops again _ _ _ _ (sym c.comes_mark.ensures ∙ c.loop-alloc-test.true) c.loop-alloc.invariant c.in_err-name.ensures)
