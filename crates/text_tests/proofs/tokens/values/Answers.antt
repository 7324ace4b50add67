use Rattle.regent_lex.proofs.Spelt.{spells_at}
use Rattle.text_tests.proofs.tokens.values.Goals as goal

pub number_value-value-requires : goal.number_value-value-requires
number_value-value-requires c =
    spells_at c.args.text.now _ _ _ c.loop-t.t-index _ _ c.deref-t-items.ensures.value
    c.in_ok-found.ensures.kinds c.loop-t-test.true c.spelling-spelt.ensures c.in-Number.is

pub quoted_bytes-requires : goal.quoted_bytes-requires
quoted_bytes-requires c =
    spells_at c.args.text.now _ _ _ c.loop-t.t-index _ _ c.deref-t-items.ensures.value
    c.in_ok-found.ensures.kinds c.loop-t-test.true c.spelling-spelt.ensures c.in-Quoted.is
