use Rattle.std.proofs.Common.{List, ap, take, ◌∙◌}
use Rattle.std.proofs.lemmas.List.{take_rest}
use Rattle.regent_tree.specs.Facts.{Row, any_above}
use Rattle.constraint_check.proofs.Few.{back_stands, front_stands}
use Rattle.constraint_check.proofs.raising.rows_raising.Goals as goal

pub returns : goal.returns
returns c = λ test.
    let t = c.args.term.now in
    let front : List Row = take c.raising_end.result c.args.rows.now in
    ap (λ (rows : List Row). any_above rows test t) (take_rest front c.raising_start.result)
    ∙ back_stands t c.raising_start.result front c.raising_start.ensures.before test
    ∙ front_stands t c.raising_end.result c.args.rows.now c.raising_end.ensures.behind test
