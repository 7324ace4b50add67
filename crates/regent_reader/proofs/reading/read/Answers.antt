use Rattle.std.proofs.Common.{arith}
use Rattle.std.proofs.lemmas.Result.{err_from_is_err_and}
use Rattle.regent_reader.specs.Texts.{is_long}
use Rattle.regent_reader.proofs.TextLaws.{answers_only, reads_nested, reads_no_tokens}
use Rattle.regent_reader.proofs.reading.read.Goals as goal

pub returns-then-text-gt1048576-clause-reads : goal.returns-then-text-gt1048576-clause-reads
returns-then-text-gt1048576-clause-reads c = is_long c.if-text-gt1048576.true

pub returns-in_err-terminals-clause-reads : goal.returns-in_err-terminals-clause-reads
returns-in_err-terminals-clause-reads c =
    let p = err_from_is_err_and c.from_residual.result c.from_residual.ensures.1 in
    let fits = c.if-text-gt1048576.false in
    rw (p.1, p.2) (reads_no_tokens c.args.text.now c.in_err-terminals.field-0.0 (omega arith) c.in_err-terminals.ensures.err)

pub returns-in_err-terminals-clause-only : goal.returns-in_err-terminals-clause-only
returns-in_err-terminals-clause-only c =
    let p = err_from_is_err_and c.from_residual.result c.from_residual.ensures.1 in
    let fits = c.if-text-gt1048576.false in
    answers_only c.args.text.now c.from_residual.result
    (rw (p.1, p.2) (reads_no_tokens c.args.text.now c.in_err-terminals.field-0.0 (omega arith) c.in_err-terminals.ensures.err))

pub returns-clause-reads : goal.returns-clause-reads
returns-clause-reads c =
    let fits = c.if-text-gt1048576.false in
    reads_nested c.args.text.now c.as_slice.result.now c.nested.result (omega arith)
    (rw (← c.as_slice.ensures.value) at c.in_ok-terminals.ensures.ok) c.nested.ensures.answers

pub returns-clause-only : goal.returns-clause-only
returns-clause-only c =
    let fits = c.if-text-gt1048576.false in
    answers_only c.args.text.now c.nested.result
    (reads_nested c.args.text.now c.as_slice.result.now c.nested.result (omega arith)
    (rw (← c.as_slice.ensures.value) at c.in_ok-terminals.ensures.ok) c.nested.ensures.answers)
