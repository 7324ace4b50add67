use Rattle.std.proofs.Common.{rules, ◌≡◌, ◌∙◌, subst, sym}
use Rattle.run_journal.specs.Numbers.{IsNumbered}
use Rattle.run_journal.proofs.Fronts.{if_none}
use Rattle.run_journal.proofs.Lines.{at_seat, by_there, end_there, line_read, never_large, seat_small, seat_there, at_end}
use Rattle.run_journal.proofs.read.entry_at.Goals as goal

pub returns-in_err-behind-clause-none : goal.returns-in_err-behind-clause-none
returns-in_err-behind-clause-none c =
    if_none c.from_residual-in_err-behind.result _ (λ e rest is h. c.in_err-behind.ensures.none (at_seat c.args.text.now e rest is h)
    (by_there c.args.text.now e rest is h c.in_ok-kind.kind c.in_ok-kind.rest.now c.in_ok-kind.ensures.some
    c.in_ok-op.op c.in_ok-op.rest.now c.in_ok-op.ensures.some))

pub returns-in_err-seat-clause-none : goal.returns-in_err-seat-clause-none
returns-in_err-seat-clause-none c =
    if_none c.from_residual-in_err-seat.result _ (λ e rest is h. c.in_err-seat.ensures.none e.seat (at_end c.args.text.now e rest is h)
    (seat_there c.args.text.now e rest is h c.in_ok-kind.kind c.in_ok-kind.rest.now c.in_ok-kind.ensures.some
    c.in_ok-op.op c.in_ok-op.rest.now c.in_ok-op.ensures.some c.in_ok-behind.field-0.now c.in_ok-behind.ensures.some))

pub returns-in_err-seat-2-clause-none : goal.returns-in_err-seat-2-clause-none
returns-in_err-seat-2-clause-none c =
    if_none c.from_residual-in_err-seat-2.result _ (λ e rest is h. never_large c.try_from.result c.in_ok-seat.seat c.try_from.ensures
    (seat_small c.args.text.now e rest is h c.in_ok-kind.kind c.in_ok-kind.rest.now c.in_ok-kind.ensures.some
    c.in_ok-op.op c.in_ok-op.rest.now c.in_ok-op.ensures.some c.in_ok-behind.field-0.now c.in_ok-behind.ensures.some
    c.in_ok-seat.seat c.in_ok-seat.rest.now c.in_ok-seat.ensures.some)
    (sym c.ok.ensures.value ∙ c.in_err-seat-2.was))

pub returns-in_err-rest-clause-none : goal.returns-in_err-rest-clause-none
returns-in_err-rest-clause-none c =
    if_none c.from_residual-in_err-rest.result _ (λ e rest is h. c.in_err-rest.ensures.none rest
    (end_there c.args.text.now e rest is h c.in_ok-kind.kind c.in_ok-kind.rest.now c.in_ok-kind.ensures.some
    c.in_ok-op.op c.in_ok-op.rest.now c.in_ok-op.ensures.some c.in_ok-behind.field-0.now c.in_ok-behind.ensures.some
    c.in_ok-seat.seat c.in_ok-seat.rest.now c.in_ok-seat.ensures.some))

pub returns-clause-some : goal.returns-clause-some
returns-clause-some c =
    let same : c.in_ok-seat.seat ≡ c.in_ok-seat-2.seat = search rules in
    line_read c.args.text.now c.in_ok-kind.kind c.in_ok-kind.rest.now c.in_ok-op.op c.in_ok-op.rest.now c.in_ok-behind.field-0.now
    c.in_ok-seat-2.seat c.in_ok-seat.rest.now c.in_ok-rest.rest.now c.in_ok-kind.ensures.some c.in_ok-op.ensures.some c.in_ok-behind.ensures.some
    (subst (λ n. IsNumbered c.in_ok-behind.field-0.now n c.in_ok-seat.rest.now) same c.in_ok-seat.ensures.some) c.in_ok-rest.ensures.some
