use Rattle.std.proofs.Common.{rules, ◌<◌, length, sym, ◌∙◌}
use Rattle.plain_store.proofs.Returning.{next_part_goes, other_part_goes}
use Rattle.plain_store.proofs.returns.give_part.Goals as goal

pub returns-then-is_of-clause-contents : goal.returns-then-is_of-clause-contents
returns-then-is_of-clause-contents c k h =
    let below : c.args.next < length c.args.loans.now = search (rules) in
    next_part_goes c.args.part c.args.loans.now c.args.next _ c.args.kept.now c.give_lent.new.kept below
    (sym c.is_of.ensures ∙ c.if-is_of.true) c.in_ok-give_lent.ensures k h

pub returns-clause-contents : goal.returns-clause-contents
returns-clause-contents c k h =
    other_part_goes c.args.part c.args.loans.now c.args.next c.args.kept.now c.give_copied.new.kept
    (sym c.is_lent.ensures ∙ c.if-is_lent.false)
    c.in_ok-give_copied.ensures.there c.in_ok-give_copied.ensures.contents k h
