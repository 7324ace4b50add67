use Rattle.std.proofs.Common.{rules, ◌≡◌, ◌∙◌, ap, arith, subst, sym}
use Rattle.std.specs.Prelude.{All}
use Rattle.std.proofs.lemmas.List.Elements.{All-push}
use Rattle.plain_values.specs.Points.{points}
use Rattle.task_core.specs.Desks.{new_seat}
use Rattle.task_hub.proofs.Seats.{numbers_more}
use Rattle.task_hub.specs.Seats.{Placed, numbers_of}
use Rattle.task_hub.proofs.hub.Hub.open.Goals as goal

pub loop-number-preserved : goal.loop-number-preserved
loop-number-preserved g c =
    let i = c.loop-number.invariant in
    let old = c.loop-number.all.items in
    let new = c.new.result in
    let items = c.in_ok-push.ensures.items in
    let steps = c.split_off-steps.ensures in
    let overs = c.split_off-overs.ensures in (
      omega (arith, steps.parts, steps.parts_left, i.0),
      omega (arith, steps.amount_left, i.1),
      omega (arith, overs.parts, overs.parts_left, i.2),
      omega (arith, overs.amount_left, i.3),
      omega (arith, c.in_ok-push.ensures.len, i.4),
      ap numbers_of items ∙ numbers_more old new c.loop-number.number i.5 (ap (λ (s : Placed). s.number) c.new.ensures),
      subst (All (λ (s : Placed). s.seated ≡ new_seat)) (sym items) (All-push (λ (s : Placed). s.seated ≡ new_seat) old new i.6
          (ap (λ (s : Placed). s.seated) c.new.ensures)),
      i.7,
      i.8,
    )

pub returns-clause-numbers : goal.returns-clause-numbers
returns-clause-numbers g c =
    let end : c.loop-number.number ≡ c.args.seats = search rules in
    c.loop-number.invariant.5 ∙ ap points end
