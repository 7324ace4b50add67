use Rattle.std.proofs.Common.{◌≡◌, ◌∙◌, ℕ, ap, arith, length, map, replicate, rules}
use Rattle.board_outcomes.proofs.Filling.{made_room}
use Rattle.board_outcomes.proofs.imaging.room_for.Goals as goal
use Rattle.board_outcomes.proofs.imaging.room_for.Goals.{in-Some, in-None}

pub returns-clause-shape : goal.returns-clause-shape
returns-clause-shape c =
    let same : c.loop.counter ≡ c.match-get.fields = omega (arith, c.loop-test.false, c.loop.auto.counter-end) in
    made_room c.args.code.now c.args.count c.args.space c.match-get.fields c.from_vec.result (elim c.match-get.branch [
      | in-Some w ↦ search (rules)
      | in-None w ↦ search (rules)
    ]) (ap (map length) c.from_vec.ensures ∙ c.loop.invariant.0 ∙ ap (λ (n : ℕ). replicate n c.args.count) same)
