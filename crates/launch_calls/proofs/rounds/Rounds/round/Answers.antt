use Rattle.std.proofs.Common.{rules, ◌-◌}
use Rattle.launch_calls.specs.Rounds.{in_common}
use Rattle.launch_calls.proofs.Launching.{round_calls}
use Rattle.launch_calls.proofs.rounds.Rounds.round.Goals as goal

pub returns : goal.returns
returns c more =
    round_calls (in_common c.args.self.now c.args.slots.now) c.args.args.now c.in-Some.args c.args.turns.now (c.args.turns.now - 1) more _
    (search (rules)) (search (rules)) (c.call.ensures c.args.slots.now more)
