use Rattle.std.proofs.Common.{◌≡◌, drop, map}
use Rattle.machine_terms.specs.Launches.{launched}
use Rattle.launch_calls.specs.Rounds.{behind_calls, in_common}
use Rattle.launch_calls.proofs.rounds.Rounds.all.Given as goal

abbrev pub invariant-loop-args : goal.invariant-loop-args
invariant-loop-args l =
    behind_calls l.calls (launched (in_common l.self l.slots) (map (λ args. args.items) (drop l.args-index l.rounds)) l.left)
    ≡ launched (in_common l.self l.slots) (map (λ args. args.items) l.rounds) l.turns
