use Rattle.std.proofs.Common.{◌≡◌, List, map, ap, ◌∙◌, rules, subst}
use Rattle.std.specs.Prelude.{IfOk}
use Rattle.index_launch.specs.Points.{calls_of}
use Rattle.index_launch.specs.declared.points.PointArg.{PointArg}
use Rattle.machine_terms.specs.Launches.{launched}
use Rattle.launch_calls.specs.Rounds.{in_common, rounds_begun, shown_launch}
use Rattle.launch_calls.proofs.Launching.{begun_are_all}
use Rattle.launch_calls.proofs.rounds.Rounds.issue.Goals as goal

pub returns : goal.returns
returns c =
    let launch = in_common c.args.self.now c.args.slots.now in
    let listed : map (λ args. args.items) c.as_slice.result.now ≡ calls_of (rounds_begun c.args.colours c.args.turns) c.args.args.now =
    search rules in
    subst (λ r. IfOk c.all.result (λ issued. shown_launch issued ≡ r))
    (ap (λ (rounds : List (List PointArg)). launched launch rounds c.args.turns) listed
    ∙ begun_are_all launch c.args.colours c.args.turns c.args.args.now)
    c.all.ensures
