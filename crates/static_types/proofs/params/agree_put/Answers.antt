use Rattle.std.proofs.Common.{rules, ◌≤◌, drop, length, map, sym, ◌∙◌}
use Rattle.regent_tree.specs.Typing.{put}
use Rattle.static_types.proofs.Agreement.{agree_all-short}
use Rattle.static_types.proofs.params.agree_put.Goals as goal

pub returns-in_default : goal.returns-in_default
returns-in_default c =
    let short : length c.args.others.now ≤ c.loop-place.place = search rules in
    sym (agree_all-short (map (put c.args.types.now) (drop c.loop-place.place c.args.args.now)) c.args.others.now c.loop-place.place short)
    ∙ c.loop-place.invariant
