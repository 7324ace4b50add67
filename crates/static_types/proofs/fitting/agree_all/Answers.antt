use Rattle.std.proofs.Common.{rules, ◌≤◌, drop, length, sym, ◌∙◌}
use Rattle.static_types.proofs.Agreement.{agree_all-short}
use Rattle.static_types.proofs.fitting.agree_all.Goals as goal

pub returns-in_default : goal.returns-in_default
returns-in_default c =
    let short : length c.args.others.now ≤ c.loop-place.place = search rules in
    sym (agree_all-short (drop c.loop-place.place c.args.args.now) c.args.others.now c.loop-place.place short)
    ∙ c.loop-place.invariant
