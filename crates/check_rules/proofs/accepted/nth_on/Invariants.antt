use Rattle.std.proofs.Common.{◌≡◌, drop}
use Rattle.check_rules.specs.launches.Shapes.{nth_on}
use Rattle.check_rules.proofs.accepted.nth_on.Given as goal

abbrev pub invariant-loop-one : goal.invariant-loop-one
invariant-loop-one l = nth_on (drop l.one-index l.loops) l.line l.before ≡ nth_on l.loops l.line l.nth
