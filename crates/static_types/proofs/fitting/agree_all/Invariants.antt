use Rattle.std.proofs.Common.{◌≡◌, drop}
use Rattle.check_rules.specs.types.Fitting.{agree_all}
use Rattle.static_types.proofs.fitting.agree_all.Given as goal

abbrev pub invariant-loop-place : goal.invariant-loop-place
invariant-loop-place l = agree_all (drop l.place l.args) (drop l.place l.others) ≡ agree_all l.args l.others
