use Rattle.std.proofs.Common.{◌≡◌, drop, map}
use Rattle.regent_tree.specs.Typing.{put}
use Rattle.check_rules.specs.types.Fitting.{agree_all}
use Rattle.static_types.proofs.params.agree_put.Given as goal

abbrev pub invariant-loop-place : goal.invariant-loop-place
invariant-loop-place l = agree_all (map (put l.types) (drop l.place l.args)) (drop l.place l.others)
    ≡ agree_all (map (put l.types) l.args) l.others
