-- The slots that the arguments of a launch name, from one argument on.
use Rattle.std.proofs.Common.{◌≡◌, ◌<◌, ◌+◌, ◌++◌, ℕ, List, drop, ap, flat_map, get_or, length}
use Rattle.std.proofs.lemmas.List.{drop_more}
use Rattle.index_launch.specs.declared.points.LaunchArg.{LaunchArg}
use Rattle.code_rules.specs.Used.{slots_named}

pub named_on : (args : List LaunchArg) (k : ℕ) (d : LaunchArg) → k < length args →
    flat_map slots_named (drop k args) ≡ slots_named (get_or args k d) ++ flat_map slots_named (drop (k + 1) args)
named_on args k d lt = ap (flat_map slots_named) (drop_more args k d lt)
