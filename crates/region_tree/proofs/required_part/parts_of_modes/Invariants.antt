use Rattle.std.proofs.Common.{◌≡◌, ◌++◌, drop}
use Rattle.region_tree.specs.Requirements.{parts_of_modes}
use Rattle.region_tree.proofs.required_part.parts_of_modes.Given as goal

abbrev pub invariant-loop-mode : goal.invariant-loop-mode
invariant-loop-mode l =
    l.parts.items ++ parts_of_modes l.needs l.root.0 l.field
    (drop l.mode-index l.modes)
    ≡ parts_of_modes l.needs l.root.0 l.field l.modes
