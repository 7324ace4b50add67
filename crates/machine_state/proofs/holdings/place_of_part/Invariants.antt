use Rattle.std.proofs.Common.{◌≡◌, drop}
use Rattle.std.specs.List.{position_from}
use Rattle.machine_terms.specs.Parts.{is_part_of}
use Rattle.machine_state.proofs.holdings.place_of_part.Given as goal

abbrev pub invariant-loop-place : goal.invariant-loop-place
invariant-loop-place l =
    position_from (is_part_of l.root.0 l.field) l.place (drop l.place l.parts)
    ≡ position_from (is_part_of l.root.0 l.field) 0 l.parts
