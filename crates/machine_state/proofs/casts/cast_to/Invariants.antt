use Rattle.std.proofs.Common.{◌≡◌, None, drop}
use Rattle.machine_state.specs.Casts.{cast_from}
use Rattle.machine_terms.specs.Pointers.{regions_in}
use Rattle.machine_state.proofs.casts.cast_to.Given as goal

abbrev pub invariant-loop-place : goal.invariant-loop-place
invariant-loop-place l =
    cast_from l.found l.place (regions_in l.slots (drop l.place l.regions)) l.number
    ≡ cast_from None 0 (regions_in l.slots l.regions) l.number
