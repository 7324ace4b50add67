use Rattle.std.proofs.Common.{◌≡◌, drop}
use Rattle.machine_terms.specs.Parts.{is_needed}
use Rattle.machine_state.proofs.holdings.is_needed.Given as goal

abbrev pub invariant-loop-need : goal.invariant-loop-need
invariant-loop-need l =
    is_needed (drop l.need-index l.needs) l.root.0 l.field ≡ is_needed l.needs l.root.0 l.field
