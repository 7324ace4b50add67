use Rattle.std.proofs.Common.{sym, ap, ◌∙◌, ◌%◌}
use Rattle.std.specs.List.{position_from}
use Rattle.std.proofs.lemmas.List.{length-set}
use Rattle.std.proofs.lemmas.List.Elements.{All-set}
use Rattle.machine_state.specs.Holding.{IsKnown}
use Rattle.machine_terms.specs.Parts.{is_part_of}
use Rattle.machine_state.proofs.Hints.{known_place}
use Rattle.machine_state.proofs.holdings.Holdings.place.Goals as goal

pub invariant_of-self : goal.invariant_of-self
invariant_of-self c = (
  length-set c.self.inside.found (c.args.field % 16) c.in-Ok.place ∙ c.self.invariant.0,
  All-set (IsKnown c.self.inside.needs.items c.self.inside.parts.items) c.self.inside.found (c.args.field % 16) c.in-Ok.place
      (known_place c.self.inside.needs.items c.self.inside.parts.items c.args.root.0 c.args.field c.in-Ok.place c.in-Ok.ensures.needed
      (ap (position_from (is_part_of c.args.root.0 c.args.field) 0) (sym c.as_slice.ensures.value) ∙ c.in-Ok.ensures.place))
      c.self.invariant.1,
)
