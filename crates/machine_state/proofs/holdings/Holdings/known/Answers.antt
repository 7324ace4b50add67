use Rattle.std.proofs.Common.{◌≡◌, ◌<◌, ◌%◌, List, sym, subst, Some, true, arith, get_or, length}
use Rattle.std.specs.List.{position_from}
use Rattle.region_tree.specs.declared.piece.Part.{Part}
use Rattle.machine_state.specs.Holding.{Holding}
use Rattle.machine_terms.specs.Parts.{is_needed, is_part_of}
use Rattle.machine_state.proofs.Hints.{known_at, known_needed}
use Rattle.machine_state.proofs.holdings.Holdings.known.Goals as goal

pub returns-then-part-field-clause-needed : goal.returns-then-part-field-clause-needed
returns-then-part-field-clause-needed c =
    let low : c.args.field % 16 < length c.self.inside.found = omega (arith, c.self.invariant.0) in
    let within : get_or c.self.inside.found (c.args.field % 16) 0 < length c.self.inside.parts.items =
    subst (λ (qs : List Part). get_or c.self.inside.found (c.args.field % 16) 0 < length qs) c.as_slice-parts.ensures.value c.if-place-parts.false in
    let read : get_or c.self.inside.parts.items (get_or c.self.inside.found (c.args.field % 16) 0) c.index-parts-place.result ≡ c.index-parts-place.result =
    sym (subst (λ (qs : List Part). c.index-parts-place.result ≡ get_or qs (get_or c.self.inside.found (c.args.field % 16) 0) c.index-parts-place.result) c.as_slice-parts.ensures.value c.index-parts-place.is) in
    subst (λ (v : Holding). is_needed v.needs c.args.root.0 c.args.field ≡ true) c.self.view_is
    (known_needed c.self.inside.needs.items c.self.inside.parts.items c.args.root.0 c.args.field (get_or c.self.inside.found (c.args.field % 16) 0) c.index-parts-place.result
    (c.self.invariant.1 (c.args.field % 16) 0 low) within read c.if-part-root.true c.if-part-field.true)

pub returns-then-part-field-clause-place : goal.returns-then-part-field-clause-place
returns-then-part-field-clause-place c =
    let low : c.args.field % 16 < length c.self.inside.found = omega (arith, c.self.invariant.0) in
    let within : get_or c.self.inside.found (c.args.field % 16) 0 < length c.self.inside.parts.items =
    subst (λ (qs : List Part). get_or c.self.inside.found (c.args.field % 16) 0 < length qs) c.as_slice-parts.ensures.value c.if-place-parts.false in
    let read : get_or c.self.inside.parts.items (get_or c.self.inside.found (c.args.field % 16) 0) c.index-parts-place.result ≡ c.index-parts-place.result =
    sym (subst (λ (qs : List Part). c.index-parts-place.result ≡ get_or qs (get_or c.self.inside.found (c.args.field % 16) 0) c.index-parts-place.result) c.as_slice-parts.ensures.value c.index-parts-place.is) in
    subst (λ (v : Holding). position_from (is_part_of c.args.root.0 c.args.field) 0 v.parts ≡ Some (get_or c.self.inside.found (c.args.field % 16) 0)) c.self.view_is
    (known_at c.self.inside.needs.items c.self.inside.parts.items c.args.root.0 c.args.field (get_or c.self.inside.found (c.args.field % 16) 0) c.index-parts-place.result
    (c.self.invariant.1 (c.args.field % 16) 0 low) within read c.if-part-root.true c.if-part-field.true)
