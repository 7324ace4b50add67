use Rattle.std.proofs.Common.{◌≡◌, sym, subst, ap, ◌∙◌, None, Some, ℕ, true, arith, length, ◌<◌}
use Rattle.std.specs.List.{position_from}
use Rattle.machine_state.specs.Holding.{Holding}
use Rattle.machine_terms.specs.Parts.{find, is_needed, is_part_of, missing, part_of}
use Rattle.machine_state.proofs.Spots.{IsPartAt, find_missing, part_at, part_within}
use Rattle.machine_state.proofs.holdings.Holdings.part_of.Goals as goal

pub returns-in_default-clause-err : goal.returns-in_default-clause-err
returns-in_default-clause-err c =
    let needed : is_needed c.self.inside.needs.items c.args.root.0 c.args.field ≡ true = cc in
    let none : position_from (is_part_of c.args.root.0 c.args.field) 0 c.self.inside.parts.items ≡ None = ap (position_from (is_part_of c.args.root.0 c.args.field) 0) (sym c.as_slice-2.ensures.value) ∙ sym c.in_default.ensures in
    subst (λ (v : Holding). (p : ℕ) → find v.needs v.parts c.args.root.0 c.args.field p ≡ missing) c.self.view_is
    (λ p. find_missing c.self.inside.needs.items c.self.inside.parts.items c.args.root.0 c.args.field p needed none)

pub index-requires : goal.index-requires
index-requires c =
    let within : c.in-Some.place < length c.as_slice-2.result.now = part_within c.as_slice-2.result.now c.args.root.0 c.args.field c.in-Some.place (sym c.in-Some.ensures) in
    omega (arith, c.as_slice-2.ensures.len)

pub returns-clause-part : goal.returns-clause-part
returns-clause-part c =
    let w : IsPartAt c.self.inside.parts.items c.args.root.0 c.args.field c.in-Some.place c.index.result.now =
    part_at c.self.inside.parts.items c.args.root.0 c.args.field c.in-Some.place c.index.result.now
    (ap (position_from (is_part_of c.args.root.0 c.args.field) 0) (sym c.as_slice-2.ensures.value) ∙ sym c.in-Some.ensures)
    (sym c.index.ensures) in
    subst (λ (v : Holding). part_of v.parts c.args.root.0 c.args.field ≡ Some c.index.result.now) c.self.view_is w.first
