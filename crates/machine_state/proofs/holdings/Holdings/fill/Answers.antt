use Rattle.std.proofs.Common.{◌≡◌, sym, subst, ◌∙◌, List, ◌∷◌, ◌+◌, drop, None, Some, ℤ, to_z, of_z, w64}
use Rattle.std.proofs.lemmas.Int.{to_z-of_z}
use Rattle.machine_terms.specs.declared.frame.Frame.{Frame}
use Rattle.machine_terms.specs.declared.value.Value.{Value}
use Rattle.machine_state.specs.Fills.{behind}
use Rattle.machine_terms.specs.Regions.{fill_points}
use Rattle.machine_state.proofs.Filling.{IsFilled, drop_get, filled_next}
use Rattle.machine_state.proofs.holdings.Holdings.fill.Goals as goal

pub loop-place-preserved : goal.loop-place-preserved
loop-place-preserved c =
    let past : IsFilled c.args.root.0 c.args.field c.args.width (to_z w64 (of_z w64 c.args.number)) c.args.points.now c.args.self.now c.loop-place.self (c.in-Some.point ∷ drop (c.loop-place.place + 1) c.args.points.now) =
    subst (IsFilled c.args.root.0 c.args.field c.args.width (to_z w64 (of_z w64 c.args.number)) c.args.points.now c.args.self.now c.loop-place.self)
    (drop_get c.args.points.now c.loop-place.place c.in-Some.point (sym c.in-Some.ensures.value)) c.loop-place.invariant in
    record {
      needs = c.fill_at.ensures.needs ∙ c.loop-place.invariant.needs;
      points = filled_next c.args.root.0 c.args.field c.args.width (to_z w64 (of_z w64 c.args.number)) c.args.points.now c.args.self.now
          c.loop-place.self c.in-Some.point (drop (c.loop-place.place + 1) c.args.points.now) c.fill_at.new.self.parts None past c.in_default-fill_at.ensures.cell;
    }

pub returns-in-Some-fill_at-clause-cells : goal.returns-in-Some-fill_at-clause-cells
returns-in-Some-fill_at-clause-cells c =
    let past : IsFilled c.args.root.0 c.args.field c.args.width (to_z w64 (of_z w64 c.args.number)) c.args.points.now c.args.self.now c.loop-place.self (c.in-Some.point ∷ drop (c.loop-place.place + 1) c.args.points.now) =
    subst (IsFilled c.args.root.0 c.args.field c.args.width (to_z w64 (of_z w64 c.args.number)) c.args.points.now c.args.self.now c.loop-place.self)
    (drop_get c.args.points.now c.loop-place.place c.in-Some.point (sym c.in-Some.ensures.value)) c.loop-place.invariant in
    subst (λ (n : ℤ). (frame : Frame) (st : List Value) → frame.needs.items ≡ c.args.self.now.needs →
    fill_points c.args.root.0 c.args.field c.args.width n c.args.points.now st (record { frame = frame; parts = c.args.self.now.parts })
    ≡ behind (Some c.in-Some-fill_at.lack) c.args.root.0 c.args.field (record { frame = frame; parts = c.fill_at.new.self.parts })
    (fill_points c.args.root.0 c.args.field c.args.width (to_z w64 (of_z w64 c.args.number)) (drop (c.loop-place.place + 1) c.args.points.now) st))
    (to_z-of_z w64 c.args.number c.ranges.number)
    (filled_next c.args.root.0 c.args.field c.args.width (to_z w64 (of_z w64 c.args.number)) c.args.points.now c.args.self.now
    c.loop-place.self c.in-Some.point (drop (c.loop-place.place + 1) c.args.points.now) c.fill_at.new.self.parts (Some c.in-Some-fill_at.lack) past c.in-Some-fill_at.ensures.cell)
