use Rattle.std.proofs.Common.{◌≡◌, sym, subst, ◌∙◌, ℤ, None, Some, set, arith}
use Rattle.std.proofs.lemmas.Int.{to_z-of_z}
use Rattle.std.specs.Prelude.{slice_get}
use Rattle.region_tree.specs.Pieces.{Held}
use Rattle.machine_terms.specs.Parts.{set_beside, value_beside}
use Rattle.machine_state.proofs.Spots.{beside_none, beside_place}
use Rattle.machine_state.proofs.holdings.number_in.Goals as goal

pub returns-in-None-clause-none : goal.returns-in-None-clause-none
returns-in-None-clause-none c =
    subst (λ (h : Held). value_beside h.points h.values c.args.point ≡ None) c.piece.view_is
    (beside_none c.piece.inside.points c.piece.inside.values c.args.point (sym c.in-None.ensures.value))

pub returns-in-Some-value_at-clause-some : goal.returns-in-Some-value_at-clause-some
returns-in-Some-value_at-clause-some c =
    let e : value_beside c.args.piece.now.points c.args.piece.now.values c.args.point ≡ Some c.in-Some-value_at.value =
    subst (λ (h : Held). value_beside h.points h.values c.args.point ≡ slice_get h.values c.in-Some.place) c.piece.view_is
    (beside_place c.piece.inside.points c.piece.inside.values c.args.point c.in-Some.place (sym c.in-Some.ensures.value) c.piece.invariant).value
    ∙ sym c.in-Some-value_at.ensures in
    grind (arith, to_z-of_z)

pub returns-in-Some-value_at-clause-set : goal.returns-in-Some-value_at-clause-set
returns-in-Some-value_at-clause-set c =
    subst (λ (h : Held). (z : ℤ) → set_beside h.points h.values c.args.point z ≡ set h.values c.in-Some.place z) c.piece.view_is
    (beside_place c.piece.inside.points c.piece.inside.values c.args.point c.in-Some.place (sym c.in-Some.ensures.value) c.piece.invariant).puts

pub returns-in-None-value_at-clause-none : goal.returns-in-None-value_at-clause-none
returns-in-None-value_at-clause-none c =
    subst (λ (h : Held). value_beside h.points h.values c.args.point ≡ slice_get h.values c.in-Some.place) c.piece.view_is
    (beside_place c.piece.inside.points c.piece.inside.values c.args.point c.in-Some.place (sym c.in-Some.ensures.value) c.piece.invariant).value
    ∙ sym c.in-None-value_at.ensures
