use Rattle.std.proofs.Common.{rules, ◌≡◌, ◌∙◌, Some, ap, subst, of_z, to_z, w64, FitsSigned, suc, ◌++◌, take, drop}
use Rattle.std.specs.Prelude.{slice_get, slice_set}
use Rattle.std.proofs.Math.Numerals.{suc-eq-add-one}
use Rattle.std.proofs.lemmas.Int.{to_z-of_z}
use Rattle.reduction_folds.specs.Folds.{all_at, all_beside}
use Rattle.reduction_folds.proofs.Beside.{one_more}
use Rattle.reduction_folds.proofs.pending.Pending.fold_into.Goals as goal

pub loop-place-preserved : goal.loop-place-preserved
loop-place-preserved c =
    let w = c.args.width in
    let folds = c.args.self.now.folds in
    let values = c.loop-place.values in
    let place = c.loop-place.place in
    let value = c.in-Some-Some.value in
    let point : slice_get c.args.points.now place ≡ Some c.in-Some-Some.point = search (rules) in
    let there : slice_get values place ≡ Some value = search (rules) in
    let fits : FitsSigned w64 value = search (rules) in
    let got : FitsSigned w64 c.fold_at.result = search (rules) in
    let put : to_z w64 (of_z w64 c.fold_at.result) ≡ all_at w folds c.in-Some-Some.point value =
    to_z-of_z w64 c.fold_at.result got ∙ c.fold_at.ensures
    ∙ ap (λ z. all_at w folds c.in-Some-Some.point z) (to_z-of_z w64 value fits) in
    let more = one_more w folds c.args.points.now values place c.in-Some-Some.point value point there ∙ c.loop-place.invariant.done in
    record {
      count = search (rules);
      done = subst (λ k. take k (slice_set values place (to_z w64 (of_z w64 c.fold_at.result)))
          ++ all_beside w folds (drop k c.args.points.now) (drop k (slice_set values place (to_z w64 (of_z w64 c.fold_at.result))))
          ≡ all_beside w folds c.args.points.now c.args.values.now)
          (suc-eq-add-one place)
          (ap (λ z. take (suc place) (slice_set values place z) ++ all_beside w folds (drop (suc place) c.args.points.now) (drop (suc place) (slice_set values place z))) put ∙ more);
    }
