use Rattle.std.proofs.Common.{rules, ◌≡◌, ◌∙◌, ◌<◌, ◌+◌, FitsSigned, Some, ap, arith, get_or, length, of_z, pos, sym, to_z, w64, ℕ}
use Rattle.std.specs.Option.{option_copied}
use Rattle.std.specs.Prelude.{slice_get, slice_set}
use Rattle.std.specs.List.Sorted.{IsStrictlyIncreasing}
use Rattle.std.proofs.Math.Numerals.{suc-eq-add-one}
use Rattle.std.proofs.lemmas.Int.{to_z-of_z}
use Rattle.std.proofs.lemmas.Option.{get_or_from_slice_get}
use Rattle.logical_map.specs.Fills.{number_for}
use Rattle.physical_instances.specs.Fields.{column_if}
use Rattle.physical_instances.specs.Instances.{put_at}
use Rattle.physical_instances.proofs.Stretches.{points_follow}
use Rattle.physical_instances.proofs.fill.move_run.Goals as goal

pub returns-then-is_empty-clause-values : goal.returns-then-is_empty-clause-values
returns-then-is_empty-clause-values c =
    let ps = c.args.points.now in
    let place = c.args.place in
    let f = number_for (column_if (option_copied c.args.field)) c.args.mode in
    let at : slice_get ps place ≡ Some c.in-Some.point = search (rules) in
    let here : place ≡ place + 0 = omega arith in
    let new : FitsSigned w64 c.number_for.result = search (rules) in
    let number : c.number_for.result ≡ f c.in-Some.point = search (rules) in
    ap (slice_set c.args.values.now place) (to_z-of_z w64 c.number_for.result new ∙ number ∙ ap f (sym (get_or_from_slice_get ps place c.in-Some.point 0 at)))
    ∙ ap (λ (k : ℕ). slice_set c.args.values.now k (f (get_or ps k 0))) here

pub loop-offset-preserved : goal.loop-offset-preserved
loop-offset-preserved c =
    let ps = c.args.points.now in
    let place = c.args.place in
    let k = c.loop-offset.offset in
    let f = number_for (column_if (option_copied c.args.field)) c.args.mode in
    let run = c.run_for-run.result.now in
    let at : slice_get ps place ≡ Some c.in-Some.point = search (rules) in
    let rise : IsStrictlyIncreasing ps = search (rules) in
    let below : k < length run = search (rules) in
    let point = points_follow ps place c.in-Some.point (length run) rise at c.run_for-run.ensures.points k below in
    let fits : FitsSigned w64 (get_or run k (pos 0)) = search (rules) in
    let value : to_z w64 (of_z w64 (get_or run k (pos 0))) ≡ f (get_or ps (place + k) 0) =
    to_z-of_z w64 (get_or run k (pos 0)) fits ∙ sym (c.run_for-run.ensures.numbers k below)
    ∙ ap f (sym (get_or_from_slice_get ps (place + k) (c.in-Some.point + k) 0 point)) in
    record {
      count = search (rules);
      put = ap (slice_set c.loop-offset.values (place + k)) value
          ∙ ap (λ zs. slice_set zs (place + k) (f (get_or ps (place + k) 0))) c.loop-offset.invariant.put
          ∙ ap (λ (n : ℕ). put_at f ps place n c.args.values.now) (suc-eq-add-one k);
    }
