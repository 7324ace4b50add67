-- The calls of a launch, from a colour on.
use Rattle.std.proofs.Common.{◌≡◌, ◌<◌, ◌+◌, ◌-◌, ◌++◌, ◌∷◌, [], ◌∙◌, List, ap, arith, map, suc, sym, ℕ}
use Rattle.std.proofs.Math.Numerals.{suc-eq-add-one}
use Rattle.std.proofs.lemmas.List.{append_assoc}
use Rattle.plain_values.specs.Points.{counted_from}
use Rattle.index_launch.specs.Points.{call_at}
use Rattle.index_launch.specs.declared.points.LaunchArg.{LaunchArg}
use Rattle.index_launch.specs.declared.points.PointArg.{PointArg}

first_counted : (i n : ℕ) → i < n → counted_from i (n - i) ≡ i ∷ counted_from (i + 1) (n - (i + 1))
first_counted i n h =
    let more : n - i ≡ suc (n - (i + 1)) = omega (arith, h) in
    ap (λ k. counted_from i k) more ∙ ap (λ j. i ∷ counted_from j (n - (i + 1))) (suc-eq-add-one i)

-- one call more is behind those that were there
pub one_call_more : (args : List LaunchArg) (i n : ℕ) (call : List PointArg) (calls after whole : List (List PointArg)) → i < n →
    call ≡ call_at args i → after ≡ calls ++ call ∷ [] →
    calls ++ map (call_at args) (counted_from i (n - i)) ≡ whole → after ++ map (call_at args) (counted_from (i + 1) (n - (i + 1))) ≡ whole
one_call_more args i n call calls after whole h is e before =
    let rest = map (call_at args) (counted_from (i + 1) (n - (i + 1))) in
    ap (λ xs. xs ++ rest) e
    ∙ append_assoc calls (call ∷ []) rest
    ∙ ap (λ x. calls ++ x ∷ rest) is
    ∙ ap (λ ns. calls ++ map (call_at args) ns) (sym (first_counted i n h))
    ∙ before
