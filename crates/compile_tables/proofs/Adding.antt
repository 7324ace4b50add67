-- One more need, and one more field.
use Rattle.std.proofs.Common.{◌≡◌, ℕ, suc, ◌+◌, ◌-◌, ◌<◌, List, [], ◌∷◌, ◌++◌, length, get_or, drop, ap, ◌∙◌, sym, arith, append_assoc}
use Rattle.std.proofs.Math.Numerals.{suc-eq-add-one}
use Rattle.std.proofs.lemmas.List.{drop_more}
use Rattle.lane_kernels.specs.declared.numbers.Mode.{Mode}
use Rattle.plain_values.specs.Points.{counted_from}
use Rattle.regent_tree.specs.Syntax.{TaskTree, Tree}
use Rattle.regent_tree.specs.declared.program.Place.{Place}
use Rattle.task_code.specs.declared.code.NeedCode.{NeedCode}
use Rattle.code_rules.specs.Needs.{needs_of_place, needs_of_places}

first_counted : (i n : ℕ) → i < n → counted_from i (n - i) ≡ i ∷ counted_from (i + 1) (n - (i + 1))
first_counted i n h =
    let more : n - i ≡ suc (n - (i + 1)) = omega (arith, h) in
    ap (λ m. counted_from i m) more ∙ ap (λ j. i ∷ counted_from j (n - (i + 1))) (suc-eq-add-one i)

pub counted_on : (i n v : ℕ) (fields after whole : List ℕ) → i < n → v ≡ i → after ≡ fields ++ v ∷ [] →
    fields ++ counted_from i (n - i) ≡ whole → after ++ counted_from (i + 1) (n - (i + 1)) ≡ whole
counted_on i n v fields after whole h is e before =
    let rest = counted_from (i + 1) (n - (i + 1)) in
    ap (λ xs. xs ++ rest) e
    ∙ append_assoc fields (v ∷ []) rest
    ∙ ap (λ x. fields ++ x ∷ rest) is
    ∙ ap (λ xs. fields ++ xs) (sym (first_counted i n h))
    ∙ before

pub places_on : (tree : Tree) (t : TaskTree) (m : Mode) (places : List Place) (i : ℕ) (p : Place) (now after whole : List NeedCode) →
    i < length places → p ≡ get_or places i p → after ≡ now ++ needs_of_place tree t m p →
    now ++ needs_of_places tree t m (drop i places) ≡ whole → after ++ needs_of_places tree t m (drop (i + 1) places) ≡ whole
places_on tree t m places i p now after whole h is e before =
    let rest = needs_of_places tree t m (drop (i + 1) places) in
    ap (λ ns. ns ++ rest) e
    ∙ append_assoc now (needs_of_place tree t m p) rest
    ∙ ap (λ (q : Place). now ++ (needs_of_place tree t m q ++ rest)) is
    ∙ ap (λ ps. now ++ needs_of_places tree t m ps) (sym (drop_more places i p h))
    ∙ before
