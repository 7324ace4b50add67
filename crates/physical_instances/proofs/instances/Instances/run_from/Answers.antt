use Rattle.std.proofs.Common.{rules, ◌≡◌, ◌∙◌, ◌≤◌, ◌<◌, ◌+◌, ◌-◌, None, Some, ap, arith, drop, get_or, length, pos, subst, suc, sym, take, ℕ, ℤ, List}
use Rattle.std.specs.Prelude.{slice_get}
use Rattle.std.proofs.lemmas.Option.{get_or_from_slice_get, slice_get_read, slice_get_within}
use Rattle.std.specs.List.Sorted.{IsStrictlyIncreasing}
use Rattle.point_sets.specs.Stretches.{IsStretchFrom}
use Rattle.logical_map.specs.Maps.{number_beside}
use Rattle.physical_instances.specs.Instances.{Beside}
use Rattle.physical_instances.proofs.Stretches.{run_base, run_further}
use Rattle.physical_instances.proofs.instances.Instances.run_from.Goals as goal

pub returns-in-0-clause-numbers : goal.returns-in-0-clause-numbers
returns-in-0-clause-numbers c k below =
    let i = c.self.inside in
    let place = c.in-Some-Some.place in
    let n = place + c.same_from-count.result - place in
    let rise : IsStrictlyIncreasing i.points = search (rules) in
    let at : slice_get i.points place ≡ Some c.args.point = search (rules) in
    let stretch : IsStretchFrom i.points c.args.point c.in-Some-Some.stretch.start c.in-Some-Some.stretch.end = search (rules) in
    let base : length i.base.items ≡ length i.points = search (rules) in
    let valid : length i.valid.items ≡ length i.points = search (rules) in
    let same : (j : ℕ) → j < c.same_from-count.result → get_or i.valid.items (place + j) 0 ≡ get_or i.valid.items place 0 = search (rules) in
    let most : c.same_from-count.result ≤ c.in-Some-Some.stretch.end - c.args.point = search (rules) in
    let zero : get_or i.valid.items place 0 ≡ 0 = search (rules) in
    let items = c.as_slice-in-0.ensures.value in
    ap (λ (b : Beside). number_beside b.points b.numbers (c.args.point + k)) (sym c.self.view_is)
    ∙ run_base i.further.items i.points i.valid.items i.base.items place c.args.point c.in-Some-Some.stretch.start c.in-Some-Some.stretch.end
    c.same_from-count.result rise at stretch most same valid base n k zero (omega arith)
    (subst (λ (zs : List ℤ). k < length (take n (drop place zs))) items below)
    ∙ ap (λ (zs : List ℤ). Some (get_or (take n (drop place zs)) k (pos 0))) (sym items)

pub returns-in-Some-Some-get-clause-numbers : goal.returns-in-Some-Some-get-clause-numbers
returns-in-Some-Some-get-clause-numbers c k below =
    let i = c.self.inside in
    let place = c.in-Some-Some.place in
    let rise : IsStrictlyIncreasing i.points = search (rules) in
    let at : slice_get i.points place ≡ Some c.args.point = search (rules) in
    let stretch : IsStretchFrom i.points c.args.point c.in-Some-Some.stretch.start c.in-Some-Some.stretch.end = search (rules) in
    let base : length i.base.items ≡ length i.points = search (rules) in
    let valid : length i.valid.items ≡ length i.points = search (rules) in
    let same : (j : ℕ) → j < c.same_from-count.result → get_or i.valid.items (place + j) 0 ≡ get_or i.valid.items place 0 = search (rules) in
    let most : c.same_from-count.result ≤ c.in-Some-Some.stretch.end - c.args.point = search (rules) in
    let which = c.index.result.now in
    let h = c.in-Some-Some-get.piece in
    let inside = slice_get_within i.points place c.args.point at in
    let some : 0 < which = search (rules) in
    let one : which ≡ suc (which - 1) = omega (arith, some) in
    let mark = get_or_from_slice_get i.valid.items place which 0 (slice_get_read i.valid.items (length i.points) place which (sym valid) inside c.index.ensures) ∙ one in
    let there : get_or i.further.items (which - 1) None ≡ Some h = search (rules) in
    ap (λ (b : Beside). number_beside b.points b.numbers (c.args.point + k)) (sym c.self.view_is)
    ∙ run_further i.further.items i.points i.valid.items i.base.items place c.args.point c.in-Some-Some.stretch.start c.in-Some-Some.stretch.end
    c.same_from-count.result rise at stretch most same valid base (which - 1) h c.run_in.result.now k mark there c.run_in.ensures.most below
    (c.run_in.ensures.numbers k below)
