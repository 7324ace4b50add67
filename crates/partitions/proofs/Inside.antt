-- Sets within a parent.
use Rattle.std.proofs.Common.{◌≡◌, ℕ, ℤ, suc, ◌-◌, ◌*◌, ◌/◌, ◌<◌, Bool, true, false, List, length}
use Rattle.std.proofs.Common.{take, drop, map, filter, Contains, sym, ◌∙◌, arith, ◌+◌, get_or-take}
use Rattle.std.proofs.Common.{get_or-drop, length-take, length-drop}
use Rattle.std.proofs.lemmas.Bool.{and_parts}
use Rattle.std.proofs.lemmas.List.Elements.{All-map}
use Rattle.std.specs.List.Sorted.{IsStrictlyIncreasing}
use Rattle.plain_values.specs.Points.{IsPoints, has, within}
use Rattle.point_sets.specs.declared.TheConstants.{POINT_LIMIT}
use Rattle.point_sets.proofs.Rising.{has-filter, rising-filter, within_from_each, Contains-from_has}
use Rattle.point_sets.proofs.Rising.{has-from_Contains}
use Rattle.regent_tree.specs.Partitions.{point_named, is_point, points_where, equal_part}
use Rattle.regent_tree.specs.Partitions.{equal_sets, by_field_sets}
use Rattle.partitions.specs.Laws.{ArePartsOf}
use Rattle.partitions.proofs.Colours.{all_made, part_points}
use Rattle.partitions.proofs.Reached.{rising-where, where_within}

abbrev pub IsPartOf : List ℕ → List ℕ → Type 0
IsPartOf parent set = IsStrictlyIncreasing set × (within set parent ≡ true)

pub part_filtered : (test : ℕ → Bool) (parent : List ℕ) → IsStrictlyIncreasing parent →
    IsPartOf parent (filter test parent)
part_filtered test parent up = (
  rising-filter test parent up,
  within_from_each (filter test parent) parent
      (λ x m. (and_parts (has parent x) (test x) (sym (has-filter test parent x) ∙ m)).0),
)

pub equal_parts : (r : List ℕ) (n : ℕ) → IsPoints POINT_LIMIT r → ArePartsOf r (equal_sets r n)
equal_parts r n p = all_made (IsPartOf r) (equal_part r n) n (λ c l. part c)
  where
    part : (c : ℕ) → IsPartOf r (equal_part r n c)
    part c =
        let first = length r * c / n in
        let size = length r * suc c / n - length r * c / n in
        let points = part_points POINT_LIMIT r first size p in
        (points.rising, within_from_each (equal_part r n c) r (λ x m. held first size x m))
      where
        held : (first size x : ℕ) → has (take size (drop first r)) x ≡ true → has r x ≡ true
        held first size x m = has-from_Contains r x
            (contained (Contains-from_has (take size (drop first r)) x m))
          where
            contained : Contains (take size (drop first r)) x → Contains r x
            contained at =
                let k = at.0 in
                let n = length-take size (drop first r) in
                let n' = length-drop first r in
                let here : k < size = omega (arith, at.1) in (
                  first + k,
                  omega (arith, at.1),
                  sym
                      (get_or-take size (drop first r) k x here ∙ get_or-drop first r k x) ∙ at.2,
                )

pub field_parts : (r : List ℕ) (zs : List ℤ) (n : ℕ) → IsStrictlyIncreasing r →
    ArePartsOf r (by_field_sets r zs n)
field_parts r zs n up =
    all_made (IsPartOf r) (λ c. points_where (λ z. is_point c (point_named false z)) r zs) n
    (λ c l. let test = λ (z : ℤ). is_point c (point_named false z) in (
      rising-where test r zs up,
      within_from_each (points_where test r zs) r
          (λ x m. where_within test r zs x m),
    ))

-- a filter of the parent for each of some sets
pub filtered_parts : (parent : List ℕ) (test : List ℕ → ℕ → Bool) (sets : List (List ℕ)) →
    IsStrictlyIncreasing parent → ArePartsOf parent (map (λ set. filter (test set) parent) sets)
filtered_parts parent test sets up =
    All-map (IsPartOf parent) (λ set. filter (test set) parent) sets
    (λ k d l. part_filtered (test _) parent up)
