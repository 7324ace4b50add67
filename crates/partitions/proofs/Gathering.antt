-- Lists of points and their sets.
use Rattle.std.proofs.Common.{◌≡◌, ℕ, ◌+◌, ◌<◌, eqb, List, [], ◌∷◌, ◌++◌, length}
use Rattle.std.proofs.Common.{get_or, take, refl, Some, slice_get, Contains, All, sym, ◌∙◌, arith}
use Rattle.std.specs.List.{dedup}
use Rattle.std.specs.List.Retain.{IsFiltered, DiffersFromLast}
use Rattle.std.specs.List.Sorted.{IsPermutation, IsSorted, IsStrictlyIncreasing}
use Rattle.std.specs.Ordering.{nat_cmp}
use Rattle.std.proofs.Math.Bool.{or-false}
use Rattle.std.proofs.lemmas.Bool.Decides.{same_from_decides}
use Rattle.std.proofs.lemmas.List.{take_more}
use Rattle.std.proofs.lemmas.List.Filters.{dedup_is, All-dedup}
use Rattle.std.proofs.lemmas.List.Kept.{Contains-dedup_nat, Contains-from_dedup}
use Rattle.std.proofs.lemmas.List.Sorted.{All-permutation, Contains-permutation, IsPermutation-sym}
use Rattle.std.proofs.lemmas.Map.Keys.{IsStrictlyIncreasing-dedup}
use Rattle.std.proofs.lemmas.Option.{slice_get-get_or}
use Rattle.plain_values.specs.Points.{IsPoints, has}
use Rattle.point_sets.specs.declared.TheConstants.{POINT_LIMIT}
use Rattle.point_sets.proofs.Rising.{members_decide, has_decides, has-union_of, rising-union_of}
use Rattle.partitions.specs.Links.{set_of}

-- the set of a list has its members
pub has-set_of : (xs : List ℕ) (z : ℕ) → has (set_of xs) z ≡ has xs z
has-set_of xs z = has-union_of xs [] z ∙ or-false (has xs z)

pub rising-set_of : (xs : List ℕ) → IsStrictlyIncreasing (set_of xs)
rising-set_of xs = rising-union_of xs [] (λ k l. absurd (omega arith))

-- what a sort and a dedup leave of a list
module _ (xs ys zs : List ℕ) (moved : IsPermutation xs ys) (sorted : IsSorted nat_cmp ys)
    (once : IsFiltered (DiffersFromLast eqb) [] ys zs) where
  kept : zs ≡ dedup eqb ys
  kept = dedup_is eqb ys zs once

  pub gathered_points : All (λ x. x < POINT_LIMIT) xs → IsPoints POINT_LIMIT zs
  gathered_points below = rw kept (record {
    rising = IsStrictlyIncreasing-dedup ys sorted;
    below = All-dedup eqb (λ x. x < POINT_LIMIT) ys
        (All-permutation (λ x. x < POINT_LIMIT) xs ys moved below);
  })

  there : (z : ℕ) → Contains zs z → Contains xs z
  there z c =
      let d = rw kept at c in
      Contains-permutation ys xs z (IsPermutation-sym xs ys moved) (Contains-from_dedup eqb ys z d)

  back : (z : ℕ) → Contains xs z → Contains zs z
  back z c = rw kept (Contains-dedup_nat ys z (Contains-permutation xs ys z moved c))

  pub gathered_is : IsPoints POINT_LIMIT zs → zs ≡ set_of xs
  gathered_is points =
      members_decide zs (set_of xs) points.rising (rising-set_of xs)
      (λ z. same z ∙ sym (has-set_of xs z))
    where
      same : (z : ℕ) → has zs z ≡ has xs z
      same z =
          let a = has_decides zs z in
          let b = has_decides xs z in
          same_from_decides (has zs z) (has xs z) a (λ h. back z (b.0 h), λ c. b.1 (there z c))

-- a list that is read place by place
pub place_read : (xs : List ℕ) (i x : ℕ) → i < length xs → slice_get xs i ≡ Some x →
    take i xs ++ x ∷ [] ≡ take (i + 1) xs
place_read xs i x l e =
    let at = slice_get-get_or xs i 0 l in
    let same : x ≡ get_or xs i 0 = cc in
    rw (take_more xs i 0 l, same) refl
