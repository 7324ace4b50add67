-- Partitions that are cut of a region: their sets lie within it and rise, and where the type says so they
-- share no point.
use Rattle.std.proofs.Common.{arith, Bool, List, [], ◌∷◌, true, refl, ap, sym, subst, ℕ, suc, ℤ, pos, negsuc, ◌+◌, ◌-◌, ◌*◌, ◌/◌, ◌≡◌, ◌≢◌, ◌∙◌, ◌<◌, inl, inr, All, drop, length, take, nat_abs}
use Rattle.std.proofs.lemmas.Bool.{cases_eq, cases_lt, or_cases, or_left, or_right}
use Rattle.std.proofs.lemmas.List.{take-append-drop}
use Rattle.std.proofs.lemmas.List.Elements.{All-cons, All-from_get_or}
use Rattle.std.specs.List.{list_any}
use Rattle.std.specs.List.Sorted.{IsStrictlyIncreasing}
use Rattle.plain_values.specs.Points.{has}
use Rattle.point_sets.proofs.Rising.{has-append, within_each, within_from_each}
use Rattle.partitions.specs.Laws.{ArePartsOf, NoneShared, colour}
use Rattle.partitions.proofs.Apart.{equal_apart, field_apart, preimage_apart}
use Rattle.partitions.proofs.Colours.{all_made, colour_lacking, in_one_at_most, none_shared, part_points}
use Rattle.partitions.proofs.Inside.{IsPartOf, field_parts, filtered_parts}
use Rattle.partitions.proofs.Pairs.{both_apart, both_parts, either_parts, without_apart, without_parts}
use Rattle.regent_tree.specs.Operators.{difference}
use Rattle.regent_tree.specs.Partitions.{both_flag, both_sets, by_field_flag, by_field_sets, either_flag, either_sets, equal_flag, equal_part, equal_sets, image_flag, image_sets, is_among, is_point, numbers_at, point_named, points_where, preimage_flag, preimage_sets}
use Rattle.regent_tree.specs.Values.{Partition, Region, partition_of}
use Rattle.fact_laws.specs.Regions.{Interpretation, IsPartitionOf, LiesWithin, SharesNoPoint, child_at}
use Rattle.expression_laws.specs.Sound.{AreInStore, IsInStore}

-- a partition is cut of a region, where it has this flag
pub record IsCut (parent : Region) (disjoint : Bool) (q : Partition) : Type 0 where
  pub root : q.root ≡ parent.root
  pub parts : ArePartsOf parent.points q.sets
  pub apart : disjoint ≡ true → NoneShared q.sets

none_rise : IsStrictlyIncreasing []
none_rise k l = absurd (omega (arith, l))

-- ---- what a cut has

module _ (parent : Region) (disjoint : Bool) (q : Partition) (cut : IsCut parent disjoint q) where
  part_at : (c : ℕ) → IsPartOf parent.points (colour q.sets c)
  part_at c = elim (cases_lt c (length q.sets)) [
    | inl l ↦ cut.parts c [] l
    | inr g ↦ subst (IsPartOf parent.points) (sym (colour_lacking q.sets c g)) (none_rise, refl)
  ]

  pub cut_within : (z : ℤ) → LiesWithin (child_at q z) parent
  cut_within (pos c) root x is = (sym cut.root ∙ is.0, within_each (colour q.sets c) parent.points (part_at c).1 x is.1)
  cut_within (negsuc c) root x is = absurd cc

  pub cut_apart : disjoint ≡ true → (y z : ℤ) → y ≢ z → SharesNoPoint (child_at q y) (child_at q z)
  cut_apart e (pos a) (pos b) ne root x is js = ne (ap pos (in_one_at_most q.sets (cut.apart e) a b x is.1 js.1))
  cut_apart e (negsuc a) z ne root x is js = absurd cc
  cut_apart e (pos a) (negsuc b) ne root x is js = absurd cc

  pub cut_in_store : (count : ℕ) → IsInStore count parent → (z : ℤ) → IsInStore count (child_at q z)
  cut_in_store count are z = record { below = λ root x is. are.below root x (cut_within z root x is); rising = rising z }
    where
      rising : (z : ℤ) → IsStrictlyIncreasing (child_at q z).points
      rising (pos c) = (part_at c).0
      rising (negsuc c) = none_rise

-- a partition that is known as one of a region is cut of it
pub cut_known : (m : Interpretation) (p r : ℕ) (disjoint : Bool) (count : ℕ) → IsPartitionOf m p r disjoint → (m.partition p).root ≡ (m.region r).root → AreInStore m count →
    IsCut (m.region r) disjoint (m.partition p)
cut_known m p r disjoint count is same are = let sets = (m.partition p).sets in record {
  root = same;
  parts = All-from_get_or (IsPartOf (m.region r).points) sets [] (λ c l. (
    (are.children p (pos c)).rising,
    within_from_each (colour sets c) (m.region r).points (λ x h. (is.within (pos c) (m.partition p).root x (refl, h)).1),
  ));
  apart = λ e. none_shared sets (λ c d x a b. elim (cases_eq c d) [
    | inl same ↦ same
    | inr ne ↦ absurd (is.apart e (pos c) (pos d) (λ q. ne (ap nat_abs q)) (m.partition p).root x (refl, a) (refl, b))
  ]);
}

-- less may be asked of it
pub cut_weaker : (parent : Region) (a b : Bool) (q : Partition) → (b ≡ true → a ≡ true) → IsCut parent a q → IsCut parent b q
cut_weaker parent a b q less cut = record { root = cut.root; parts = cut.parts; apart = λ e. cut.apart (less e) }

-- ---- what the operations give

-- all members of a list are below some number
bounded : (xs : List ℕ) → (b : ℕ) × All (λ x. x < b) xs
bounded [] = (0, λ k d l. absurd (omega (arith, l)))
bounded (x ∷ xs) =
    let rest = bounded xs in
    (suc x + rest.0, All-cons (λ y. y < suc x + rest.0) x xs (omega (arith)) (λ k d l. let below = rest.1 k d l in omega (arith, below)))

in_slice : (first size x : ℕ) (r : List ℕ) → has (take size (drop first r)) x ≡ true → has r x ≡ true
in_slice first size x r h =
    let rest = drop first r in
    let inner : has rest x ≡ true = subst (λ ys. has ys x ≡ true) (take-append-drop size rest) (has-append (take size rest) (drop size rest) x ∙ or_left _ _ h) in
    subst (λ ys. has ys x ≡ true) (take-append-drop first r) (has-append (take first r) rest x ∙ or_right (has (take first r) x) _ inner)

equal_within : (r : List ℕ) (n : ℕ) → IsStrictlyIncreasing r → ArePartsOf r (equal_sets r n)
equal_within r n up = all_made (IsPartOf r) (equal_part r n) n (λ c l. slice (length r * c / n) (length r * suc c / n - length r * c / n))
  where
    slice : (first size : ℕ) → IsPartOf r (take size (drop first r))
    slice first size =
        let b = bounded r in (
          (part_points b.0 r first size (record { rising = up; below = b.1 })).rising,
          within_from_each (take size (drop first r)) r (λ x h. in_slice first size x r h),
        )

pub equal_cut : (a : Region) (n : ℕ) → IsStrictlyIncreasing a.points → IsCut a equal_flag (record { root = a.root; disjoint = equal_flag; sets = equal_sets a.points n })
equal_cut a n up = record { root = refl; parts = equal_within a.points n up; apart = λ e. equal_apart a.points n up }

pub field_cut : (a : Region) (zs : List ℤ) (n : ℕ) → IsStrictlyIncreasing a.points →
    IsCut a by_field_flag (record { root = a.root; disjoint = by_field_flag; sets = by_field_sets a.points zs n })
field_cut a zs n up = record { root = refl; parts = field_parts a.points zs n up; apart = λ e. field_apart a.points zs n up }

pub image_cut : (a : Region) (sets : List (List ℕ)) (r : List ℕ) (zs : List ℤ) (pointers : Bool) → IsStrictlyIncreasing a.points →
    IsCut a image_flag (record { root = a.root; disjoint = image_flag; sets = image_sets a.points sets r zs pointers })
image_cut a sets r zs pointers up = record {
  root = refl;
  parts = filtered_parts a.points (λ set x. list_any (λ z. is_point x (point_named pointers z)) (numbers_at set r zs)) sets up;
  apart = λ e. absurd cc;
}

pub preimage_cut : (a : Region) (disjoint flag : Bool) (sets : List (List ℕ)) (r : List ℕ) (zs : List ℤ) (pointers : Bool) → IsStrictlyIncreasing a.points → IsStrictlyIncreasing r →
    (disjoint ≡ true → NoneShared sets) → IsCut a (preimage_flag disjoint) (record { root = a.root; disjoint = preimage_flag flag; sets = preimage_sets a.points sets r zs pointers })
preimage_cut a disjoint flag sets r zs pointers up rising apart = record {
  root = refl;
  parts = filtered_parts a.points (λ set. has (points_where (λ z. is_among set (point_named pointers z)) r zs)) sets up;
  apart = λ e. preimage_apart a.points sets r zs pointers rising (apart e);
}

pub both_cut : (a : Region) (d e flag : Bool) (p q : Partition) → IsCut a d p → IsCut a e q → IsCut a (both_flag d e) (record { root = p.root; disjoint = flag; sets = both_sets p.sets q.sets })
both_cut a d e flag p q first second = record {
  root = first.root;
  parts = both_parts a.points p.sets q.sets first.parts;
  apart = λ either. both_apart p.sets q.sets (elim (or_cases d e either) [ inl h ↦ inl (first.apart h) | inr h ↦ inr (second.apart h) ]);
}

pub either_cut : (a : Region) (d e flag : Bool) (p q : Partition) → IsCut a d p → IsCut a e q → IsCut a either_flag (record { root = p.root; disjoint = flag; sets = either_sets p.sets q.sets })
either_cut a d e flag p q first second = record { root = first.root; parts = either_parts a.points p.sets q.sets first.parts second.parts; apart = λ e. absurd cc }

pub minus_cut : (a : Region) (d : Bool) (p q : Partition) → IsCut a d p → IsCut a d (partition_of (difference p q))
minus_cut a d p q first = record { root = first.root; parts = without_parts a.points p.sets q.sets first.parts; apart = λ h. without_apart p.sets q.sets (first.apart h) }
