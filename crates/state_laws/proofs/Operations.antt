-- Partition operations: the sets are points of the root, the flag is true of them, and the root is the parent's.
use Rattle.std.proofs.Common.{List, [], ◌∷◌, Bool, false, true, refl, ap, sym, ℕ, ℤ, suc, ◌≡◌, ◌<◌, ◌≤◌, ◌||◌, inl, inr, not, get_or, subst, ◌∙◌, arith}
use Rattle.std.proofs.lemmas.Bool.{or_cases, or_left, or_right}
use Rattle.std.proofs.lemmas.List.{length-map}
use Rattle.std.proofs.lemmas.List.Elements.{All-cons, All-contains, All-get_or, All-head, All-nil, All-tail, Contains-get_or}
use Rattle.std.specs.List.{All, list_any}
use Rattle.std.specs.List.Sorted.{IsStrictlyIncreasing}
use Rattle.std.specs.Prelude.{filter, length}
use Rattle.partitions.proofs.Apart.{equal_apart, field_apart, preimage_apart}
use Rattle.partitions.proofs.Colours.{length_made}
use Rattle.partitions.proofs.Inside.{equal_parts, field_parts, filtered_parts, part_filtered}
use Rattle.partitions.proofs.Pairs.{both_apart, without_apart}
use Rattle.partitions.specs.Laws.{ArePartsOf, NoneShared}
use Rattle.plain_values.specs.Points.{IsPoints, has, meet_of, minus_of, union_of, within}
use Rattle.point_sets.proofs.Rising.{Contains-from_has, has-from_Contains, has-union_of, rising-union_of, within_each}
use Rattle.regent_tree.specs.Laws.{Shape}
use Rattle.regent_tree.specs.Partitions.{both_sets, by_field_sets, each_with, either_sets, equal_part, equal_sets, image_sets, is_among, is_point, minus_sets, numbers_at, point_named, points_where, preimage_sets}
use Rattle.regent_tree.specs.Syntax.{Tree}
use Rattle.regent_tree.specs.Values.{Partition, Region}
use Rattle.check_laws.proofs.Parts.{contrary}
use Rattle.state_laws.specs.Operations.{OperationsAreTrue}
use Rattle.value_laws.specs.Shapes.{AreRootsOfSpaces, IsPartitionOf, IsRegionOf, IsRootOfSpace, most_colours, no_shape}

-- ---- parts of a set of points

-- a rising part of a set of points
part_points : (bound : ℕ) (parent set : List ℕ) → IsPoints bound parent → IsStrictlyIncreasing set → within set parent ≡ true → IsPoints bound set
part_points bound parent set p rising inside = record {
  rising = rising;
  below = λ k e m. All-contains (λ x. x < bound) parent (get_or set k e) p.below
      (Contains-from_has parent _ (within_each set parent inside (get_or set k e) (has-from_Contains set _ (Contains-get_or set k e m))));
}

points_of_parts : (bound : ℕ) (parent : List ℕ) (sets : List (List ℕ)) → IsPoints bound parent → ArePartsOf parent sets → All (IsPoints bound) sets
points_of_parts bound parent sets p are i d l = let part = are i d l in part_points bound parent (get_or sets i d) p part.0 part.1

filter_points : (bound : ℕ) (test : ℕ → Bool) (xs : List ℕ) → IsPoints bound xs → IsPoints bound (filter test xs)
filter_points bound test xs p = let part = part_filtered test xs p.rising in part_points bound xs (filter test xs) p part.0 part.1

-- a set operation that takes points away
fewer_points : (bound : ℕ) (operation : List ℕ → List ℕ → List ℕ) (ps qs : List (List ℕ)) → ((xs ys : List ℕ) → IsPoints bound xs → IsPoints bound (operation xs ys)) →
    All (IsPoints bound) ps → All (IsPoints bound) (each_with operation ps qs)
fewer_points bound operation [] qs fewer are = All-nil (IsPoints bound)
fewer_points bound operation (p ∷ ps) [] fewer are = All-cons (IsPoints bound) (operation p []) (each_with operation ps [])
    (fewer p [] (All-head (IsPoints bound) p ps are)) (fewer_points bound operation ps [] fewer (All-tail (IsPoints bound) p ps are))
fewer_points bound operation (p ∷ ps) (q ∷ qs) fewer are = All-cons (IsPoints bound) (operation p q) (each_with operation ps qs)
    (fewer p q (All-head (IsPoints bound) p ps are)) (fewer_points bound operation ps qs fewer (All-tail (IsPoints bound) p ps are))

each_long : (operation : List ℕ → List ℕ → List ℕ) (ps qs : List (List ℕ)) → length (each_with operation ps qs) ≡ length ps
each_long operation [] qs = refl
each_long operation (p ∷ ps) [] = ap suc (each_long operation ps [])
each_long operation (p ∷ ps) (q ∷ qs) = ap suc (each_long operation ps qs)

-- the points of either set
joined : (bound : ℕ) (xs ys : List ℕ) → IsPoints bound xs → IsPoints bound ys → IsPoints bound (union_of xs ys)
joined bound xs ys p q = record {
  rising = rising-union_of xs ys q.rising;
  below = λ k e m. under (get_or (union_of xs ys) k e) (sym (has-union_of xs ys (get_or (union_of xs ys) k e)) ∙ has-from_Contains (union_of xs ys) _ (Contains-get_or (union_of xs ys) k e m));
}
  where
    under : (x : ℕ) → (has xs x || has ys x) ≡ true → x < bound
    under x e = elim (or_cases (has xs x) (has ys x) e) [
      | inl g ↦ All-contains (λ x. x < bound) xs x p.below (Contains-from_has xs x g)
      | inr g ↦ All-contains (λ x. x < bound) ys x q.below (Contains-from_has ys x g)
    ]

no_points : (bound : ℕ) → IsPoints bound []
no_points bound = record { rising = λ k l. absurd (omega (arith, l)); below = All-nil (λ x. x < bound) }

joined_points : (bound : ℕ) (ps qs : List (List ℕ)) → All (IsPoints bound) ps → All (IsPoints bound) qs → All (IsPoints bound) (each_with union_of ps qs)
joined_points bound [] qs are others = All-nil (IsPoints bound)
joined_points bound (p ∷ ps) [] are others = All-cons (IsPoints bound) (union_of p []) (each_with union_of ps [])
    (joined bound p [] (All-head (IsPoints bound) p ps are) (no_points bound)) (joined_points bound ps [] (All-tail (IsPoints bound) p ps are) others)
joined_points bound (p ∷ ps) (q ∷ qs) are others = All-cons (IsPoints bound) (union_of p q) (each_with union_of ps qs)
    (joined bound p q (All-head (IsPoints bound) p ps are) (All-head (IsPoints bound) q qs others))
    (joined_points bound ps qs (All-tail (IsPoints bound) p ps are) (All-tail (IsPoints bound) q qs others))

module _ (tree : Tree) (roots : List Shape) (rooted : AreRootsOfSpaces tree roots) (space : ℕ) where
  -- a partition of a region's points
  made : (flag static : Bool) (q : Region) (sets : List (List ℕ)) → IsRegionOf roots space q → ArePartsOf q.points sets → length sets ≤ most_colours → (static ≡ true → flag ≡ true) →
      (flag ≡ true → NoneShared sets) → IsPartitionOf roots space static (record { root = q.root; disjoint = flag; sets = sets })
  made flag static q sets is parts few flagged apart = record {
    there = is.there;
    of_space = is.of_space;
    sets = points_of_parts (get_or roots q.root no_shape).count q.points sets is.points parts;
    few = few;
    flag = flagged;
    apart = apart;
  }

  pub equal_is : (q : Region) (n : ℕ) → IsRegionOf roots space q → n ≤ most_colours → IsPartitionOf roots space true (record { root = q.root; disjoint = true; sets = equal_sets q.points n })
  equal_is q n is few =
      let bounded = (All-get_or (IsRootOfSpace tree) roots q.root no_shape is.there rooted).bounded in
      let long = length_made (equal_part q.points n) n in
      made true true q (equal_sets q.points n) is
      (equal_parts q.points n (record { rising = is.points.rising; below = λ k e m. let l = is.points.below k e m in omega (arith, l, bounded) }))
      (omega (arith, long, few)) (λ e. e) (λ e. equal_apart q.points n is.points.rising)

  pub field_is : (q : Region) (zs : List ℤ) (n : ℕ) → IsRegionOf roots space q → n ≤ most_colours → IsPartitionOf roots space true (record { root = q.root; disjoint = true; sets = by_field_sets q.points zs n })
  field_is q zs n is few =
      let long = length_made (λ c. points_where (λ z. is_point c (point_named false z)) q.points zs) n in
      made true true q (by_field_sets q.points zs n) is (field_parts q.points zs n is.points.rising) (omega (arith, long, few)) (λ e. e) (λ e. field_apart q.points zs n is.points.rising)

  pub image_is : (q : Region) (sets : List (List ℕ)) (r : List ℕ) (zs : List ℤ) (p : Bool) → IsRegionOf roots space q → length sets ≤ most_colours →
      IsPartitionOf roots space false (record { root = q.root; disjoint = false; sets = image_sets q.points sets r zs p })
  image_is q sets r zs p is few =
      let long = length-map sets (λ set. filter (λ x. list_any (λ z. is_point x (point_named p z)) (numbers_at set r zs)) q.points) in
      made false false q (image_sets q.points sets r zs p) is (filtered_parts q.points (λ set x. list_any (λ z. is_point x (point_named p z)) (numbers_at set r zs)) sets is.points.rising)
      (omega (arith, long, few)) (λ e. e) (λ e. absurd (contrary (sym e)))

  pub preimage_is : (q : Region) (old : Partition) (other : ℕ) (d : Bool) (r : Region) (others : ℕ) (zs : List ℤ) (p : Bool) → IsRegionOf roots space q → IsPartitionOf roots other d old →
      IsRegionOf roots others r → IsPartitionOf roots space d (record { root = q.root; disjoint = old.disjoint; sets = preimage_sets q.points old.sets r.points zs p })
  preimage_is q old other d r others zs p is was there =
      let long = length-map old.sets (λ set. filter (has (points_where (λ z. is_among set (point_named p z)) r.points zs)) q.points) in
      let few = was.few in
      made old.disjoint d q (preimage_sets q.points old.sets r.points zs p) is (filtered_parts q.points (λ set. has (points_where (λ z. is_among set (point_named p z)) r.points zs)) old.sets is.points.rising)
      (omega (arith, long, few)) was.flag (λ e. preimage_apart q.points old.sets r.points zs p there.points.rising (was.apart e))

  pub both_is : (p q : Partition) (other : ℕ) (d f : Bool) → IsPartitionOf roots space d p → IsPartitionOf roots other f q →
      IsPartitionOf roots space (d || f) (record { root = p.root; disjoint = p.disjoint || q.disjoint; sets = both_sets p.sets q.sets })
  both_is p q other d f a b =
      let long = each_long meet_of p.sets q.sets in
      let few = a.few in record {
        there = a.there;
        of_space = a.of_space;
        sets = fewer_points (get_or roots p.root no_shape).count meet_of p.sets q.sets (λ xs ys is. filter_points (get_or roots p.root no_shape).count (has ys) xs is) a.sets;
        few = omega (arith, long, few);
        flag = λ e. elim (or_cases d f e) [ inl k ↦ or_left p.disjoint q.disjoint (a.flag k) | inr k ↦ or_right p.disjoint q.disjoint (b.flag k) ];
        apart = λ e. both_apart p.sets q.sets (elim (or_cases p.disjoint q.disjoint e) [ inl k ↦ inl (a.apart k) | inr k ↦ inr (b.apart k) ]);
      }

  pub difference_is : (p q : Partition) (d : Bool) → IsPartitionOf roots space d p → IsPartitionOf roots space d (record { root = p.root; disjoint = p.disjoint; sets = minus_sets p.sets q.sets })
  difference_is p q d a =
      let long = each_long minus_of p.sets q.sets in
      let few = a.few in record {
        there = a.there;
        of_space = a.of_space;
        sets = fewer_points (get_or roots p.root no_shape).count minus_of p.sets q.sets (λ xs ys is. filter_points (get_or roots p.root no_shape).count (λ x. not (has ys x)) xs is) a.sets;
        few = omega (arith, long, few);
        flag = a.flag;
        apart = λ e. without_apart p.sets q.sets (a.apart e);
      }

  -- a union of partitions of one root
  pub union_is : (p q : Partition) (other : ℕ) (d f : Bool) → IsPartitionOf roots space d p → IsPartitionOf roots other f q → p.root ≡ q.root →
      IsPartitionOf roots space false (record { root = p.root; disjoint = false; sets = either_sets p.sets q.sets })
  union_is p q other d f a b same =
      let bound = (get_or roots p.root no_shape).count in
      let long = each_long union_of p.sets q.sets in
      let few = a.few in record {
        there = a.there;
        of_space = a.of_space;
        sets = joined_points bound p.sets q.sets a.sets (subst (λ n. All (IsPoints (get_or roots n no_shape).count) q.sets) (sym same) b.sets);
        few = omega (arith, long, few);
        flag = λ e. e;
        apart = λ e. absurd (contrary (sym e));
      }

pub operations_are_true : OperationsAreTrue
operations_are_true tree roots rooted space other = record {
  equal = λ q n is few. equal_is tree roots rooted space q n is few;
  by_field = λ q zs n is few. field_is tree roots rooted space q zs n is few;
  image = λ q sets r zs p is few. image_is tree roots rooted space q sets r zs p is few;
  preimage = λ q r old third d zs p is was there. preimage_is tree roots rooted space q old other d r third zs p is was there;
  both = λ p q d f a b. both_is tree roots rooted space p q other d f a b;
  difference = λ p q d a. difference_is tree roots rooted space p q d a;
  either = λ p q d f a b same. union_is tree roots rooted space p q other d f a b same;
}
