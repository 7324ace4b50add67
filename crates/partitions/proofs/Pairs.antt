-- Set operations, colour by colour.
use Rattle.std.proofs.Common.{◌≡◌, ℕ, zero, suc, Bool, true, false, not, ◌&&◌, ◌||◌, List, [], ◌∷◌}
use Rattle.std.proofs.Common.{length, map, filter, refl, sym, ap, ◌∙◌, arith, ⊎_elim, ◌⊎◌}
use Rattle.std.proofs.lemmas.Bool.{cases_Bool, cases_lt, and_parts, and_from, and_right, or_cases}
use Rattle.std.proofs.lemmas.List.Elements.{All-get_or}
use Rattle.std.specs.List.Sorted.{IsStrictlyIncreasing}
use Rattle.plain_values.specs.Points.{points, counted_from, has, meet_of, union_of, minus_of}
use Rattle.point_sets.proofs.Rising.{has-filter, has-meet_of, has-union_of, has-minus_of}
use Rattle.point_sets.proofs.Rising.{rising-filter, rising-union_of, members_decide, within_each}
use Rattle.point_sets.proofs.Rising.{within_from_each}
use Rattle.regent_tree.specs.Partitions.{each_with, both_sets, either_sets, minus_sets}
use Rattle.partitions.specs.Laws.{colour, NoneShared, ArePartsOf, BothFilters, EitherFilters}
use Rattle.partitions.specs.Laws.{WithoutFilters}
use Rattle.partitions.proofs.Colours.{colours_agree, colour_lacking, all_made}
use Rattle.partitions.proofs.Colours.{in_one_at_most, none_shared_made}
use Rattle.partitions.proofs.Inside.{IsPartOf}

-- ---- colour by colour

map_shifted : {X : Type 0} (f : ℕ → X) (first n : ℕ) →
    map f (counted_from (suc first) n) ≡ map (λ c. f (suc c)) (counted_from first n)
map_shifted f first zero = refl
map_shifted f first (suc n) = ap (λ t. f (suc first) ∷ t) (map_shifted f (suc first) n)

pub each_made : (f : List ℕ → List ℕ → List ℕ) (ps qs : List (List ℕ)) →
    each_with f ps qs ≡ map (λ c. f (colour ps c) (colour qs c)) (points (length ps))
each_made f [] qs = refl
each_made f (p ∷ ps) [] =
    ap (λ t. f p [] ∷ t)
    (each_made f ps [] ∙
    sym (map_shifted (λ c. f (colour (p ∷ ps) c) (colour [] c)) 0 (length ps) ∙ same))
  where
    same : map (λ c. f (colour ps c) (colour [] (suc c))) (points (length ps))
        ≡ map (λ c. f (colour ps c) (colour [] c)) (points (length ps))
    same = colours_agree (λ c. f (colour ps c) (colour [] (suc c)))
        (λ c. f (colour ps c) (colour [] c)) (length ps) (λ c l. refl)
each_made f (p ∷ ps) (q ∷ qs) =
    ap (λ t. f p q ∷ t)
    (each_made f ps qs
    ∙ sym (map_shifted (λ c. f (colour (p ∷ ps) c) (colour (q ∷ qs) c)) 0 (length ps)))

-- ---- each filters the parent

part_at : (parent : List ℕ) (sets : List (List ℕ)) (c : ℕ) → ArePartsOf parent sets →
    IsPartOf parent (colour sets c)
part_at parent sets c h =
    ⊎_elim (λ l. All-get_or (IsPartOf parent) sets c [] l h)
    (λ g. rw (colour_lacking sets c g) ((λ k l. absurd (omega arith)), refl))
    (cases_lt c (length sets))

-- a rising list whose members are those of a test within the parent
filters : (parent set : List ℕ) (test : ℕ → Bool) → IsStrictlyIncreasing parent →
    IsStrictlyIncreasing set → ((x : ℕ) → has set x ≡ test x) →
    ((x : ℕ) → test x ≡ true → has parent x ≡ true) → set ≡ filter test parent
filters parent set test up up' same inside =
    members_decide set (filter test parent) up' (rising-filter test parent up)
    (λ x. same x ∙ sym (has-filter test parent x ∙ held x (cases_Bool (test x))))
  where
    held : (x : ℕ) → (test x ≡ true) ⊎ (test x ≡ false) → (has parent x && test x) ≡ test x
    held x o =
        ⊎_elim (λ e. and_from (has parent x) (test x) (inside x e) e ∙ sym e)
        (λ e. and_right (has parent x) (test x) e ∙ sym e) o

pub both_filter : BothFilters
both_filter parent ps qs up hp hq =
    each_made meet_of ps qs ∙ colours_agree _ _ (length ps)
    (λ c l. let p = part_at parent ps c hp in
    filters parent (meet_of (colour ps c) (colour qs c))
    (λ x. has (colour ps c) x && has (colour qs c) x) up
    (rising-filter (has (colour qs c)) (colour ps c) p.0)
    (has-meet_of (colour ps c) (colour qs c))
    (λ x m. within_each (colour ps c) parent p.1 x
    (and_parts (has (colour ps c) x) (has (colour qs c) x) m).0))

pub either_filter : EitherFilters
either_filter parent ps qs up hp hq =
    each_made union_of ps qs ∙ colours_agree _ _ (length ps)
    (λ c l. let p = part_at parent ps c hp in let q = part_at parent qs c hq in
    filters parent (union_of (colour ps c) (colour qs c))
    (λ x. has (colour ps c) x || has (colour qs c) x) up
    (rising-union_of (colour ps c) (colour qs c) q.0) (has-union_of (colour ps c) (colour qs c))
    (λ x m. ⊎_elim (within_each (colour ps c) parent p.1 x)
    (within_each (colour qs c) parent q.1 x)
    (or_cases (has (colour ps c) x) (has (colour qs c) x) m)))

pub without_filter : WithoutFilters
without_filter parent ps qs up hp hq =
    each_made minus_of ps qs ∙ colours_agree _ _ (length ps)
    (λ c l. let p = part_at parent ps c hp in
    filters parent (minus_of (colour ps c) (colour qs c))
    (λ x. has (colour ps c) x && not (has (colour qs c) x)) up
    (rising-filter (λ x. not (has (colour qs c) x)) (colour ps c) p.0)
    (has-minus_of (colour ps c) (colour qs c))
    (λ x m. within_each (colour ps c) parent p.1 x
    (and_parts (has (colour ps c) x) (not (has (colour qs c) x)) m).0))

-- ---- sets that share no points

pub both_apart : (ps qs : List (List ℕ)) → NoneShared ps ⊎ NoneShared qs →
    NoneShared (both_sets ps qs)
both_apart ps qs h =
    rw (each_made meet_of ps qs) (none_shared_made (λ c. meet_of (colour ps c) (colour qs c))
    (length ps) (λ c d x l l' a b. let p = parts c x a in let q = parts d x b in
    ⊎_elim (λ apart. in_one_at_most ps apart c d x p.0 q.0)
    (λ apart. in_one_at_most qs apart c d x p.1 q.1) h))
  where
    parts : (c x : ℕ) → has (meet_of (colour ps c) (colour qs c)) x ≡ true →
        (has (colour ps c) x ≡ true) × (has (colour qs c) x ≡ true)
    parts c x m =
        and_parts (has (colour ps c) x) (has (colour qs c) x)
        (sym (has-meet_of (colour ps c) (colour qs c) x) ∙ m)

pub without_apart : (ps qs : List (List ℕ)) → NoneShared ps → NoneShared (minus_sets ps qs)
without_apart ps qs h =
    rw (each_made minus_of ps qs) (none_shared_made (λ c. minus_of (colour ps c) (colour qs c))
    (length ps) (λ c d x l l' a b. in_one_at_most ps h c d x (left c x a) (left d x b)))
  where
    left : (c x : ℕ) → has (minus_of (colour ps c) (colour qs c)) x ≡ true →
        has (colour ps c) x ≡ true
    left c x m =
        (and_parts (has (colour ps c) x) (not (has (colour qs c) x))
        (sym (has-minus_of (colour ps c) (colour qs c) x) ∙ m)).0

-- ---- sets within a parent

part_of_part : (test : ℕ → Bool) (parent set : List ℕ) → IsPartOf parent set →
    IsPartOf parent (filter test set)
part_of_part test parent set h = (
  rising-filter test set h.0,
  within_from_each (filter test set) parent
      (λ x m. within_each set parent h.1 x
      (and_parts (has set x) (test x) (sym (has-filter test set x) ∙ m)).0),
)

pub both_parts : (parent : List ℕ) (ps qs : List (List ℕ)) → ArePartsOf parent ps →
    ArePartsOf parent (both_sets ps qs)
both_parts parent ps qs h =
    rw (each_made meet_of ps qs) (all_made (IsPartOf parent)
    (λ c. meet_of (colour ps c) (colour qs c)) (length ps)
    (λ c l. part_of_part (has (colour qs c)) parent (colour ps c) (part_at parent ps c h)))

pub either_parts : (parent : List ℕ) (ps qs : List (List ℕ)) → ArePartsOf parent ps →
    ArePartsOf parent qs → ArePartsOf parent (either_sets ps qs)
either_parts parent ps qs hp hq =
    rw (each_made union_of ps qs) (all_made (IsPartOf parent)
    (λ c. union_of (colour ps c) (colour qs c)) (length ps)
    (λ c l. joined (colour ps c) (colour qs c) (part_at parent ps c hp)
    (part_at parent qs c hq)))
  where
    joined : (a b : List ℕ) → IsPartOf parent a → IsPartOf parent b → IsPartOf parent (union_of a b)
    joined a b p q = (
      rising-union_of a b q.0,
      within_from_each (union_of a b) parent
          (λ x m. ⊎_elim (within_each a parent p.1 x) (within_each b parent q.1 x)
          (or_cases (has a x) (has b x) (sym (has-union_of a b x) ∙ m))),
    )

pub without_parts : (parent : List ℕ) (ps qs : List (List ℕ)) → ArePartsOf parent ps →
    ArePartsOf parent (minus_sets ps qs)
without_parts parent ps qs h =
    rw (each_made minus_of ps qs) (all_made (IsPartOf parent)
    (λ c. minus_of (colour ps c) (colour qs c)) (length ps)
    (λ c l. part_of_part (λ x. not (has (colour qs c) x)) parent (colour ps c)
    (part_at parent ps c h)))
