-- What is known of the stack above the example's slots, and of a loop's counter, by computing.
use Rattle.std.proofs.Common.{◌≡◌, pos, [], ◌∷◌, Some, refl, sym, ap, subst, arith}
use Rattle.std.proofs.lemmas.Bool.{false≢true}
use Rattle.std.proofs.lemmas.Int.{ints}
use Rattle.std.proofs.lemmas.Option.{same_Some}
use Rattle.plain_values.specs.Points.{has}
use Rattle.point_sets.proofs.Rising.{has_tail}
use Rattle.machine_terms.specs.declared.value.PartitionValue.{PartitionValue}
use Rattle.machine_terms.specs.declared.value.RegionValue.{RegionValue}
use Rattle.machine_terms.specs.declared.value.Value.TheVariants as value
use Rattle.machine_terms.specs.Makes.{region_with}
use Rattle.machine_terms.specs.Regions.{coloured}
use Rattle.fit_rules.specs.Shapes.{index, is_space, region, IsRegion, is_number, is_region, Are, are_none, are_more, unknown, argument, argument, child_at, held_at, the_colour}
use Rattle.fit_rules.specs.Marks.{counts, Holds, around}
use Rattle.fit_rules.specs.Example.{whole, part, world_of, CountIsKnown, ChildIsKnown, handing, HeldIsKnown, keeping}
use Rattle.fit_rules.proofs.Example.{args_stand, cut, given, second_half, slots, suits}

-- ---- a child on the stack

pub child_is_known : ChildIsKnown
child_is_known = (
  record {
    slots = suits.slots;
    stack = are_more _ _ _ _ (is_region (Some 0) (child_at 2 (the_colour (pos 1)) (argument 0)) part (record {
      there = refl;
      space = refl;
      set = half.set;
      points = half.points;
      origin = (
        whole,
        refl,
        (refl, λ p h. has_tail p 0 (1 ∷ []) h),
        record { parts = cut given; there = refl; colour = pos 1; has_colour = refl; child = refl },
      );
    })) are_none;
    facts = suits.facts;
    top = tt;
    args = args_stand;
  },
  λ s. other s.stack,
)
  where
    half : IsRegion (world_of given) (Some 0) unknown part
    half = second_half given unknown tt

    other : Are (around (world_of given) (handing (pos 0)) slots) (region (Some 0) (child_at 2 (the_colour (pos 0)) (argument 0)) ∷ []) (value.Region part ∷ []) → ⊥
    other (are_more _ _ _ _ (is_region _ _ _ i) a) =
        let c = i.origin.3 in
        let parts : cut given ≡ c.parts = same_Some _ _ c.there in
        let child = subst (λ z. coloured (cut given).children z ≡ Some part) c.has_colour
        (subst (λ (q : PartitionValue). coloured q.children c.colour ≡ Some part) (sym parts) c.child) in
        false≢true (sym (ap (λ (r : RegionValue). has r.points 0) (same_Some (region_with 3 (0 ∷ [])) part child)))

-- ---- a slot's region on the stack

pub held_is_known : HeldIsKnown
held_is_known = (
  record {
    slots = suits.slots;
    stack = are_more _ _ _ _ (is_region (Some 0) (held_at 1 (argument 1)) part (record {
      there = refl;
      space = refl;
      set = half.set;
      points = half.points;
      origin = (refl, refl);
    })) are_none;
    facts = suits.facts;
    top = tt;
    args = args_stand;
  },
  λ s. other s.stack,
)
  where
    half : IsRegion (world_of given) (Some 0) unknown part
    half = second_half given unknown tt

    other : Are (around (world_of given) (keeping 0) slots) (region (Some 0) (held_at 0 (argument 1)) ∷ []) (value.Region part ∷ []) → ⊥
    other (are_more _ _ _ _ (is_region _ _ _ i) a) =
        false≢true (sym (ap (λ (r : RegionValue). has r.points 0) (same_Some whole part i.origin.1)))

-- ---- a loop's counter

pub count_is_known : CountIsKnown
count_is_known = (
  record {
    slots = are_more _ _ _ _ (is_number index (pos 2) (omega (arith, ints))) (are_more _ _ _ _ (is_space 2 (omega arith)) are_none);
    stack = are_none;
    facts = ((2, refl, omega arith), tt);
    top = tt;
    args = λ i l. absurd (omega (arith, l));
  },
  λ s. past s.facts.0,
)
  where
    past : Holds (counts 0 1) (value.Number (pos 3) ∷ value.Space 2 ∷ []) → ⊥
    past (i, e, l) = absurd (omega (arith, ints, e, l))
