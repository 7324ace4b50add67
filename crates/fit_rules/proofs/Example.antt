-- The example, by computing.
use Rattle.std.proofs.Common.{◌≡◌, inl, inr, ℕ, zero, suc, ◌<◌, pos, List, [], ◌∷◌, ◌++◌, Bool, true, false, ◌||◌, cond, Option, Some, None, ◌+ℤ◌, refl, sym, ap, ◌∙◌, subst, arith}
use Rattle.std.specs.Prelude.{slice_get, ◌==◌}
use Rattle.std.proofs.lemmas.Bool.{and_parts, eqb-true, eqb-false, ne_eqb, false≢true}
use Rattle.std.proofs.lemmas.Int.{ints}
use Rattle.std.proofs.lemmas.Option.{same_Some, none-some}
use Rattle.lane_kernels.specs.declared.numbers.FieldKind.TheVariants.{Int32}
use Rattle.lane_kernels.specs.declared.numbers.Mode.{Mode}
use Rattle.lane_kernels.specs.declared.numbers.Mode.TheVariants.{Read, Reduce, Write}
use Rattle.lane_kernels.specs.declared.numbers.Op.TheVariants.{Sum}
use Rattle.lane_kernels.specs.declared.numbers.Width.TheVariants.{W32}
use Rattle.partitions.specs.Laws.{NoneShared}
use Rattle.plain_values.specs.Points.{has}
use Rattle.point_sets.proofs.Rising.{has_tail}
use Rattle.region_tree.proofs.Joins.{modes_at-not}
use Rattle.region_tree.specs.Requirements.{mode_at, join_from, Requirement}
use Rattle.region_tree.specs.declared.piece.Part.{Part}
use Rattle.machine_terms.specs.declared.value.PartitionValue.{PartitionValue}
use Rattle.machine_terms.specs.declared.value.RegionValue.{RegionValue}
use Rattle.machine_terms.specs.declared.value.Value.{Value}
use Rattle.machine_terms.specs.declared.value.Value.TheVariants as value
use Rattle.machine_terms.proofs.FitParts.{wrapped_fits}
use Rattle.machine_terms.specs.Makes.{region_with}
use Rattle.machine_terms.specs.Parts.{cell_of, cell_at, is_part_of}
use Rattle.machine_terms.specs.Pointers.{region_in}
use Rattle.fit_rules.specs.Shapes.{Among, integer, World, IsRegion, IsPartition, is_anything, is_number, is_region, is_partition, are_none, are_more, Origin, unknown, own_as, argument, ComesFrom, KnowsRoots, argument}
use Rattle.fit_rules.specs.Marks.{Holds, lies, in_slot, parted, LiesAt, LiesIn, IsParted, Suits}
use Rattle.fit_rules.specs.Fits.{Begins, called, requires, claims, no_claims, a_claim, CellFits, PartFits, PartsFit}
use Rattle.fit_rules.specs.Example.{task, program, whole, part, args_of, world_of, held, folded, halves, numbers, made, machine, later, ExampleFits}
use Rattle.fit_rules.proofs.Points.{counted_points}

-- ---- regions and the partition

module _ (args : List Value) where
  abbrev x : World
  x = world_of args

  -- the root has a point more
  in_root : (p : ℕ) → has (0 ∷ 1 ∷ []) p ≡ true → has (0 ∷ 1 ∷ 2 ∷ []) p ≡ true
  in_root p e = of (p == 0) (p == 1) e
    where
      of : (a b : Bool) → a || (b || false) ≡ true → a || (b || ((p == 2) || false)) ≡ true
      of true b e = refl
      of false true e = refl
      of false false e = absurd (false≢true e)

  root_is : (o : Origin) → ComesFrom x o whole → IsRegion x (Some 0) o whole
  root_is o h = record {
    there = refl;
    space = refl;
    set = counted_points 4194304 0 2 (omega arith);
    points = in_root;
    origin = h;
  }

  -- the first half lies in the region
  first_in : (p : ℕ) → has (0 ∷ []) p ≡ true → has (0 ∷ 1 ∷ []) p ≡ true
  first_in p e = of (p == 0) e
    where
      of : (a : Bool) → a || false ≡ true → a || ((p == 1) || false) ≡ true
      of true e = refl
      of false e = absurd (false≢true e)

  first_half : IsRegion x (Some 0) unknown (region_with 3 (0 ∷ []))
  first_half = record {
    there = refl;
    space = refl;
    set = counted_points 4194304 0 1 (omega arith);
    points = λ p e. in_root p (first_in p e);
    origin = tt;
  }

  pub second_half : (o : Origin) → ComesFrom x o part → IsRegion x (Some 0) o part
  second_half o h = record {
    there = refl;
    space = refl;
    set = counted_points 4194304 1 1 (omega arith);
    points = λ p e. in_root p (has_tail p 0 (1 ∷ []) e);
    origin = h;
  }

  halves_apart : NoneShared ((0 ∷ []) ∷ (1 ∷ []) ∷ [])
  halves_apart zero zero l h = absurd (omega (arith, l))
  halves_apart zero (suc zero) l h = refl
  halves_apart zero (suc (suc d)) l h = absurd (omega (arith, h))
  halves_apart (suc c) zero l h = absurd (omega (arith, l))
  halves_apart (suc c) (suc zero) l h = absurd (omega (arith, l))
  halves_apart (suc c) (suc (suc d)) l h = absurd (omega (arith, h))

  abbrev pub cut : PartitionValue
  cut = record {
    root = record { 0 = 3 };
    disjoint = true;
    children = region_with 3 (0 ∷ []) ∷ region_with 3 (1 ∷ []) ∷ [];
  }

  -- of each half
  each_half : (P : RegionValue → Type 0) → P (region_with 3 (0 ∷ [])) → P part → (r : RegionValue) →
      Among cut.children r → P r
  each_half P a b r (inl e) = subst P e a
  each_half P a b r (inr (inl e)) = subst P e b
  each_half P a b r (inr (inr h)) = absurd h

  halves_are : IsPartition x (Some 0) true cut
  halves_are = record {
    flag = λ e. refl;
    apart = λ e. halves_apart;
    there = refl;
    space = refl;
    count = omega arith;
    regions = each_half (λ r. (r.root.0 ≡ 3) × IsRegion x (Some 0) unknown r) (refl, first_half) (refl, second_half unknown tt);
  }

  own_is : IsRegion x (Some 0) (own_as 3) made
  own_is = record {
    there = refl;
    space = refl;
    set = counted_points 4194304 0 2 (omega arith);
    points = λ p e. e;
    origin = ((inl refl, refl), refl);
  }

-- ---- the part

module _ (s : RegionValue) (p : Value) where
  abbrev args : List Value
  args = args_of s p

  abbrev points_of : List ℕ
  points_of = 0 ∷ 1 ∷ []

  abbrev mode_of : ℕ → ℕ → Option Mode
  mode_of f y = mode_at (claims program (world_of args) task) 3 f y

  abbrev own_two : List Requirement
  own_two = requires 5 points_of Write 0 ∷ requires 5 points_of Write 1 ∷ []

  no_mode : (y : ℕ) → has points_of y ≡ false → mode_of 0 y ≡ None
  no_mode y e = ap (join_from None)
      (modes_at-not (requires 3 points_of Read 0) (requires 3 points_of Write 0 ∷ requires 3 points_of (Reduce Sum) 1 ∷ own_two) 3 0 y e
      ∙ modes_at-not (requires 3 points_of Write 0) (requires 3 points_of (Reduce Sum) 1 ∷ own_two) 3 0 y e)

  no_sum : (y : ℕ) → has points_of y ≡ false → mode_of 1 y ≡ None
  no_sum y e = ap (join_from None) (modes_at-not (requires 3 points_of (Reduce Sum) 1) own_two 3 1 y e)

  -- what holds of each point of a part with a number at point 0 and at point 1, and of no other
  at_points : (P : ℕ → Type 0) → P 0 → P 1 → ((y : ℕ) → 0 == y ≡ false → 1 == y ≡ false → has points_of y ≡ false → P y) → (y : ℕ) → P y
  at_points P a b c y = at (0 == y) refl (1 == y) refl
    where
      at : (a : Bool) → 0 == y ≡ a → (b : Bool) → 1 == y ≡ b → P y
      at true e d f = subst P (eqb-true 0 y e) a
      at false e true f = subst P (eqb-true 1 y f) b
      at false e false f = c y e f (ap (λ d. d || ((y == 1) || false)) (ne_eqb y 0 (λ q. eqb-false 0 y e (sym q)))
          ∙ ap (λ d. d || false) (ne_eqb y 1 (λ q. eqb-false 1 y f (sym q))))

  -- there is no number elsewhere
  no_cell : (m : Mode) (n y : ℕ) → 0 == y ≡ false → 1 == y ≡ false →
      cell_at (record { points = 0 ∷ 1 ∷ []; mode = m; values = pos 0 ∷ pos n ∷ [] } ∷ []) y ≡ None
  no_cell m n y e f = ap (λ c. cell_of m (cond c (Some (pos 0)) (cond (1 == y) (Some (pos n)) None)) None) e
      ∙ ap (λ c. cell_of m (cond c (Some (pos n)) None) None) f

  cell_fits : (y : ℕ) → CellFits Int32 (integer W32) (cell_at (held Write 41).pieces y) (mode_of 0 y)
  cell_fits = at_points (λ y. CellFits Int32 (integer W32) (cell_at (held Write 41).pieces y) (mode_of 0 y))
      (refl, omega (arith, ints)) (refl, omega (arith, ints))
      (λ y e f none. subst (λ o. CellFits Int32 (integer W32) o (mode_of 0 y)) (sym (no_cell Write 41 y e f))
      (subst (CellFits Int32 (integer W32) None) (sym (no_mode y none)) tt))

  sum_fits : (y : ℕ) → CellFits Int32 (integer W32) (cell_at (folded 7).pieces y) (mode_of 1 y)
  sum_fits = at_points (λ y. CellFits Int32 (integer W32) (cell_at (folded 7).pieces y) (mode_of 1 y))
      (refl, (omega (arith, ints), λ z h. wrapped_fits W32 (z +ℤ pos 0))) (refl, (omega (arith, ints), λ z h. wrapped_fits W32 (z +ℤ pos 7)))
      (λ y e f none. subst (λ o. CellFits Int32 (integer W32) o (mode_of 1 y)) (sym (no_cell (Reduce Sum) 7 y e f))
      (subst (CellFits Int32 (integer W32) None) (sym (no_sum y none)) tt))

  abbrev IsFitting : ℕ → ℕ → Part → Type 0
  IsFitting root f q = PartFits program (world_of args) task root f q

  part_fits : IsFitting 3 0 (held Write 41)
  part_fits = record { there = refl; kind = refl; cells = cell_fits }

  folded_fits : IsFitting 3 1 (folded 7)
  folded_fits = record { there = refl; kind = refl; cells = sum_fits }

  parts_fit : PartsFit program (world_of args) task (held Write 41 ∷ folded 7 ∷ [])
  parts_fit root f q e = of_test (is_part_of root f (held Write 41)) refl e
    where
      of_second : (b : Bool) → is_part_of root f (folded 7) ≡ b → cond b (Some (folded 7)) None ≡ Some q → IsFitting root f q
      of_second true t e =
          let both = and_parts (3 == root) (1 == f) t in
          subst (IsFitting root f) (same_Some _ _ e)
          (subst (λ r. IsFitting r f (folded 7)) (eqb-true 3 root both.0)
          (subst (λ i. IsFitting 3 i (folded 7)) (eqb-true 1 f both.1) folded_fits))
      of_second false t e = absurd cc

      of_test : (b : Bool) → is_part_of root f (held Write 41) ≡ b → cond b (Some (held Write 41)) (cond (is_part_of root f (folded 7)) (Some (folded 7)) None) ≡ Some q →
          IsFitting root f q
      of_test true t e =
          let both = and_parts (3 == root) (0 == f) t in
          subst (IsFitting root f) (same_Some _ _ e)
          (subst (λ r. IsFitting r f (held Write 41)) (eqb-true 3 root both.0)
          (subst (λ i. IsFitting 3 i (held Write 41)) (eqb-true 0 f both.1) part_fits))
      of_test false t e = of_second (is_part_of root f (folded 7)) refl e

-- ---- the whole

abbrev pub slots : List Value
slots = machine.frame.slots

part_lies : Holds (lies (in_slot 1) (in_slot 0)) slots
part_lies r e = subst (λ y. LiesAt slots y (in_slot 0)) (same_Some _ _ e)
    (record { other = whole; at = refl; inside = (refl, λ p h. has_tail p 0 (1 ∷ []) h) })

halves_parted : Holds (parted 2 0) slots
halves_parted q e = subst (λ y. IsParted slots y 0) (same_Some _ _ e)
    (record {
      parent = whole;
      at = refl;
      root = refl;
      inside = each_half (args_of part halves) (λ r. LiesIn r whole)
          (refl, first_in (args_of part halves)) (refl, λ p h. has_tail p 0 (1 ∷ []) h);
    })

pub args_stand : (i : ℕ) → i < 3 → region_in (slice_get slots i) ≡ region_in (slice_get (args_of part halves) i)
args_stand zero l = refl
args_stand (suc zero) l = refl
args_stand (suc (suc zero)) l = refl
args_stand (suc (suc (suc i))) l = absurd (omega (arith, l))

abbrev pub given : List Value
given = args_of part halves

pub suits : Suits (world_of (args_of part halves)) 3 (later (integer W32 ∷ integer W32 ∷ [])) slots numbers
suits = record {
  slots = are_more _ _ _ _ (is_region (Some 0) (argument 0) whole (root_is given (argument 0) refl))
      (are_more _ _ _ _ (is_region (Some 0) (argument 1) part (second_half given (argument 1) refl))
      (are_more _ _ _ _ (is_partition (Some 0) true (cut given) (halves_are given))
      (are_more _ _ _ _ (is_region (Some 0) (own_as 3) made (own_is given))
      (are_more _ _ _ _ (is_number _ _ (omega (arith, ints), omega arith)) are_none))));
  stack = are_more _ _ _ _ (is_number _ _ (omega (arith, ints))) (are_more _ _ _ _ (is_number _ _ (omega (arith, ints))) are_none);
  facts = (part_lies, (halves_parted, tt));
  top = tt;
  args = args_stand;
}

-- ---- the frame with which it began

abbrev y : World
y = called (world_of given) given

region_begun : (i : ℕ) (r : RegionValue) → IsRegion (world_of given) (Some 0) (argument i) r → IsRegion y (Some 0) (argument i) r
region_begun i r h = record { there = h.there; space = h.space; set = h.set; points = h.points; origin = h.origin }

half_begun : (r : RegionValue) → IsRegion (world_of given) (Some 0) unknown r → IsRegion y (Some 0) unknown r
half_begun r h = record { there = h.there; space = h.space; set = h.set; points = h.points; origin = tt }

halves_begun : IsPartition y (Some 0) true (cut given)
halves_begun =
    let h = halves_are given in record {
      flag = h.flag;
      apart = h.apart;
      there = h.there;
      space = h.space;
      count = h.count;
      regions = λ r a. ((h.regions r a).0, half_begun r (h.regions r a).1);
    }

abbrev opened : List Value
opened = given ++ value.Number (pos 0) ∷ value.Number (pos 0) ∷ []

begun_lies : Holds (lies (in_slot 1) (in_slot 0)) opened
begun_lies r e = subst (λ y. LiesAt opened y (in_slot 0)) (same_Some _ _ e)
    (record { other = whole; at = refl; inside = (refl, λ p h. has_tail p 0 (1 ∷ []) h) })

begun_parted : Holds (parted 2 0) opened
begun_parted q e = subst (λ y. IsParted opened y 0) (same_Some _ _ e)
    (record {
      parent = whole;
      at = refl;
      root = refl;
      inside = each_half given (λ r. LiesIn r whole)
          (refl, first_in given) (refl, λ p h. has_tail p 0 (1 ∷ []) h);
    })

args_open : (i : ℕ) → i < 3 → region_in (slice_get opened i) ≡ region_in (slice_get given i)
args_open zero l = refl
args_open (suc zero) l = refl
args_open (suc (suc zero)) l = refl
args_open (suc (suc (suc i))) l = absurd (omega (arith, l))

begun : Begins program (world_of given) task 0 given
begun = (
  refl,
  record {
    slots = are_more _ _ _ _ (is_region (Some 0) (argument 0) whole (region_begun 0 whole (root_is given (argument 0) refl)))
        (are_more _ _ _ _ (is_region (Some 0) (argument 1) part (region_begun 1 part (second_half given (argument 1) refl)))
        (are_more _ _ _ _ (is_partition (Some 0) true (cut given) halves_begun)
        (are_more _ _ _ _ (is_anything _) (are_more _ _ _ _ (is_anything _) are_none))));
    stack = are_none;
    facts = (begun_lies, (begun_parted, tt));
    top = tt;
    args = args_open;
  },
)

pub example_fits : ExampleFits
example_fits = record {
  code = refl;
  machine = record {
    inside = omega arith;
    suits = suits;
    beside = record {
      task = refl;
      needs = a_claim _ _ _ _ refl refl refl (a_claim _ _ _ _ refl refl refl (a_claim _ _ _ _ refl refl refl
          (a_claim _ _ _ _ refl refl refl (a_claim _ _ _ _ refl refl refl no_claims))));
      parts = parts_fit part halves;
      children = refl;
      calls = omega arith;
      own = refl;
      roots = roots_known;
      begins = begun;
    };
  };
}
  where
    -- one root was made, under the number 3
    only : (i r : ℕ) → cond (i == 3) (Some 5) None ≡ Some r → (i ≡ 3) × (r ≡ 5)
    only i r e = of (i == 3) refl e
      where
        of : (b : Bool) → i == 3 ≡ b → cond b (Some 5) None ≡ Some r → (i ≡ 3) × (r ≡ 5)
        of true q e = (eqb-true i 3 q, sym (same_Some 5 r e))
        of false q e = absurd (none-some r e)

    -- the arguments' regions are of root 3
    of_args : (i : ℕ) (r : RegionValue) → region_in (slice_get (args_of part halves) i) ≡ Some r → r.root.0 ≡ 3
    of_args zero r e = ap (λ (y : RegionValue). y.root.0) (sym (same_Some whole r e))
    of_args (suc zero) r e = ap (λ (y : RegionValue). y.root.0) (sym (same_Some part r e))
    of_args (suc (suc zero)) r e = absurd (none-some r e)
    of_args (suc (suc (suc i))) r e = absurd (none-some r e)

    roots_known : KnowsRoots (world_of (args_of part halves))
    roots_known = record {
      own_there = own_there;
      args_there = λ i r e. subst (λ y. (world_of (args_of part halves)).there y ≡ true) (sym (of_args i r e)) refl;
      last_own = λ i r e. inl (sym (only i r e).1);
      one_number = λ i j r p e f h. (only i r e).0 ∙ sym (only j r f).0;
      args_other = λ i j p r e h f. let five = (only j r.root.0 f).1 in let three = of_args i r e in omega (arith, five, three);
    }
      where
        own_there : (r : ℕ) → Among (5 ∷ []) r → (world_of (args_of part halves)).there r ≡ true
        own_there r (inl e) = subst (λ y. (world_of (args_of part halves)).there y ≡ true) e refl
        own_there r (inr h) = absurd h
