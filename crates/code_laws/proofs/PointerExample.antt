-- The premises of the law on pointers hold of a program.
use Rattle.std.proofs.Common.{inl, inr, ℤ, pos, negsuc, [], ◌∷◌, refl, arith}
use Rattle.std.proofs.lemmas.Int.{ints}
use Rattle.lane_kernels.specs.declared.numbers.Width.TheVariants.{W32}
use Rattle.lane_kernels.specs.Numbers.{FitsWidth}
use Rattle.std.specs.Int.{int_wrap}
use Rattle.std.specs.Fmt.{digits}
use Rattle.code_laws.specs.Pointers.{a_pointer_type, assigned_plain, assigned_pointer, begins_plain, begins_pointer, compared_different, counts_number, counts_pointer, fills_alike, fills_index, into_plain, keeps_index, keeps_plain, term_integer}
use Rattle.code_laws.specs.Programs.{IsTypedRun, pointer_forms}
use Rattle.code_laws.specs.PointerExample.{PointerExampleHolds, pointers_program}
use Rattle.code_laws.specs.Standing.{of_integer}
use Rattle.code_laws.specs.Simple.{a_region_type, a_space_type, a_truth_type, an_integer, fits_32, number_index, number_integer, term_32, two_integers}

runs : (z : ℤ) → FitsWidth W32 z → IsTypedRun pointer_forms pointers_program (z ∷ [])
runs z fits = record {
  start = refl;
  needs = refl;
  typed = (
    -- the root
    (refl, a_space_type _, (omega (arith, ints), an_integer _), record { there = omega arith; few = omega arith }, tt),
    -- the index
    (
      inl (begins_plain _ _ (into_plain _ _ (fills_index _ _ (number_integer _))), omega (arith, ints)),
      (
        (assigned_plain _ _ (into_plain _ _ (fills_index _ _ (number_integer _))), (refl, tt), refl, tt),
        -- the loop over the region
        (
          inl (
            inr (a_region_type _ _ _ _, record { number = 1; numbered = refl; place = refl; typed = a_region_type _ _ _ _; space = refl; is = refl }),
            (refl, tt),
            (
              inl (inr (a_pointer_type _ _ _ _ tt, inl (omega arith, (omega arith, (omega arith, (omega arith, tt))))), (refl, tt)),
              (
                (
                  refl,
                  assigned_plain _ _ (into_plain _ _ (fills_index _ _ (number_index _))),
                  (
                    ((refl, tt), (counts_pointer _ _ _ _, counts_number _ (number_index _), (refl, tt), tt)),
                    (counts_number _ (number_index _), counts_number _ (number_integer _), omega (arith, ints), tt),
                  ),
                  record { named = refl; numbers = (omega arith, (omega arith, (omega arith, (omega arith, (omega arith, tt))))); pointer = a_pointer_type _ _ _ _ tt; certain = refl; field = omega arith; keeps = keeps_index _ _ },
                  (tt, tt),
                ),
                (
                  (
                    refl,
                    assigned_plain _ _ (into_plain _ _ (fills_alike _ _ (two_integers _ _))),
                    ((refl, tt), counts_pointer _ _ _ _, term_integer _ term_32),
                    record { named = refl; numbers = (omega arith, (omega arith, (omega arith, (omega arith, (omega arith, tt))))); pointer = a_pointer_type _ _ _ _ tt; certain = refl; field = omega arith; keeps = keeps_plain _ _ _ fits_32 },
                    (tt, tt),
                  ),
                  tt,
                ),
              ),
            ),
          ),
          -- the loop through the field of indices
          (
            inl (
              inr (a_region_type _ _ _ _, record { number = 1; numbered = refl; place = refl; typed = a_region_type _ _ _ _; space = refl; is = refl }),
              (refl, tt),
              (
                (
                  an_integer _,
                  an_integer _,
                  (refl, inl (record { named = refl; numbers = (omega arith, (omega arith, (omega arith, (omega arith, tt)))); pointer = a_pointer_type _ _ _ _ tt; certain = refl; field = omega arith; keeps = keeps_plain _ _ _ fits_32 }, (tt, tt))),
                  (refl, inl (record { named = refl; numbers = (omega arith, (omega arith, (omega arith, (omega arith, tt)))); pointer = a_pointer_type _ _ _ _ tt; certain = refl; field = omega arith; keeps = keeps_index _ _ }, (tt, tt))),
                  counts_number _ (number_index _),
                  refl,
                  record { named = refl; region = a_region_type _ _ _ _; field = omega arith; keeps = keeps_plain _ _ _ fits_32 },
                  tt,
                ),
                tt,
              ),
            ),
            -- null
            (
              inl (begins_pointer _ _ (a_pointer_type _ _ _ _ tt) (a_pointer_type _ _ _ _ tt, (refl, a_region_type _ _ _ _, refl, tt)), (refl, (a_pointer_type _ _ _ _ tt, (refl, a_region_type _ _ _ _, refl, tt)))),
              -- an element
              (
                inl (inr (a_pointer_type _ _ _ _ tt, inl tt), (refl, omega (arith, ints), counts_number _ (number_integer _), refl, a_region_type _ _ _ _, record { number = 1; numbered = refl; place = refl; typed = a_region_type _ _ _ _; space = refl; is = refl })),
                -- a cast
                (
                  (assigned_pointer _ _ (a_pointer_type _ _ _ _ tt) (a_pointer_type _ _ _ _ tt), (refl, (a_pointer_type _ _ _ _ tt, (refl, a_region_type _ _ _ _, refl, tt)), counts_number _ (number_integer _), omega (arith, ints), refl), refl, tt),
                  -- two pointers
                  (
                    ((a_truth_type, ((refl, tt), (compared_different _ _ (a_pointer_type _ _ _ _ tt) (a_pointer_type _ _ _ _ tt), (refl, tt), tt)), ((refl, assigned_plain _ _ (into_plain _ _ (fills_alike _ _ (two_integers _ _))), omega (arith, ints), record { named = refl; numbers = (omega arith, (omega arith, (omega arith, (omega arith, (omega arith, tt))))); pointer = a_pointer_type _ _ _ _ tt; certain = refl; field = omega arith; keeps = keeps_plain _ _ _ fits_32 }, (tt, tt)), tt), tt), tt),
                    -- whether one is null
                    (
                      ((a_truth_type, (refl, a_pointer_type _ _ _ _ tt, (refl, tt)), ((refl, assigned_plain _ _ (into_plain _ _ (fills_alike _ _ (two_integers _ _))), omega (arith, ints), record { named = refl; numbers = (omega arith, (omega arith, (omega arith, (omega arith, (omega arith, tt))))); pointer = a_pointer_type _ _ _ _ tt; certain = refl; field = omega arith; keeps = keeps_plain _ _ _ fits_32 }, (tt, tt)), tt), tt), tt),
                      -- the print
                      (
                        (
                          (an_integer _, (omega (arith, ints), counts_number _ (number_integer _), refl, record { named = refl; region = a_region_type _ _ _ _; field = omega arith; keeps = keeps_plain _ _ _ fits_32 }, tt), tt),
                          refl,
                        ),
                        tt,
                      ),
                    ),
                  ),
                ),
              ),
            ),
          ),
        ),
      ),
    ),
  );
  small = omega arith;
  taken = (of_integer W32 z fits, tt);
  count = refl;
}

pub pointer_example_holds : PointerExampleHolds
unfolding int_wrap digits
pointer_example_holds = record {
  ends = runs (pos 1) (omega (arith, ints));
  faults_too = runs (negsuc 1) (omega (arith, ints));
  end_is = refl;
  fault_is = refl;
}
