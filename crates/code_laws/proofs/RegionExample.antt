-- The premises of the law on regions hold of a program.
use Rattle.std.proofs.Common.{ℤ, pos, [], ◌∷◌, refl, arith}
use Rattle.std.proofs.lemmas.Int.{ints}
use Rattle.lane_kernels.specs.declared.numbers.Width.TheVariants.{W32}
use Rattle.lane_kernels.specs.Numbers.{FitsWidth}
use Rattle.std.specs.Int.{int_wrap}
use Rattle.std.specs.Fmt.{digits}
use Rattle.code_laws.specs.Programs.{IsTypedRun, region_forms}
use Rattle.code_laws.specs.RegionExample.{RegionExampleHolds, regions_program}
use Rattle.code_laws.specs.Standing.{of_integer}
use Rattle.code_laws.specs.Simple.{number_index, simple_index, term_32, number_integer, a_region_type, a_space_type, an_integer, fits_32, fits_64, simple_integer, two_integers}

runs : (z : ℤ) → FitsWidth W32 z → IsTypedRun region_forms regions_program (z ∷ [])
runs z fits = record {
  start = refl;
  needs = refl;
  typed = (
    -- the root
    (refl, a_space_type _, (omega (arith, ints), an_integer _), record { there = omega arith; few = omega arith }, tt),
    -- the fill
    (
      (
        omega (arith, ints),
        refl,
        a_region_type _ _ _ _,
        (
          two_integers _ _,
          record { named = refl; region = a_region_type _ _ _ _; field = omega arith; keeps = fits_32 },
          (
            two_integers _ _,
            record { named = refl; region = a_region_type _ _ _ _; field = omega arith; keeps = fits_64 },
            tt,
          ),
        ),
        (tt, (tt, tt)),
      ),
      -- the write
      (
        (
          two_integers _ _,
          (refl, simple_integer _),
          omega (arith, ints),
          number_integer _,
          refl,
          record { named = refl; region = a_region_type _ _ _ _; field = omega arith; keeps = fits_32 },
          tt,
        ),
        -- the loop
        (
          (
            an_integer _,
            an_integer _,
            omega (arith, ints),
            (refl, simple_integer _),
            (
              (
                an_integer _,
                an_integer _,
                (omega (arith, ints), number_integer _, refl, record { named = refl; region = a_region_type _ _ _ _; field = omega arith; keeps = fits_32 }, tt),
                (refl, simple_integer _),
                number_integer _,
                refl,
                record { named = refl; region = a_region_type _ _ _ _; field = omega arith; keeps = fits_64 },
                tt,
              ),
              tt,
            ),
          ),
          -- the loop over an index space
          (
            (
              a_space_type _,
              (omega (arith, ints), an_integer _),
              (
                (
                  an_integer _,
                  an_integer _,
                  ((refl, simple_index _), number_index _, term_32),
                  (refl, simple_index _),
                  number_index _,
                  refl,
                  record { named = refl; region = a_region_type _ _ _ _; field = omega arith; keeps = fits_32 },
                  tt,
                ),
                tt,
              ),
            ),
            -- the print
            (
              (
                (
                  an_integer _,
                  (omega (arith, ints), number_integer _, refl, record { named = refl; region = a_region_type _ _ _ _; field = omega arith; keeps = fits_32 }, tt),
                  (
                    an_integer _,
                    (omega (arith, ints), number_integer _, refl, record { named = refl; region = a_region_type _ _ _ _; field = omega arith; keeps = fits_64 }, tt),
                    tt,
                  ),
                ),
                refl,
              ),
              tt,
            ),
          ),
        ),
      ),
    ),
  );
  small = omega arith;
  taken = (of_integer W32 z fits, tt);
  count = refl;
}

pub region_example_holds : RegionExampleHolds
unfolding int_wrap digits
region_example_holds = record {
  ends = runs (pos 2) (omega (arith, ints));
  faults_too = runs (pos 4) (omega (arith, ints));
  end_is = refl;
  fault_is = refl;
}
