-- The premises of the law on calls hold of a program.
use Rattle.std.proofs.Common.{zero, suc, pos, [], ◌∷◌, inl, refl, subst, arith}
use Rattle.std.proofs.lemmas.Int.{ints}
use Rattle.std.proofs.lemmas.Option.{none-some, same_Some}
use Rattle.std.specs.Int.{int_wrap}
use Rattle.std.specs.Fmt.{digits}
use Rattle.lane_kernels.specs.declared.numbers.Width.TheVariants.{W64}
use Rattle.regent_tree.specs.Syntax.{TaskTree}
use Rattle.regent_tree.specs.StaticTypes.{entry_name, task_named}
use Rattle.code_rules.specs.Programs.{place_of}
use Rattle.code_laws.specs.Typed.{IsTypedBlock}
use Rattle.code_laws.specs.CallExample.{CallExampleHolds, calls_program}
use Rattle.code_laws.specs.Programs.{AreTypedTasks, IsTypedRun, IsTypedTask, call_forms, gives_nothing, gives_scalar}
use Rattle.code_laws.specs.Simple.{number_integer, a_region_type, a_space_type, an_integer, fits_64, scalar_integer, simple_integer, two_integers}
use Rattle.code_laws.specs.Pointers.{fills_alike, into_plain, zero_scalar}
use Rattle.code_laws.specs.Standing.{of_integer}

-- the entry task
abbrev main : TaskTree
main = task_named calls_program (entry_name calls_program)

main_typed : IsTypedBlock call_forms (place_of calls_program main) main.body
main_typed = (
  (refl, a_space_type _, (omega (arith, ints), an_integer _), record { there = omega arith; few = omega arith }, tt),
  (
    (
      two_integers _ _,
      (refl, zero_scalar _ (scalar_integer _), (refl, tt, tt, (tt, tt), (tt, tt)), (inl ((two_integers _ _, refl), (refl, simple_integer _)), tt)),
      omega (arith, ints),
      number_integer _,
      refl,
      record { named = refl; region = a_region_type _ _ _ _; field = omega arith; keeps = fits_64 },
      tt,
    ),
    (
      (refl, (refl, tt, tt, (tt, tt), (tt, tt)), (inl ((two_integers _ _, refl), omega (arith, ints)), tt)),
      (
        (
          two_integers _ _,
          (
            refl,
            zero_scalar _ (scalar_integer _),
            (refl, tt, tt, (tt, tt), (tt, tt)),
            (
              inl (
                (two_integers _ _, refl),
                (omega (arith, ints), number_integer _, refl, record { named = refl; region = a_region_type _ _ _ _; field = omega arith; keeps = fits_64 }, tt),
              ),
              tt,
            ),
          ),
          omega (arith, ints),
          number_integer _,
          refl,
          record { named = refl; region = a_region_type _ _ _ _; field = omega arith; keeps = fits_64 },
          tt,
        ),
        (
          (
            (
              an_integer _,
              (omega (arith, ints), number_integer _, refl, record { named = refl; region = a_region_type _ _ _ _; field = omega arith; keeps = fits_64 }, tt),
              tt,
            ),
            refl,
          ),
          tt,
        ),
      ),
    ),
  ),
)

tasks : AreTypedTasks calls_program
tasks zero t e = subst (IsTypedTask calls_program) (same_Some _ t e) (record {
  given = gives_scalar _ (scalar_integer _);
  typed = (
    (refl, a_space_type _, (omega (arith, ints), an_integer _), record { there = omega arith; few = omega arith }, tt),
    (
      (
        two_integers _ _,
        ((refl, simple_integer _), (number_integer _, number_integer _, (refl, simple_integer _), tt)),
        omega (arith, ints),
        number_integer _,
        refl,
        record { named = refl; region = a_region_type _ _ _ _; field = omega arith; keeps = fits_64 },
        tt,
      ),
      (
        (
          (into_plain _ _ (fills_alike _ _ (two_integers _ _)), zero_scalar _ (scalar_integer _)),
          (omega (arith, ints), number_integer _, refl, record { named = refl; region = a_region_type _ _ _ _; field = omega arith; keeps = fits_64 }, tt),
        ),
        tt,
      ),
    ),
  );
  small = omega arith;
})
tasks (suc zero) t e = subst (IsTypedTask calls_program) (same_Some _ t e) (record {
  given = gives_nothing;
  typed = main_typed;
  small = omega arith;
})
tasks (suc (suc k)) t e = absurd (none-some t e)

runs : IsTypedRun call_forms calls_program (pos 5 ∷ [])
runs = record {
  start = refl;
  needs = refl;
  typed = main_typed;
  small = omega arith;
  taken = (of_integer W64 (pos 5) (omega (arith, ints)), tt);
  count = refl;
}

pub call_example_holds : CallExampleHolds
unfolding int_wrap digits
call_example_holds = record { tasks = tasks; run = runs; end_is = refl; fault_is = refl }
