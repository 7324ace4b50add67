-- The premises of the law on regions that are handed over hold of a program.
use Rattle.std.proofs.Common.{zero, suc, pos, [], ◌∷◌, inl, inr, false, true, refl, subst, arith}
use Rattle.std.proofs.lemmas.Int.{ints}
use Rattle.std.proofs.lemmas.Option.{none-some, same_Some}
use Rattle.std.specs.Int.{int_wrap}
use Rattle.std.specs.Fmt.{digits}
use Rattle.lane_kernels.specs.declared.numbers.Mode.TheVariants as mode
use Rattle.lane_kernels.specs.declared.numbers.Op.TheVariants.{Sum}
use Rattle.lane_kernels.specs.declared.numbers.Width.TheVariants.{W64}
use Rattle.regent_tree.specs.StaticTypes.{entry_name, task_named}
use Rattle.regent_tree.specs.Syntax.{TaskTree}
use Rattle.code_rules.specs.Programs.{place_of}
use Rattle.code_laws.specs.Handing.{AreTypedBy, IsTypedBy, forms_by}
use Rattle.code_laws.specs.HandingExample.{HandingExampleHolds, handing_program}
use Rattle.regent_tree.specs.Limits.{WithinLimits, parts_of_program}
use Rattle.code_laws.specs.AcceptedPrograms.{IsProgramRun}
use Rattle.code_laws.specs.Programs.{IsTypedRun, gives_nothing, gives_scalar}
use Rattle.code_laws.proofs.LocalExample.{all_keep}
use Rattle.code_laws.proofs.LocalRuns.{accepted_programs_run_as_meant}
use Rattle.code_laws.specs.Pointers.{fills_alike, into_plain, zero_scalar}
use Rattle.code_laws.specs.Simple.{a_region_type, a_space_type, an_integer, fits_64, number_integer, scalar_integer, simple_integer, two_integers, two_regions}
use Rattle.code_laws.specs.Standing.{of_integer}
use Rattle.code_laws.proofs.Under.{made_may, taken_may}
use Rattle.code_laws.specs.Typed.{IsTypedBlock}
use Rattle.code_laws.proofs.WrittenForms.{program_written}

-- the entry task
abbrev main : TaskTree
main = task_named handing_program (entry_name handing_program)

main_typed : IsTypedBlock (forms_by true false handing_program main) (place_of handing_program main) main.body
main_typed = (
  -- the root
  (refl, a_space_type _, ((refl, simple_integer _), an_integer _), record { there = omega arith; few = omega arith }, (omega arith, refl, refl)),
  (
    -- it is handed over
    (
      refl,
      (refl, ((refl, a_region_type _ _ _ _, omega arith, made_may _ _ 0 mode.Read (omega arith) refl), ((refl, a_region_type _ _ _ _, omega arith, made_may _ _ 0 mode.Read (omega arith) refl), tt)), ((refl, refl, a_region_type _ _ _ _, a_region_type _ _ _ _, inl refl), tt), (tt, (tt, (tt, tt))), (tt, (tt, (tt, tt)))),
      (inr (inl (refl, refl, two_regions _ _ _ _ _ _ _)), (inr (inl (refl, refl, two_regions _ _ _ _ _ _ _)), (inl ((two_integers _ _, refl), omega (arith, ints)), tt))),
    ),
    (
      -- and again, behind a call that takes it
      (
        refl,
        (refl, ((refl, a_region_type _ _ _ _, omega arith, made_may _ _ 0 mode.Read (omega arith) refl), ((refl, a_region_type _ _ _ _, omega arith, made_may _ _ 0 mode.Read (omega arith) refl), tt)), ((refl, refl, a_region_type _ _ _ _, a_region_type _ _ _ _, inl refl), tt), (tt, (tt, (tt, tt))), (tt, (tt, (tt, tt)))),
        (
          inr (inl (refl, refl, two_regions _ _ _ _ _ _ _)),
          (
            inr (inl (refl, refl, two_regions _ _ _ _ _ _ _)),
            (
              inl (
                (two_integers _ _, refl),
                (
                  refl,
                  zero_scalar _ (scalar_integer _),
                  (refl, ((refl, a_region_type _ _ _ _, omega arith, made_may _ _ 0 mode.Read (omega arith) refl), tt), ((refl, refl, a_region_type _ _ _ _, a_region_type _ _ _ _, inl refl), tt), (tt, (tt, tt)), (tt, (tt, tt))),
                  (inr (inl (refl, refl, two_regions _ _ _ _ _ _ _)), (inr (inl (refl, refl, two_regions _ _ _ _ _ _ _)), tt)),
                ),
              ),
              tt,
            ),
          ),
        ),
      ),
      (
        -- the print
        (
          (
            an_integer _,
            (
              omega (arith, ints),
              number_integer _,
              refl,
              record { named = refl; region = a_region_type _ _ _ _; field = omega arith; keeps = fits_64 },
              made_may _ _ 0 mode.Read (omega arith) refl,
            ),
            tt,
          ),
          refl,
        ),
        tt,
      ),
    ),
  ),
)

tasks : AreTypedBy true false handing_program
tasks zero t e = subst (IsTypedBy true false handing_program) (same_Some _ t e) (record {
  given = gives_scalar _ (scalar_integer _);
  typed = (
    (
      (into_plain _ _ (fills_alike _ _ (two_integers _ _)), zero_scalar _ (scalar_integer _)),
      (
        (omega (arith, ints), number_integer _, refl, record { named = refl; region = a_region_type _ _ _ _; field = omega arith; keeps = fits_64 }, taken_may _ _ 0 mode.Read (omega arith) refl),
        (number_integer _, number_integer _, (omega (arith, ints), number_integer _, refl, record { named = refl; region = a_region_type _ _ _ _; field = omega arith; keeps = fits_64 }, taken_may _ _ 0 mode.Read (omega arith) refl), tt),
      ),
    ),
    tt,
  );
  small = omega arith;
})
tasks (suc zero) t e = subst (IsTypedBy true false handing_program) (same_Some _ t e) (record {
  given = gives_nothing;
  typed = (
    -- the write
    (two_integers _ _, (refl, simple_integer _), omega (arith, ints), number_integer _, refl, record { named = refl; region = a_region_type _ _ _ _; field = omega arith; keeps = fits_64 }, taken_may _ _ 0 mode.Write (omega arith) refl),
    (
      -- the reduction of what a call gives that takes both
      (
        an_integer _,
        an_integer _,
        (
          refl,
          zero_scalar _ (scalar_integer _),
          (
            refl,
            ((refl, a_region_type _ _ _ _, omega arith, taken_may _ _ 0 mode.Read (omega arith) refl), tt),
            ((refl, refl, a_region_type _ _ _ _, a_region_type _ _ _ _, inr (inl (omega arith, omega arith, refl))), tt),
            (tt, (tt, tt)),
            (tt, (tt, tt)),
          ),
          (inr (inl (refl, refl, two_regions _ _ _ _ _ _ _)), (inr (inl (refl, refl, two_regions _ _ _ _ _ _ _)), tt)),
        ),
        omega (arith, ints),
        number_integer _,
        refl,
        record { named = refl; region = a_region_type _ _ _ _; field = omega arith; keeps = fits_64 },
        taken_may _ _ 0 (mode.Reduce Sum) (omega arith) refl,
      ),
      tt,
    ),
  );
  small = omega arith;
})
tasks (suc (suc zero)) t e = subst (IsTypedBy true false handing_program) (same_Some _ t e) (record {
  given = gives_nothing;
  typed = main_typed;
  small = omega arith;
})
tasks (suc (suc (suc k))) t e = absurd (none-some t e)

run : IsTypedRun (forms_by true false handing_program main) handing_program (pos 2 ∷ [])
run = record {
  start = refl;
  needs = refl;
  typed = main_typed;
  small = omega arith;
  taken = (of_integer W64 (pos 2) (omega (arith, ints)), tt);
  count = refl;
}

within : WithinLimits handing_program
within = record { each = all_keep (parts_of_program handing_program) refl; nodes = omega (arith) }

accepted : IsProgramRun handing_program (pos 2 ∷ [])
accepted = record { within = within; accepted = refl; written = program_written handing_program refl; numbers = (omega (arith, ints), tt) }

pub handing_example_holds : HandingExampleHolds
unfolding int_wrap digits
handing_example_holds = record {
  accepted = accepted;
  runs = accepted_programs_run_as_meant handing_program (pos 2 ∷ []) 5 (omega (arith)) accepted;
  tasks = tasks;
  run = run;
  end_is = refl;
  fault_is = refl;
  turns_are = refl;
}
