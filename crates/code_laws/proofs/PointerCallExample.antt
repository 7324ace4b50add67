-- The premises of the law on calls and pointers hold of a program.
use Rattle.std.proofs.Common.{zero, suc, inl, inr, pos, [], ◌∷◌, refl, subst, arith}
use Rattle.std.proofs.lemmas.Int.{ints}
use Rattle.std.proofs.lemmas.Option.{none-some, same_Some}
use Rattle.std.specs.Int.{int_wrap}
use Rattle.std.specs.Fmt.{digits}
use Rattle.lane_kernels.specs.declared.numbers.Width.TheVariants.{W32}
use Rattle.regent_tree.specs.Syntax.{TaskTree}
use Rattle.regent_tree.specs.StaticTypes.{entry_name, task_named}
use Rattle.code_rules.specs.Programs.{place_of}
use Rattle.code_laws.specs.Typed.{IsTypedBlock}
use Rattle.code_laws.specs.PointerCallExample.{PointerCallExampleHolds, totals_program}
use Rattle.code_laws.specs.Pointers.{a_pointer_type, counts_pointer, fills_alike, assigned_plain, into_plain, keeps_plain, term_integer, passes_plain, zero_scalar}
use Rattle.code_laws.specs.Programs.{AreTypedTasksOf, IsTypedRun, IsTypedTaskOf, all_forms, gives_nothing, gives_scalar}
use Rattle.code_laws.specs.Simple.{a_region_type, a_space_type, an_integer, fits_32, scalar_integer, simple_integer, term_32, two_integers}
use Rattle.code_laws.specs.Standing.{of_integer}

-- the entry task
abbrev main : TaskTree
main = task_named totals_program (entry_name totals_program)

main_typed : IsTypedBlock all_forms (place_of totals_program main) main.body
main_typed = (
  (
    (an_integer _, (refl, zero_scalar _ (scalar_integer _), (refl, tt, tt, (tt, tt), (tt, tt)), (inl (passes_plain _ _ (into_plain _ _ (fills_alike _ _ (two_integers _ _))), (refl, tt)), tt)), tt),
    refl,
  ),
  tt,
)

tasks : AreTypedTasksOf all_forms totals_program
tasks zero t e = subst (IsTypedTaskOf all_forms totals_program) (same_Some _ t e) (record {
  given = gives_scalar _ (scalar_integer _);
  typed = (
    (refl, a_space_type _, ((refl, tt), an_integer _), record { there = omega arith; few = omega arith }, tt),
    (
      inl (
        inr (a_region_type _ _ _ _, record { number = 1; numbered = refl; place = refl; typed = a_region_type _ _ _ _; space = refl; is = refl }),
        (refl, tt),
        (
          (
            refl,
            assigned_plain _ _ (into_plain _ _ (fills_alike _ _ (two_integers _ _))),
            ((refl, tt), counts_pointer _ _ _ _, term_integer _ term_32),
            record { named = refl; numbers = (omega arith, (omega arith, (omega arith, tt))); pointer = a_pointer_type _ _ _ _ tt; certain = refl; field = omega arith; keeps = keeps_plain _ _ _ fits_32 },
            (tt, tt),
          ),
          tt,
        ),
      ),
      (
        inl (inl (simple_integer _), omega (arith, ints)),
        (
          inl (
            inr (a_region_type _ _ _ _, record { number = 1; numbered = refl; place = refl; typed = a_region_type _ _ _ _; space = refl; is = refl }),
            (refl, tt),
            ((an_integer _, an_integer _, (refl, inl (record { named = refl; numbers = (omega arith, (omega arith, (omega arith, (omega arith, tt)))); pointer = a_pointer_type _ _ _ _ tt; certain = refl; field = omega arith; keeps = keeps_plain _ _ _ fits_32 }, (tt, tt))), refl, tt), tt),
          ),
          (((into_plain _ _ (fills_alike _ _ (two_integers _ _)), zero_scalar _ (scalar_integer _)), (refl, tt)), tt),
        ),
      ),
    ),
  );
  small = omega arith;
})
tasks (suc zero) t e = subst (IsTypedTaskOf all_forms totals_program) (same_Some _ t e) (record {
  given = gives_nothing;
  typed = main_typed;
  small = omega arith;
})
tasks (suc (suc k)) t e = absurd (none-some t e)

runs : IsTypedRun all_forms totals_program (pos 4 ∷ [])
runs = record {
  start = refl;
  needs = refl;
  typed = main_typed;
  small = omega arith;
  taken = (of_integer W32 (pos 4) (omega (arith, ints)), tt);
  count = refl;
}

pub pointer_call_example_holds : PointerCallExampleHolds
unfolding int_wrap digits
pointer_call_example_holds = record { tasks = tasks; run = runs; end_is = refl; fault_is = refl }
