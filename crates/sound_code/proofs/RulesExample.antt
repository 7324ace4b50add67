-- The code of an accepted program with a task that takes regions is sound, and the task's frame fits when it opens.
use Rattle.std.proofs.Common.{◌≡◌, ℕ, zero, suc, pos, [], ◌∷◌, Some, refl, sym, subst, arith, ℕ}
use Rattle.std.proofs.lemmas.Int.{ints}
use Rattle.std.proofs.lemmas.Option.{none-some, same_Some}
use Rattle.lane_kernels.specs.declared.numbers.Width.TheVariants.{W64}
use Rattle.machine_terms.specs.Makes.{region_with}
use Rattle.code_laws.specs.Programs.{AreTypedTasks, IsTypedTask, gives_nothing}
use Rattle.code_laws.specs.Simple.{number_integer, a_region_type, a_space_type, an_integer, fits_64, simple_integer, two_integers}
use Rattle.code_laws.specs.LocalExample.{local_program}
use Rattle.code_laws.proofs.LocalExample.{local_example_holds}
use Rattle.fit_rules.specs.Shapes.{Are, are_more, are_none, integer, IsRegion, is_number, is_region, argument}
use Rattle.fit_rules.specs.Ends.{called}
use Rattle.fit_rules.specs.Marks.{in_slot, LiesAt}
use Rattle.fit_rules.proofs.Points.{counted_points}
use Rattle.sound_code.specs.Programs.{argument_shapes, AreConstrained, TasksKeepRules}
use Rattle.sound_code.specs.RulesExample.{HistogramIsSound, one_root, raise, raise_args, rules_program, RulesExampleHolds}
use Rattle.sound_code.proofs.Rules.{accepted_tasks_are_sound, plain_programs_are_sound}
use Rattle.machine_terms.specs.Pointers.{region_in}
use Rattle.std.specs.Prelude.{slice_get}

tasks : AreTypedTasks rules_program
tasks zero t e = subst (IsTypedTask rules_program) (same_Some _ t e) (record {
  given = gives_nothing;
  typed = (
    (
      two_integers _ _,
      (
        (omega (arith, ints), number_integer _, refl, record { named = refl; region = a_region_type _ _ _ _; field = omega arith; keeps = fits_64 }, tt),
        (number_integer _, number_integer _, (refl, simple_integer _), tt),
      ),
      omega (arith, ints),
      number_integer _,
      refl,
      record { named = refl; region = a_region_type _ _ _ _; field = omega arith; keeps = fits_64 },
      tt,
    ),
    tt,
  );
  small = omega arith;
})
tasks (suc zero) t e = subst (IsTypedTask rules_program) (same_Some _ t e) (record {
  given = gives_nothing;
  typed = (
    (refl, a_space_type _, (omega (arith, ints), an_integer _), record { there = omega arith; few = omega arith }, tt),
    (
      (
        two_integers _ _,
        (refl, simple_integer _),
        omega (arith, ints),
        number_integer _,
        refl,
        record { named = refl; region = a_region_type _ _ _ _; field = omega arith; keeps = fits_64 },
        tt,
      ),
      tt,
    ),
  );
  small = omega arith;
})
tasks (suc (suc k)) t e = absurd (none-some t e)

sound : TasksKeepRules rules_program
sound = accepted_tasks_are_sound rules_program refl tasks

whole : (i : ℕ) → region_in (slice_get raise_args i) ≡ Some (region_with 3 (0 ∷ 1 ∷ [])) →
    IsRegion (called one_root raise_args) (Some 0) (argument i) (region_with 3 (0 ∷ 1 ∷ []))
whole i at = record {
  there = refl;
  space = refl;
  set = counted_points 4194304 0 2 (omega arith);
  points = λ p e. e;
  origin = at;
}

args_are : Are (called one_root raise_args) (argument_shapes rules_program raise) raise_args
args_are = are_more _ _ _ _ (is_region (Some 0) (argument 0) _ (whole 0 refl)) (are_more _ _ _ _ (is_region (Some 0) (argument 1) _ (whole 1 refl))
    (are_more (integer W64) _ _ _ (is_number (integer W64) (pos 7) (omega (arith, ints))) are_none))

constrained : AreConstrained rules_program raise raise_args
constrained = (
  λ r e. subst (λ y. LiesAt raise_args y (in_slot 1)) (same_Some (region_with 3 (0 ∷ 1 ∷ [])) r e) (record {
    other = region_with 3 (0 ∷ 1 ∷ []);
    at = refl;
    inside = (refl, λ p h. h);
  }),
  tt,
)

pub rules_example_holds : RulesExampleHolds
rules_example_holds = record {
  accepted = refl;
  typed = tasks;
  sound = sound;
  fits = record { code = sym sound.code; machine = sound.opens 0 raise refl one_root raise_args 6 2 (omega arith) args_are constrained };
  ends = refl;
}

pub histogram_is_sound : HistogramIsSound
histogram_is_sound = plain_programs_are_sound local_program (pos 5 ∷ []) local_example_holds.plain
