-- The code of an accepted program whose tasks hand a region on is sound.
use Rattle.std.proofs.Common.{◌≡◌, ℕ, zero, suc, pos, [], ◌∷◌, Some, inl, inr, false, true, refl, sym, subst, arith, ap}
use Rattle.std.proofs.lemmas.Int.{ints}
use Rattle.std.proofs.lemmas.Option.{none-some, same_Some}
use Rattle.lane_kernels.specs.declared.numbers.Mode.TheVariants as mode
use Rattle.lane_kernels.specs.declared.numbers.Width.TheVariants.{W64}
use Rattle.code_laws.proofs.Under.{made_may, taken_may}
use Rattle.code_laws.specs.Handing.{AreTypedBy, IsTypedBy}
use Rattle.code_laws.specs.Programs.{gives_nothing, gives_scalar}
use Rattle.code_laws.specs.Pointers.{fills_alike, into_plain, zero_scalar}
use Rattle.code_laws.specs.Simple.{a_region_type, a_space_type, an_integer, fits_64, number_integer, scalar_integer, simple_integer, two_integers, two_regions}
use Rattle.fit_rules.specs.Shapes.{Are, are_more, are_none, integer, IsRegion, is_number, is_region, argument}
use Rattle.fit_rules.specs.Ends.{called}
use Rattle.fit_rules.proofs.Points.{counted_points}
use Rattle.sound_code.specs.HandingExample.{change, change_args, first_root, HandedIsSound, hands_program, HandsExampleHolds, second_root, two_roots}
use Rattle.sound_code.specs.Programs.{AreConstrained, argument_shapes, TasksKeepRules}
use Rattle.code_laws.specs.HandingExample.{handing_program}
use Rattle.code_laws.proofs.HandingExample.{handing_example_holds}
use Rattle.machine_terms.specs.declared.value.RegionValue.{RegionValue}
use Rattle.machine_terms.specs.Pointers.{region_in}
use Rattle.plain_values.specs.Points.{has, IsPoints}
use Rattle.std.specs.Prelude.{slice_get}
use Rattle.sound_code.proofs.Rules.{handing_tasks_are_sound, plain_programs_are_sound}

tasks : AreTypedBy true false hands_program
tasks zero t e = subst (IsTypedBy true false hands_program) (same_Some _ t e) (record {
  given = gives_scalar _ (scalar_integer _);
  typed = (
    (
      (into_plain _ _ (fills_alike _ _ (two_integers _ _)), zero_scalar _ (scalar_integer _)),
      (omega (arith, ints), number_integer _, refl, record { named = refl; region = a_region_type _ _ _ _; field = omega arith; keeps = fits_64 }, taken_may _ _ 0 mode.Read (omega arith) refl),
    ),
    tt,
  );
  small = omega arith;
})
tasks (suc zero) t e = subst (IsTypedBy true false hands_program) (same_Some _ t e) (record {
  given = gives_nothing;
  typed = (
    (
      two_integers _ _,
      (
        -- the regions are handed on
        (
          refl,
          zero_scalar _ (scalar_integer _),
          (refl, ((refl, a_region_type _ _ _ _, omega arith, taken_may _ _ 0 mode.Read (omega arith) refl), tt), tt, (tt, (tt, tt)), (tt, (tt, tt))),
          (inr (inl (refl, refl, two_regions _ _ _ _ _ _ _)), (inr (inl (refl, refl, two_regions _ _ _ _ _ _ _)), tt)),
        ),
        (number_integer _, number_integer _, (refl, simple_integer _), tt),
      ),
      omega (arith, ints),
      number_integer _,
      refl,
      record { named = refl; region = a_region_type _ _ _ _; field = omega arith; keeps = fits_64 },
      taken_may _ _ 0 mode.Write (omega arith) refl,
    ),
    tt,
  );
  small = omega arith;
})
tasks (suc (suc zero)) t e = subst (IsTypedBy true false hands_program) (same_Some _ t e) (record {
  given = gives_nothing;
  typed = (
    (refl, a_space_type _, (omega (arith, ints), an_integer _), record { there = omega arith; few = omega arith }, (omega arith, refl, refl)),
    (
      (refl, a_space_type _, (omega (arith, ints), an_integer _), record { there = omega arith; few = omega arith }, (omega arith, refl, refl)),
      (
        -- the roots are handed over
        (
          refl,
          (
            refl,
            (
              (refl, a_region_type _ _ _ _, omega arith, made_may _ _ 0 mode.Read (omega arith) refl),
              ((refl, a_region_type _ _ _ _, omega arith, made_may _ _ 0 mode.Read (omega arith) refl), tt),
            ),
            tt,
            (tt, (tt, (tt, tt))),
            (tt, (tt, (tt, tt))),
          ),
          (
            inr (inl (refl, refl, two_regions _ _ _ _ _ _ _)),
            (inr (inl (refl, refl, two_regions _ _ _ _ _ _ _)), (inl ((two_integers _ _, refl), (refl, simple_integer _)), tt)),
          ),
        ),
        tt,
      ),
    ),
  );
  small = omega arith;
})
tasks (suc (suc (suc k))) t e = absurd (none-some t e)

sound : TasksKeepRules hands_program
sound = handing_tasks_are_sound hands_program refl tasks

whole : (i : ℕ) (r : RegionValue) → two_roots.there r.root.0 ≡ true → r.points ≡ 0 ∷ 1 ∷ [] → region_in (slice_get change_args i) ≡ Some r →
    IsRegion (called two_roots change_args) (Some 0) (argument i) r
whole i r there points at = record {
  there = there;
  space = refl;
  set = subst (IsPoints 4194304) (sym points) (counted_points 4194304 0 2 (omega arith));
  points = λ p e. subst (λ ps. has ps p ≡ true) points e;
  origin = at;
}

args_are : Are (called two_roots change_args) (argument_shapes hands_program change) change_args
args_are = are_more _ _ _ _ (is_region (Some 0) (argument 0) first_root (whole 0 first_root refl refl refl))
    (are_more _ _ _ _ (is_region (Some 0) (argument 1) second_root (whole 1 second_root refl refl refl))
    (are_more (integer W64) _ _ _ (is_number (integer W64) (pos 7) (omega (arith, ints))) are_none))

-- two roots share no point
constrained : AreConstrained hands_program change change_args
constrained = (λ r q er eq same. absurd (other r q er eq same), tt)
  where
    other : (r q : RegionValue) → region_in (slice_get change_args 1) ≡ Some r → region_in (slice_get change_args 0) ≡ Some q →
        r.root.0 ≡ q.root.0 → ⊥
    other r q er eq same =
        let two : 4 ≡ r.root.0 = ap (λ (y : RegionValue). y.root.0) (same_Some second_root r er) in
        let one : 3 ≡ q.root.0 = ap (λ (y : RegionValue). y.root.0) (same_Some first_root q eq) in
        omega (arith, two, one, same)

pub hands_example_holds : HandsExampleHolds
hands_example_holds = record {
  accepted = refl;
  typed = tasks;
  sound = sound;
  fits = record { code = sym sound.code; machine = sound.opens 1 change refl two_roots change_args 6 2 (omega arith) args_are constrained };
  hands = refl;
  within = handing_tasks_are_sound handing_program handing_example_holds.accepted.accepted handing_example_holds.tasks;
}

pub handed_is_sound : HandedIsSound
handed_is_sound = plain_programs_are_sound handing_program (pos 2 ∷ []) (record { run = handing_example_holds.accepted; plain = refl })
