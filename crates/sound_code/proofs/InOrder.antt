-- A run in order of compiled code keeps all: each of its segments begins from a state that fits.
use Rattle.std.proofs.Common.{◌≡◌, inl, ℕ, pos, Option, Some, None, refl, sym, ap, ◌∙◌, subst, arith, map}
use Rattle.std.specs.Prelude.{get_or, option_map, slice_get, unwrap_or}
use Rattle.std.proofs.lemmas.Option.{none-some, same_Some, slice_get-map, unwrap_or-slice_get}
use Rattle.std.proofs.lemmas.Int.{ints}
use Rattle.lane_kernels.specs.declared.numbers.Width.{Width}
use Rattle.lane_kernels.specs.declared.numbers.Width.TheVariants.{W32, W64}
use Rattle.lane_kernels.specs.Numbers.{FitsWidth}
use Rattle.regent_tree.specs.declared.typing.StaticType.{StaticType}
use Rattle.regent_tree.specs.StaticTypes.{no_task}
use Rattle.regent_tree.specs.Syntax.{TaskTree, Tree}
use Rattle.regent_tree.specs.Typing.{result_type}
use Rattle.task_code.specs.declared.code.TaskCode.{TaskCode}
use Rattle.machine_terms.specs.declared.value.Value.TheVariants.{Number}
use Rattle.code_rules.specs.Instructions.{tasks_of}
use Rattle.code_rules.specs.Programs.{code_of, task_code}
use Rattle.code_laws.specs.Programs.{gives_index, gives_nothing, gives_scalar, IsGiven}
use Rattle.code_laws.specs.Simple.{scalar_integer, scalar_truth}
use Rattle.code_laws.specs.Steps.{Forms}
use Rattle.fit_rules.specs.Shapes.{NumberIs}
use Rattle.fit_rules.specs.Fits.{Program}
use Rattle.fit_rules.specs.Sound.{IsSound}
use Rattle.fit_runs.specs.Runs.{IsSoundCode}
use Rattle.fit_runs.proofs.Running.{runs_fit}
use Rattle.sound_code.specs.Programs.{BeginsWell, entry_code, entry_place, first_world, NeverBreaks, RunsKeepAll}
use Rattle.sound_code.specs.Ways.{shape_of}
use Rattle.fit_laws.proofs.Passing.{children_pass}
use Rattle.fit_laws.proofs.Segments.{children_are_within, no_segment_breaks, partitions_are_sound, segments_keep_fitting, touches_are_covered}

-- sound code never breaks
pub never_breaks : (g : Program) (t : TaskCode) (k : ℕ) → IsSound g t k → NeverBreaks g t k
never_breaks g t k sound x b fit = record {
  fits = segments_keep_fitting g x t k b sound fit;
  unbroken = no_segment_breaks g x t k b sound fit;
  touches = touches_are_covered g x t k b sound fit;
  children = λ cs e. (children_are_within g x t k b sound fit cs e, children_pass g x t k b sound fit cs e);
  partitions = partitions_are_sound g x t k b sound fit;
}

zero_fits : (w : Width) → FitsWidth w (pos 0)
zero_fits W32 = omega (arith, ints)
zero_fits W64 = omega (arith, ints)

-- 0 is a result of each type that a task gives
zero_given : (t : StaticType) → IsGiven t → NumberIs (shape_of t) (pos 0)
zero_given _ (gives_scalar _ (scalar_integer w)) = zero_fits w
zero_given _ (gives_scalar _ scalar_truth) = inl refl
zero_given _ (gives_index k) = zero_fits W64
zero_given _ gives_nothing = tt

module _ (tree : Tree) (g : Program) (code : g.code ≡ code_of tree)
    (given : (k : ℕ) (t : TaskTree) → slice_get (tasks_of tree) k ≡ Some t → IsGiven (result_type tree t.result))
    (results : (k : ℕ) → g.results k ≡ shape_of (result_type tree (get_or (tasks_of tree) k no_task).result))
    (sound : (k : ℕ) (t : TaskTree) → slice_get (tasks_of tree) k ≡ Some t → IsSound g (task_code tree t) k) where
  all_given : (k : ℕ) → NumberIs (g.results k) (pos 0)
  all_given k = subst (λ s. NumberIs s (pos 0)) (sym (results k))
      (subst (λ (y : TaskTree). NumberIs (shape_of (result_type tree y.result)) (pos 0)) (unwrap_or-slice_get (tasks_of tree) k no_task)
      (of (slice_get (tasks_of tree) k) refl))
    where
      of : (o : Option TaskTree) → slice_get (tasks_of tree) k ≡ o → NumberIs (shape_of (result_type tree (unwrap_or o no_task).result)) (pos 0)
      of None e = tt
      of (Some t) e = zero_given (result_type tree t.result) (given k t e)

  each_sound : (k : ℕ) (t : TaskCode) → slice_get g.code.tasks k ≡ Some t → IsSound g t k
  each_sound k t there = of (slice_get (tasks_of tree) k) refl
    where
      found : option_map (task_code tree) (slice_get (tasks_of tree) k) ≡ Some t
      found = sym (slice_get-map (task_code tree) (tasks_of tree) k) ∙ subst (λ c. slice_get c.tasks k ≡ Some t) code there

      of : (o : Option TaskTree) → slice_get (tasks_of tree) k ≡ o → IsSound g t k
      of None e = absurd (none-some t (ap (option_map (task_code tree)) (sym e) ∙ found))
      of (Some u) e = subst (λ y. IsSound g y k) (same_Some (task_code tree u) t (ap (option_map (task_code tree)) (sym e) ∙ found)) (sound k u e)

  pub sound_code : IsSoundCode g
  sound_code = record { tasks = each_sound; zeros = all_given }

  pub run_keeps_all : (forms : Forms) → BeginsWell forms tree g → RunsKeepAll forms tree g
  run_keeps_all forms well inputs turns p few more j comes =
      let begins = runs_fit g turns (entry_place tree) (entry_code tree) (first_world inputs) (map Number inputs) sound_code few
      (subst (λ c. slice_get c.tasks (entry_place tree) ≡ Some (entry_code tree)) (sym code) p.start) p.needs (λ r. refl)
      (well inputs turns p few) more j comes in
      record {
        begins = begins;
        keeps = never_breaks g begins.task begins.place (each_sound begins.place begins.task begins.there) begins.world _ begins.fits;
      }
