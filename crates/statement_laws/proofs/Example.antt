-- What holds where the example's body begins.
use Rattle.std.proofs.Common.{arith, [], false, refl, ℕ, ℤ, zero, suc, get_or}
use Rattle.regent_tree.proofs.Members.{Has-from_Contains}
use Rattle.point_sets.proofs.Rising.{rising-counted_from}
use Rattle.regent_tree.specs.Meaning.{calls_at}
use Rattle.regent_tree.specs.Scopes.{scope_of}
use Rattle.regent_tree.specs.Typing.{param_types}
use Rattle.regent_tree.specs.Values.{a_truth}
use Rattle.check_rules.specs.scopes.Sound.{StandsIn}
use Rattle.check_rules.specs.types.Sorts.{type_at}
use Rattle.fact_laws.specs.Regions.{child_at}
use Rattle.expression_laws.proofs.Stores.{child_in_store, none_in_store}
use Rattle.expression_laws.specs.Kinds.{IsOfType, is_region_of, is_unknown}
use Rattle.expression_laws.specs.Sound.{AreFitting, IsInStore, IsOfParent, of_arguments}
use Rattle.statement_laws.specs.Example.{ExampleHolds, example_args, example_task, example_tree}
use Rattle.statement_laws.proofs.Openings.{openings_are_sound}

of_types : (i : ℕ) → IsOfType (of_arguments example_args) (type_at (param_types example_tree example_task) i) (get_or example_args i (a_truth false))
of_types zero = is_region_of refl
of_types (suc zero) = is_unknown
of_types (suc (suc i)) = is_unknown

in_store : (i : ℕ) → IsInStore 1 ((of_arguments example_args).region i)
in_store zero = record { below = λ root n is. let e = is.0 in omega (arith, e); rising = rising-counted_from 0 2 }
in_store (suc zero) = none_in_store 1
in_store (suc (suc i)) = none_in_store 1

in_parts : (i : ℕ) (c : ℤ) → IsInStore 1 (child_at ((of_arguments example_args).partition i) c)
in_parts zero c = child_in_store 1 c
in_parts (suc zero) c = child_in_store 1 c
in_parts (suc (suc i)) c = child_in_store 1 c

no_parents : (i : ℕ) → IsOfParent (of_arguments example_args) (scope_of example_tree example_task).known (type_at (param_types example_tree example_task) i)
no_parents zero = tt
no_parents (suc zero) = tt
no_parents (suc (suc i)) = tt

fitting : AreFitting example_tree example_task example_args 1
fitting = record {
  counted = refl;
  types = of_types;
  holds = λ k c. absurd (Has-from_Contains [] k c);
  stored = record { regions = in_store; children = in_parts };
  parents = no_parents;
}

stands : StandsIn example_tree example_task
stands = (1, omega (arith), refl)

pub example_holds : ExampleHolds
example_holds = record {
  accepted = refl;
  stands = stands;
  written = (((tt, tt), (tt, tt)), tt);
  fitting = fitting;
  opening = openings_are_sound example_tree (calls_at example_tree 10 63) 10 example_task example_args _ refl stands fitting;
  touches = refl;
}
