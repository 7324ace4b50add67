-- The premises at the example's place.
use Rattle.std.proofs.Common.{List, [], ◌∷◌, Bool, Some, false, true, refl, ap, sym, subst, ℕ, zero, suc, ◌==◌, ◌≡◌, cond, get_or, arith}
use Rattle.std.proofs.lemmas.List.Elements.{All-cons, All-nil}
use Rattle.std.specs.List.{All}
use Rattle.std.specs.Prelude.{bytes_eq, codes}
use Rattle.regent_tree.specs.Laws.{Shape, shapes}
use Rattle.regent_tree.specs.Limits.{KeepsLimit, Part, parts_of_block}
use Rattle.regent_tree.specs.Scopes.{bound_as, scope_of, unbound}
use Rattle.regent_tree.specs.StaticTypes.{field_term, no_task, place_of_space, space_at, task_named}
use Rattle.regent_tree.specs.Typing.{param_types}
use Rattle.regent_tree.specs.Values.{a_truth}
use Rattle.regent_tree.specs.declared.typing.Bound.{Bound}
use Rattle.regent_tree.specs.declared.types.PointerTerm.{PointerTerm}
use Rattle.regent_tree.specs.declared.types.TypeTerm.TheVariants as typed_as
use Rattle.check_rules.specs.types.Params.{term_at}
use Rattle.check_rules.specs.types.Sorts.{type_at}
use Rattle.check_laws.proofs.Bodies.{IsToldNone, body_told}
use Rattle.check_laws.specs.SoundScopes.{IsPlaced}
use Rattle.statement_laws.specs.Example.{example_state, example_task, example_tree}
use Rattle.statement_laws.proofs.Example.{example_holds}
use Rattle.state_laws.specs.Example.{ExampleFits, example_place}
use Rattle.point_sets.proofs.Rising.{rising-counted_from}
use Rattle.state_laws.proofs.Items.{counted_below}
use Rattle.state_laws.proofs.Made.{none_is_kept}
use Rattle.value_laws.specs.Fitting.{Fits, HasRootOfName, NamesFit, RootsAgree, fits_region, fits_unknown}
use Rattle.value_laws.specs.Shapes.{AreRootsOfSpaces, IsRootOfSpace, KeepsNumbers}
use Rattle.value_laws.specs.Spaces.{AreSpaced, HasSpacedDeclarations, IsSpaced, space_declared}
use Rattle.value_laws.proofs.Spaced.{no_arguments}

abbrev names : List Bound
names = example_place.scope.names

another : (i : ℕ) → (0 == suc i) ≡ false
another i = search (arith)

-- no other binding is there
no_other : (i : ℕ) → bound_as names (suc i) ≡ unbound
no_other i = ap (λ c. cond c (bound_as names 0) unbound) (another i)

-- ---- declarations

no_pointer : (space place : ℕ) (p : PointerTerm) → field_term example_tree space place ≡ typed_as.Pointer p → ⊥
no_pointer zero zero p e = absurd cc
no_pointer zero (suc place) p e = absurd cc
no_pointer (suc space) place p e = absurd cc

no_parameter : (space i k : ℕ) → space_declared example_tree (term_at (space_at example_tree space).params i) ≡ Some k → ⊥
no_parameter zero i k e = absurd cc
no_parameter (suc space) i k e = absurd cc

placed_params : (b c : Bool) (i : ℕ) →
    IsPlaced (scope_of example_tree (cond b (task_named example_tree (codes "t")) (cond c (task_named example_tree (codes "main")) no_task)))
    (type_at (param_types example_tree (cond b (task_named example_tree (codes "t")) (cond c (task_named example_tree (codes "main")) no_task))) i)
placed_params true c zero = tt
placed_params true c (suc i) = tt
placed_params false true i = tt
placed_params false false i = tt

declared : HasSpacedDeclarations example_tree
declared = record {
  fields = λ space f p there e. absurd (no_pointer space _ p e);
  params = λ u i k there e. absurd (no_parameter (place_of_space example_tree u.name) i k e);
  tasks = λ n i. placed_params (bytes_eq (codes "t") n) (bytes_eq (codes "main") n) i;
}

-- ---- names, roots and the store

spaced : AreSpaced example_tree names
spaced zero = record { args = λ i k e. tt; named = record { region = refl; of_space = refl }; parent = tt; few = omega (arith) }
spaced (suc i) = subst (λ (b : Bound). IsSpaced example_tree names b.static_type) (sym (no_other i)) (no_arguments example_tree names _ tt)

abbrev roots : List Shape
roots = shapes example_state.store

rooted : AreRootsOfSpaces example_tree roots
rooted = All-cons (IsRootOfSpace example_tree) _ [] (record { bounded = omega (arith); columns = refl }) (All-nil (IsRootOfSpace example_tree))

numbers : KeepsNumbers example_tree example_state.store
numbers zero zero zero = none_is_kept (field_term example_tree 0 0)
numbers zero zero (suc zero) = none_is_kept (field_term example_tree 0 0)
numbers zero zero (suc (suc point)) = none_is_kept (field_term example_tree 0 0)
numbers zero (suc field) point = none_is_kept (field_term example_tree 0 (suc field))
numbers (suc root) field point = none_is_kept (field_term example_tree 0 field)

names_fit : NamesFit roots names example_state.names
names_fit zero = fits_region (record {
  there = omega (arith);
  of_space = refl;
  points = record { rising = rising-counted_from 0 2; below = counted_below 0 2 2 (omega (arith)) };
})
names_fit (suc i) = subst (λ (b : Bound). Fits roots names b.static_type (get_or example_state.names b.place (a_truth false))) (sym (no_other i)) fits_unknown

agree : RootsAgree names example_state.names
agree zero = refl
agree (suc i) = subst (λ (b : Bound). HasRootOfName names example_state.names b.static_type (get_or example_state.names b.place (a_truth false))) (sym (no_other i)) tt

-- ---- limits

abbrev pub Each : List Part → Type 0
Each [] = Unit {0}
Each (p ∷ ps) = KeepsLimit p × Each ps

pub from_each : (ps : List Part) → Each ps → All KeepsLimit ps
from_each [] e = All-nil KeepsLimit
from_each (p ∷ ps) e = All-cons KeepsLimit p ps e.0 (from_each ps e.1)

limits : All KeepsLimit (parts_of_block example_task.body)
limits = from_each (parts_of_block example_task.body) (tt, (tt, (tt, ((0, refl, omega (arith)), (tt, (tt, (tt, (tt, ((1, refl, omega (arith)), (tt, tt))))))))))

told : IsToldNone example_tree example_task
told = body_told example_tree example_task example_holds.accepted example_holds.stands

pub example_fits : ExampleFits
example_fits = record {
  place = record {
    place = record {
      sound = told.sound;
      declared = declared;
      scope = told.scope;
      spaced = spaced;
      rooted = rooted;
      answers = λ roots line task vs store r s a. tt;
    };
    placed = (refl, tt);
    result = refl;
    sound_result = refl;
  };
  told = told.told;
  written = example_holds.written;
  limits = limits;
  state = record { names = names_fit; counted = refl; agree = agree; store = record { shapes_are = refl; numbers = numbers } };
}
