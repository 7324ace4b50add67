-- The premises at the place of the union.
use Rattle.std.proofs.Common.{List, [], ◌∷◌, false, refl, ap, sym, subst, ℕ, zero, suc, ◌==◌, ◌≡◌, inl, inr, cond, get_or, map, arith}
use Rattle.std.proofs.lemmas.List.Elements.{All-cons, All-nil}
use Rattle.std.specs.List.{Contains}
use Rattle.point_sets.proofs.Rising.{rising-counted_from}
use Rattle.regent_tree.proofs.Members.{Has, Has-from_Contains}
use Rattle.regent_tree.specs.Limits.{KeepsLimit, WithinLimits, parts_of_program}
use Rattle.regent_tree.specs.Scopes.{bound_as, unbound}
use Rattle.regent_tree.specs.StaticTypes.{field_term}
use Rattle.regent_tree.specs.Syntax.{Block, ItemForm, ItemTree, no_statement, task_item}
use Rattle.regent_tree.specs.Values.{Region, a_truth}
use Rattle.regent_tree.specs.declared.typing.Bound.{Bound}
use Rattle.check_rules.specs.scopes.Visits.{Visit}
use Rattle.check_laws.proofs.Places.{places_are_without_breach}
use Rattle.check_laws.specs.Laws.{IsWithoutBreach}
use Rattle.check_laws.specs.MeantVisits.{meant_visits}
use Rattle.expression_laws.specs.WrittenStatements.{AreWrittenTasks, IsWrittenBlock}
use Rattle.state_laws.specs.Runs.{IsTextOfFit}
use Rattle.state_laws.specs.UnionExample.{UnionExampleFits, joined, union_here, union_roots, union_state, union_task, union_tree}
use Rattle.state_laws.proofs.Example.{from_each}
use Rattle.state_laws.proofs.Items.{counted_below}
use Rattle.state_laws.proofs.Made.{none_is_kept}
use Rattle.state_laws.proofs.Operations.{equal_is}
use Rattle.state_laws.proofs.Runs.{calls_fit}
use Rattle.state_laws.proofs.Texts.{texts_fit}
use Rattle.value_laws.specs.Fitting.{Fits, HasRootOfName, NamesFit, RootsAgree, fits_partition, fits_region, fits_unknown}
use Rattle.value_laws.specs.Shapes.{AreRootsOfSpaces, IsRegionOf, IsRootOfSpace, KeepsNumbers}
use Rattle.value_laws.specs.Spaces.{AreSpaced, IsSpaced}
use Rattle.value_laws.proofs.Spaced.{no_arguments}

-- ---- the text

within : WithinLimits union_tree
within = record {
  each = from_each (parts_of_program union_tree) (
    omega (arith),
    (
      omega (arith),
      (
        omega (arith),
        (
          omega (arith),
          (
            omega (arith),
            (tt, (tt, (tt, ((2, refl, omega (arith)), (tt, (tt, (tt, ((2, refl, omega (arith)), (tt, tt))))))))),
          ),
        ),
      ),
    ),
  );
  nodes = omega (arith);
}

abbrev body_of_item : ItemForm → Block
body_of_item (task_item t) = t.body
body_of_item form = no_statement

written : AreWrittenTasks union_tree
written t stands = by (Has-from_Contains (map (λ (i : ItemTree). i.form) union_tree) (task_item t) stands)
  where
    by : Has (map (λ (i : ItemTree). i.form) union_tree) (task_item t) → IsWrittenBlock t.body
    by (inl e) = absurd cc
    by (inr (inl e)) = subst IsWrittenBlock (ap body_of_item e) (tt, (tt, (tt, tt)))
    by (inr (inr h)) = absurd h

text : IsTextOfFit union_tree
text = texts_fit union_tree refl within written

abbrev visit : Visit
visit = record { task = union_task; scope = union_here.scope; line = 5; form = joined }

stands_there : Contains (meant_visits union_tree) visit
stands_there = (2, omega (arith), refl)

untold : IsWithoutBreach union_tree visit
untold = places_are_without_breach union_tree visit refl stands_there

-- ---- names

abbrev names : List Bound
names = union_here.scope.names

first_other : (i : ℕ) → (0 == suc (suc i)) ≡ false
first_other i = search (arith)

second_other : (i : ℕ) → (1 == suc (suc i)) ≡ false
second_other i = search (arith)

no_other : (i : ℕ) → bound_as names (suc (suc i)) ≡ unbound
no_other i = λ j. cond (second_other i j) (bound_as names 1) (cond (first_other i j) (bound_as names 0) unbound)

spaced : AreSpaced union_tree names
spaced zero = record { args = λ i k e. tt; named = record { region = refl; of_space = refl }; parent = tt; few = omega (arith) }
spaced (suc zero) = record { args = λ i k e. tt; named = tt; parent = refl; few = omega (arith) }
spaced (suc (suc i)) = subst (λ (b : Bound). IsSpaced union_tree names b.static_type) (sym (no_other i)) (no_arguments union_tree names _ tt)

rooted : AreRootsOfSpaces union_tree union_roots
rooted = All-cons (IsRootOfSpace union_tree) _ [] (record { bounded = omega (arith); columns = refl }) (All-nil (IsRootOfSpace union_tree))

abbrev two_points : Region
two_points = record { root = 0; points = 0 ∷ 1 ∷ [] }

is_region : IsRegionOf union_roots 0 two_points
is_region = record { there = omega (arith); of_space = refl; points = record { rising = rising-counted_from 0 2; below = counted_below 0 2 2 (omega (arith)) } }

names_fit : NamesFit union_roots names union_state.names
names_fit zero = fits_region is_region
names_fit (suc zero) = fits_partition (equal_is union_tree union_roots rooted 0 two_points 2 is_region (omega (arith)))
names_fit (suc (suc i)) = subst (λ (b : Bound). Fits union_roots names b.static_type (get_or union_state.names b.place (a_truth false))) (sym (no_other i)) fits_unknown

agree : RootsAgree names union_state.names
agree zero = refl
agree (suc zero) = refl
agree (suc (suc i)) = subst (λ (b : Bound). HasRootOfName names union_state.names b.static_type (get_or union_state.names b.place (a_truth false))) (sym (no_other i)) tt

numbers : KeepsNumbers union_tree union_state.store
numbers zero zero zero = none_is_kept (field_term union_tree 0 0)
numbers zero zero (suc zero) = none_is_kept (field_term union_tree 0 0)
numbers zero zero (suc (suc point)) = none_is_kept (field_term union_tree 0 0)
numbers zero (suc field) point = none_is_kept (field_term union_tree 0 (suc field))
numbers (suc root) field point = none_is_kept (field_term union_tree 0 field)

pub union_example_fits : UnionExampleFits
union_example_fits = record {
  place = record {
    place = record {
      sound = text.sound;
      declared = text.declared;
      scope = untold.scope;
      spaced = spaced;
      rooted = rooted;
      answers = calls_fit union_tree refl within written 10 63;
    };
    placed = (refl, (refl, tt));
    result = refl;
    sound_result = refl;
  };
  told = untold.form;
  within = untold.within;
  written = tt;
  limits = All-nil KeepsLimit;
  state = record { names = names_fit; counted = refl; agree = agree; store = record { shapes_are = refl; numbers = numbers } };
}
