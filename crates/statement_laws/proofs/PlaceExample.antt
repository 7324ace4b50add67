-- What is supposed at the example's places holds there.
use Rattle.std.proofs.Common.{List, [], ap, arith, inl, inr, map, refl, subst, ℕ, ◌∷◌, ◌≡◌}
use Rattle.regent_tree.proofs.Members.{Has, Has-from_Contains}
use Rattle.regent_tree.specs.Meaning.{body_of, calls_at, opening}
use Rattle.regent_tree.specs.Running.{Here, State}
use Rattle.regent_tree.specs.Scopes.{scope_of}
use Rattle.regent_tree.specs.Syntax.{ItemTree, TaskTree, Tree, task_item}
use Rattle.regent_tree.specs.Typing.{scope_after}
use Rattle.regent_tree.specs.Values.{Value}
use Rattle.check_rules.specs.Breaches.{breaches}
use Rattle.check_rules.specs.scopes.Sound.{StandsIn}
use Rattle.check_laws.proofs.Bodies.{IsToldNone, body_told}
use Rattle.check_laws.proofs.Onward.{block_next}
use Rattle.fact_laws.specs.Regions.{Interpretation}
use Rattle.expression_laws.specs.Laws.{IsReadyToEvaluate}
use Rattle.expression_laws.specs.Sound.{of_arguments}
use Rattle.statement_laws.specs.Example.{example_args, example_state, example_task, example_tree}
use Rattle.statement_laws.specs.Laws.{IsSoundOpening}
use Rattle.statement_laws.specs.PlaceExample.{IsStatementPlace, PlacesAreReady, call_here, call_state, caller_begins, caller_task, caller_tree, reduction, reduction_here, variable}
use Rattle.statement_laws.specs.Places.{IsReady}
use Rattle.statement_laws.specs.Steady.{IsSoundAfter}
use Rattle.expression_laws.specs.WrittenStatements.{AreWrittenTasks, IsWrittenBlock}
use Rattle.statement_laws.proofs.Answers.{answers_are_sound}
use Rattle.statement_laws.proofs.Entering.{entry_fits}
use Rattle.statement_laws.proofs.Example.{example_holds}
use Rattle.statement_laws.proofs.Loops.{moved_on}
use Rattle.statement_laws.proofs.Openings.{openings_are_sound}
use Rattle.statement_laws.proofs.Scopes.{static_after}
use Rattle.statement_laws.proofs.Tasks.{statements_keep}
use Rattle.statement_laws.proofs.WatchedExample.{body_of_item, watched_example_holds}
use Rattle.worked_examples.specs.Words.{block, call, get, line}

evaluating : (task : TaskTree) (given : List Value) (roots : ℕ) (m : Interpretation) (h : Here) → IsReady task given roots m h → IsReadyToEvaluate task given roots m h
evaluating task given roots m h r = record {
  sound = r.sound;
  sound_task = r.sound_task;
  scope = r.scope;
  well_scoped = r.static.well_scoped;
  place = r.place;
  answers = r.answers;
}

-- where a body begins
begun : (tree : Tree) (turns : ℕ) (task : TaskTree) (given : List Value) (roots : ℕ) (u : State) → breaches tree ≡ [] → AreWrittenTasks tree → IsToldNone tree task →
    IsSoundOpening (record { tree = tree; calls = calls_at tree turns 63; task = task; args = given; roots = roots }) (of_arguments given) u →
    IsReady task given roots (of_arguments given) (body_of tree (calls_at tree turns 63) task)
begun tree turns task given roots u none written told opening = record {
  sound = told.sound;
  sound_task = told.sound_task;
  scope = told.scope;
  static = opening.static;
  place = opening.place;
  answers = answers_are_sound tree turns 63 (of_arguments given) none written;
  result = refl;
}

-- ---- the reduction

example_told : IsToldNone example_tree example_task
example_told = body_told example_tree example_task example_holds.accepted example_holds.stands

example_written : AreWrittenTasks example_tree
example_written t stands = by (Has-from_Contains (map (λ (i : ItemTree). i.form) example_tree) (task_item t) stands)
  where
    by : Has (map (λ (i : ItemTree). i.form) example_tree) (task_item t) → IsWrittenBlock t.body
    by (inl e) = absurd cc
    by (inr (inl e)) = subst IsWrittenBlock (ap body_of_item e) example_holds.written
    by (inr (inr (inl e))) = subst IsWrittenBlock (ap body_of_item e) tt
    by (inr (inr (inr h))) = absurd h

example_begun : IsReady example_task example_args 1 (of_arguments example_args) (body_of example_tree (calls_at example_tree 10 63) example_task)
example_begun = begun example_tree 10 example_task example_args 1 example_state example_holds.accepted example_written example_told example_holds.opening

reduction_place : IsStatementPlace example_task example_args 1 reduction_here reduction example_state
reduction_place =
    let r = example_begun in
    let ready = moved_on example_task example_args 1 (body_of example_tree (calls_at example_tree 10 63) example_task) (of_arguments example_args) (of_arguments example_args) (scope_of example_tree example_task) 2 r r.scope r.static r.place in record {
      meant = of_arguments example_args;
      ready = ready;
      evaluates = evaluating example_task example_args 1 (of_arguments example_args) reduction_here ready;
      told = refl;
      within = refl;
      written = ((tt, tt), (tt, tt));
      state = example_holds.opening.state;
    }

-- ---- the call

caller_stands : StandsIn caller_tree caller_task
caller_stands = (2, omega (arith), refl)

caller_opening : IsSoundOpening (record { tree = caller_tree; calls = calls_at caller_tree 10 63; task = caller_task; args = []; roots = 0 }) (of_arguments []) (opening caller_tree 10 caller_task [] [])
caller_opening = openings_are_sound caller_tree (calls_at caller_tree 10 63) 10 caller_task [] [] watched_example_holds.accepted caller_stands (entry_fits caller_tree [] watched_example_holds.accepted refl)

caller_told : IsToldNone caller_tree caller_task
caller_told = body_told caller_tree caller_task watched_example_holds.accepted caller_stands

caller_ready : IsReady caller_task [] 0 (of_arguments []) caller_begins
caller_ready =
    let r = begun caller_tree 10 caller_task [] 0 (opening caller_tree 10 caller_task [] []) watched_example_holds.accepted watched_example_holds.written caller_told caller_opening in
    moved_on caller_task [] 0 (body_of caller_tree (calls_at caller_tree 10 63) caller_task) (of_arguments []) (of_arguments []) (scope_of caller_tree caller_task) 5 r r.scope r.static r.place

-- behind the variable, by the law on statements
made : IsSoundAfter (record { tree = caller_tree; calls = calls_at caller_tree 10 63; task = caller_task; args = []; roots = 0 }) (of_arguments []) (scope_of caller_tree caller_task).next (scope_after caller_tree (scope_of caller_tree caller_task) variable) call_state
made = statements_keep caller_task [] 0 variable caller_begins (of_arguments []) caller_ready refl refl tt (opening caller_tree 10 caller_task [] []) caller_opening.state

call_place : IsStatementPlace caller_task [] 0 call_here (call "t" (get "s" ∷ [])) call_state
call_place =
    let r = caller_ready in
    let next = block_next caller_tree caller_task r.sound (scope_of caller_tree caller_task) 5 variable (block (line 6 (call "t" (get "s" ∷ [])) ∷ [])) r.scope caller_told.told in
    let ready = moved_on caller_task [] 0 caller_begins (of_arguments []) made.meant (scope_after caller_tree (scope_of caller_tree caller_task) variable) 6 r next.2
    (static_after caller_tree caller_task r.sound (record { tree = caller_tree; calls = calls_at caller_tree 10 63; task = caller_task; args = []; roots = 0 }) (scope_of caller_tree caller_task) variable r.scope r.static next.0 next.1) made.place in record {
      meant = made.meant;
      ready = ready;
      evaluates = evaluating caller_task [] 0 made.meant call_here ready;
      told = refl;
      within = refl;
      written = (tt, tt);
      state = made.state;
    }

pub places_are_ready : PlacesAreReady
places_are_ready = record { reduction = reduction_place; right_side = refl; call = call_place; arguments = refl; asked = refl }
