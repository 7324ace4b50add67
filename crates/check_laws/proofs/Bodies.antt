-- From a tree without a breach to the body of a task of which nothing is told.
use Rattle.std.proofs.Common.{None, [], subst, ◌≡◌, map}
use Rattle.regent_tree.specs.Scopes.{scope_of}
use Rattle.regent_tree.specs.Syntax.{ItemTree, TaskTree, Tree, task_item}
use Rattle.regent_tree.proofs.Members.{Has, Has-from_Contains, Has-map_cases}
use Rattle.check_rules.specs.Breaches.{breaches}
use Rattle.check_rules.specs.first.FirstInStatements.{first_in_block}
use Rattle.check_rules.specs.scopes.Sound.{IsSound, IsSoundTask, StandsIn}
use Rattle.check_rules.proofs.Written.{all_is_sound, standing_sound}
use Rattle.check_laws.specs.SoundScopes.{IsSoundScope}
use Rattle.check_laws.proofs.Trees.{body_known, declared_none}

-- nothing is told of a body, in the scope of the meaning
pub record IsToldNone (tree : Tree) (task : TaskTree) : Type 0 where
  pub sound : IsSound tree
  pub sound_task : IsSoundTask tree task
  pub scope : IsSoundScope (scope_of tree task)
  pub told : first_in_block tree task (scope_of tree task) task.body ≡ None

pub body_told : (tree : Tree) (task : TaskTree) → breaches tree ≡ [] → StandsIn tree task → IsToldNone tree task
body_told tree task none stands =
    let declared = declared_none tree none in
    let found = Has-map_cases (λ (i : ItemTree). i.form) tree (task_item task) (Has-from_Contains (map (λ (i : ItemTree). i.form) tree) (task_item task) stands) in
    let item = found.0 in
    let here = body_known tree none item.line task (subst (λ form. Has tree (record { line = item.line; form = form })) found.2 found.1) in record {
      sound = all_is_sound tree declared;
      sound_task = standing_sound tree declared task stands;
      scope = subst IsSoundScope here.0 here.1;
      told = subst (λ s. first_in_block tree task s task.body ≡ None) here.0 here.2;
    }
