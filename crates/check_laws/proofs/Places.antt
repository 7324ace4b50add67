-- From a tree without a breach to each place: by the recursion of the meaning over its statements.
use Rattle.std.proofs.Common.{[], ◌∷◌, None, true, subst, ◌≡◌, inl, inr, map}
use Rattle.regent_tree.proofs.Members.{Contains-from_Has, Has, Has-append_cases, Has-from_Contains, Has-map}
use Rattle.regent_tree.specs.Scopes.{Scope, past, scope_of, with_name}
use Rattle.regent_tree.specs.Syntax.{Arms, Block, Form, ItemForm, ItemTree, Otherwise, TaskTree, Tree, a_statement, alias_item, an_arm, assert_form, assign_form, call_form, do_form, else_block, fill_form, for_in_form, for_to_form, if_form, import_item, no_arm, no_else, no_statement, print_form, return_form, space_item, start_item, task_item, then_statement, var_form, while_form}
use Rattle.regent_tree.specs.Typing.{arithmetic_type, scope_after, scope_after_arms, scope_after_block, taken_from, type_of}
use Rattle.check_rules.specs.Breaches.{breaches}
use Rattle.check_rules.specs.first.FirstInExpressions.{first_in_expression}
use Rattle.check_rules.specs.first.FirstInStatements.{first_in_arms, first_in_block, first_in_else, first_of_form, first_within}
use Rattle.check_rules.specs.scopes.Sound.{IsSound}
use Rattle.check_rules.specs.scopes.Visits.{Visit, heads_of}
use Rattle.check_laws.specs.Laws.{IsWithoutBreach, PlacesAreWithoutBreach}
use Rattle.check_laws.specs.MeantVisits.{meant_in, meant_in_arms, meant_in_else, meant_of_item, meant_within}
use Rattle.check_laws.specs.SoundScopes.{IsSoundScope}
use Rattle.check_laws.proofs.Blocks.{count_scope, loop_scope}
use Rattle.check_laws.proofs.Bodies.{body_told}
use Rattle.check_laws.proofs.Onward.{arm_next, block_next, else_next}
use Rattle.check_laws.proofs.Trees.{has_flat, none_of}
use Rattle.check_laws.proofs.Variables.{parts_of_form}

module _ (tree : Tree) (task : TaskTree) (sound : IsSound tree) where
  mutual
    block_places : (b : Block) (s : Scope) → IsSoundScope s → first_in_block tree task s b ≡ None → (v : Visit) → Has (meant_in tree task s b) v → IsWithoutBreach tree v
    block_places no_statement s scope e v h = absurd h
    block_places (then_statement (a_statement line form) rest) s scope e v h =
        let next = block_next tree task sound s line form rest scope e in
        let here : Visit = record { task = task; scope = s; line = line; form = form } in
        elim (Has-append_cases (here ∷ meant_within tree task s form) (meant_in tree task (scope_after tree s form) rest) v h) [
          | inl (inl same) ↦ subst (IsWithoutBreach tree) same (record {
            scope = scope;
            form = next.0;
            within = next.1;
            heads = λ y c. none_of (first_in_expression tree task s) (heads_of s.names form) y (parts_of_form tree task s sound scope form next.0).2 (Has-from_Contains (heads_of s.names form) y c);
          })
          | inl (inr g) ↦ form_places form s scope next.0 next.1 v g
          | inr g ↦ block_places rest (scope_after tree s form) next.2 next.3 v g
        ]

    form_places : (form : Form) (s : Scope) → IsSoundScope s → first_of_form tree task s form ≡ None → first_within tree task s form ≡ None → (v : Visit) → Has (meant_within tree task s form) v →
        IsWithoutBreach tree v
    form_places (if_form arms other) s scope e w v h =
        let next = else_next tree task sound s arms other scope w in
        elim (Has-append_cases (meant_in_arms tree task s arms) (meant_in_else tree task (scope_after_arms tree s arms) other) v h) [
          | inl g ↦ arms_places arms s scope next.0 v g
          | inr g ↦ else_places other (scope_after_arms tree s arms) next.1 next.2 v g
        ]
    form_places (while_form test body) s scope e w v h = block_places body s scope w v h
    form_places (for_in_form demanded n domain body) s scope e w v h =
        let next = loop_scope tree task sound s demanded n domain body scope e in
        block_places body (with_name s n (taken_from (type_of tree s domain)) true) (subst IsSoundScope next.0 next.1) (subst (λ t. first_in_block tree task t body ≡ None) next.0 w) v h
    form_places (for_to_form demanded n from to body) s scope e w v h =
        let next = count_scope tree task sound s demanded n from to body scope e in
        block_places body (with_name s n (arithmetic_type (type_of tree s from) (type_of tree s to)) true) (subst IsSoundScope next.0 next.1) (subst (λ t. first_in_block tree task t body ≡ None) next.0 w) v h
    form_places (do_form body) s scope e w v h = block_places body s scope w v h
    form_places (var_form n t i) s scope e w v h = absurd h
    form_places (fill_form r fields x) s scope e w v h = absurd h
    form_places (assert_form x) s scope e w v h = absurd h
    form_places (print_form alias format es) s scope e w v h = absurd h
    form_places (call_form f es) s scope e w v h = absurd h
    form_places (assign_form n steps how x) s scope e w v h = absurd h
    form_places (return_form x) s scope e w v h = absurd h

    arms_places : (arms : Arms) (s : Scope) → IsSoundScope s → first_in_arms tree task s arms ≡ None → (v : Visit) → Has (meant_in_arms tree task s arms) v → IsWithoutBreach tree v
    arms_places no_arm s scope e v h = absurd h
    arms_places (an_arm test body rest) s scope e v h =
        let next = arm_next tree task sound s test body rest scope e in
        elim (Has-append_cases (meant_in tree task s body) (meant_in_arms tree task (past s (scope_after_block tree s body)) rest) v h) [
          | inl g ↦ block_places body s scope next.0 v g
          | inr g ↦ arms_places rest (past s (scope_after_block tree s body)) next.1 next.2 v g
        ]

    else_places : (other : Otherwise) (s : Scope) → IsSoundScope s → first_in_else tree task s other ≡ None → (v : Visit) → Has (meant_in_else tree task s other) v → IsWithoutBreach tree v
    else_places no_else s scope e v h = absurd h
    else_places (else_block body) s scope e v h = block_places body s scope e v h

item_places : (tree : Tree) → breaches tree ≡ [] → (form : ItemForm) → Has (map (λ (i : ItemTree). i.form) tree) form → (v : Visit) → Has (meant_of_item tree form) v → IsWithoutBreach tree v
item_places tree none (task_item t) h v g =
    let told = body_told tree t none (Contains-from_Has (map (λ (i : ItemTree). i.form) tree) (task_item t) h) in
    block_places tree t told.sound t.body (scope_of tree t) told.scope told.told v g
item_places tree none import_item h v g = absurd g
item_places tree none (alias_item n) h v g = absurd g
item_places tree none (space_item s) h v g = absurd g
item_places tree none (start_item n) h v g = absurd g

pub places_are_without_breach : PlacesAreWithoutBreach
places_are_without_breach tree v none stands =
    let found = has_flat (λ (i : ItemTree). meant_of_item tree i.form) tree v (Has-from_Contains _ v stands) in
    item_places tree none found.0.form (Has-map (λ (i : ItemTree). i.form) tree found.0 found.1) v found.2
