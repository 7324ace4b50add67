-- Statements of which nothing is told stand in the scopes that the meaning has there.
use Rattle.std.proofs.Common.{None, ◌++◌, ◌∷◌, ◌≡◌, ap, refl, ◌∙◌}
use Rattle.regent_tree.specs.Scopes.{Scope, past}
use Rattle.regent_tree.specs.Syntax.{Arms, Block, Form, Otherwise, TaskTree, Tree, a_statement, an_arm, assert_form, assign_form, call_form, do_form, else_block, fill_form, for_in_form, for_to_form, if_form, no_arm, no_else, no_statement, print_form, return_form, then_statement, var_form, while_form}
use Rattle.check_rules.specs.first.FirstInStatements.{first_in_arms, first_in_block, first_in_else, first_of_demand, first_of_form, first_within, told_on}
use Rattle.check_rules.specs.scopes.Sound.{IsSound}
use Rattle.check_rules.specs.scopes.Variables.{known_scope_after, known_scope_after_arms, known_scope_after_block, scope_in_count, scope_in_loop}
use Rattle.check_rules.specs.scopes.Visits.{Visit, visits_in, visits_in_arms, visits_in_else, visits_within}
use Rattle.check_laws.specs.MeantVisits.{meant_in, meant_in_arms, meant_in_else, meant_within}
use Rattle.check_laws.specs.SoundScopes.{IsSoundScope}
use Rattle.check_laws.proofs.Blocks.{arms_known, block_known, count_scope, form_known, loop_scope, nested}
use Rattle.plain_values.proofs.Plain.{option_or_parts}
use Rattle.check_rules.proofs.Untold.{told_none}

module _ (tree : Tree) (task : TaskTree) (sound : IsSound tree) where
  mutual
    pub block_meant : (s : Scope) (b : Block) → IsSoundScope s → first_in_block tree task s b ≡ None →
        visits_in tree task s b ≡ meant_in tree task s b
    block_meant s no_statement scope e = refl
    block_meant s (then_statement (a_statement line form) rest) scope e =
        let parts = option_or_parts (told_on line (first_of_form tree task s form)) _ e in
        let more = option_or_parts (first_within tree task s form) _ parts.1 in
        let behind = option_or_parts (told_on line (first_of_demand tree s form)) _ more.1 in
        let here = told_none line _ parts.0 in
        let after = form_known tree task sound s form scope here more.0 in
        let inside = within_meant s form scope here more.0 in
        let others = block_meant (known_scope_after tree s form) rest after.1 behind.1
        ∙ ap (λ x. meant_in tree task x rest) after.0 in
        let visit : Visit = record { task = task; scope = s; line = line; form = form } in
        λ j. (visit ∷ inside j) ++ others j

    within_meant : (s : Scope) (form : Form) → IsSoundScope s → first_of_form tree task s form ≡ None →
        first_within tree task s form ≡ None → visits_within tree task s form ≡ meant_within tree task s form
    within_meant s (if_form arms other) scope e w =
        let parts = option_or_parts (first_in_arms tree task s arms) _ w in
        let after = arms_known tree task sound s arms scope parts.0 in
        let first = arms_meant s arms scope parts.0 in
        let last = else_meant (known_scope_after_arms tree s arms) other after.1 parts.1
        ∙ ap (λ x. meant_in_else tree task x other) after.0 in
        λ j. first j ++ last j
    within_meant s (while_form test body) scope e w = block_meant s body scope w
    within_meant s (for_in_form demanded n domain body) scope e w =
        let here = loop_scope tree task sound s demanded n domain body scope e in
        block_meant (scope_in_loop tree s n domain) body here.1 w ∙ ap (λ x. meant_in tree task x body) here.0
    within_meant s (for_to_form demanded n from to body) scope e w =
        let here = count_scope tree task sound s demanded n from to body scope e in
        block_meant (scope_in_count tree s n from to) body here.1 w ∙ ap (λ x. meant_in tree task x body) here.0
    within_meant s (do_form body) scope e w = block_meant s body scope w
    within_meant s (var_form n t start) scope e w = refl
    within_meant s (fill_form r fields x) scope e w = refl
    within_meant s (assert_form x) scope e w = refl
    within_meant s (print_form alias format args) scope e w = refl
    within_meant s (call_form t args) scope e w = refl
    within_meant s (assign_form n steps how x) scope e w = refl
    within_meant s (return_form x) scope e w = refl

    arms_meant : (s : Scope) (arms : Arms) → IsSoundScope s → first_in_arms tree task s arms ≡ None →
        visits_in_arms tree task s arms ≡ meant_in_arms tree task s arms
    arms_meant s no_arm scope e = refl
    arms_meant s (an_arm test body rest) scope e =
        let parts = option_or_parts (first_in_block tree task s body) _ e in
        let inner = nested tree task sound s body scope (block_known tree task sound s body scope parts.0) in
        let first = block_meant s body scope parts.0 in
        let last = arms_meant (past s (known_scope_after_block tree s body)) rest inner.1 parts.1
        ∙ ap (λ x. meant_in_arms tree task x rest) inner.0 in
        λ j. first j ++ last j

    else_meant : (s : Scope) (other : Otherwise) → IsSoundScope s → first_in_else tree task s other ≡ None →
        visits_in_else tree task s other ≡ meant_in_else tree task s other
    else_meant s no_else scope e = refl
    else_meant s (else_block body) scope e = block_meant s body scope e
