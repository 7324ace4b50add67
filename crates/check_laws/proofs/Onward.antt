-- Where nothing is told of statements, nothing is told of what comes next, in the meaning's scope there.
use Rattle.plain_values.proofs.Plain.{option_or_parts}
use Rattle.std.proofs.Common.{None, subst, ℕ, ◌≡◌}
use Rattle.regent_tree.specs.Scopes.{Scope, past}
use Rattle.regent_tree.specs.Syntax.{Arms, Block, Expression, Form, Otherwise, TaskTree, Tree, a_statement, an_arm, if_form, then_statement}
use Rattle.regent_tree.specs.Typing.{scope_after, scope_after_arms, scope_after_block}
use Rattle.check_rules.specs.first.FirstInStatements.{first_in_arms, first_in_block, first_in_else, first_of_demand, first_of_form, first_within, told_on}
use Rattle.check_rules.specs.scopes.Sound.{IsSound}
use Rattle.check_rules.proofs.Untold.{told_none}
use Rattle.check_laws.specs.SoundScopes.{IsSoundScope}
use Rattle.check_laws.proofs.Blocks.{arms_known, block_known, form_known, nested}

module _ (tree : Tree) (task : TaskTree) (sound : IsSound tree) where
  pub block_next : (s : Scope) (line : ℕ) (form : Form) (rest : Block) → IsSoundScope s → first_in_block tree task s (then_statement (a_statement line form) rest) ≡ None →
      (first_of_form tree task s form ≡ None) × (first_within tree task s form ≡ None) × IsSoundScope (scope_after tree s form)
      × (first_in_block tree task (scope_after tree s form) rest ≡ None)
  block_next s line form rest scope e =
      let parts = option_or_parts (told_on line (first_of_form tree task s form)) _ e in
      let more = option_or_parts (first_within tree task s form) _ parts.1 in
      let after = (option_or_parts (told_on line (first_of_demand tree s form)) _ more.1).1 in
      let told = told_none line _ parts.0 in
      let here = form_known tree task sound s form scope told more.0 in
      (told, more.0, subst IsSoundScope here.0 here.1, subst (λ t. first_in_block tree task t rest ≡ None) here.0 after)

  pub arm_next : (s : Scope) (test : Expression) (body : Block) (rest : Arms) → IsSoundScope s → first_in_arms tree task s (an_arm test body rest) ≡ None →
      (first_in_block tree task s body ≡ None) × IsSoundScope (past s (scope_after_block tree s body))
      × (first_in_arms tree task (past s (scope_after_block tree s body)) rest ≡ None)
  arm_next s test body rest scope e =
      let parts = option_or_parts (first_in_block tree task s body) _ e in
      let inner = nested tree task sound s body scope (block_known tree task sound s body scope parts.0) in
      (parts.0, subst IsSoundScope inner.0 inner.1, subst (λ t. first_in_arms tree task t rest ≡ None) inner.0 parts.1)

  pub else_next : (s : Scope) (arms : Arms) (other : Otherwise) → IsSoundScope s → first_within tree task s (if_form arms other) ≡ None →
      (first_in_arms tree task s arms ≡ None) × IsSoundScope (scope_after_arms tree s arms) × (first_in_else tree task (scope_after_arms tree s arms) other ≡ None)
  else_next s arms other scope e =
      let parts = option_or_parts (first_in_arms tree task s arms) _ e in
      let a = arms_known tree task sound s arms scope parts.0 in
      (parts.0, subst IsSoundScope a.0 a.1, subst (λ t. first_in_else tree task t other ≡ None) a.0 parts.1)
