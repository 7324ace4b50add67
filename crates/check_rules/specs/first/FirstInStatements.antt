-- The first rule that a statement breaches, in the order in which the checker goes: what stands in
-- the statement itself, then its blocks, and then the demand on it.
use Rattle.std.specs.Option.{option_map, option_or}
use Rattle.std.specs.Prelude.{None, Option, [], ℕ, ◌∷◌}
use Rattle.regent_tree.specs.Scopes.{Scope, past}
use Rattle.regent_tree.specs.Syntax.{Arms, Block, Form, Otherwise, Initializer, TaskTree, Tree, a_statement, an_arm, assign_form, do_form, else_block, for_in_form, for_to_form, if_form, no_arm, no_else, no_statement, then_statement, while_form}
use Rattle.check_rules.specs.Breaches.{Breach, breaks, has_no_type, wrong_initializer_at}
use Rattle.check_rules.specs.first.FirstInExpressions.{first_in_expression, first_in_target, first_in_type, first_of_call, first_of_standing}
use Rattle.check_rules.specs.rules.Formats.{misprints_form}
use Rattle.check_rules.specs.launches.Shapes.{demands_interference, demands_no_launch}
use Rattle.check_rules.specs.rules.Names.{unbound_name_in_form, unbound_name_in_initializer}
use Rattle.check_rules.specs.rules.Partitions.{miscolours_initializer, mispartitions_initializer}
use Rattle.check_rules.specs.rules.Privileges.{lacks, reads_in_initializer, reductions_by, writes_by}
use Rattle.check_rules.specs.rules.Results.{misreturns}
use Rattle.check_rules.specs.first.Rules.{first_in, first_of, number_of, rule_if}
use Rattle.check_rules.specs.rules.Statements.{standing_in_form}
use Rattle.check_rules.specs.rules.Targets.{mistargets_form}
use Rattle.check_rules.specs.scopes.Variables.{known_scope_after, known_scope_after_arms, known_scope_after_block, scope_in_count, scope_in_loop, types_in_initializer, written_in_initializer}
use Rattle.check_rules.specs.scopes.Visits.{call_of_form, declared_at, heads_of, initializer_at}
use Rattle.check_rules.specs.declared.rule.Rule.{Rule}
use Rattle.check_rules.specs.declared.rule.Rule.TheVariants as rule

-- an initializer, but for the expressions in it
abbrev pub first_of_initializer : Tree → TaskTree → Scope → Initializer → Option Rule
first_of_initializer tree task s i = first_of (first_in (first_in_type tree s.names) (written_in_initializer i)
    ∷ rule_if (unbound_name_in_initializer tree s.names i) rule.Name
    ∷ rule_if (mispartitions_initializer tree s i) rule.Partition
    ∷ rule_if (miscolours_initializer i (types_in_initializer tree s i)) rule.Partition
    ∷ rule_if (lacks tree task s (reads_in_initializer tree s.names i)) rule.Read
    ∷ [])

abbrev pub first_in_targets : Tree → TaskTree → Scope → Form → Option Rule
first_in_targets tree task s (assign_form n steps how e) = first_in_target tree task s n steps
first_in_targets tree task s form = None

-- what stands in a statement itself
abbrev pub first_of_form : Tree → TaskTree → Scope → Form → Option Rule
first_of_form tree task s form =
    first_of (first_in (first_in_type tree s.names) (declared_at form)
    ∷ rule_if (has_no_type form) rule.Type
    ∷ first_in (first_in_expression tree task s) (heads_of s.names form)
    ∷ first_in_targets tree task s form
    ∷ rule_if (unbound_name_in_form tree s.names form) rule.Name
    ∷ first_in (first_of_initializer tree task s) (initializer_at form)
    ∷ first_in (first_of_call tree task s) (call_of_form tree s form)
    ∷ first_in (first_of_standing s.known) (standing_in_form tree task s form)
    ∷ rule_if (wrong_initializer_at tree s form) rule.Place
    ∷ rule_if (mistargets_form tree task s form) rule.Target
    ∷ rule_if (misprints_form tree s form) rule.Format
    ∷ rule_if (lacks tree task s (writes_by tree s form)) rule.Write
    ∷ rule_if (lacks tree task s (reductions_by tree s form)) rule.Reduce
    ∷ rule_if (misreturns task form) rule.Return
    ∷ [])

-- the demand on a loop
abbrev pub first_of_demand : Tree → Scope → Form → Option Rule
first_of_demand tree s form = first_of (rule_if (demands_no_launch tree s form) rule.NotLaunch
    ∷ rule_if (demands_interference tree s form) rule.Interferes
    ∷ [])

-- a rule that is breached on a line
abbrev pub told_on : ℕ → Option Rule → Option Breach
told_on line r = option_map (λ q. breaks (number_of q) line) r

-- the first breach in statements, by their lines
abbrev mutual
  pub first_in_block : Tree → TaskTree → Scope → Block → Option Breach
  first_in_block tree task s no_statement = None
  first_in_block tree task s (then_statement (a_statement line form) rest) =
      option_or (told_on line (first_of_form tree task s form))
      (option_or (first_within tree task s form)
      (option_or (told_on line (first_of_demand tree s form))
      (first_in_block tree task (known_scope_after tree s form) rest)))

  -- in the blocks of a statement
  pub first_within : Tree → TaskTree → Scope → Form → Option Breach
  first_within tree task s (if_form arms other) = option_or (first_in_arms tree task s arms)
      (first_in_else tree task (known_scope_after_arms tree s arms) other)
  first_within tree task s (while_form test body) = first_in_block tree task s body
  first_within tree task s (for_in_form demanded n domain body) =
      first_in_block tree task (scope_in_loop tree s n domain) body
  first_within tree task s (for_to_form demanded n from to body) =
      first_in_block tree task (scope_in_count tree s n from to) body
  first_within tree task s (do_form body) = first_in_block tree task s body
  first_within tree task s form = None

  pub first_in_arms : Tree → TaskTree → Scope → Arms → Option Breach
  first_in_arms tree task s no_arm = None
  first_in_arms tree task s (an_arm test body rest) =
      option_or (first_in_block tree task s body)
      (first_in_arms tree task (past s (known_scope_after_block tree s body)) rest)

  pub first_in_else : Tree → TaskTree → Scope → Otherwise → Option Breach
  first_in_else tree task s no_else = None
  first_in_else tree task s (else_block body) = first_in_block tree task s body
