-- The first breach of a tree, in the order in which the checker goes: names that are given twice, the
-- start, the declarations of all items, and then the bodies of the tasks.
use Rattle.std.specs.Prelude.{List, None, Option, Some, [], flat_map, ℕ, ◌∷◌}
use Rattle.regent_tree.specs.Syntax.{ItemForm, ItemTree, Tree, space_item, task_item}
use Rattle.regent_tree.specs.declared.types.Param.{Param}
use Rattle.check_rules.specs.Breaches.{Breach, breaks}
use Rattle.check_rules.specs.rules.Clauses.{misdeclares_item}
use Rattle.check_rules.specs.rules.Counts.{miscounts_in_type}
use Rattle.check_rules.specs.scopes.Bodies.{body_scope}
use Rattle.check_rules.specs.types.Declarations.{is_no_field_type}
use Rattle.check_rules.specs.first.FirstInStatements.{first_in_block, told_on}
use Rattle.check_rules.specs.rules.Names.{unbound_name_in_type}
use Rattle.check_rules.specs.rules.Partitions.{miscolours_in_type}
use Rattle.check_rules.specs.rules.Pointers.{wrong_region_in_type}
use Rattle.check_rules.specs.rules.Repeats.{alias_given, repeats, repeats_within, space_given, task_given}
use Rattle.check_rules.specs.rules.Results.{misdeclares_result}
use Rattle.check_rules.specs.first.Rules.{first_in, first_of, number_of, rule_if}
use Rattle.check_rules.specs.rules.Spaces.{misfits_in_type}
use Rattle.check_rules.specs.rules.Entries.{wrong_entry_lines}
use Rattle.check_rules.specs.scopes.Visits.{Declaration, declarations_of_item}
use Rattle.check_rules.specs.declared.rule.Rule.{Rule}
use Rattle.check_rules.specs.declared.rule.Rule.TheVariants as rule

-- the first line at which a rule is breached
abbrev pub first_line : Rule → List ℕ → Option Breach
first_line r [] = None
first_line r (line ∷ lines) = Some (breaks (number_of r) line)

-- names that are given twice in the whole text
abbrev pub first_repeated : Tree → Option Breach
first_repeated tree =
    first_of (first_line rule.Twice (repeats (flat_map task_given tree))
    ∷ first_line rule.Twice (repeats (flat_map space_given tree))
    ∷ first_line rule.Twice (repeats (flat_map alias_given tree))
    ∷ [])

-- What a parameter or a field is declared as: first that its type says one, and then, where all of
-- the list do, what it says.
abbrev pub first_of_saying : Tree → Declaration → Option Breach
first_of_saying tree d = told_on d.param.line
    (first_of (rule_if (unbound_name_in_type tree d.written d.param.term) rule.Name
    ∷ rule_if (miscounts_in_type tree d.param.term) rule.Count
    ∷ []))

abbrev pub first_of_said : Tree → Declaration → Option Breach
first_of_said tree d = told_on d.param.line
    (first_of (rule_if (wrong_region_in_type tree d.names d.param.term) rule.Pointer
    ∷ rule_if (misfits_in_type tree d.names d.param.term) rule.Spaces
    ∷ rule_if (miscolours_in_type d.names d.param.term) rule.Partition
    ∷ []))

abbrev pub first_of_field : Param → Option Breach
first_of_field p = told_on p.line (rule_if (is_no_field_type p.term) rule.Type)

abbrev pub first_in_fields : ItemForm → Option Breach
first_in_fields (space_item s) = first_in first_of_field s.fields
first_in_fields form = None

-- what an item declares
abbrev pub first_declared : Tree → ItemTree → Option Breach
first_declared tree i = let ds = declarations_of_item tree i.form in
    first_of (first_line rule.Twice (repeats_within i.form)
    ∷ first_in (first_of_saying tree) ds
    ∷ first_in (first_of_said tree) ds
    ∷ first_in_fields i.form
    ∷ told_on i.line (rule_if (misdeclares_result i.form) rule.Return)
    ∷ told_on i.line (rule_if (misdeclares_item tree i.form) rule.Declared)
    ∷ [])

-- in a task's body
abbrev pub first_in_body : Tree → ItemForm → Option Breach
first_in_body tree (task_item t) = first_in_block tree t (body_scope tree t) t.body
first_in_body tree form = None

abbrev pub first_breach : Tree → Option Breach
first_breach tree = first_of (first_repeated tree
    ∷ first_line rule.Start (wrong_entry_lines tree)
    ∷ first_in (first_declared tree) tree
    ∷ first_in (λ (i : ItemTree). first_in_body tree i.form) tree
    ∷ [])
