-- The breaches of a tree: pairs of a rule and a line, found by going through the tree once for each
-- rule. A tree is accepted where there is none.
--
-- A breach stands on the line of its statement, parameter or item. What is unbound or has a breach (an
-- expression, an initializer, a declared type), and a region, partition or index space that doesn't
-- begin as it must, has an unknown type. That fits everything, so that what follows from a breach is
-- none, but for these:
--
-- Of two tasks, field spaces or fields of one name the first is meant, also where the second is used.
-- In types and clauses beside parameters that share a name the last of them is meant, and for the
-- arguments of a call the first.
-- A parameter in whose type rule 13 or 14 is breached is what is written among the other parameters,
-- and where its field space is used.
-- A call with a wrong number of arguments is looked at by those that are there.
-- Parameters' types are read with a call's arguments, also where one of these breaches rule 14.
use Rattle.std.specs.List.{list_any}
use Rattle.std.specs.Prelude.{Bool, List, None, [], cond, false, filter, flat_map, fold, map, option_to_list, true, ℕ, ◌&&◌, ◌++◌, ◌==◌, ◌||◌, ◌∷◌}
use Rattle.regent_tree.specs.Scopes.{Scope}
use Rattle.regent_tree.specs.Syntax.{Form, ItemForm, ItemTree, Tree, space_item, var_form}
use Rattle.regent_tree.specs.declared.types.Param.{Param}
use Rattle.regent_tree.specs.declared.rights.Wanted.{Wanted}
use Rattle.check_rules.specs.rules.Clauses.{misdeclares_item}
use Rattle.check_rules.specs.rules.Constraints.{breaks_constraint}
use Rattle.check_rules.specs.rules.Counts.{miscounts_call, miscounts_in_type}
use Rattle.check_rules.specs.types.Declarations.{is_no_field_type, params_of}
use Rattle.check_rules.specs.rules.Formats.{misprints_form}
use Rattle.check_rules.specs.launches.Shapes.{demands_interference, demands_no_launch}
use Rattle.check_rules.specs.rules.Names.{has_unbound_name, unbound_name_in_form, unbound_name_in_type, unbound_name_in_initializer}
use Rattle.check_rules.specs.rules.Partitions.{miscolours_in_type, miscolours_initializer, mispartitions_call, mispartitions_initializer}
use Rattle.check_rules.specs.rules.Places.{lacks_initializer, has_wrong_initializer, misplaces, misplaces_in}
use Rattle.check_rules.specs.rules.Pointers.{takes_of_wild_in, wrong_region_in_type}
use Rattle.check_rules.specs.rules.Privileges.{lacks, read_targets, reads_in, reads_in_initializer, reductions_by, wanted_by_call, writes_by}
use Rattle.check_rules.specs.rules.Repeats.{alias_given, repeats, repeats_within, space_given, task_given}
use Rattle.check_rules.specs.rules.Results.{misdeclares_result, misreturns}
use Rattle.check_rules.specs.types.TypedForms.{Calling}
use Rattle.check_rules.specs.rules.Spaces.{misfits_call, misfits_in_type}
use Rattle.check_rules.specs.rules.Entries.{wrong_entry_lines}
use Rattle.check_rules.specs.rules.Statements.{standing_in_form}
use Rattle.check_rules.specs.rules.Targets.{mistargets_form}
use Rattle.check_rules.specs.rules.Types.{is_ill_typed_at_place, mistypes}
use Rattle.check_rules.specs.scopes.Variables.{known_initializer, types_in_initializer, variable_type}
use Rattle.check_rules.specs.scopes.Visits.{Declaration, Visit, any_written, calls_at, heads_of, lines_declaring, lines_of_declarations, lines_where, typed_forms_at, typed_forms_in, initializer_at}

pub record Breach : Type 0 where
  pub rule : ℕ
  pub line : ℕ

-- ---- where each rule is looked for

-- 1: in written types, expressions, initializers, `fill`, `printf` and calls. Parameters are what
-- they are written as, whether or not their own types have a breach.
abbrev pub unbound_name_in_declaration : Tree → Declaration → Bool
unbound_name_in_declaration tree d = unbound_name_in_type tree d.written d.param.term

abbrev pub unbound_name_at : Tree → Visit → Bool
unbound_name_at tree v = let names = v.scope.names in
    any_written tree v (unbound_name_in_type tree)
    || list_any (has_unbound_name tree names) (typed_forms_at tree v)
    || list_any (unbound_name_in_initializer tree names) (initializer_at v.form)
    || unbound_name_in_form tree names v.form

abbrev pub name_lines : Tree → List ℕ
name_lines tree =
    lines_of_declarations tree (unbound_name_in_declaration tree) ++ lines_where tree (unbound_name_at tree)

-- 2: in the whole text, and in each list
abbrev pub twice_lines : Tree → List ℕ
twice_lines tree = repeats (flat_map task_given tree) ++ repeats (flat_map space_given tree)
    ++ repeats (flat_map alias_given tree)
    ++ flat_map (λ (i : ItemTree). repeats_within i.form) tree

-- 3: in fields, statements and expressions
abbrev pub has_no_type : Form → Bool
has_no_type (var_form n None None) = true
has_no_type form = false

abbrev pub mistypes_at : Tree → Visit → Bool
mistypes_at tree v = has_no_type v.form
    || list_any (is_ill_typed_at_place v.scope.known) (standing_in_form tree v.task v.scope v.form)
    || list_any (mistypes tree v.scope.known) (typed_forms_at tree v)

abbrev pub field_lines : ItemForm → List ℕ
field_lines (space_item s) = map (λ (p : Param). p.line)
    (filter (λ (p : Param). is_no_field_type p.term) s.fields)
field_lines form = []

abbrev pub type_lines : Tree → List ℕ
type_lines tree = flat_map (λ (i : ItemTree). field_lines i.form) tree
    ++ lines_where tree (mistypes_at tree)

-- 4: in written types and calls
abbrev pub miscounts_at : Tree → Visit → Bool
miscounts_at tree v = any_written tree v (λ names. miscounts_in_type tree)
    || list_any (miscounts_call tree) (calls_at tree v)

abbrev pub count_lines : Tree → List ℕ
count_lines tree =
    lines_declaring tree (λ names. miscounts_in_type tree) ++ lines_where tree (miscounts_at tree)

-- 5: in statements and expressions, and how variables begin
abbrev pub wrong_initializer_at : Tree → Scope → Form → Bool
wrong_initializer_at tree s (var_form n t initializer) =
    let wanted = variable_type tree s t initializer in
    lacks_initializer wanted initializer
    || list_any (λ i. has_wrong_initializer s.names wanted (known_initializer tree s i) i) (option_to_list initializer)
wrong_initializer_at tree s form = false

abbrev pub misplaces_at : Tree → Visit → Bool
misplaces_at tree v =
    list_any misplaces (standing_in_form tree v.task v.scope v.form)
    || list_any (misplaces_in tree) (typed_forms_at tree v) || wrong_initializer_at tree v.scope v.form

abbrev pub place_lines : Tree → List ℕ
place_lines tree = lines_where tree (misplaces_at tree)

-- 6: in assignments
abbrev pub target_lines : Tree → List ℕ
target_lines tree =
    lines_where tree (λ (v : Visit). mistargets_form tree v.task v.scope v.form)

-- 7: in `printf`
abbrev pub format_lines : Tree → List ℕ
format_lines tree = lines_where tree (λ (v : Visit). misprints_form tree v.scope v.form)

-- 8: in expressions, targets and initializers
abbrev pub reads_at : Tree → Visit → List Wanted
reads_at tree v = let s = v.scope in
    flat_map (reads_in tree)
    (typed_forms_in tree s (heads_of s.names v.form ++ read_targets v.form))
    ++ flat_map (reads_in_initializer tree s.names) (initializer_at v.form)

abbrev pub read_lines : Tree → List ℕ
read_lines tree =
    lines_where tree (λ (v : Visit). lacks tree v.task v.scope (reads_at tree v))

-- 9: in assignments and `fill`
abbrev pub write_lines : Tree → List ℕ
write_lines tree =
    lines_where tree (λ (v : Visit). lacks tree v.task v.scope (writes_by tree v.scope v.form))

-- 10: in reductions
abbrev pub reduce_lines : Tree → List ℕ
reduce_lines tree =
    lines_where tree (λ (v : Visit). lacks tree v.task v.scope (reductions_by tree v.scope v.form))

-- 11: in calls
abbrev pub privilege_lines : Tree → List ℕ
privilege_lines tree = lines_where tree
    (λ (v : Visit). lacks tree v.task v.scope (flat_map (wanted_by_call tree) (calls_at tree v)))

-- 12: in calls
abbrev pub constraint_lines : Tree → List ℕ
constraint_lines tree = lines_where tree
    (λ (v : Visit). list_any (breaks_constraint tree v.scope.known) (calls_at tree v))

-- 13: in written types, and in expressions and targets
abbrev pub wrong_pointer_at : Tree → Visit → Bool
wrong_pointer_at tree v = any_written tree v (wrong_region_in_type tree)
    || list_any takes_of_wild_in (typed_forms_at tree v)

abbrev pub pointer_lines : Tree → List ℕ
pointer_lines tree =
    lines_declaring tree (wrong_region_in_type tree) ++ lines_where tree (wrong_pointer_at tree)

-- 14: in written types and calls
abbrev pub misfits_at : Tree → Visit → Bool
misfits_at tree v = any_written tree v (misfits_in_type tree)
    || list_any (λ (c : Calling). misfits_call (params_of tree c.task) c) (calls_at tree v)

abbrev pub space_lines : Tree → List ℕ
space_lines tree =
    lines_declaring tree (misfits_in_type tree) ++ lines_where tree (misfits_at tree)

-- 15: in written types, calls and initializers
abbrev pub mispartitions_at : Tree → Visit → Bool
mispartitions_at tree v = any_written tree v miscolours_in_type
    || list_any (λ (c : Calling). mispartitions_call (params_of tree c.task) c) (calls_at tree v)
    || list_any (mispartitions_initializer tree v.scope) (initializer_at v.form)
    || list_any (λ i. miscolours_initializer i (types_in_initializer tree v.scope i)) (initializer_at v.form)

abbrev pub partition_lines : Tree → List ℕ
partition_lines tree =
    lines_declaring tree miscolours_in_type ++ lines_where tree (mispartitions_at tree)

-- 16 and 17: in tasks, and in what they return
abbrev pub lines_of_items : Tree → (ItemForm → Bool) → List ℕ
lines_of_items tree test =
    map (λ (i : ItemTree). i.line) (filter (λ (i : ItemTree). test i.form) tree)

abbrev pub declared_lines : Tree → List ℕ
declared_lines tree = lines_of_items tree (misdeclares_item tree)

abbrev pub return_lines : Tree → List ℕ
return_lines tree = lines_of_items tree misdeclares_result
    ++ lines_where tree (λ (v : Visit). misreturns v.task v.form)

-- 18: in the whole text
abbrev pub entry_lines : Tree → List ℕ
entry_lines tree = wrong_entry_lines tree

-- 19 and 20: in loops
abbrev pub launch_lines : Tree → List ℕ
launch_lines tree = lines_where tree (λ (v : Visit). demands_no_launch tree v.scope v.form)

abbrev pub interference_lines : Tree → List ℕ
interference_lines tree = lines_where tree (λ (v : Visit). demands_interference tree v.scope v.form)

-- ---- all rules

abbrev pub breaks : ℕ → ℕ → Breach
breaks rule line = record { rule = rule; line = line }

abbrev pub broken : ℕ → List ℕ → List Breach
broken rule lines = map (breaks rule) lines

-- each pair once
abbrev pub same_breach : Breach → Breach → Bool
same_breach a b = (a.rule == b.rule) && (a.line == b.line)

abbrev pub with_breach : List Breach → Breach → List Breach
with_breach bs b = cond (list_any (same_breach b) bs) bs (bs ++ b ∷ [])

abbrev pub each_once : List Breach → List Breach
each_once bs = fold with_breach [] bs

abbrev pub breaches : Tree → List Breach
breaches tree = each_once (broken 1 (name_lines tree)
    ++ broken 2 (twice_lines tree)
    ++ broken 3 (type_lines tree)
    ++ broken 4 (count_lines tree)
    ++ broken 5 (place_lines tree)
    ++ broken 6 (target_lines tree)
    ++ broken 7 (format_lines tree)
    ++ broken 8 (read_lines tree)
    ++ broken 9 (write_lines tree)
    ++ broken 10 (reduce_lines tree)
    ++ broken 11 (privilege_lines tree)
    ++ broken 12 (constraint_lines tree)
    ++ broken 13 (pointer_lines tree)
    ++ broken 14 (space_lines tree)
    ++ broken 15 (partition_lines tree)
    ++ broken 16 (declared_lines tree)
    ++ broken 17 (return_lines tree)
    ++ broken 18 (entry_lines tree)
    ++ broken 19 (launch_lines tree)
    ++ broken 20 (interference_lines tree))
