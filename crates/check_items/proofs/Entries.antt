-- The task that a program starts with, by the items that say it.
use Rattle.std.proofs.Common.{None, Option, Some, false, true, List, [], ◌++◌, ◌∷◌, ◌≡◌, ℕ, ap, flat_map, map, refl, suc, ◌∙◌}
use Rattle.std.specs.Option.{option_map}
use Rattle.std.specs.Prelude.{option_to_list}
use Rattle.regent_tree.specs.Lookup.{has_task}
use Rattle.regent_tree.specs.StaticTypes.{Looking, among_params, entry_name, type_said}
use Rattle.regent_tree.specs.Syntax.{ItemForm, TaskTree, Tree, alias_item, import_item, space_item, start_item, task_item}
use Rattle.regent_tree.specs.Typing.{param_types, width_of_type}
use Rattle.regent_tree.specs.declared.types.NumberTerm.TheVariants as number
use Rattle.regent_tree.specs.declared.types.Param.{Param}
use Rattle.regent_tree.specs.declared.types.TypeTerm.{TypeTerm}
use Rattle.regent_tree.specs.declared.types.TypeTerm.TheVariants as typed
use Rattle.check_rules.specs.Breaches.{breaks}
use Rattle.check_rules.specs.first.FirstInItems.{first_line}
use Rattle.check_rules.specs.first.Rules.{number_of}
use Rattle.check_rules.specs.rules.Entries.{missing_lines, entry_given}
use Rattle.check_rules.specs.declared.rule.Rule.TheVariants as rule
use Rattle.static_types.proofs.SaidInOrder.{types_as_said}
use Rattle.static_types.specs.Params.{said_from}
use Rattle.check_items.specs.Entries.{given_by_begin, entry_line, entry_named, width_of_term}
use Rattle.check_items.specs.declared.entry.Begin.{Begin}

initialized : (line : ℕ) (form : ItemForm) (items : Tree) → entry_named (flat_map entry_given items) ≡ entry_name items →
    entry_named (entry_given (record { line = line; form = form }) ++ flat_map entry_given items)
    ≡ entry_name (record { line = line; form = form } ∷ items)
initialized line import_item items h = h
initialized line (alias_item n) items h = h
initialized line (space_item s) items h = h
initialized line (task_item t) items h = h
initialized line (start_item n) items h = refl

pub entry_named_is : (tree : Tree) → entry_named (flat_map entry_given tree) ≡ entry_name tree
entry_named_is [] = refl
entry_named_is (i ∷ items) = initialized i.line i.form items (entry_named_is items)

-- the widths of the types that terms say
width_said : (tree : Tree) (look : Looking) (i : ℕ) (t : TypeTerm) →
    width_of_type (type_said tree look i t) ≡ width_of_term t
width_said tree look i (typed.Number number.Int32) = refl
width_said tree look i (typed.Number number.Int64) = refl
width_said tree look i (typed.Number (number.Index k)) = refl
width_said tree look i typed.Truth = refl
width_said tree look i (typed.Pointer t) = refl
width_said tree look i (typed.Ispace k) = refl
width_said tree look i (typed.Region k s) = refl
width_said tree look i (typed.Partition d r c) = refl

widths_from : (tree : Tree) (all : List Param) (i : ℕ) (ps : List Param) →
    map width_of_type (said_from tree all i ps) ≡ map (λ (p : Param). width_of_term p.term) ps
widths_from tree all i [] = refl
widths_from tree all i (p ∷ ps) =
    (λ j. width_said tree (among_params all) i p.term j ∷ widths_from tree all (suc i) ps j)

pub widths_written : (tree : Tree) (t : TaskTree) →
    map width_of_type (param_types tree t) ≡ map (λ (p : Param). width_of_term p.term) t.params
widths_written tree t = ap (map width_of_type) (types_as_said tree t.params 0 t.params)
    ∙ widths_from tree t.params 0 t.params

-- whether the entry task is there
pub none_missing : (tree : Tree) (o : Option Begin) →
    entry_named (option_to_list (option_map given_by_begin o)) ≡ entry_name tree → has_task tree (entry_name tree) ≡ true →
    first_line rule.Start (missing_lines tree (option_to_list (option_map given_by_begin o))) ≡ None
none_missing tree None e h = rw h refl
none_missing tree (Some b) e h = rw (e, h) refl

pub one_missing : (tree : Tree) (o : Option Begin) →
    entry_named (option_to_list (option_map given_by_begin o)) ≡ entry_name tree → has_task tree (entry_name tree) ≡ false →
    first_line rule.Start (missing_lines tree (option_to_list (option_map given_by_begin o)))
    ≡ Some (breaks (number_of rule.Start) (entry_line (option_to_list (option_map given_by_begin o))))
one_missing tree None e h = rw h refl
one_missing tree (Some b) e h = rw (e, h) refl
