-- In a program without a breach the entry task is there, and takes integers.
use Rattle.plain_values.proofs.Plain.{option_or_parts}
use Rattle.std.proofs.Common.{Bool, List, None, [], ap, cond, false, filter, flat_map, map, not, refl, true, ℕ, ◌&&◌, ◌++◌, ◌∙◌, ◌∷◌, ◌≡◌}
use Rattle.std.specs.List.{list_all}
use Rattle.regent_tree.specs.Lookup.{has_task}
use Rattle.regent_tree.specs.StaticTypes.{entry_name, task_named}
use Rattle.regent_tree.specs.Syntax.{ItemForm, Tree, alias_item, import_item, space_item, start_item, task_item}
use Rattle.regent_tree.specs.declared.types.Param.{Param}
use Rattle.check_rules.proofs.FirstInItems.{none_without_first}
use Rattle.check_rules.specs.Breaches.{breaches}
use Rattle.check_rules.specs.declared.rule.Rule.{Rule}
use Rattle.check_rules.specs.declared.rule.Rule.TheVariants as rule
use Rattle.check_rules.specs.first.FirstInItems.{first_line, first_repeated}
use Rattle.check_rules.specs.rules.Entries.{entry_given, is_integer_term, later_lines, lines_of_inputs, missing_lines, wrong_entry_lines}
use Rattle.check_rules.specs.rules.Repeats.{Given}

pub none_left : {A : Type 0} (xs ys : List A) → xs ++ ys ≡ [] → (xs ≡ []) × (ys ≡ [])
none_left [] ys e = (refl, e)
none_left (x ∷ xs) ys e = absurd cc

abbrev head_or : {A : Type 0} → A → List A → A
head_or d [] = d
head_or d (x ∷ xs) = x

-- the first start says the name
entry_first : (items : Tree) (g : Given) (gs : List Given) → flat_map entry_given items ≡ g ∷ gs → entry_name items ≡ g.name
entry_first [] g gs e = absurd cc
entry_first (i ∷ items) g gs e = by_item i.line i.form e (entry_first items g gs)
  where
    by_item : (line : ℕ) (form : ItemForm) → entry_given (record { line = line; form = form }) ++ flat_map entry_given items ≡ g ∷ gs →
        (flat_map entry_given items ≡ g ∷ gs → entry_name items ≡ g.name) →
        entry_name (record { line = line; form = form } ∷ items) ≡ g.name
    by_item line import_item e more = more e
    by_item line (alias_item m) e more = more e
    by_item line (space_item s) e more = more e
    by_item line (task_item t) e more = more e
    by_item line (start_item m) e more = ap (λ (l : List Given). (head_or g l).name) e

first_there : (tree : Tree) (g : Given) (gs : List Given) → map (λ (g : Given). g.line) (filter (λ (g : Given). not (has_task tree g.name)) (g ∷ gs)) ≡ [] →
    has_task tree g.name ≡ true
first_there tree g gs e = chosen (has_task tree g.name) e
  where
    chosen : (b : Bool) → map (λ (g : Given). g.line) (cond (not b) (g ∷ filter (λ (g : Given). not (has_task tree g.name)) gs) (filter (λ (g : Given). not (has_task tree g.name)) gs)) ≡ [] →
        b ≡ true
    chosen true e = refl
    chosen false e = absurd cc

entry_there : (tree : Tree) (gs : List Given) → flat_map entry_given tree ≡ gs → missing_lines tree gs ≡ [] → has_task tree (entry_name tree) ≡ true
entry_there tree [] e m = chosen (has_task tree (entry_name tree)) m
  where
    chosen : (b : Bool) → cond {A = List ℕ} b [] (1 ∷ []) ≡ [] → b ≡ true
    chosen true m = refl
    chosen false m = absurd cc
entry_there tree (g ∷ gs) e m = ap (has_task tree) (entry_first tree g gs e) ∙ first_there tree g gs m

-- parameters of the entry task are integers
integers_said : (ps : List Param) → map (λ (p : Param). p.line) (filter (λ (p : Param). not (is_integer_term p.term)) ps) ≡ [] →
    list_all (λ (p : Param). is_integer_term p.term) ps ≡ true
integers_said [] e = refl
integers_said (p ∷ ps) e = chosen (is_integer_term p.term) e (integers_said ps)
  where
    chosen : (b : Bool) → map (λ (p : Param). p.line) (cond (not b) (p ∷ filter (λ (p : Param). not (is_integer_term p.term)) ps) (filter (λ (p : Param). not (is_integer_term p.term)) ps)) ≡ [] →
        (map (λ (p : Param). p.line) (filter (λ (p : Param). not (is_integer_term p.term)) ps) ≡ [] → list_all (λ (p : Param). is_integer_term p.term) ps ≡ true) →
        (b && list_all (λ (p : Param). is_integer_term p.term) ps) ≡ true
    chosen true e more = more e
    chosen false e more = absurd cc

pub record BeginsWell (tree : Tree) : Type 0 where
  pub there : has_task tree (entry_name tree) ≡ true
  pub integers : list_all (λ (p : Param). is_integer_term p.term) (task_named tree (entry_name tree)).params ≡ true

pub no_line : (r : Rule) (lines : List ℕ) → first_line r lines ≡ None → lines ≡ []
no_line r [] e = refl
no_line r (l ∷ ls) e = absurd cc

pub begins : (tree : Tree) → breaches tree ≡ [] → BeginsWell tree
begins tree none =
    let a = option_or_parts (first_repeated tree) _ ((none_without_first tree).1 none) in
    let b = option_or_parts (first_line rule.Start (wrong_entry_lines tree)) _ a.1 in
    let lines = none_left (later_lines (flat_map entry_given tree) ++ missing_lines tree (flat_map entry_given tree)) (lines_of_inputs tree) (no_line rule.Start (wrong_entry_lines tree) b.0) in
    let more = none_left (later_lines (flat_map entry_given tree)) (missing_lines tree (flat_map entry_given tree)) lines.0 in record {
      there = entry_there tree (flat_map entry_given tree) refl more.1;
      integers = integers_said (task_named tree (entry_name tree)).params lines.1;
    }
