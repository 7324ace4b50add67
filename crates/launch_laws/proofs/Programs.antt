-- The launches in the code of a program without a breach are those of its loops whose shape is Launch.
use Rattle.std.proofs.Common.{◌≡◌, ◌∙◌, ℕ, List, [], ◌∷◌, ◌++◌, flat_map, map, refl, sym, ap, append-nil}
use Rattle.regent_tree.proofs.Members.{Contains-from_Has}
use Rattle.regent_tree.specs.Scopes.{scope_of}
use Rattle.regent_tree.specs.Syntax.{ItemForm, ItemTree, TaskTree, Tree, alias_item, import_item, space_item, start_item, task_item}
use Rattle.task_code.specs.declared.code.TaskCode.{TaskCode}
use Rattle.task_code.specs.declared.instr.Instr.TheVariants as instr
use Rattle.check_rules.specs.Breaches.{breaches}
use Rattle.check_rules.specs.launches.Shapes.{loop_at}
use Rattle.check_rules.specs.scopes.Visits.{Visit}
use Rattle.check_laws.specs.MeantVisits.{meant_in, meant_of_item, meant_visits}
use Rattle.check_laws.proofs.Trees.{statements_are_meant}
use Rattle.code_rules.specs.Instructions.{tasks_of}
use Rattle.code_rules.specs.Pieces.{op}
use Rattle.code_rules.specs.Programs.{place_of, task_code}
use Rattle.code_rules.specs.Statements.{block_code}
use Rattle.launch_laws.specs.Launched.{LaunchesAreThoseOfLoops, launchable, launches_in}
use Rattle.launch_laws.proofs.Pieces.{makes_both}
use Rattle.launch_laws.proofs.Statements.{Visited, block_makes, first_of, last_of, lines_append, loop_lines}

abbrev visits_of : Tree → List ItemTree → List Visit
visits_of tree items = flat_map (λ (i : ItemTree). meant_of_item tree i.form) items

abbrev launches_of : Tree → List ItemTree → List ℕ
launches_of tree items = flat_map (λ (c : TaskCode). launches_in c.body) (map (task_code tree) (tasks_of items))

-- a body, with the return behind it
task_makes : (tree : Tree) (t : TaskTree) → breaches tree ≡ [] → Visited tree (meant_in tree t (scope_of tree t) t.body) →
    launches_in (task_code tree t).body ≡ loop_lines tree (meant_in tree t (scope_of tree t) t.body)
task_makes tree t sound all =
    let w = place_of tree t in
    let ls = loop_lines tree (meant_in tree t (scope_of tree t) t.body) in
    makes_both (block_code w t.body) (op instr.Return 0) ls [] (block_makes t w t.body sound all) (λ pc. refl) 0
    ∙ append-nil ls

abbrev HasLaunches : Tree → List ItemTree → Type 0
HasLaunches tree items = Visited tree (visits_of tree items) → launches_of tree items ≡ loop_lines tree (visits_of tree items)

item_has : (tree : Tree) (line : ℕ) (form : ItemForm) (items : List ItemTree) → breaches tree ≡ [] → HasLaunches tree items →
    HasLaunches tree (record { line = line; form = form } ∷ items)
item_has tree line import_item items sound more all = more all
item_has tree line (alias_item n) items sound more all = more all
item_has tree line (space_item s) items sound more all = more all
item_has tree line (start_item n) items sound more all = more all
item_has tree line (task_item t) items sound more all =
    let first = meant_in tree t (scope_of tree t) t.body in
    let last = visits_of tree items in
    let a = task_makes tree t sound (first_of tree first last all) in
    let b = more (last_of tree first last all) in
    ap (λ ls. ls ++ launches_of tree items) a ∙ ap (λ ls. loop_lines tree first ++ ls) b ∙ sym (lines_append tree first last)

items_have : (tree : Tree) (items : List ItemTree) → breaches tree ≡ [] → HasLaunches tree items
items_have tree [] sound all = refl
items_have tree (i ∷ items) sound all = item_has tree i.line i.form items sound (items_have tree items sound) all

pub launches_are_those_of_loops : LaunchesAreThoseOfLoops
launches_are_those_of_loops tree sound =
    items_have tree tree sound (λ v h. Contains-from_Has (meant_visits tree) v h)
    ∙ ap (λ vs. launchable (flat_map (loop_at tree) vs)) (sym (statements_are_meant tree sound))
