-- Counting the tasks and the field spaces of a program, item by item.
use Rattle.std.proofs.Common.{◌≡◌, ℕ, ◌+◌, ◌<◌, Bool, true, false, cond, List, length, drop, get_or, map, refl, arith}
use Rattle.std.proofs.lemmas.List.{drop_more}
use Rattle.regent_tree.specs.declared.program.Item.{Item}
use Rattle.regent_tree.specs.PlainProgram.{item_of, item_tree_of}
use Rattle.regent_tree.specs.Syntax.{ItemForm, import_item, alias_item, space_item, task_item, start_item}
use Rattle.regent_tree.specs.Limits.{task_before, tasks_in, space_before, spaces_in}
use Rattle.read_limits.specs.Parts.{is_task, is_space}

task_step : (f : ItemForm) (n : ℕ) (b : Bool) → is_task f ≡ b → task_before f n ≡ cond b (n + 1) n
task_step import_item n true h = absurd cc
task_step import_item n false h = refl
task_step (alias_item name) n true h = absurd cc
task_step (alias_item name) n false h = refl
task_step (space_item s) n true h = absurd cc
task_step (space_item s) n false h = refl
task_step (task_item t) n true h = refl
task_step (task_item t) n false h = absurd cc
task_step (start_item name) n true h = absurd cc
task_step (start_item name) n false h = refl

tasks_from : (xs : List Item) (i : ℕ) (x : Item) (b : Bool) → i < length xs → x ≡ get_or xs i x → is_task (item_of x.what) ≡ b →
    tasks_in (map item_tree_of (drop i xs)) ≡ cond b (tasks_in (map item_tree_of (drop (i + 1) xs)) + 1) (tasks_in (map item_tree_of (drop (i + 1) xs)))
tasks_from xs i x b lt is h = rw (drop_more xs i x lt, ← is) (task_step (item_of x.what) (tasks_in (map item_tree_of (drop (i + 1) xs))) b h)

pub task_counted : (xs : List Item) (i : ℕ) (x : Item) (count total : ℕ) → i < length xs → x ≡ get_or xs i x → is_task (item_of x.what) ≡ true →
    count + tasks_in (map item_tree_of (drop i xs)) ≡ total → count + 1 + tasks_in (map item_tree_of (drop (i + 1) xs)) ≡ total
task_counted xs i x count total lt is h so_far = let e = tasks_from xs i x true lt is h in omega (arith, e)

pub task_passed : (xs : List Item) (i : ℕ) (x : Item) (count total : ℕ) → i < length xs → x ≡ get_or xs i x → is_task (item_of x.what) ≡ false →
    count + tasks_in (map item_tree_of (drop i xs)) ≡ total → count + tasks_in (map item_tree_of (drop (i + 1) xs)) ≡ total
task_passed xs i x count total lt is h so_far = let e = tasks_from xs i x false lt is h in omega (arith, e)

space_step : (f : ItemForm) (n : ℕ) (b : Bool) → is_space f ≡ b → space_before f n ≡ cond b (n + 1) n
space_step import_item n true h = absurd cc
space_step import_item n false h = refl
space_step (alias_item name) n true h = absurd cc
space_step (alias_item name) n false h = refl
space_step (space_item s) n true h = refl
space_step (space_item s) n false h = absurd cc
space_step (task_item t) n true h = absurd cc
space_step (task_item t) n false h = refl
space_step (start_item name) n true h = absurd cc
space_step (start_item name) n false h = refl

spaces_from : (xs : List Item) (i : ℕ) (x : Item) (b : Bool) → i < length xs → x ≡ get_or xs i x → is_space (item_of x.what) ≡ b →
    spaces_in (map item_tree_of (drop i xs)) ≡ cond b (spaces_in (map item_tree_of (drop (i + 1) xs)) + 1) (spaces_in (map item_tree_of (drop (i + 1) xs)))
spaces_from xs i x b lt is h = rw (drop_more xs i x lt, ← is) (space_step (item_of x.what) (spaces_in (map item_tree_of (drop (i + 1) xs))) b h)

pub space_counted : (xs : List Item) (i : ℕ) (x : Item) (count total : ℕ) → i < length xs → x ≡ get_or xs i x → is_space (item_of x.what) ≡ true →
    count + spaces_in (map item_tree_of (drop i xs)) ≡ total → count + 1 + spaces_in (map item_tree_of (drop (i + 1) xs)) ≡ total
space_counted xs i x count total lt is h so_far = let e = spaces_from xs i x true lt is h in omega (arith, e)

pub space_passed : (xs : List Item) (i : ℕ) (x : Item) (count total : ℕ) → i < length xs → x ≡ get_or xs i x → is_space (item_of x.what) ≡ false →
    count + spaces_in (map item_tree_of (drop i xs)) ≡ total → count + spaces_in (map item_tree_of (drop (i + 1) xs)) ≡ total
space_passed xs i x count total lt is h so_far = let e = spaces_from xs i x false lt is h in omega (arith, e)
