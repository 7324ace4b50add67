-- The place of a task among a program's items is that among the tasks of its tree.
use Rattle.std.proofs.Common.{◌≡◌, List, [], ◌∷◌, map, refl, ap}
use Rattle.regent_tree.specs.declared.program.Item.{Item}
use Rattle.regent_tree.specs.declared.program.ItemKind.{ItemKind}
use Rattle.regent_tree.specs.declared.program.ItemKind.TheVariants as kind
use Rattle.regent_tree.specs.PlainProgram.{item_tree_of, task_of}
use Rattle.regent_tree.specs.Syntax.{Name}
use Rattle.code_rules.specs.Instructions.{place_of_task, tasks_of}
use Rattle.compile_types.specs.Symbols.{place_among, tasks_in}

pub tasks_of-items : (items : List Item) → tasks_of (map item_tree_of items) ≡ map task_of (tasks_in items)
tasks_of-items [] = refl
tasks_of-items (i ∷ items) = by i.what (tasks_of-items items)
  where
    by : (k : ItemKind) → tasks_of (map item_tree_of items) ≡ map task_of (tasks_in items) →
        tasks_of (map item_tree_of (record i { what = k } ∷ items)) ≡ map task_of (tasks_in (record i { what = k } ∷ items))
    by (kind.Task t) h = ap (λ r. task_of t ∷ r) h
    by kind.Import h = h
    by (kind.Alias n) h = h
    by (kind.Space s) h = h
    by (kind.Start n) h = h

pub place_among_items : (items : List Item) (n : Name) →
    place_of_task (map item_tree_of items) n ≡ place_among (tasks_in items) n
place_among_items items n = rw (tasks_of-items items) refl
