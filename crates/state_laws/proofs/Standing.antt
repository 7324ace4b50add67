-- Items of a program without a breach: nothing is told of the field space at a place or the task of a name, and
-- what stands in them keeps the limits.
use Rattle.std.proofs.Common.{List, [], ◌∷◌, Bool, false, true, refl, subst, ℕ, zero, suc, ◌≡◌, ◌⊎◌, bytes_eq, cond, inl, inr, map}
use Rattle.std.specs.List.{All}
use Rattle.regent_tree.proofs.Members.{Has, Has-map_cases}
use Rattle.regent_tree.specs.Limits.{KeepsLimit, WithinLimits, counted, parts_of_item, parts_of_items, spaces_in, tasks_in}
use Rattle.regent_tree.specs.StaticTypes.{no_task, space_at, task_named}
use Rattle.regent_tree.specs.Syntax.{ItemForm, ItemTree, Name, Tree, alias_item, import_item, space_item, start_item, task_item}
use Rattle.regent_tree.specs.declared.limits.Counted.TheVariants.{Spaces, Tasks}
use Rattle.regent_tree.specs.declared.program.FieldSpace.{FieldSpace}
use Rattle.check_rules.proofs.Written.{Untold, untold}
use Rattle.check_rules.specs.Breaches.{breaches}
use Rattle.check_rules.specs.first.FirstInItems.{first_declared}
use Rattle.check_laws.proofs.Trees.{declared_none, none_of}
use Rattle.value_laws.proofs.Limits.{all_behind, all_left, all_right}

abbrev pub forms : Tree → List ItemForm
forms tree = map (λ (i : ItemTree). i.form) tree

abbrev pub no_space : FieldSpace
no_space = record { name = []; params = []; fields = [] }

-- the field space at a place is one of the items, or there is none
pub space_stands : (items : Tree) (k : ℕ) → Has (forms items) (space_item (space_at items k)) ⊎ (space_at items k ≡ no_space)
space_stands [] k = inr refl
space_stands (i ∷ items) k = by i.line i.form k (space_stands items)
  where
    further : (form : ItemForm) (s : FieldSpace) → Has (forms items) (space_item s) ⊎ (s ≡ no_space) → Has (form ∷ forms items) (space_item s) ⊎ (s ≡ no_space)
    further form s (inl h) = inl (inr h)
    further form s (inr e) = inr e

    by : (line : ℕ) (form : ItemForm) (k : ℕ) → ((k : ℕ) → Has (forms items) (space_item (space_at items k)) ⊎ (space_at items k ≡ no_space)) →
        Has (form ∷ forms items) (space_item (space_at (record { line = line; form = form } ∷ items) k)) ⊎ (space_at (record { line = line; form = form } ∷ items) k ≡ no_space)
    by line (space_item s) zero rest = inl (inl refl)
    by line (space_item s) (suc k) rest = further (space_item s) (space_at items k) (rest k)
    by line import_item k rest = further import_item (space_at items k) (rest k)
    by line (alias_item n) k rest = further (alias_item n) (space_at items k) (rest k)
    by line (task_item t) k rest = further (task_item t) (space_at items k) (rest k)
    by line (start_item n) k rest = further (start_item n) (space_at items k) (rest k)

-- so is the task of a name
pub task_stands : (items : Tree) (n : Name) → Has (forms items) (task_item (task_named items n)) ⊎ (task_named items n ≡ no_task)
task_stands [] n = inr refl
task_stands (i ∷ items) n = by i.line i.form (task_stands items n)
  where
    further : (form : ItemForm) → Has (forms items) (task_item (task_named items n)) ⊎ (task_named items n ≡ no_task) →
        Has (form ∷ forms items) (task_item (task_named items n)) ⊎ (task_named items n ≡ no_task)
    further form (inl h) = inl (inr h)
    further form (inr e) = inr e

    by : (line : ℕ) (form : ItemForm) → Has (forms items) (task_item (task_named items n)) ⊎ (task_named items n ≡ no_task) →
        Has (form ∷ forms items) (task_item (task_named (record { line = line; form = form } ∷ items) n)) ⊎ (task_named (record { line = line; form = form } ∷ items) n ≡ no_task)
    by line (task_item t) rest = here (bytes_eq t.name n)
      where
        here : (b : Bool) → Has (task_item t ∷ forms items) (task_item (cond b t (task_named items n))) ⊎ (cond b t (task_named items n) ≡ no_task)
        here true = inl (inl refl)
        here false = further (task_item t) rest
    by line import_item rest = further import_item rest
    by line (alias_item m) rest = further (alias_item m) rest
    by line (space_item s) rest = further (space_item s) rest
    by line (start_item m) rest = further (start_item m) rest

-- nothing is told of an item
pub form_untold : (tree : Tree) (form : ItemForm) → breaches tree ≡ [] → Has (forms tree) form → (line : ℕ) × Untold tree (record { line = line; form = form })
form_untold tree form none h =
    let found = Has-map_cases (λ (i : ItemTree). i.form) tree form h in
    let line = found.0.line in (
      line,
      untold tree (record { line = line; form = form }) (none_of (first_declared tree) tree (record { line = line; form = form }) (declared_none tree none)
          (subst (λ f. Has tree (record { line = line; form = f })) found.2 found.1)),
    )

-- it keeps the limits
limits_among : (items : Tree) (form : ItemForm) → All KeepsLimit (parts_of_items items) → Has (forms items) form → All KeepsLimit (parts_of_item form)
limits_among [] form l h = absurd h
limits_among (i ∷ items) form l (inl same) = subst (λ f. All KeepsLimit (parts_of_item f)) same (all_left KeepsLimit (parts_of_item i.form) (parts_of_items items) l)
limits_among (i ∷ items) form l (inr h) = limits_among items form (all_right KeepsLimit (parts_of_item i.form) (parts_of_items items) l) h

pub form_limits : (tree : Tree) (form : ItemForm) → WithinLimits tree → Has (forms tree) form → All KeepsLimit (parts_of_item form)
form_limits tree form within h =
    limits_among tree form (all_behind KeepsLimit (counted Spaces (spaces_in tree)) (parts_of_items tree)
    (all_behind KeepsLimit (counted Tasks (tasks_in tree)) (counted Spaces (spaces_in tree) ∷ parts_of_items tree) within.each)) h
