-- The items of one kind among a program's items, in the order of the text.
use Rattle.std.specs.Prelude.{◌≡◌, List, [], ◌∷◌}
use Rattle.std.specs.List.{flat_map}
use Rattle.regent_tree.specs.declared.program.FieldSpace.{FieldSpace}
use Rattle.regent_tree.specs.declared.program.Item.{Item}
use Rattle.regent_tree.specs.declared.program.ItemKind.{ItemKind}
use Rattle.regent_tree.specs.declared.program.ItemKind.TheVariants as kind
use Rattle.regent_tree.specs.declared.program.Task.{Task}
use Rattle.regent_tree.specs.Syntax.{Name}

abbrev pub as_tasks : ItemKind → List Task
as_tasks (kind.Task t) = t ∷ []
as_tasks _ = []

abbrev pub as_spaces : ItemKind → List FieldSpace
as_spaces (kind.Space s) = s ∷ []
as_spaces _ = []

abbrev pub as_aliases : ItemKind → List Name
as_aliases (kind.Alias n) = n ∷ []
as_aliases _ = []

abbrev pub tasks_among : List Item → List Task
tasks_among items = flat_map (λ (i : Item). as_tasks i.what) items

abbrev pub spaces_among : List Item → List FieldSpace
spaces_among items = flat_map (λ (i : Item). as_spaces i.what) items

abbrev pub aliases_among : List Item → List Name
aliases_among items = flat_map (λ (i : Item). as_aliases i.what) items

-- what stands at a place where there is no field space
abbrev pub no_space : FieldSpace
no_space = record { name = []; params = []; fields = [] }

-- lists of the items of each kind among a list of items
pub record AreOfKinds (items : List Item) (tasks : List Task) (spaces : List FieldSpace) (aliases : List Name) : Type 0 where
  pub tasks_ok : tasks ≡ tasks_among items
  pub spaces_ok : spaces ≡ spaces_among items
  pub aliases_ok : aliases ≡ aliases_among items
