-- Rule 2, Twice: a name is given again among the tasks, the field spaces or the aliases of a text, or
-- within a list of parameters or fields. It is told at each that has the name of an earlier one.
use Rattle.std.specs.List.{list_any}
use Rattle.std.specs.Prelude.{Bool, List, [], bytes_eq, cond, map, ℕ, ◌++◌, ◌∷◌}
use Rattle.regent_tree.specs.Syntax.{ItemForm, ItemTree, Name, alias_item, space_item, task_item}
use Rattle.regent_tree.specs.declared.types.Param.{Param}

-- a name, and the line on which it is given
pub record Given : Type 0 where
  pub name : Name
  pub line : ℕ

abbrev pub was_given : List Given → Given → Bool
was_given earlier g = list_any (λ (e : Given). bytes_eq e.name g.name) earlier

-- the lines of those whose names are among the earlier ones, or come before them in the list
abbrev pub repeats_after : List Given → List Given → List ℕ
repeats_after earlier [] = []
repeats_after earlier (g ∷ gs) =
    cond (was_given earlier g) (g.line ∷ []) [] ++ repeats_after (g ∷ earlier) gs

abbrev pub repeats : List Given → List ℕ
repeats gs = repeats_after [] gs

abbrev pub given_by : List Param → List Given
given_by params = map (λ (p : Param). record { name = p.name; line = p.line }) params

-- the tasks, field spaces and aliases of a text
abbrev pub task_given : ItemTree → List Given
task_given i = given_as i.form
  where
    given_as : ItemForm → List Given
    given_as (task_item t) = record { name = t.name; line = i.line } ∷ []
    given_as form = []

abbrev pub space_given : ItemTree → List Given
space_given i = given_as i.form
  where
    given_as : ItemForm → List Given
    given_as (space_item s) = record { name = s.name; line = i.line } ∷ []
    given_as form = []

abbrev pub alias_given : ItemTree → List Given
alias_given i = given_as i.form
  where
    given_as : ItemForm → List Given
    given_as (alias_item n) = record { name = n; line = i.line } ∷ []
    given_as form = []

-- the lists of parameters and fields of an item
abbrev pub repeats_within : ItemForm → List ℕ
repeats_within (space_item s) = repeats (given_by s.params) ++ repeats (given_by s.fields)
repeats_within (task_item t) = repeats (given_by t.params)
repeats_within form = []
