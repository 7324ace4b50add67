-- Rule 18, Start: a second start; no task to be started, be it the one that a start names or else
-- `main`; or one that takes something else than integers.
use Rattle.std.specs.Prelude.{Bool, List, [], cond, false, filter, flat_map, map, not, true, ℕ, ◌++◌, ◌∷◌}
use Rattle.regent_tree.specs.StaticTypes.{entry_name, task_named}
use Rattle.regent_tree.specs.Syntax.{ItemForm, ItemTree, Tree, start_item}
use Rattle.regent_tree.specs.declared.types.NumberTerm.TheVariants as number
use Rattle.regent_tree.specs.declared.types.Param.{Param}
use Rattle.regent_tree.specs.declared.types.TypeTerm.{TypeTerm}
use Rattle.regent_tree.specs.declared.types.TypeTerm.TheVariants as typed
use Rattle.regent_tree.specs.Lookup.{has_task}
use Rattle.check_rules.specs.rules.Repeats.{Given}

-- the starts, with their lines
abbrev pub entry_given : ItemTree → List Given
entry_given i = given_as i.form
  where
    given_as : ItemForm → List Given
    given_as (start_item n) = record { name = n; line = i.line } ∷ []
    given_as form = []

-- the lines of all starts but the first
abbrev pub later_lines : List Given → List ℕ
later_lines [] = []
later_lines (g ∷ gs) = map (λ (l : Given). l.line) gs

-- the lines of the starts of tasks that aren't there; without a start it is line 1
abbrev pub missing_lines : Tree → List Given → List ℕ
missing_lines tree [] = cond (has_task tree (entry_name tree)) [] (1 ∷ [])
missing_lines tree gs =
    map (λ (g : Given). g.line) (filter (λ (g : Given). not (has_task tree g.name)) gs)

abbrev pub is_integer_term : TypeTerm → Bool
is_integer_term (typed.Number number.Int32) = true
is_integer_term (typed.Number number.Int64) = true
is_integer_term t = false

-- the lines of the entry task's parameters that aren't integers
abbrev pub lines_of_inputs : Tree → List ℕ
lines_of_inputs tree = map (λ (p : Param). p.line)
    (filter (λ (p : Param). not (is_integer_term p.term)) (task_named tree (entry_name tree)).params)

abbrev pub wrong_entry_lines : Tree → List ℕ
wrong_entry_lines tree = let initializers = flat_map entry_given tree in
    later_lines initializers ++ missing_lines tree initializers ++ lines_of_inputs tree
