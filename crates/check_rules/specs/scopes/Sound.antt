-- What is known of a program whose declarations have no breach.
use Rattle.std.specs.List.{list_any}
use Rattle.std.specs.Prelude.{Contains, false, map, true, ℕ, ◌≡◌}
use Rattle.regent_tree.specs.Lookup.{has_field}
use Rattle.regent_tree.specs.Scopes.{bound_params}
use Rattle.regent_tree.specs.StaticTypes.{task_named}
use Rattle.regent_tree.specs.Syntax.{ItemTree, Name, TaskTree, Tree, task_item}
use Rattle.check_rules.specs.scopes.Bodies.{known_once}
use Rattle.check_rules.specs.rules.Clauses.{misdeclares}
use Rattle.check_rules.specs.types.Declarations.{is_flawed_field, is_no_result_type, params_bound}

-- a task is one of a tree's items
abbrev pub StandsIn : Tree → TaskTree → Type 0
StandsIn tree t = Contains (map (λ (i : ItemTree). i.form) tree) (task_item t)

-- a task's parameters are bound as they are written, and its result type and clauses have no breach
pub record IsSoundTask (tree : Tree) (t : TaskTree) : Type 0 where
  pub params : params_bound tree t.params ≡ bound_params tree t.params 0 t.params
  pub once : known_once (params_bound tree t.params) ≡ params_bound tree t.params
  pub result : is_no_result_type t.result ≡ false
  pub clauses : list_any (misdeclares tree (params_bound tree t.params)) t.clauses ≡ false

-- parameters are bound as they are written, and the types of fields and results have no breach
pub record IsSound (tree : Tree) : Type 0 where
  pub params : (n : Name) → params_bound tree (task_named tree n).params
      ≡ bound_params tree (task_named tree n).params 0 (task_named tree n).params
  pub fields : (s : ℕ) (f : Name) → has_field tree s f ≡ true → is_flawed_field tree s f ≡ false
  pub results : (n : Name) → is_no_result_type (task_named tree n).result ≡ false
  pub clauses : (n : Name) → list_any (misdeclares tree (params_bound tree (task_named tree n).params))
      (task_named tree n).clauses ≡ false
  pub tasks : (t : TaskTree) → StandsIn tree t → IsSoundTask tree t
