-- Going through a tree: its statements, each with its scope and line, and what stands in them; and
-- the types that its lists of parameters and fields declare.
use Rattle.std.specs.List.{list_any}
use Rattle.std.specs.Prelude.{Bool, List, Some, [], filter, flat_map, map, ℕ, ◌++◌, ◌∷◌}
use Rattle.regent_tree.specs.Scopes.{Scope, bound_params, past}
use Rattle.regent_tree.specs.declared.typing.Bound.{Bound}
use Rattle.regent_tree.specs.Syntax.{Arms, Block, Expression, Form, ItemForm, ItemTree, Otherwise, Initializer, TaskTree, Tree, a_statement, access_expr, an_arm, assert_form, assign_form, call_form, do_form, else_block, fill_form, for_in_form, for_to_form, if_form, no_arm, no_else, no_statement, print_form, return_form, space_item, task_item, then_statement, var_form, while_form}
use Rattle.regent_tree.specs.declared.types.Param.{Param}
use Rattle.regent_tree.specs.declared.types.TypeTerm.{TypeTerm}
use Rattle.check_rules.specs.scopes.Bodies.{body_scope}
use Rattle.check_rules.specs.types.Params.{params_beside}
use Rattle.check_rules.specs.types.KnownTypes.{known_types, typed_form_of}
use Rattle.check_rules.specs.types.Parts.{listed, subexpressions, tests_of}
use Rattle.check_rules.specs.types.TypedForms.{Calling, TypedForm, call_in, calling, written_in}
use Rattle.check_rules.specs.scopes.Variables.{expressions_in_initializer, known_scope_after, known_scope_after_arms, known_scope_after_block, scope_in_count, scope_in_loop, written_in_initializer}

-- a statement with the task in which it stands, its line and the scope before it
pub record Visit : Type 0 where
  pub task : TaskTree
  pub scope : Scope
  pub line : ℕ
  pub form : Form

-- ---- statements

abbrev mutual
  pub visits_in : Tree → TaskTree → Scope → Block → List Visit
  visits_in tree t s no_statement = []
  visits_in tree t s (then_statement (a_statement line form) rest) =
      (record { task = t; scope = s; line = line; form = form }
      ∷ visits_within tree t s form) ++ visits_in tree t (known_scope_after tree s form) rest

  -- the statements in the blocks of a statement
  pub visits_within : Tree → TaskTree → Scope → Form → List Visit
  visits_within tree t s (if_form arms other) =
      visits_in_arms tree t s arms ++ visits_in_else tree t (known_scope_after_arms tree s arms) other
  visits_within tree t s (while_form test body) = visits_in tree t s body
  visits_within tree t s (for_in_form demanded n domain body) =
      visits_in tree t (scope_in_loop tree s n domain) body
  visits_within tree t s (for_to_form demanded n from to body) =
      visits_in tree t (scope_in_count tree s n from to) body
  visits_within tree t s (do_form body) = visits_in tree t s body
  visits_within tree t s form = []

  pub visits_in_arms : Tree → TaskTree → Scope → Arms → List Visit
  visits_in_arms tree t s no_arm = []
  visits_in_arms tree t s (an_arm test body rest) = visits_in tree t s body
      ++ visits_in_arms tree t (past s (known_scope_after_block tree s body)) rest

  pub visits_in_else : Tree → TaskTree → Scope → Otherwise → List Visit
  visits_in_else tree t s no_else = []
  visits_in_else tree t s (else_block body) = visits_in tree t s body

abbrev pub visits_of_item : Tree → ItemForm → List Visit
visits_of_item tree (task_item t) = visits_in tree t (body_scope tree t) t.body
visits_of_item tree form = []

-- all statements of a tree
abbrev pub visits : Tree → List Visit
visits tree = flat_map (λ (i : ItemTree). visits_of_item tree i.form) tree

-- the lines of the statements at which something holds
abbrev pub lines_where : Tree → (Visit → Bool) → List ℕ
lines_where tree test = map (λ (v : Visit). v.line) (filter test (visits tree))

-- ---- expressions

-- the expressions that stand in a statement itself, but for the target of an assignment
abbrev pub heads_of : List Bound → Form → List Expression
heads_of names (var_form n t (Some initializer)) = expressions_in_initializer names initializer
heads_of names (if_form arms other) = tests_of arms
heads_of names (while_form test body) = test ∷ []
heads_of names (for_in_form demanded n domain body) = domain ∷ []
heads_of names (for_to_form demanded n from to body) = from ∷ to ∷ []
heads_of names (fill_form r fields e) = e ∷ []
heads_of names (assert_form e) = e ∷ []
heads_of names (print_form alias format args) = listed args
heads_of names (call_form task args) = listed args
heads_of names (assign_form n steps how e) = e ∷ []
heads_of names (return_form (Some e)) = e ∷ []
heads_of names form = []

abbrev pub targets_of : Form → List Expression
targets_of (assign_form n steps how e) = access_expr n steps ∷ []
targets_of form = []

-- the shapes of these expressions, and of all expressions in them
abbrev pub typed_forms_in : Tree → Scope → List Expression → List TypedForm
typed_forms_in tree s es = map (typed_form_of tree s) (flat_map subexpressions es)

abbrev pub typed_forms_at : Tree → Visit → List TypedForm
typed_forms_at tree v =
    typed_forms_in tree v.scope (heads_of v.scope.names v.form ++ targets_of v.form)

-- the calls at a statement: the statement itself, or expressions in it
abbrev pub call_of_form : Tree → Scope → Form → List Calling
call_of_form tree s (call_form task args) = calling task (known_types tree s args) ∷ []
call_of_form tree s form = []

abbrev pub calls_at : Tree → Visit → List Calling
calls_at tree v =
    call_of_form tree v.scope v.form ++ flat_map call_in (typed_forms_at tree v)

-- the initializer of a variable
abbrev pub initializer_at : Form → List Initializer
initializer_at (var_form n t (Some initializer)) = initializer ∷ []
initializer_at form = []

-- ---- written types

abbrev pub declared_at : Form → List TypeTerm
declared_at (var_form n (Some t) initializer) = t ∷ []
declared_at form = []

-- the types that are written in a statement
abbrev pub written_at : Tree → Visit → List TypeTerm
written_at tree v = declared_at v.form ++ flat_map written_in_initializer (initializer_at v.form)
    ++ flat_map written_in (typed_forms_at tree v)

-- A parameter or field, with the names that its type may use: as their types are written, and with
-- the types of those that say none unknown.
pub record Declaration : Type 0 where
  pub written : List Bound
  pub names : List Bound
  pub param : Param

-- the parameters and fields of a list, whose types may use the names of some parameters
abbrev pub declarations_in : Tree → List Param → List Param → List Declaration
declarations_in tree params all = map (λ (p : Param). record {
  written = bound_params tree params 0 params;
  names = params_beside tree params;
  param = p;
}) all

abbrev pub declarations_of_item : Tree → ItemForm → List Declaration
declarations_of_item tree (space_item s) = declarations_in tree s.params (s.params ++ s.fields)
declarations_of_item tree (task_item t) = declarations_in tree t.params t.params
declarations_of_item tree form = []

abbrev pub declarations : Tree → List Declaration
declarations tree = flat_map (λ (i : ItemTree). declarations_of_item tree i.form) tree

-- the lines of the parameters and fields for which something holds
abbrev pub lines_of_declarations : Tree → (Declaration → Bool) → List ℕ
lines_of_declarations tree test =
    map (λ (d : Declaration). d.param.line) (filter test (declarations tree))

-- and for whose types something holds
abbrev pub lines_declaring : Tree → (List Bound → TypeTerm → Bool) → List ℕ
lines_declaring tree test =
    lines_of_declarations tree (λ (d : Declaration). test d.names d.param.term)

-- where something holds for a type that is written in a statement
abbrev pub any_written : Tree → Visit → (List Bound → TypeTerm → Bool) → Bool
any_written tree v test = list_any (test v.scope.names) (written_at tree v)
