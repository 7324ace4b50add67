-- What is looked at of a loop whose calls may be issued in one step (index launches: Regent, SC 2015): where it goes,
-- and how the arguments of its call are formed and used. All is asked in the loop's own scope, in which its variable
-- is the innermost name.
use Rattle.std.specs.Prelude.{◌==◌, ◌&&◌, ◌++◌, Bool, true, false, List, [], ◌∷◌, Option, Some, None, bytes_eq, cond, filter, map, ℕ, suc}
use Rattle.lane_kernels.specs.declared.numbers.Mode.{Mode}
use Rattle.lane_kernels.specs.declared.numbers.Mode.TheVariants as mode
use Rattle.regent_tree.specs.Facts.{are_disjoint}
use Rattle.regent_tree.specs.Lookup.{type_named}
use Rattle.regent_tree.specs.Scopes.{Scope}
use Rattle.regent_tree.specs.StaticTypes.{task_named}
use Rattle.regent_tree.specs.Syntax.{Block, Expression, Expressions, Form, Name, Tree, a_statement, access_expr, an_expr, at_step, call_form, convert_expr, no_expr, no_statement, no_step, number_expr, then_statement, truth_expr}
use Rattle.regent_tree.specs.Typing.{is_pointer}
use Rattle.regent_tree.specs.declared.facts.Known.{Known}
use Rattle.regent_tree.specs.declared.facts.Term.{Term}
use Rattle.regent_tree.specs.declared.facts.Term.TheVariants as term
use Rattle.regent_tree.specs.declared.rights.Access.{Access}
use Rattle.regent_tree.specs.declared.rights.Access.TheVariants as access
use Rattle.regent_tree.specs.declared.rights.Right.{Right}
use Rattle.regent_tree.specs.declared.typing.Bound.{Bound}
use Rattle.regent_tree.specs.declared.typing.StaticType.{StaticType}
use Rattle.regent_tree.specs.declared.typing.StaticType.TheVariants.{Partition as partition_type, Region as region_type, Unknown as unknown_type}
use Rattle.index_launch.specs.declared.view.ArgKind.{ArgKind}
use Rattle.index_launch.specs.declared.view.ArgKind.TheVariants.{Child, Fixed, Other, Point}
use Rattle.index_launch.specs.declared.view.ArgView.{ArgView}
use Rattle.index_launch.specs.declared.view.LoopView.{LoopView}
use Rattle.check_rules.specs.rules.Privileges.{rights_told}
use Rattle.check_rules.specs.types.Declarations.{params_of}
use Rattle.check_rules.specs.types.KnownTypes.{known_types}
use Rattle.check_rules.specs.types.Sorts.{is_index, type_at}

-- ---- the form of an argument

-- the loop's variable by itself
abbrev pub is_variable : Name → Expression → Bool
is_variable i (access_expr n no_step) = bytes_eq n i
is_variable i e = false

-- A name stands for the loop's variable, or for what is bound outside of the loop. A pointer has none of the forms
-- where an index is wanted.
abbrev pub kind_of_name : Bool → StaticType → StaticType → ArgKind
kind_of_name true wanted t = Point
kind_of_name false wanted t = cond (is_pointer t && is_index wanted) Other Fixed

-- `p[i]` by the loop's variable is the child of a partition; of what has a breach nothing is told
abbrev pub kind_of_element : StaticType → Bool → ArgKind
kind_of_element (partition_type disjoint parent own) true = Child own disjoint
kind_of_element unknown_type by_variable = Fixed
kind_of_element t by_variable = Other

abbrev pub kind_of : List Bound → Name → StaticType → Expression → ArgKind
kind_of names i wanted (number_expr z w) = Fixed
kind_of names i wanted (truth_expr b) = Fixed
kind_of names i wanted (access_expr n no_step) = kind_of_name (bytes_eq n i) wanted (type_named names n)
kind_of names i wanted (access_expr n (at_step e no_step)) = kind_of_element (type_named names n) (is_variable i e)
kind_of names i wanted (convert_expr t e) = cond (is_variable i e) Point Other
kind_of names i wanted e = Other

-- ---- how its region is used

abbrev pub mode_of : Access → Mode
mode_of access.Read = mode.Read
mode_of access.Write = mode.Write
mode_of (access.Reduce o) = mode.Reduce o

-- the privileges that a task declares on a parameter, as uses of fields
abbrev pub uses_on : List Right → ℕ → List (ℕ × Mode)
uses_on rights place = map (λ (r : Right). (r.field, mode_of r.access)) (filter (λ (r : Right). r.region == place) rights)

-- an argument that isn't a region of the parameter's field space isn't used
abbrev pub uses_of : StaticType → StaticType → List Right → ℕ → List (ℕ × Mode)
uses_of (region_type k s args r) (region_type j u others t) rights place = cond (s == u) (uses_on rights place) []
uses_of wanted t rights place = []

abbrev pub space_of : StaticType → ℕ
space_of (region_type k s args r) = s
space_of t = 0

abbrev pub argument_view : List Bound → Name → List Right → ℕ → StaticType → StaticType → Expression → ArgView
argument_view names i rights place wanted t e = record {
  kind = kind_of names i wanted e;
  space = space_of t;
  uses = uses_of wanted t rights place;
}

-- from a place on, by the types of all parameters and of all arguments
abbrev pub argument_views : List Bound → Name → List StaticType → List Right → List StaticType → ℕ → Expressions → List ArgView
argument_views names i params rights types place no_expr = []
argument_views names i params rights types place (an_expr e es) =
    argument_view names i rights place (type_at params place) (type_at types place) e
    ∷ argument_views names i params rights types (suc place) es

-- ---- which of them share no point at different colours

-- A region that is the same at each colour, or the one that the partition of a child divides.
abbrev pub parent_of : StaticType → Option Term
parent_of (partition_type disjoint parent own) = Some (term.Name parent)
parent_of t = None

abbrev pub region_of : StaticType → Option Term
region_of (region_type k s args r) = Some r
region_of t = None

abbrev pub term_across : List Bound → Expression → Option Term
term_across names (access_expr n no_step) = region_of (type_named names n)
term_across names (access_expr n (at_step e no_step)) = parent_of (type_named names n)
term_across names e = None

abbrev pub terms_across : List Bound → Expressions → List (Option Term)
terms_across names no_expr = []
terms_across names (an_expr e es) = term_across names e ∷ terms_across names es

-- two that are known to be disjoint
abbrev pub pair_if : Bool → ℕ → ℕ → List (ℕ × ℕ)
pair_if true a b = (a, b) ∷ []
pair_if false a b = []

abbrev pub are_apart : List Known → Option Term → Option Term → Bool
are_apart known (Some one) (Some other) = are_disjoint known one other
are_apart known one other = false

-- of an argument with those from a place on
abbrev pub pairs_with : List Known → ℕ → Option Term → ℕ → List (Option Term) → List (ℕ × ℕ)
pairs_with known a one b [] = []
pairs_with known a one b (other ∷ rest) =
    pair_if (are_apart known one other) a b ++ pairs_with known a one (suc b) rest

-- of each argument with itself and those behind it
abbrev pub pairs_apart : List Known → ℕ → List (Option Term) → List (ℕ × ℕ)
pairs_apart known a [] = []
pairs_apart known a (one ∷ rest) = pairs_with known a one a (one ∷ rest) ++ pairs_apart known (suc a) rest

-- ---- the loop

pub record CallSeen : Type 0 where
  pub task : Name
  pub args : Expressions

abbrev pub call_in : Form → Option CallSeen
call_in (call_form task args) = Some (record { task = task; args = args })
call_in form = None

-- the body is one call, whose result isn't used
abbrev pub only_call : Block → Option CallSeen
only_call (then_statement (a_statement line form) no_statement) = call_in form
only_call body = None

abbrev pub view_without_call : Bool → LoopView
view_without_call over_space = record { over_space = over_space; one_call = false; args = []; apart = [] }

abbrev pub view_of_call : Tree → Scope → Name → Bool → CallSeen → LoopView
view_of_call tree s i over_space c = record {
  over_space = over_space;
  one_call = true;
  args = argument_views s.names i (params_of tree c.task) (rights_told tree (task_named tree c.task)) (known_types tree s c.args) 0 c.args;
  apart = pairs_apart s.known 0 (terms_across s.names c.args);
}

abbrev pub view_by : Tree → Scope → Name → Bool → Option CallSeen → LoopView
view_by tree s i over_space None = view_without_call over_space
view_by tree s i over_space (Some c) = view_of_call tree s i over_space c

abbrev pub loop_view : Tree → Scope → Name → Bool → Block → LoopView
loop_view tree s i over_space body = view_by tree s i over_space (only_call body)
