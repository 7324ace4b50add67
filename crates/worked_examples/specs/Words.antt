-- Shorthand for the trees of the examples and for statements about them.
use Rattle.std.specs.Prelude.{ℕ, ℤ, pos, neg_ℤ, List, [], ◌∷◌, map, Bool, true, false, Some, None, codes}
use Prim.Native.String.{String}
use Rattle.lane_kernels.specs.declared.numbers.Op.{Op}
use Rattle.lane_kernels.specs.declared.numbers.Width.TheVariants.{W32, W64}
use Rattle.regent_tree.specs.declared.expression.Arithmetic.{Arithmetic}
use Rattle.regent_tree.specs.declared.expression.Comparison.{Comparison}
use Rattle.regent_tree.specs.declared.expression.Operator.{Operator}
use Rattle.regent_tree.specs.declared.expression.Operator.TheVariants.{Compare, Compute}
use Rattle.regent_tree.specs.declared.expression.Sign.TheVariants.{Minus, Not}
use Rattle.regent_tree.specs.declared.outcome.Ending.TheVariants.{Finished, Faulted}
use Rattle.regent_tree.specs.declared.outcome.FaultKind.{FaultKind}
use Rattle.regent_tree.specs.declared.outcome.Outcome.{Outcome}
use Rattle.regent_tree.specs.declared.outcome.RootImage.{RootImage}
use Rattle.regent_tree.specs.declared.program.Clause.{Clause}
use Rattle.regent_tree.specs.declared.program.Clause.TheVariants as clause
use Rattle.regent_tree.specs.declared.program.Grant.{Grant}
use Rattle.regent_tree.specs.declared.program.Place.{Place}
use Rattle.regent_tree.specs.declared.statement.How.TheVariants as how
use Rattle.regent_tree.specs.declared.types.Kind.TheVariants.{Int1d}
use Rattle.regent_tree.specs.declared.types.NumberTerm.{NumberTerm}
use Rattle.regent_tree.specs.declared.types.Param.{Param}
use Rattle.regent_tree.specs.declared.types.PointerTerm.{PointerTerm}
use Rattle.regent_tree.specs.declared.types.Ref.{Ref}
use Rattle.regent_tree.specs.declared.types.Ref.TheVariants.{Named}
use Rattle.regent_tree.specs.declared.types.SpaceUse.{SpaceUse}
use Rattle.regent_tree.specs.declared.types.TypeTerm.{TypeTerm}
use Rattle.regent_tree.specs.declared.types.TypeTerm.TheVariants as typed
use Rattle.regent_tree.specs.Syntax.{Name, Expression, number_expr, chain_expr, prefix_expr, call_expr, access_expr, space_expr, no_link, a_link, Expressions, no_expr, an_expr, Steps, no_step, field_step, at_step, Initializer, region_initializer, equal_initializer, by_field_initializer, image_initializer, preimage_initializer, both_initializer, either_initializer, plain_initializer, Statement, a_statement, Form, var_form, if_form, while_form, for_in_form, for_to_form, do_form, fill_form, print_form, call_form, assign_form, return_form, Block, no_statement, then_statement, Arms, no_arm, an_arm, no_else, else_block, ItemForm, alias_item, space_item, task_item, start_item, ItemTree}

-- ---- expressions

abbrev pub int : ℕ → Expression
int n = number_expr (pos n) W32

abbrev pub int64 : ℕ → Expression
int64 n = number_expr (pos n) W64

-- a step of an access, before the steps after it
abbrev pub dot : String → Steps → Steps
dot f rest = field_step (codes f) rest

abbrev pub at : Expression → Steps → Steps
at e rest = at_step e rest

abbrev pub steps : List (Steps → Steps) → Steps
steps [] = no_step
steps (s ∷ ss) = s (steps ss)

abbrev pub get : String → Expression
get x = access_expr (codes x) no_step

abbrev pub access : String → List (Steps → Steps) → Expression
access x ss = access_expr (codes x) (steps ss)

abbrev pub calc : Expression → Arithmetic → Expression → Expression
calc a o b = chain_expr a (a_link (Compute o) b no_link)

abbrev pub compare : Expression → Comparison → Expression → Expression
compare a c b = chain_expr a (a_link (Compare c) b no_link)

abbrev pub connect : Expression → Operator → Expression → Expression
connect a o b = chain_expr a (a_link o b no_link)

abbrev pub negation : Expression → Expression
negation e = prefix_expr (Not ∷ []) e

abbrev pub minus : Expression → Expression
minus e = prefix_expr (Minus ∷ []) e

abbrev pub space : Expression → Expression
space e = space_expr Int1d e

abbrev pub args : List Expression → Expressions
args [] = no_expr
args (e ∷ es) = an_expr e (args es)

abbrev pub call_of : String → List Expression → Expression
call_of t es = call_expr (codes t) (args es)

-- ---- types and clauses

abbrev pub number : NumberTerm → TypeTerm
number t = typed.Number t

abbrev pub ref : String → Ref
ref r = Named (codes r)

abbrev pub space_of : String → List Ref → SpaceUse
space_of fs rs = record { name = codes fs; args = rs }

abbrev pub region : SpaceUse → TypeTerm
region u = typed.Region Int1d u

abbrev pub pointer : SpaceUse → List Ref → PointerTerm
pointer u rs = record { kind = Int1d; space = u; regions = rs }

abbrev pub points_into : PointerTerm → TypeTerm
points_into t = typed.Pointer t

abbrev pub partition : Bool → String → TypeTerm
partition disjoint r = typed.Partition disjoint (codes r) None

abbrev pub param : ℕ → String → TypeTerm → Param
param line x t = record { line = line; name = codes x; term = t }

abbrev pub names : List String → List Name
names [] = []
names (x ∷ xs) = codes x ∷ names xs

abbrev pub whole : String → Place
whole r = record { region = codes r; fields = None }

abbrev pub fields : String → List String → Place
fields r fs = record { region = codes r; fields = Some (names fs) }

abbrev pub grants : List Grant → List Place → Clause
grants gs ps = clause.Grants gs ps

abbrev pub apart : String → String → Clause
apart a b = clause.Apart (codes a) (codes b)

-- ---- statements

abbrev pub line : ℕ → Form → Statement
line n form = a_statement n form

abbrev pub block : List Statement → Block
block [] = no_statement
block (s ∷ ss) = then_statement s (block ss)

abbrev pub var : String → Expression → Form
var x e = var_form (codes x) None (Some (plain_initializer e))

abbrev pub var_as : String → TypeTerm → Expression → Form
var_as x t e = var_form (codes x) (Some t) (Some (plain_initializer e))

abbrev pub var_from : String → Initializer → Form
var_from x s = var_form (codes x) None (Some s)

abbrev pub new_region : Expression → SpaceUse → Initializer
new_region e u = region_initializer e u

abbrev pub equal : String → Expression → Initializer
equal r e = equal_initializer (codes r) e

abbrev pub by_field : String → String → Expression → Initializer
by_field r f e = by_field_initializer (codes r) (codes f) e

abbrev pub image : String → String → String → String → Initializer
image s p r f = image_initializer (codes s) (codes p) (codes r) (codes f)

abbrev pub preimage : String → String → String → String → Initializer
preimage s p r f = preimage_initializer (codes s) (codes p) (codes r) (codes f)

abbrev pub both : String → String → Initializer
both p q = both_initializer (codes p) (codes q)

abbrev pub either : String → String → Initializer
either p q = either_initializer (codes p) (codes q)

abbrev pub set : String → List (Steps → Steps) → Expression → Form
set x ss e = assign_form (codes x) (steps ss) how.Set e

abbrev pub reduce : String → List (Steps → Steps) → Op → Expression → Form
reduce x ss o e = assign_form (codes x) (steps ss) (how.Reduce o) e

abbrev pub print : String → List Expression → Form
print text es = print_form None (codes text) (args es)

-- through an alias
abbrev pub print_by : String → String → List Expression → Form
print_by c text es = print_form (Some (codes c)) (codes text) (args es)

abbrev pub call : String → List Expression → Form
call t es = call_form (codes t) (args es)

abbrev pub when : Expression → List Statement → Form
when e ss = if_form (an_arm e (block ss) no_arm) no_else

-- an arm of an `if`, before the arms after it; and an `if` with an `else`
abbrev pub arm : Expression → List Statement → Arms → Arms
arm e ss rest = an_arm e (block ss) rest

abbrev pub arms : List (Arms → Arms) → Arms
arms [] = no_arm
arms (a ∷ rest) = a (arms rest)

abbrev pub choose : List (Arms → Arms) → List Statement → Form
choose cases ss = if_form (arms cases) (else_block (block ss))

abbrev pub repeat : Expression → List Statement → Form
repeat e ss = while_form e (block ss)

abbrev pub scope : List Statement → Form
scope ss = do_form (block ss)

abbrev pub fill : String → List String → Expression → Form
fill r fs e = fill_form (codes r) (names fs) e

abbrev pub give : Expression → Form
give e = return_form (Some e)

abbrev pub each : String → Expression → List Statement → Form
each x e ss = for_in_form false (codes x) e (block ss)

-- under `__demand(__index_launch)`
abbrev pub launch : String → Expression → List Statement → Form
launch x e ss = for_in_form true (codes x) e (block ss)

abbrev pub count : String → Expression → Expression → List Statement → Form
count x a b ss = for_to_form false (codes x) a b (block ss)

-- ---- items

abbrev pub item : ℕ → ItemForm → ItemTree
item n form = record { line = n; form = form }

abbrev pub alias : String → ItemForm
alias x = alias_item (codes x)

abbrev pub start : String → ItemForm
start t = start_item (codes t)

abbrev pub field_space : String → List Param → List Param → ItemForm
field_space x ps fs = space_item (record { name = codes x; params = ps; fields = fs })

abbrev pub task : String → List Param → List Clause → List Statement → ItemForm
task x ps cs ss = task_item (record {
  name = codes x;
  params = ps;
  result = None;
  clauses = cs;
  body = block ss;
})

abbrev pub task_giving :
    TypeTerm → String → List Param → List Clause → List Statement → ItemForm
task_giving t x ps cs ss = task_item (record {
  name = codes x;
  params = ps;
  result = Some t;
  clauses = cs;
  body = block ss;
})

-- ---- outcomes

-- a run that finishes with this text and these roots of the entry task
abbrev pub prints : String → List RootImage → Outcome
prints text roots = record { text = codes text; ending = Finished roots }

-- a run that faults on a line, with this text before it
abbrev pub faults : String → FaultKind → ℕ → Outcome
faults text kind line =
    record { text = codes text; ending = Faulted (record { kind = kind; line = line }) }

-- a root of the field space at a place, with a number of points and these numbers of its fields
abbrev pub root : ℕ → ℕ → List (List ℤ) → RootImage
root space count fields = record { space = space; count = count; fields = fields }

abbrev pub naturals : List ℕ → List ℤ
naturals ns = map pos ns

abbrev pub below_zero : ℕ → ℤ
below_zero n = neg_ℤ (pos n)
