-- The limits of a program's tree: how many there may be of what is counted, which numbers a literal
-- may have, and how many nodes there may be.
use Rattle.std.specs.Prelude.{◌≡◌, ℕ, ◌+◌, ◌-◌, ◌^◌, ◌≤◌, ℤ, pos, List, [], ◌∷◌, ◌++◌, Option, Some, None, All, length, nat_lt, cond}
use Rattle.lane_kernels.specs.declared.numbers.Width.{Width}
use Rattle.lane_kernels.specs.declared.numbers.Width.TheVariants.{W32, W64}
use Rattle.regent_tree.specs.declared.limits.Counted.{Counted}
use Rattle.regent_tree.specs.declared.limits.Excess.{Excess}
use Rattle.regent_tree.specs.declared.limits.Counted.TheVariants.{Tasks, Spaces, Fields, Parameters, Regions}
use Rattle.regent_tree.specs.declared.types.PointerTerm.{PointerTerm}
use Rattle.regent_tree.specs.declared.types.TypeTerm.{TypeTerm}
use Rattle.regent_tree.specs.declared.types.TypeTerm.TheVariants as term
use Rattle.regent_tree.specs.declared.types.Param.{Param}
use Rattle.regent_tree.specs.Syntax.{Expression, number_expr, truth_expr, chain_expr, prefix_expr, call_expr, access_expr, convert_expr, is_null_expr, null_expr, cast_expr, space_expr, Links, no_link, a_link, Expressions, no_expr, an_expr, Steps, no_step, field_step, at_step, Initializer, region_initializer, equal_initializer, by_field_initializer, image_initializer, preimage_initializer, both_initializer, either_initializer, plain_initializer, a_statement, Form, var_form, if_form, while_form, for_in_form, for_to_form, do_form, fill_form, assert_form, print_form, call_form, assign_form, return_form, Block, no_statement, then_statement, Arms, no_arm, an_arm, Otherwise, no_else, else_block, ItemForm, import_item, alias_item, space_item, task_item, start_item, Tree}

-- ---- what the limits look at

-- a node: a statement, an expression, a step, a prefix sign or a field of a `fill`; a literal; or a
-- number of things that are counted
pub data Part : Type 0 where
  node : Part
  literal : ℤ → Width → Part
  counted : Counted → ℕ → Part

abbrev pub nodes : {A : Type 0} → List A → List Part
nodes [] = []
nodes (x ∷ xs) = node ∷ nodes xs

abbrev pub parts_of_pointer : PointerTerm → List Part
parts_of_pointer p = counted Regions (length p.regions) ∷ []

abbrev pub parts_of_term : TypeTerm → List Part
parts_of_term (term.Pointer p) = parts_of_pointer p
parts_of_term _ = []

abbrev pub parts_of_type : Option TypeTerm → List Part
parts_of_type None = []
parts_of_type (Some t) = parts_of_term t

abbrev pub parts_of_params : List Param → List Part
parts_of_params [] = []
parts_of_params (p ∷ ps) = parts_of_term p.term ++ parts_of_params ps

-- in the order of the text
abbrev mutual
  pub parts_of_expression : Expression → List Part
  parts_of_expression (number_expr value width) = node ∷ literal value width ∷ []
  parts_of_expression (truth_expr b) = node ∷ []
  parts_of_expression (chain_expr first rest) =
      node ∷ (parts_of_expression first ++ parts_of_links rest)
  parts_of_expression (prefix_expr signs inner) = node ∷ (nodes signs ++ parts_of_expression inner)
  parts_of_expression (call_expr task args) = node ∷ parts_of_expressions args
  parts_of_expression (access_expr name steps) = node ∷ parts_of_steps steps
  parts_of_expression (convert_expr to inner) = node ∷ parts_of_expression inner
  parts_of_expression (is_null_expr inner) = node ∷ parts_of_expression inner
  parts_of_expression (null_expr pointer) = node ∷ parts_of_pointer pointer
  parts_of_expression (cast_expr pointer inner) =
      node ∷ (parts_of_pointer pointer ++ parts_of_expression inner)
  parts_of_expression (space_expr kind size) = node ∷ parts_of_expression size

  pub parts_of_links : Links → List Part
  parts_of_links no_link = []
  parts_of_links (a_link operator operand rest) = parts_of_expression operand ++ parts_of_links rest

  pub parts_of_expressions : Expressions → List Part
  parts_of_expressions no_expr = []
  parts_of_expressions (an_expr e rest) = parts_of_expression e ++ parts_of_expressions rest

  pub parts_of_steps : Steps → List Part
  parts_of_steps no_step = []
  parts_of_steps (field_step name rest) = node ∷ parts_of_steps rest
  parts_of_steps (at_step e rest) = node ∷ (parts_of_expression e ++ parts_of_steps rest)

abbrev pub parts_of_initializer : Initializer → List Part
parts_of_initializer (region_initializer space fields) = parts_of_expression space
parts_of_initializer (equal_initializer region colours) = parts_of_expression colours
parts_of_initializer (by_field_initializer region field colours) = parts_of_expression colours
parts_of_initializer (image_initializer parent partition region field) = []
parts_of_initializer (preimage_initializer parent partition region field) = []
parts_of_initializer (both_initializer p q) = []
parts_of_initializer (either_initializer p q) = []
parts_of_initializer (plain_initializer e) = parts_of_expression e

abbrev pub parts_of_init : Option Initializer → List Part
parts_of_init None = []
parts_of_init (Some s) = parts_of_initializer s

abbrev pub parts_of_value : Option Expression → List Part
parts_of_value None = []
parts_of_value (Some e) = parts_of_expression e

abbrev mutual
  pub parts_of_form : Form → List Part
  parts_of_form (var_form name term init) = parts_of_type term ++ parts_of_init init
  parts_of_form (if_form arms other) = parts_of_arms arms ++ parts_of_otherwise other
  parts_of_form (while_form test body) = parts_of_expression test ++ parts_of_block body
  parts_of_form (for_in_form demanded name domain body) =
      parts_of_expression domain ++ parts_of_block body
  parts_of_form (for_to_form demanded name from to body) =
      parts_of_expression from ++ (parts_of_expression to ++ parts_of_block body)
  parts_of_form (do_form body) = parts_of_block body
  parts_of_form (fill_form region fields value) = nodes fields ++ parts_of_expression value
  parts_of_form (assert_form test) = parts_of_expression test
  parts_of_form (print_form alias format args) = parts_of_expressions args
  parts_of_form (call_form task args) = parts_of_expressions args
  parts_of_form (assign_form target steps how value) =
      parts_of_steps steps ++ parts_of_expression value
  parts_of_form (return_form value) = parts_of_value value

  pub parts_of_block : Block → List Part
  parts_of_block no_statement = []
  parts_of_block (then_statement (a_statement line form) rest) =
      node ∷ (parts_of_form form ++ parts_of_block rest)

  pub parts_of_arms : Arms → List Part
  parts_of_arms no_arm = []
  parts_of_arms (an_arm test body rest) =
      parts_of_expression test ++ (parts_of_block body ++ parts_of_arms rest)

  pub parts_of_otherwise : Otherwise → List Part
  parts_of_otherwise no_else = []
  parts_of_otherwise (else_block body) = parts_of_block body

-- A field space's and a task's own counts stand at its first token, before those of the pointer types
-- in it.
abbrev pub parts_of_item : ItemForm → List Part
parts_of_item import_item = []
parts_of_item (alias_item name) = []
parts_of_item (space_item s) =
    counted Fields (length s.fields) ∷ counted Parameters (length s.params)
    ∷ (parts_of_params s.params ++ parts_of_params s.fields)
parts_of_item (task_item t) =
    counted Parameters (length t.params)
    ∷ (parts_of_params t.params ++ (parts_of_type t.result ++ parts_of_block t.body))
parts_of_item (start_item name) = []

abbrev pub parts_of_items : Tree → List Part
parts_of_items [] = []
parts_of_items (i ∷ rest) = parts_of_item i.form ++ parts_of_items rest

abbrev pub task_before : ItemForm → ℕ → ℕ
task_before (task_item t) n = n + 1
task_before _ n = n

abbrev pub tasks_in : Tree → ℕ
tasks_in [] = 0
tasks_in (i ∷ rest) = task_before i.form (tasks_in rest)

abbrev pub space_before : ItemForm → ℕ → ℕ
space_before (space_item s) n = n + 1
space_before _ n = n

abbrev pub spaces_in : Tree → ℕ
spaces_in [] = 0
spaces_in (i ∷ rest) = space_before i.form (spaces_in rest)

-- All of a program, in the order of the text; what is counted at one place in the order of `Counted`.
abbrev pub parts_of_program : Tree → List Part
parts_of_program tree =
    counted Tasks (tasks_in tree) ∷ counted Spaces (spaces_in tree) ∷ parts_of_items tree

-- ---- the limits

-- the most that there may be
abbrev pub most : Counted → ℕ
most Tasks = 256
most Spaces = 256
most Fields = 16
most Parameters = 16
most Regions = 4

-- the greatest number that a literal of a width may have
abbrev pub greatest_literal : Width → ℕ
greatest_literal W32 = 2 ^ 31 - 1
greatest_literal W64 = 2 ^ 63 - 1

-- counts keep their limits, and a literal is from 0 to the greatest number of its width
abbrev pub KeepsLimit : Part → Type 0
KeepsLimit node = Unit {0}
KeepsLimit (literal value width) = (n : ℕ) × (value ≡ pos n) × (n ≤ greatest_literal width)
KeepsLimit (counted what n) = n ≤ most what

abbrev pub node_before : Part → ℕ → ℕ
node_before node n = n + 1
node_before _ n = n

abbrev pub number_of_nodes : List Part → ℕ
number_of_nodes [] = 0
number_of_nodes (p ∷ ps) = node_before p (number_of_nodes ps)

abbrev pub most_nodes : ℕ
most_nodes = 4194304

-- the tree is within the limits
pub record WithinLimits (tree : Tree) : Type 0 where
  pub each : All KeepsLimit (parts_of_program tree)
  pub nodes : number_of_nodes (parts_of_program tree) ≤ most_nodes

-- ---- the first count above its limit

abbrev pub excess_before : Part → Option Excess → Option Excess
excess_before node later = later
excess_before (literal value width) later = later
excess_before (counted what n) later =
    cond (nat_lt (most what) n) (Some (record { what = what; count = n })) later

abbrev pub first_excess : List Part → Option Excess
first_excess [] = None
first_excess (p ∷ ps) = excess_before p (first_excess ps)
