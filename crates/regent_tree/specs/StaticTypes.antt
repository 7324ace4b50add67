-- Static types, and the parts of a program that they speak of.
--
-- In a type a field space is named by its place among the program's, a partition and its parent by
-- the numbers of their bindings. A pointer type has its field space's arguments and its own list of
-- regions; a region type has the term that the region is. A call of a task without a result has no
-- type; what a breach of the rules leaves without one has an unknown type.
use Rattle.std.specs.Prelude.{ℕ, List, [], ◌∷◌, map, get_or, cond, Option, Some, None, bytes_eq}
use Rattle.std.specs.List.{position_or_len}
use Rattle.lane_kernels.specs.declared.numbers.FieldKind.{FieldKind}
use Rattle.lane_kernels.specs.declared.numbers.FieldKind.TheVariants as keeps
use Rattle.lane_kernels.specs.declared.numbers.Width.TheVariants.{W32, W64}
use Rattle.regent_tree.specs.declared.facts.Term.{Term}
use Rattle.regent_tree.specs.declared.facts.Term.TheVariants as term
use Rattle.regent_tree.specs.declared.program.FieldSpace.{FieldSpace}
use Rattle.regent_tree.specs.declared.types.NumberTerm.{NumberTerm}
use Rattle.regent_tree.specs.declared.types.NumberTerm.TheVariants as number
use Rattle.regent_tree.specs.declared.types.Param.{Param}
use Rattle.regent_tree.specs.declared.types.PointerTerm.{PointerTerm}
use Rattle.regent_tree.specs.declared.types.Ref.{Ref}
use Rattle.regent_tree.specs.declared.types.Ref.TheVariants.{Named, Wild}
use Rattle.regent_tree.specs.declared.types.TypeTerm.{TypeTerm}
use Rattle.regent_tree.specs.declared.types.TypeTerm.TheVariants as typed
use Rattle.regent_tree.specs.Syntax.{Name, Tree, ItemForm, space_item, task_item, start_item, TaskTree, no_statement}
use Rattle.regent_tree.specs.declared.typing.StaticType.{StaticType}
use Rattle.regent_tree.specs.declared.typing.StaticType.TheVariants.{Integer as integer_type, Truth as truth_type, Index as index_type, Pointer as pointer_type, Ispace as ispace_type, Region as region_type, Partition as partition_type}

-- a region that a type names, or None for `wild`
abbrev pub Reach : Type 0
Reach = Option Term

-- ---- parts of a program

-- the place of a name among parameters or fields
abbrev pub place_in : List Param → Name → ℕ
place_in params n = position_or_len (λ (p : Param). bytes_eq p.name n) params

-- the field spaces in the order of the text
abbrev pub spaces_of : Tree → List FieldSpace
spaces_of [] = []
spaces_of (i ∷ items) = with_space i.form (spaces_of items)
  where
    with_space : ItemForm → List FieldSpace → List FieldSpace
    with_space (space_item s) rest = s ∷ rest
    with_space _ rest = rest

-- the place of a field space among them, by its name
abbrev pub place_of_space : Tree → Name → ℕ
place_of_space tree n = position_or_len (λ (s : FieldSpace). bytes_eq s.name n) (spaces_of tree)

-- the field space at a place
abbrev pub space_at : Tree → ℕ → FieldSpace
space_at tree place =
    get_or (spaces_of tree) place (record { name = []; params = []; fields = [] })

-- the place of a field in its field space
abbrev pub field_place : Tree → ℕ → Name → ℕ
field_place tree space f = place_in (space_at tree space).fields f

abbrev pub no_task : TaskTree
no_task = record { name = []; params = []; result = None; clauses = []; body = no_statement }

-- the task of a name
abbrev pub task_named : Tree → Name → TaskTree
task_named [] n = no_task
task_named (i ∷ items) n = unless_named i.form (task_named items n)
  where
    unless_named : ItemForm → TaskTree → TaskTree
    unless_named (task_item t) rest = cond (bytes_eq t.name n) t rest
    unless_named _ rest = rest

-- the name of the entry task: `main` where no item says one
abbrev pub entry_name : Tree → Name
entry_name [] = 109 ∷ 97 ∷ 105 ∷ 110 ∷ []
entry_name (i ∷ items) = unless_start_item i.form (entry_name items)
  where
    unless_start_item : ItemForm → Name → Name
    unless_start_item (start_item n) rest = n
    unless_start_item _ rest = rest

-- ---- the types that type terms say

-- what a region's name in a type term stands for
abbrev pub Looking : Type 0
Looking = Name → Reach

abbrev pub looked_up : Looking → Ref → Reach
looked_up look Wild = None
looked_up look (Named n) = look n

-- the binding that a reach names
abbrev pub binding_of_term : Term → ℕ
binding_of_term (term.Name i) = i
binding_of_term (term.Child p c) = 0

abbrev pub binding_of : Reach → ℕ
binding_of (Some t) = binding_of_term t
binding_of None = 0

-- the type of a number term
abbrev pub number_type : NumberTerm → StaticType
number_type number.Int32 = integer_type W32
number_type number.Int64 = integer_type W64
number_type (number.Index k) = index_type k

-- the type of a pointer term
abbrev pub written_pointer : Tree → Looking → PointerTerm → StaticType
written_pointer tree look t = pointer_type t.kind (place_of_space tree t.space.name)
    (map (looked_up look) t.space.args) (map (looked_up look) t.regions)

-- the type that a type term says of the binding with a number
abbrev pub type_said : Tree → Looking → ℕ → TypeTerm → StaticType
type_said tree look own (typed.Number t) = number_type t
type_said tree look own typed.Truth = truth_type
type_said tree look own (typed.Pointer t) = written_pointer tree look t
type_said tree look own (typed.Ispace k) = ispace_type k
type_said tree look own (typed.Region k s) =
    region_type k (place_of_space tree s.name) (map (looked_up look) s.args) (term.Name own)
type_said tree look own (typed.Partition d r c) = partition_type d (binding_of (look r)) own

-- ---- fields

-- names in the type of a parameter are parameters, which are bound by their places
abbrev pub among_params : List Param → Looking
among_params params n = Some (term.Name (place_in params n))

-- names in a field's type are parameters of its field space, which stand for its arguments
abbrev pub among_args : List Param → List Reach → Looking
among_args params args n = get_or args (place_in params n) None

-- the term of the field at a place of a field space
abbrev pub field_term : Tree → ℕ → ℕ → TypeTerm
field_term tree space place = get_or
    (map (λ (p : Param). p.term) (space_at tree space).fields) place typed.Truth

-- the type of a field of a field space with its arguments
abbrev pub field_type : Tree → ℕ → List Reach → Name → StaticType
field_type tree space args f = type_said tree (among_args (space_at tree space).params args) 0
    (field_term tree space (field_place tree space f))

-- what the kept numbers of a field mean
abbrev pub number_kind : NumberTerm → FieldKind
number_kind number.Int32 = keeps.Int32
number_kind number.Int64 = keeps.Int64
number_kind (number.Index k) = keeps.Index

abbrev pub kind_said : TypeTerm → FieldKind
kind_said (typed.Number t) = number_kind t
kind_said (typed.Pointer t) = keeps.Pointer
kind_said _ = keeps.Truth

abbrev pub field_kinds : Tree → ℕ → List FieldKind
field_kinds tree space = map (λ (p : Param). kind_said p.term) (space_at tree space).fields

-- what the kept numbers of the field at a place mean
abbrev pub field_kind : Tree → ℕ → ℕ → FieldKind
field_kind tree space place = kind_said (field_term tree space place)
