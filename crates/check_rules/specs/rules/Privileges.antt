-- Rules 8 to 11, on privileges: a field is read, written or reduced, or a task is called, without
-- the privilege on each region in question.
use Rattle.std.specs.List.{list_all, list_any}
use Rattle.std.specs.Prelude.{Bool, List, None, Option, Some, [], cond, false, filter, flat_map, map, not, ℕ, ◌&&◌, ◌==◌, ◌||◌, ◌∷◌}
use Rattle.regent_tree.specs.Scopes.{Scope}
use Rattle.regent_tree.specs.declared.typing.Bound.{Bound}
use Rattle.regent_tree.specs.StaticTypes.{Reach, field_place, place_in, space_at, task_named}
use Rattle.regent_tree.specs.declared.typing.StaticType.{StaticType}
use Rattle.regent_tree.specs.declared.typing.StaticType.TheVariants.{Pointer as pointer_type, Region as region_type}
use Rattle.regent_tree.specs.Syntax.{Expression, Form, Name, Initializer, Steps, TaskTree, Tree, access_expr, assign_form, at_step, by_field_initializer, field_step, fill_form, image_initializer, no_step, preimage_initializer}
use Rattle.regent_tree.specs.Typing.{has_wild}
use Rattle.regent_tree.specs.declared.facts.Known.{Known}
use Rattle.regent_tree.specs.declared.facts.Known.TheVariants.{Made}
use Rattle.regent_tree.specs.declared.facts.Term.{Term}
use Rattle.regent_tree.specs.declared.program.Clause.{Clause}
use Rattle.regent_tree.specs.declared.program.Clause.TheVariants as clause
use Rattle.regent_tree.specs.declared.program.Grant.{Grant}
use Rattle.regent_tree.specs.declared.program.Grant.TheVariants.{Reads, Reduces, Writes}
use Rattle.regent_tree.specs.declared.program.Place.{Place}
use Rattle.regent_tree.specs.declared.statement.How.TheVariants as how
use Rattle.regent_tree.specs.declared.types.Param.{Param}
use Rattle.regent_tree.specs.Facts.{is_subregion}
use Rattle.regent_tree.specs.Rights.{is_granted}
use Rattle.regent_tree.specs.declared.facts.Term.TheVariants as term
use Rattle.regent_tree.specs.declared.rights.Access.{Access}
use Rattle.regent_tree.specs.declared.rights.Access.TheVariants as access
use Rattle.regent_tree.specs.declared.rights.Right.{Right}
use Rattle.regent_tree.specs.declared.rights.Wanted.{Wanted}
use Rattle.check_rules.specs.rules.Clauses.{clauses_told}
use Rattle.check_rules.specs.types.Declarations.{params_bound, params_of}
use Rattle.check_rules.specs.types.KnownTypes.{typed_form_of}
use Rattle.regent_tree.specs.Lookup.{has_field, type_named}
use Rattle.check_rules.specs.types.TypedForms.{Calling, TypedForm, Taking, typed_access, field_of}
use Rattle.check_rules.specs.types.Sorts.{type_at}
use Rattle.check_rules.specs.types.Params.{types_in_order}

-- ---- what a task holds

abbrev pub access_of_grant : Grant → Access
access_of_grant Reads = access.Read
access_of_grant Writes = access.Write
access_of_grant (Reduces o) = access.Reduce o

abbrev pub a_right : ℕ → ℕ → Access → Right
a_right region field a = record { region = region; field = field; access = a }

-- the places of the fields that a clause names; without names it is all of the field space
abbrev pub fields_named : Tree → ℕ → Option (List Name) → List ℕ
fields_named tree s None = map (λ (p : Param). field_place tree s p.name) (space_at tree s).fields
fields_named tree s (Some fs) = map (field_place tree s) (filter (has_field tree s) fs)

-- what a region parameter's privileges are, by the place of the parameter
abbrev pub rights_on : Tree → StaticType → ℕ → List Grant → Option (List Name) → List Right
rights_on tree (region_type k s args r) i grants fs = flat_map
    (λ g. map (λ f. a_right i f (access_of_grant g)) (fields_named tree s fs)) grants
rights_on tree t i grants fs = []

abbrev pub rights_of_place : Tree → List Param → List Grant → Place → List Right
rights_of_place tree params grants p = let i = place_in params p.region in
    rights_on tree (type_at (types_in_order (params_bound tree params)) i) i grants p.fields

abbrev pub rights_of_clause : Tree → List Param → Clause → List Right
rights_of_clause tree params (clause.Grants grants places) =
    flat_map (rights_of_place tree params grants) places
rights_of_clause tree params c = []

-- the privileges that a task declares
abbrev pub rights_declared : Tree → TaskTree → List Right
rights_declared tree t = flat_map (rights_of_clause tree t.params) t.clauses

-- ---- what is allowed

-- a task that makes a region holds all privileges on it
abbrev pub made_above : List Known → Term → Known → Bool
made_above known t (Made i) = is_subregion known t (term.Name i)
made_above known t k = false

abbrev pub may_do : List Right → List Known → Wanted → Bool
may_do rights known w =
    is_granted rights known w || list_any (made_above known w.term) known

-- whether a task may not do all of this, by its privileges and by what is known
abbrev pub lacks : Tree → TaskTree → Scope → List Wanted → Bool
lacks tree t s ws = not (list_all (may_do (rights_declared tree t) s.known) ws)

-- ---- what is wanted

abbrev pub wanting : ℕ → Access → Term → Wanted
wanting f a t = record { term = t; field = f; access = a }

abbrev pub regions_named : List Reach → List Term
regions_named [] = []
regions_named (None ∷ rs) = regions_named rs
regions_named (Some t ∷ rs) = t ∷ regions_named rs

-- a field of a pointer is used in each region of the pointer; where the field isn't there or `wild`
-- is among the regions, that is the breach
abbrev pub wanted_of_pointer : Tree → Access → ℕ → List Reach → Name → List Wanted
wanted_of_pointer tree a s regions f = cond (has_field tree s f && not (has_wild regions))
    (map (wanting (field_place tree s f) a) (regions_named regions)) []

abbrev pub wanted_of_step : Tree → Access → Taking → List Wanted
wanted_of_step tree a (field_of (pointer_type k s args regions) f) =
    wanted_of_pointer tree a s regions f
wanted_of_step tree a taking = []

-- a field of a region
abbrev pub wanted_of_region : Tree → Access → StaticType → Name → List Wanted
wanted_of_region tree a (region_type k s args r) f =
    cond (has_field tree s f) (wanting (field_place tree s f) a r ∷ []) []
wanted_of_region tree a t f = []

-- ---- rule 8: reading

-- each field in an access is read
abbrev pub reads_in : Tree → TypedForm → List Wanted
reads_in tree (typed_access n taken) = flat_map (wanted_of_step tree access.Read) taken
reads_in tree typed_form = []

-- but for a field that is assigned or reduced
abbrev pub read_steps : Steps → Steps
read_steps no_step = no_step
read_steps (field_step f no_step) = no_step
read_steps (field_step f rest) = field_step f (read_steps rest)
read_steps (at_step e rest) = at_step e (read_steps rest)

abbrev pub read_targets : Form → List Expression
read_targets (assign_form n steps h e) = access_expr n (read_steps steps) ∷ []
read_targets form = []

-- a partition operation reads the field of the region that it names
abbrev pub reads_in_initializer : Tree → List Bound → Initializer → List Wanted
reads_in_initializer tree names (by_field_initializer r f e) =
    wanted_of_region tree access.Read (type_named names r) f
reads_in_initializer tree names (image_initializer parent p r f) =
    wanted_of_region tree access.Read (type_named names r) f
reads_in_initializer tree names (preimage_initializer parent p r f) =
    wanted_of_region tree access.Read (type_named names r) f
reads_in_initializer tree names initializer = []

-- ---- rules 9 and 10: writing and reducing

-- the last field of an access
abbrev pub wanted_of_last : Tree → Access → List Taking → List Wanted
wanted_of_last tree a [] = []
wanted_of_last tree a (taking ∷ []) = wanted_of_step tree a taking
wanted_of_last tree a (taking ∷ rest) = wanted_of_last tree a rest

abbrev pub wanted_of_target : Tree → Access → TypedForm → List Wanted
wanted_of_target tree a (typed_access n taken) = wanted_of_last tree a taken
wanted_of_target tree a typed_form = []

abbrev pub writes_by : Tree → Scope → Form → List Wanted
writes_by tree s (assign_form n steps how.Set e) =
    wanted_of_target tree access.Write (typed_form_of tree s (access_expr n steps))
writes_by tree s (fill_form r fields e) =
    flat_map (wanted_of_region tree access.Write (type_named s.names r)) fields
writes_by tree s form = []

abbrev pub reductions_by : Tree → Scope → Form → List Wanted
reductions_by tree s (assign_form n steps (how.Reduce o) e) =
    wanted_of_target tree (access.Reduce o) (typed_form_of tree s (access_expr n steps))
reductions_by tree s form = []

-- ---- rule 11: calling

-- the privileges that a task declares in clauses without a breach
abbrev pub rights_told : Tree → TaskTree → List Right
rights_told tree t = flat_map (rights_of_clause tree t.params) (clauses_told tree t)

-- a called task's privilege on a parameter, as what is wanted of the argument; where the argument
-- has another field space, that is the breach
abbrev pub wanted_of_argument : StaticType → StaticType → Right → List Wanted
wanted_of_argument (region_type k s args r) (region_type j u others t) w =
    cond (s == u) (wanting w.field w.access t ∷ []) []
wanted_of_argument wanted t w = []

abbrev pub wanted_by_call : Tree → Calling → List Wanted
wanted_by_call tree c = flat_map
    (λ (w : Right). wanted_of_argument (type_at (params_of tree c.task) w.region)
    (type_at c.args w.region) w)
    (rights_told tree (task_named tree c.task))
