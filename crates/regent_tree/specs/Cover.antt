-- When a touch is covered by what the task that made it declares.
use Rattle.std.specs.Prelude.{ℕ, List, get_or, Bool, true, false, ◌&&◌, ◌||◌, ◌==◌, nat_le, Option, Some, None}
use Rattle.std.specs.List.{list_any}
use Rattle.lane_kernels.specs.declared.numbers.Mode.{Mode}
use Rattle.lane_kernels.specs.declared.numbers.Mode.TheVariants as mode
use Rattle.lane_kernels.specs.Modes.{same_op}
use Rattle.regent_tree.specs.declared.program.Clause.{Clause}
use Rattle.regent_tree.specs.declared.program.Clause.TheVariants as clause
use Rattle.regent_tree.specs.declared.program.Grant.{Grant}
use Rattle.regent_tree.specs.declared.program.Grant.TheVariants as grant
use Rattle.regent_tree.specs.declared.program.Place.{Place}
use Rattle.regent_tree.specs.Syntax.{Name, Tree, TaskTree}
use Rattle.plain_values.specs.Points.{has}
use Rattle.regent_tree.specs.Values.{Value, a_truth, Region, region_of}
use Rattle.regent_tree.specs.Store.{Touch}
use Rattle.regent_tree.specs.StaticTypes.{place_in, field_place}
use Rattle.regent_tree.specs.declared.typing.StaticType.TheVariants.{Unknown as unknown_type}
use Rattle.regent_tree.specs.Typing.{param_types}
use Rattle.regent_tree.specs.Accesses.{space_in}

-- whether a privilege is for this access
abbrev pub is_for : Mode → Grant → Bool
is_for mode.Read grant.Reads = true
is_for mode.Write grant.Writes = true
is_for (mode.Reduce o) (grant.Reduces p) = same_op o p
is_for _ _ = false

-- whether a place names this field of its field space; without a list of fields it names all
abbrev pub names_field : Tree → ℕ → ℕ → Option (List Name) → Bool
names_field tree space field None = true
names_field tree space field (Some names) =
    list_any (λ n. field_place tree space n == field) names

-- the region that a parameter has among a call's arguments, and the parameter's field space
abbrev pub argument_named : TaskTree → List Value → Name → Region
argument_named task args n = region_of (get_or args (place_in task.params n) (a_truth false))

abbrev pub space_named : Tree → TaskTree → Name → ℕ
space_named tree task n =
    space_in (get_or (param_types tree task) (place_in task.params n) unknown_type)

-- whether a touch is of a place: its point in the region there, its field among the fields
abbrev pub is_at : Tree → TaskTree → List Value → Touch → Place → Bool
is_at tree task args t place =
    let r = argument_named task args place.region in
    (r.root == t.root) && has r.points t.point
    && names_field tree (space_named tree task place.region) t.field place.fields

-- whether a clause grants an access of what a touch is of
abbrev pub grants_it : Tree → TaskTree → List Value → Touch → Mode → Clause → Bool
grants_it tree task args t access (clause.Grants grants places) =
    list_any (is_for access) grants && list_any (is_at tree task args t) places
grants_it tree task args t access _ = false

-- whether a task declares an access on the field, at the point, of a touch
abbrev pub is_declared : Tree → TaskTree → List Value → Touch → Mode → Bool
is_declared tree task args t access = list_any (grants_it tree task args t access) task.clauses

-- an access is covered where it is declared; a reduction also where reads and writes both are
abbrev pub is_access_covered : Tree → TaskTree → List Value → Touch → Mode → Bool
is_access_covered tree task args t (mode.Reduce o) =
    is_declared tree task args t (mode.Reduce o)
    || (is_declared tree task args t mode.Read && is_declared tree task args t mode.Write)
is_access_covered tree task args t access = is_declared tree task args t access

-- A touch of a task is covered where the task made the root itself, as it did those that come
-- behind the roots that were there when it was called, or where the touch's access is covered.
abbrev pub is_covered : Tree → ℕ → TaskTree → List Value → Touch → Bool
is_covered tree roots task args t =
    nat_le roots t.root || is_access_covered tree task args t t.access
