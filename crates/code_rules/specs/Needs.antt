-- The declared needs of a task: one for each privilege, region and field that a clause names.
use Rattle.std.specs.Prelude.{ℕ, List, [], ◌∷◌, ◌++◌, map, Option, Some, None, length}
use Rattle.plain_values.specs.Points.{points}
use Rattle.lane_kernels.specs.declared.numbers.Mode.{Mode}
use Rattle.lane_kernels.specs.declared.numbers.Mode.TheVariants as mode
use Rattle.regent_tree.specs.declared.program.Clause.{Clause}
use Rattle.regent_tree.specs.declared.program.Clause.TheVariants as clause
use Rattle.regent_tree.specs.declared.program.Grant.{Grant}
use Rattle.regent_tree.specs.declared.program.Grant.TheVariants as grant
use Rattle.regent_tree.specs.declared.program.Place.{Place}
use Rattle.regent_tree.specs.Cover.{space_named}
use Rattle.regent_tree.specs.StaticTypes.{place_in, field_place, space_at}
use Rattle.regent_tree.specs.Syntax.{Name, Tree, TaskTree}
use Rattle.task_code.specs.declared.code.NeedCode.{NeedCode}

abbrev pub mode_of : Grant → Mode
mode_of grant.Reads = mode.Read
mode_of grant.Writes = mode.Write
mode_of (grant.Reduces o) = mode.Reduce o

abbrev pub fields_said : Tree → ℕ → Option (List Name) → List ℕ
fields_said tree space None = points (length (space_at tree space).fields)
fields_said tree space (Some names) = map (field_place tree space) names

abbrev pub needs_of_place : Tree → TaskTree → Mode → Place → List NeedCode
needs_of_place tree t m p = map
    (λ f. record { param = place_in t.params p.region; field = f; mode = m })
    (fields_said tree (space_named tree t p.region) p.fields)

abbrev pub needs_of_places : Tree → TaskTree → Mode → List Place → List NeedCode
needs_of_places tree t m [] = []
needs_of_places tree t m (p ∷ ps) = needs_of_place tree t m p ++ needs_of_places tree t m ps

abbrev pub needs_of_grants : Tree → TaskTree → List Grant → List Place → List NeedCode
needs_of_grants tree t [] places = []
needs_of_grants tree t (g ∷ gs) places =
    needs_of_places tree t (mode_of g) places ++ needs_of_grants tree t gs places

abbrev pub needs_of_clause : Tree → TaskTree → Clause → List NeedCode
needs_of_clause tree t (clause.Grants grants places) = needs_of_grants tree t grants places
needs_of_clause tree t _ = []

abbrev pub needs_of_clauses : Tree → TaskTree → List Clause → List NeedCode
needs_of_clauses tree t [] = []
needs_of_clauses tree t (c ∷ cs) = needs_of_clause tree t c ++ needs_of_clauses tree t cs
