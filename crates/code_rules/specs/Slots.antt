-- Where the values of names stand in a task instance's slots.
--
-- Parameters have the first slots, in order. Each further place of a name in scope has three slots:
-- the variable; a loop's counter; and a loop's limit or domain, or the region of a pointer whose type
-- is that of a child. Behind those of all names in scope stand spare slots, counted from 0. There wait
-- the regions of children that are in use, by their depth; a number that is filled in or folded, in the
-- first; and what a launch passes on at each colour, by its place in the call. The first spare slot is the
-- third one of the name that is bound next, so that the region of a new pointer stands there already.
use Rattle.std.specs.Prelude.{ℕ, List, map, Bool, true, false, cond, Some, None, length, ◌*◌, ◌+◌, ◌-◌}
use Rattle.regent_tree.specs.declared.facts.Term.{Term}
use Rattle.regent_tree.specs.declared.facts.Term.TheVariants as term
use Rattle.regent_tree.specs.declared.typing.Bound.{Bound}
use Rattle.regent_tree.specs.declared.typing.StaticType.{StaticType}
use Rattle.regent_tree.specs.declared.typing.StaticType.TheVariants.{Region as region_type, Partition as partition_type}
use Rattle.regent_tree.specs.Syntax.{Name, Tree, Expression}
use Rattle.regent_tree.specs.StaticTypes.{Reach}
use Rattle.regent_tree.specs.Scopes.{Scope, bound_to, bound_as}
use Rattle.regent_tree.specs.Typing.{type_of, reaches_of}

-- where a construct stands: in which program and scope, in a task with which result, on which line
pub record Where : Type 0 where
  pub tree : Tree
  pub scope : Scope
  pub result : StaticType
  pub params : ℕ
  pub line : ℕ

abbrev pub typed : Where → Expression → StaticType
typed w e = type_of w.tree w.scope e

abbrev pub slot : Where → ℕ → ℕ
slot w place = place + 2 * (place - w.params)

abbrev pub counter : Where → ℕ → ℕ
counter w place = slot w place + 1

abbrev pub beside : Where → ℕ → ℕ
beside w place = slot w place + 2

-- the spare slot with this number, and the one for a result: the third and the first slot of a place behind the names
abbrev pub spare : Where → ℕ → ℕ
spare w d = beside w (length w.scope.names + d)

abbrev pub result : Where → ℕ → ℕ
result w d = slot w (length w.scope.names + d)

abbrev pub bound : Where → Name → Bound
bound w n = bound_to w.scope.names n

abbrev pub slot_named : Where → Name → ℕ
slot_named w n = slot w (bound w n).place

abbrev pub slot_bound : Where → ℕ → ℕ
slot_bound w i = slot w (bound_as w.scope.names i).place

-- the slot of a region that a pointer's type names; a child's is told
abbrev pub slot_of_term : Where → ℕ → Term → ℕ
slot_of_term w own (term.Name i) = slot_bound w i
slot_of_term w own (term.Child p c) = own

abbrev pub slot_of_reach : Where → ℕ → Reach → ℕ
slot_of_reach w own (Some t) = slot_of_term w own t
slot_of_reach w own None = 0

abbrev pub slots_of : Where → ℕ → StaticType → List ℕ
slots_of w own t = map (slot_of_reach w own) (reaches_of t)

-- regions and partitions stay in their slots while an access goes through them
abbrev pub stays : StaticType → Bool
stays (region_type k sp args r) = true
stays (partition_type d r p) = true
stays _ = false

-- the slot with the region of a variable's value: a region's own, or the one beside a pointer
abbrev pub own_slot : Where → StaticType → ℕ → ℕ
own_slot w t place = cond (stays t) (slot w place) (beside w place)
