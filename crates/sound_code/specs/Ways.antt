-- How the regions that a task names are its own, and what its clauses tell of its parameters.
use Rattle.std.specs.Prelude.{ℕ, Option, List, [], ◌∷◌, ◌&&◌, cond, flat_map, length, nat_le, nat_lt, None, Some}
use Rattle.regent_tree.specs.Scopes.{scope_of}
use Rattle.regent_tree.specs.Syntax.{TaskTree, Tree}
use Rattle.regent_tree.specs.declared.facts.Known.{Known}
use Rattle.regent_tree.specs.declared.facts.Known.TheVariants.{Within, Apart, PartOf}
use Rattle.regent_tree.specs.declared.facts.Term.{Term}
use Rattle.regent_tree.specs.declared.facts.Term.TheVariants.{Name, Child}
use Rattle.regent_tree.specs.declared.typing.StaticType.{StaticType}
use Rattle.regent_tree.specs.declared.typing.StaticType.TheVariants.{Integer as integer_type, Truth as truth_type, Index as index_type, Pointer as pointer_type, Ispace as ispace_type, Region as region_type, Partition as partition_type}
use Rattle.fit_rules.specs.Shapes.{Shape, anything, integer, truth, index, pointer, space, region, partition, Origin, unknown, argument, own_root, own_as, part}
use Rattle.fit_rules.specs.Marks.{apart, Fact, in_slot, lies, parted}

-- A task is looked at in one of two ways: as one that made each region which it names, or by the rules on its
-- privileges and constraints, where the regions of its parameters are given. There it is told, of each task, which of its
-- regions began as parts: with the number of the region of which, and of that within which this lies and which began as none.
abbrev pub Tops : Type 0
Tops = TaskTree → ℕ → Option (ℕ × ℕ)

pub data Way : Type 0 where
  all_made : Way
  by_rules : Tops → TaskTree → Way

-- no region began as a part
abbrev pub none_begun : Tops
none_begun task i = None

-- where the region with a number comes from that began as no part: that of a parameter is the argument's, and any other
-- was made under its number
abbrev pub whole_origin : ℕ → ℕ → Origin
whole_origin params i = cond (nat_le params i) (own_as i) (argument i)

-- and behind the parameters one that may have begun as a part
abbrev pub origin_behind : ℕ → ℕ → Option (ℕ × ℕ) → Origin
origin_behind params i None = own_as i
origin_behind params i (Some k) = part (whole_origin params k.1)

-- where a region comes from, by what names it
abbrev pub origin_in : Way → ℕ → Term → Origin
origin_in all_made params r = own_root
origin_in (by_rules tops task) params (Name i) = cond (nat_le params i) (origin_behind params i (tops task i)) (argument i)
origin_in (by_rules tops task) params (Child p c) = unknown

-- the shape of a value of a type
abbrev pub shape_of : StaticType → Shape
shape_of (integer_type w) = integer w
shape_of truth_type = truth
shape_of (index_type k) = index
shape_of (pointer_type k sp args rs) = pointer (length rs)
shape_of (ispace_type k) = space
shape_of (region_type k sp args r) = region (Some sp) own_root
shape_of (partition_type d r p) = partition None d
shape_of _ = anything

-- the shape of what a name of a type stands for
abbrev pub shape_in : Way → ℕ → StaticType → Shape
shape_in way params (region_type k sp args r) = region (Some sp) (origin_in way params r)
shape_in way params t = shape_of t

-- what a constraint tells of parameters in their slots, and a partition's type
abbrev pub told_by : ℕ → Known → List Fact
told_by params (Within (Name a) (Name b)) = cond (nat_lt a params && nat_lt b params) (lies (in_slot a) (in_slot b) ∷ []) []
told_by params (Apart (Name a) (Name b)) = cond (nat_lt a params && nat_lt b params) (apart (in_slot a) (in_slot b) ∷ []) []
told_by params (PartOf p r d) = cond (nat_lt p params && nat_lt r params) (parted p r ∷ []) []
told_by params k = []

-- what is known of a task's parameters where it begins
abbrev pub opening_facts : Way → Tree → TaskTree → List Fact
opening_facts all_made tree t = []
opening_facts (by_rules tops task) tree t = flat_map (told_by (length t.params)) (scope_of tree t).known
