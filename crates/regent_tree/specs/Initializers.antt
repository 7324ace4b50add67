-- Initializers of variables: new regions, partitions, and expressions.
use Rattle.std.specs.Prelude.{ℕ, ℤ, pos, List, [], ◌∷◌, ◌++◌, map, length, Bool, true, false, Option, Some, None, nat_le}
use Rattle.lane_kernels.specs.declared.numbers.FieldKind.{FieldKind}
use Rattle.lane_kernels.specs.declared.numbers.FieldKind.TheVariants.{Pointer}
use Rattle.lane_kernels.specs.declared.numbers.Mode.TheVariants.{Read}
use Rattle.plain_values.specs.Points.{points}
use Rattle.regent_tree.specs.declared.outcome.FaultKind.TheVariants.{BadSize}
use Rattle.regent_tree.specs.declared.types.SpaceUse.{SpaceUse}
use Rattle.regent_tree.specs.declared.types.TypeTerm.{TypeTerm}
use Rattle.regent_tree.specs.Syntax.{Name, Expression, Initializer, region_initializer, equal_initializer, by_field_initializer, image_initializer, preimage_initializer, both_initializer, either_initializer, plain_initializer}
use Rattle.regent_tree.specs.Partitions.{equal_sets, by_field_sets, image_sets, preimage_sets, both_sets, either_sets, equal_flag, by_field_flag, image_flag, preimage_flag, both_flag, either_flag}
use Rattle.regent_tree.specs.Values.{Value, a_number, a_truth, an_index, a_pointer, a_region, a_partition, null_target, Region, Partition, size_of, region_of, partition_of}
use Rattle.regent_tree.specs.Store.{new_root, read_at, touch_all}
use Rattle.regent_tree.specs.StaticTypes.{field_place, field_kind, field_kinds, place_of_space}
use Rattle.regent_tree.specs.declared.typing.StaticType.{StaticType}
use Rattle.regent_tree.specs.declared.typing.StaticType.TheVariants.{Integer as integer_type, Index as index_type, Pointer as pointer_type}
use Rattle.regent_tree.specs.Scopes.{Scope}
use Rattle.regent_tree.specs.Typing.{reaches_of}
use Rattle.regent_tree.specs.Running.{Here, Run, given, ◌>>=◌, state, change, fault, if_true, touch}
use Rattle.regent_tree.specs.Accesses.{converted, regions_reached, space_in}
use Rattle.regent_tree.specs.Evaluation.{value, named_value, static_type_of, typed}

-- the value of a variable of a type without an initializer: 0, false or null
abbrev pub zero_of : Scope → List Value → StaticType → Value
zero_of s names (integer_type w) = a_number w (pos 0)
zero_of s names (index_type k) = an_index (pos 0)
zero_of s names (pointer_type k sp args reaches) =
    a_pointer null_target (regions_reached s names reaches)
zero_of s names _ = a_truth false

-- a new root of a size, with the fields of a field space
abbrev pub make_root : Here → SpaceUse → ℕ → Run Value
make_root h u n = do
  let space = place_of_space h.tree u.name
  s ← state
  _ ← change (λ t. record t {
    store = t.store ++ new_root space n (field_kinds h.tree space) ∷ [];
  })
  given (a_region (record { root = length s.store; points = points n }))

-- the number of colours that an index space has; over 65,536 is a fault
abbrev pub colours : Here → Value → Run ℕ
colours h v = if_true (nat_le (size_of v) 65536) (given (size_of v)) (fault h BadSize)

-- the region, and the partition, that a name has
abbrev pub region_named : Here → Name → Run Region
region_named h n = do
  v ← named_value h n
  given (region_of v)

abbrev pub partition_named : Here → Name → Run Partition
partition_named h n = do
  v ← named_value h n
  given (partition_of v)

-- whether a field keeps pointers
abbrev pub keeps_pointers : FieldKind → Bool
keeps_pointers Pointer = true
keeps_pointers _ = false

-- the numbers of a field of a region of a type, and whether they are pointers; a partition
-- operation reads the field at each point of the region that it names
pub record Column : Type 0 where
  pub numbers : List ℤ
  pub pointers : Bool

abbrev pub read_all : Here → StaticType → Region → Name → Run Column
read_all h t r f = do
  s ← state
  let place = field_place h.tree (space_in t) f
  _ ← touch (touch_all r.root place Read r.points)
  given (record {
    numbers = map (read_at s.store r.root place) r.points;
    pointers = keeps_pointers (field_kind h.tree (space_in t) place);
  })

-- a partition of a root
abbrev pub partitioned : ℕ → Bool → List (List ℕ) → Value
partitioned root disjoint sets =
    a_partition (record { root = root; disjoint = disjoint; sets = sets })

-- an expression as an initializer: where a type is declared, it is converted to it
abbrev pub plain_initial : Here → Option TypeTerm → StaticType → Expression → Run Value
plain_initial h None wanted e = value h e
plain_initial h (Some t) wanted e = do
  v ← value h e
  s ← state
  converted h (typed h e) wanted (regions_reached h.scope s.names (reaches_of wanted)) v

-- the initializer of a variable of a type; an `image` or `preimage` reads the field of a region in
-- which the old partition, or the new one's parent, lies
abbrev pub initialized : Here → Option TypeTerm → StaticType → Initializer → Run Value
initialized h t wanted (region_initializer e u) = do
  v ← value h e
  make_root h u (size_of v)
initialized h t wanted (equal_initializer r e) = do
  v ← value h e
  n ← colours h v
  a ← region_named h r
  given (partitioned a.root equal_flag (equal_sets a.points n))
initialized h t wanted (by_field_initializer r f e) = do
  v ← value h e
  n ← colours h v
  a ← region_named h r
  c ← read_all h (static_type_of h r) a f
  given (partitioned a.root by_field_flag (by_field_sets a.points c.numbers n))
initialized h t wanted (image_initializer parent p r f) = do
  a ← region_named h parent
  q ← partition_named h p
  b ← region_named h r
  c ← read_all h (static_type_of h r) b f
  given (partitioned a.root image_flag
      (image_sets a.points q.sets b.points c.numbers c.pointers))
initialized h t wanted (preimage_initializer parent p r f) = do
  a ← region_named h parent
  q ← partition_named h p
  b ← region_named h r
  c ← read_all h (static_type_of h r) b f
  given (partitioned a.root (preimage_flag q.disjoint)
      (preimage_sets a.points q.sets b.points c.numbers c.pointers))
initialized h t wanted (both_initializer p q) = do
  a ← partition_named h p
  b ← partition_named h q
  given (partitioned a.root (both_flag a.disjoint b.disjoint) (both_sets a.sets b.sets))
initialized h t wanted (either_initializer p q) = do
  a ← partition_named h p
  b ← partition_named h q
  given (partitioned a.root either_flag (either_sets a.sets b.sets))
initialized h t wanted (plain_initializer e) = plain_initial h t wanted e

-- the first value of a variable of a type
abbrev pub initial_value : Here → Option TypeTerm → StaticType → Option Initializer → Run Value
initial_value h t wanted None = do
  s ← state
  given (zero_of h.scope s.names wanted)
initial_value h t wanted (Some initializer) = initialized h t wanted initializer
