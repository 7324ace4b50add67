-- The shapes of names in scope: what a mark between two statements says.
use Rattle.std.specs.Prelude.{◌≡◌, ℕ, zero, suc, ◌<◌, ◌≤◌, ◌+◌, ◌*◌, ◌-◌, List, [], ◌∷◌, length, map, Some, slice_get, nat_lt, Bool, false, true, ◌||◌}
use Rattle.regent_tree.specs.Accesses.{space_in}
use Rattle.regent_tree.specs.Scopes.{bound_as}
use Rattle.regent_tree.specs.Typing.{parent_of}
use Rattle.regent_tree.specs.declared.facts.Term.TheVariants.{Child, Name}
use Rattle.regent_tree.specs.declared.typing.Bound.{Bound}
use Rattle.regent_tree.specs.declared.typing.StaticType.{StaticType}
use Rattle.regent_tree.specs.declared.typing.StaticType.TheVariants.{Pointer as pointer_type}
use Rattle.code_laws.specs.Simple.{IsPartition, IsRegion}
use Rattle.task_code.specs.declared.code.Line.{Line}
use Rattle.task_code.specs.declared.code.TaskCode.{TaskCode}
use Rattle.machine_terms.specs.Jumps.{fetch}
use Rattle.code_rules.specs.Used.{slots_used}
use Rattle.fit_rules.specs.Shapes.{awaited, index, integer, truth, Among, cut_from, Each, Shape, anything, child_at, held_at, region, Origin, own_as, part}
use Rattle.fit_rules.specs.Marks.{any_colour, apart, child_in, Colour, colour_in, counts, Fact, in_slot, lies, Mark, parted, point_in, the_colour}
pub use Rattle.code_rules.specs.Statements.{is_still}
use Rattle.sound_code.specs.Ways.{all_made, by_rules, Way, origin_in, shape_in}
use Rattle.code_laws.specs.Coloured.{IsBoundIn}

-- the slot of a place
abbrev pub slot_at : ℕ → ℕ → ℕ
slot_at params place = place + 2 * (place - params)

-- In the slot of a number that may be assigned a child may be pending. That of a parameter and of a loop's variable may not be.
abbrev pub pended : Shape → Shape
pended (integer w) = awaited (integer w)
pended truth = awaited truth
pended index = awaited index
pended s = s

abbrev pub slot_shape : Bool → Shape → Shape
slot_shape true s = s
slot_shape false s = pended s

abbrev pub name_shape : Way → ℕ → Bound → Shape
name_shape way params b = slot_shape (is_still params b) (shape_in way params b.static_type)

-- the names in scope stand in their slots
abbrev pub AreNamed : Way → ℕ → List Shape → List Bound → Type 0
AreNamed way params ss [] = Unit {0}
AreNamed way params ss (b ∷ bs) = (b.place ≡ length bs)
    × (slice_get ss (slot_at params b.place) ≡ Some (name_shape way params b)) × AreNamed way params ss bs

-- each slot that an instruction names is there
abbrev pub HasSlots : TaskCode → ℕ → Type 0
HasSlots t n = (pc : ℕ) (l : Line) → fetch t.body pc ≡ Some l → slots_used l.instr ≤ n

-- the slot of a loop's variable in scope, which stays as it is in the loop's body
pub record IsLoopSlot (params : ℕ) (bs : List Bound) (s : ℕ) : Type 0 where
  pub variable : Bound
  pub there : IsBoundIn bs variable
  pub by_loop : variable.by_loop ≡ true
  pub slot : s ≡ slot_at params variable.place

-- a colour that names no slot, or such a one
abbrev pub IsSteadyColour : ℕ → List Bound → Colour → Type 0
IsSteadyColour params bs (the_colour z) = Unit {0}
IsSteadyColour params bs (colour_in s) = IsLoopSlot params bs s
IsSteadyColour params bs (point_in s) = IsLoopSlot params bs s
IsSteadyColour params bs any_colour = Unit {0}

-- A fact of a loop over points: its counter, beside the slot of its variable, and its domain, behind. Or one of
-- regions that are parameters. Or of which name's region another name's partition is, or within which another name's
-- region lies, which began as a part, and which child of a partition that is.
pub data IsSteady (params n : ℕ) (bs : List Bound) : Fact → Type 0 where
  is_count : (p : ℕ) → params ≤ p → p < n → IsSteady params n bs (counts (slot_at params p + 1) (slot_at params p + 2))
  is_within : (i j : ℕ) → i < params → j < params → IsSteady params n bs (lies (in_slot i) (in_slot j))
  is_apart : (i j : ℕ) → i < params → j < params → IsSteady params n bs (apart (in_slot i) (in_slot j))
  is_parted : (i j : ℕ) → i < n → j < n → IsSteady params n bs (parted (slot_at params i) (slot_at params j))
  is_piece : (i p : ℕ) (c : Colour) → i < n → p < n → IsSteadyColour params bs c →
      IsSteady params n bs (lies (in_slot (slot_at params i)) (child_in (slot_at params p) c))
  is_begun : (i j : ℕ) → i < n → j < n → IsSteady params n bs (lies (in_slot (slot_at params i)) (in_slot (slot_at params j)))

-- what has a shape is of a root that was made under the number of a name, if under any
abbrev pub IsOfNumber : List Bound → Origin → Type 0
IsOfNumber bs (own_as i) = Among (map (λ (b : Bound). b.number) bs) i
IsOfNumber bs (part o) = IsOfNumber bs o
IsOfNumber bs (child_at s c o) = IsOfNumber bs o
IsOfNumber bs (held_at s o) = IsOfNumber bs o
IsOfNumber bs o = Unit {0}

abbrev pub IsNumbered : List Bound → Shape → Type 0
IsNumbered bs (region sp o) = IsOfNumber bs o
IsNumbered bs (cut_from sp d o) = IsOfNumber bs o
IsNumbered bs s = Unit {0}

-- what a partition's parent is bound to
abbrev pub parent_as : List Bound → ℕ → Bound
parent_as bs p = bound_as bs (parent_of (bound_as bs p).static_type)

-- Beside a pointer into a part, which no parameter is, stands a region of its field space, which lies within that of which
-- the part's partition is.
pub record IsPartBeside (way : Way) (params : ℕ) (ss : List Shape) (place sp : ℕ) (partition parent : Bound) : Type 0 where
  pub behind : params ≤ place
  pub is_partition : IsPartition partition.static_type
  pub is_region : IsRegion parent.static_type
  pub space : space_in parent.static_type ≡ sp
  pub shape : slice_get ss (slot_at params place + 2)
      ≡ Some (region (Some sp) (part (origin_in way params (Name (parent_of partition.static_type)))))

abbrev pub HasPartBeside : Way → ℕ → List Shape → List Bound → ℕ → StaticType → Type 0
HasPartBeside way params ss bs place (pointer_type k sp args (Some (Child p c) ∷ rs)) =
    IsPartBeside way params ss place sp (bound_as bs p) (parent_as bs p)
HasPartBeside way params ss bs place t = Unit {0}

-- so of each name, by those that were bound before it
abbrev pub HavePartsBeside : Way → ℕ → List Shape → List Bound → Type 0
HavePartsBeside way params ss [] = Unit {0}
HavePartsBeside way params ss (b ∷ bs) = HasPartBeside way params ss bs b.place b.static_type × HavePartsBeside way params ss bs

-- those among the names whose slots may name the colours of parts: where a task is looked at by the rules, the variables of loops stay
abbrev pub loops_in : Way → List Bound → List Bound
loops_in all_made bs = []
loops_in (by_rules tops task) bs = bs

-- the slots behind those of names of which nothing is known, where so many spare slots are in use
abbrev pub IsFreeFrom : ℕ → ℕ → ℕ → Type 0
IsFreeFrom d n s = n + 3 * d ≤ s

-- A mark stands between two statements, or within one, where so many spare slots are in use: the names have their shapes, of the slots behind those of the
-- names nothing is known, roots are those of names, and facts speak of the counters of loops around, of parameters, of
-- the partitions that names have, and of regions that began as parts. Beside pointers into parts stand the parts. The slots of names
-- stay as they are while something stands on the stack.
pub record ReadyAt (deep : ℕ) (way : Way) (params : ℕ) (bs : List Bound) (m : Mark) : Type 0 where
  pub named : AreNamed way params m.slots bs
  pub beside : HavePartsBeside way params m.slots bs
  pub free : (s : ℕ) → IsFreeFrom deep (slot_at params (length bs)) s → s < length m.slots →
      slice_get m.slots s ≡ Some anything
  pub numbered : Each (IsNumbered bs) m.slots
  pub facts : Each (IsSteady params (length bs) (loops_in way bs)) m.facts
  pub low : params ≤ length bs
  pub fixed : m.fixed ≡ slot_at params (length bs)

-- between two statements
abbrev pub Ready : Way → ℕ → List Bound → Mark → Type 0
Ready way params bs m = ReadyAt 0 way params bs m

-- shapes tell at least what others tell
pub data Narrower : List Shape → List Shape → Type 0 where
  narrow_none : Narrower [] []
  narrow_same : (s : Shape) (ss us : List Shape) → Narrower ss us → Narrower (s ∷ ss) (s ∷ us)
  narrow_any : (s : Shape) (ss us : List Shape) → Narrower ss us → Narrower (s ∷ ss) (anything ∷ us)
