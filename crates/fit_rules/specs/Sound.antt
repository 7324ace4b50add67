-- Sound code: what each instruction makes of the mark at its place.
use Rattle.std.specs.Prelude.{◌≡◌, ◌≢◌, ℕ, suc, ℤ, pos, ◌+ℤ◌, int_lt, ◌<◌, ◌≤◌, ◌^◌, List, [], ◌∷◌, Bool, true, false, ◌||◌, Option, Some, slice_get, slice_set, length}
use Rattle.lane_kernels.specs.declared.numbers.Mode.{Mode}
use Rattle.lane_kernels.specs.declared.numbers.Mode.TheVariants as mode
use Rattle.lane_kernels.specs.declared.numbers.Op.{Op}
use Rattle.lane_kernels.specs.declared.numbers.Width.{Width}
use Rattle.lane_kernels.specs.Numbers.{width_of}
use Rattle.plain_values.specs.Points.{has}
use Rattle.index_launch.specs.Points.{call_at}
use Rattle.index_launch.specs.declared.points.LaunchArg.{LaunchArg}
use Rattle.index_launch.specs.declared.points.LaunchArg.TheVariants as launch_arg
use Rattle.regent_tree.specs.declared.expression.Arithmetic.{Arithmetic}
use Rattle.regent_tree.specs.declared.expression.Comparison.{Comparison}
use Rattle.region_tree.specs.Requirements.{IsWithin}
use Rattle.task_code.specs.declared.code.Line.{Line}
use Rattle.task_code.specs.declared.code.SpaceCode.{SpaceCode}
use Rattle.task_code.specs.declared.code.TaskCode.{TaskCode}
use Rattle.task_code.specs.declared.instr.Instr.{Instr}
use Rattle.task_code.specs.declared.instr.Instr.TheVariants as instr
use Rattle.task_code.specs.declared.instr.PrintPart.{PrintPart}
use Rattle.machine_terms.specs.declared.value.RegionValue.{RegionValue}
use Rattle.machine_terms.specs.declared.value.Value.{Value}
use Rattle.machine_terms.specs.declared.value.Value.TheVariants as value
use Rattle.machine_terms.specs.Calls.{count_numbers}
use Rattle.machine_terms.specs.Jumps.{may_jump, fetch, taken, point_at}
use Rattle.machine_terms.specs.Launches.{arguments}
use Rattle.machine_terms.specs.Pointers.{region_in}
use Rattle.code_rules.specs.Instructions.{computing, comparing}
use Rattle.fit_rules.specs.Shapes.{Among, Each, Is, IsPlain, child_at, held_at, Shape, integer, truth, index, pointer, space, region, partition, cut_from, awaited, Numeric, NumberIs, Origin, own_as, part, unknown, World, KnowsRoots, Are}
use Rattle.fit_rules.specs.Marks.{counts, lies, in_slot, the_colour, colour_in, point_in, Colour, around, child_in, top_colour, top_at, top_parted, parted, Mark, Suits, Into, Stores, ColoursStand, stacked, topped}
use Rattle.fit_rules.specs.Fits.{Begins, Program, kind_at, shape_at, Covers, declared_claims, claims}
use Rattle.fit_rules.specs.Ends.{IsNeeded}

-- a shape of which nothing is pending
pub data Settled : Shape → Type 0 where
  settled_number : (s : Shape) → Numeric s → Settled s
  settled_space : Settled space
  settled_region : (sp : Option ℕ) (o : Origin) → Settled (region sp o)
  settled_partition : (sp : Option ℕ) (d : Bool) → Settled (partition sp d)
  settled_cut : (sp : Option ℕ) (d : Bool) (o : Origin) → Settled (cut_from sp d o)

-- what comes from there isn't known to be of the root that the task made last under a number, and so of a shape
abbrev pub IsElsewhere : ℕ → Origin → Type 0
IsElsewhere i (own_as j) = i ≢ j
IsElsewhere i (part o) = IsElsewhere i o
IsElsewhere i (child_at s c o) = IsElsewhere i o
IsElsewhere i (held_at s o) = IsElsewhere i o
IsElsewhere i o = Unit {0}

abbrev pub IsOther : ℕ → Shape → Type 0
IsOther i (region sp o) = IsElsewhere i o
IsOther i (cut_from sp d o) = IsElsewhere i o
IsOther i s = Unit {0}

-- so many values are taken from a stack, the lowest first, before those that were taken
pub data Takes : ℕ → List Shape → List Shape → List Shape → List Shape → Type 0 where
  takes_none : (ss us : List Shape) → Takes 0 ss us us ss
  takes_more : (n : ℕ) (s : Shape) (ss us args rest : List Shape) → Settled s →
      Takes n ss (s ∷ us) args rest → Takes (suc n) (s ∷ ss) us args rest

-- a region is in a slot, and a partition
pub record HasRegion (m : Mark) (sp : Option ℕ) (s : ℕ) : Type 0 where
  pub origin : Origin
  pub shape : slice_get m.slots s ≡ Some (region sp origin)

pub record HasPartition (m : Mark) (sp : Option ℕ) (s : ℕ) : Type 0 where
  pub disjoint : Bool
  pub shape : slice_get m.slots s ≡ Some (partition sp disjoint)

-- what a launch hands over by the name of a slot is there: a partition, or what isn't pending
abbrev pub HasArgument : Mark → LaunchArg → Type 0
HasArgument m (launch_arg.Child s) = (sp : Option ℕ) × HasPartition m sp s
HasArgument m (launch_arg.Keep s) = (a : Shape) × (slice_get m.slots s ≡ Some a) × Settled a
HasArgument m _ = Unit {0}

module _ (g : Program) (t : TaskCode) where
  -- An access to a field through the region in a slot is allowed at a mark: it is a region of the
  -- field space, and the task may touch the field at each of its points.
  pub record Allowed (m : Mark) (sp f : ℕ) (a : Mode) (s : ℕ) : Type 0 where
    pub origin : Origin
    pub shape : slice_get m.slots s ≡ Some (region (Some sp) origin)
    pub covers : (x : World) (vs st : List Value) → Suits x t.params m vs st → (r : RegionValue) →
        region_in (slice_get vs s) ≡ Some r → (p : ℕ) → has r.points p ≡ true →
        Covers g x t r.root.0 f p a

  -- one through a pointer, whose regions are in these slots
  abbrev pub Through : Mark → ℕ → ℕ → Mode → ℕ → List ℕ → Type 0
  Through m sp f a n rs = (n ≤ length rs) × Each (Allowed m sp f a) rs

  -- An instruction that goes on behind itself, or stops, and changes no slot: with the stack before
  -- and after.
  pub data Effect (m : Mark) : Instr → List Shape → List Shape → Type 0 where
    does_num : (z : ℤ) (s : Shape) (ss : List Shape) → NumberIs s z →
        Effect m (instr.Num z) ss (s ∷ ss)
    does_load : (i : ℕ) (s : Shape) (ss : List Shape) → slice_get m.slots i ≡ Some s → Settled s → IsPlain s →
        Effect m (instr.Load i) ss (s ∷ ss)
    -- so is one that is known, in its slot, to be of another shape
    does_load_as : (i : ℕ) (a s : Shape) (ss : List Shape) → slice_get m.slots i ≡ Some a → Settled s →
        ((x : World) (vs st : List Value) → Suits x t.params m vs st → (v : Value) → slice_get vs i ≡ Some v → Is (around x m vs) s v) →
        Effect m (instr.Load i) ss (s ∷ ss)
    does_drop : (s : Shape) (ss : List Shape) → Effect m instr.Drop (s ∷ ss) ss
    does_compute : (o : Arithmetic) (w : Width) (a b : Shape) (ss : List Shape) → Numeric a →
        Numeric b → Effect m (computing o w) (b ∷ a ∷ ss) (integer w ∷ ss)
    does_compare : (c : Comparison) (a b : Shape) (ss : List Shape) → Numeric a → Numeric b →
        Effect m (comparing c false) (b ∷ a ∷ ss) (truth ∷ ss)
    does_pointers_equal : (a b : Shape) (ss : List Shape) → Numeric a → Numeric b →
        Effect m instr.PtrEq (b ∷ a ∷ ss) (truth ∷ ss)
    does_pointers_differ : (a b : Shape) (ss : List Shape) → Numeric a → Numeric b →
        Effect m instr.PtrNe (b ∷ a ∷ ss) (truth ∷ ss)
    does_negate : (w : Width) (a : Shape) (ss : List Shape) → Numeric a →
        Effect m (instr.Neg w) (a ∷ ss) (integer w ∷ ss)
    does_wrap : (w : Width) (a : Shape) (ss : List Shape) → Numeric a →
        Effect m (instr.Wrap w) (a ∷ ss) (integer w ∷ ss)
    does_invert : (a : Shape) (ss : List Shape) → Numeric a →
        Effect m instr.Not (a ∷ ss) (truth ∷ ss)
    does_point : (a : Shape) (ss : List Shape) → Numeric a → Effect m instr.Point (a ∷ ss) (index ∷ ss)
    does_is_null : (a : Shape) (ss : List Shape) → Numeric a →
        Effect m instr.IsNull (a ∷ ss) (truth ∷ ss)
    does_assert : (a : Shape) (ss : List Shape) → Numeric a → Effect m instr.Assert (a ∷ ss) ss
    -- a pointer's position gets another one
    does_move : (js : List ℕ) (n k : ℕ) (ss : List Shape) → n ≤ length js → Each (λ j. j ≤ k) js →
        k < 2 ^ 31 → Effect m (instr.Move js) (pointer n ∷ ss) (pointer k ∷ ss)
    does_element : (i : ℕ) (sp : Option ℕ) (a : Shape) (ss : List Shape) → HasRegion m sp i → Numeric a →
        Effect m (instr.At i) (a ∷ ss) (pointer 1 ∷ ss)
    does_read : (rs : List ℕ) (f sp n : ℕ) (ss : List Shape) → Through m sp f mode.Read n rs →
        Effect m (instr.Read rs f) (pointer n ∷ ss) (shape_at g sp f ∷ ss)
    does_write : (rs : List ℕ) (f sp n : ℕ) (ss : List Shape) → Through m sp f mode.Write n rs →
        Effect m (instr.Write rs f (width_of (kind_at g sp f))) (pointer n ∷ shape_at g sp f ∷ ss) ss
    does_reduce : (rs : List ℕ) (f sp n : ℕ) (o : Op) (w : Width) (a : Shape) (ss : List Shape) →
        shape_at g sp f ≡ integer w → Numeric a → Through m sp f (mode.Reduce o) n rs →
        Effect m (instr.Reduce rs f o (width_of (kind_at g sp f))) (pointer n ∷ a ∷ ss) ss
    does_fill : (i f sp : ℕ) (ss : List Shape) → Allowed m sp f mode.Write i →
        Effect m (instr.Fill i f (width_of (kind_at g sp f))) (shape_at g sp f ∷ ss) ss
    -- casts
    does_cast : (rs : List ℕ) (sp : Option ℕ) (a : Shape) (ss : List Shape) → Numeric a →
        Each (HasRegion m sp) rs → length rs < 2 ^ 31 →
        Effect m (instr.Cast rs) (a ∷ ss) (pointer (length rs) ∷ ss)
    does_cast_pointer : (rs : List ℕ) (sp : Option ℕ) (a : Shape) (ss : List Shape) → Numeric a →
        Each (HasRegion m sp) rs → length rs < 2 ^ 31 →
        Effect m (instr.CastPtr rs) (a ∷ ss) (pointer (length rs) ∷ ss)
    -- index spaces and partitions
    does_space : (a : Shape) (ss : List Shape) → Numeric a →
        Effect m instr.Space (a ∷ ss) (space ∷ ss)
    does_colors : (i : ℕ) (sp : Option ℕ) (ss : List Shape) → HasPartition m sp i →
        Effect m (instr.Colors i) ss (space ∷ ss)
    does_child : (i : ℕ) (sp : Option ℕ) (a : Shape) (ss : List Shape) → HasPartition m sp i →
        Numeric a → Effect m (instr.Child i) (a ∷ ss) (region sp unknown ∷ ss)
    does_print : (ps : List PrintPart) (ss args rest : List Shape) →
        Takes (count_numbers ps) ss [] args rest → Each Numeric args →
        length args ≡ count_numbers ps → Effect m (instr.Print ps) ss rest

  -- what suits a loop's head suits its body, once the variable has its number and the counter is raised
  abbrev pub RoundNumber : ℕ → ℕ → ℕ → Mark → Mark → Type 0
  RoundNumber c l v m n = (x : World) (vs st : List Value) → Suits x t.params m vs st → (i e : ℤ) →
      slice_get vs c ≡ Some (value.Number i) → slice_get vs l ≡ Some (value.Number e) →
      int_lt i e ≡ true →
      Suits x t.params n (slice_set (slice_set vs v (value.Number i)) c (value.Number (i +ℤ pos 1))) st

  abbrev pub RoundPoint : ℕ → ℕ → ℕ → Bool → Mark → Mark → Type 0
  RoundPoint s c v ptr m n = (x : World) (vs st : List Value) → Suits x t.params m vs st →
      (d : Value) (i p : ℕ) → slice_get vs s ≡ Some d →
      slice_get vs c ≡ Some (value.Number (pos i)) → point_at d i ≡ Some p →
      Suits x t.params n
      (slice_set (slice_set vs v (value.Number (taken ptr p))) c (value.Number (pos i +ℤ pos 1))) st

  -- What a call needs to know: a frame of the called task may begin with these arguments, its declared needs are on
  -- regions, and what it needs is within what the caller needs.
  abbrev pub OpensWith : World → ℕ → TaskCode → List Value → Type 0
  OpensWith x task callee ws =
      Begins g x callee task ws × Each (IsNeeded g x ws) callee.needs × IsWithin (declared_claims callee.needs ws) (claims g x t)

  -- It knows it of all arguments of these shapes, and such a frame suits the first mark of the task's code.
  abbrev pub Opens : Mark → ℕ → TaskCode → List Shape → Type 0
  Opens m task callee args = Into callee.params (g.begins task) (g.marks task 0)
      × ((x : World) (vs st ws : List Value) → KnowsRoots x → Suits x t.params m vs st → Are (around x m vs) args ws →
      OpensWith x task callee ws)

  -- A launch knows it of its arguments at each colour.
  abbrev pub OpensEach : Mark → ℕ → TaskCode → List LaunchArg → Type 0
  OpensEach m task callee args = Into callee.params (g.begins task) (g.marks task 0)
      × ((x : World) (vs st ws : List Value) (colour : ℕ) → KnowsRoots x → Suits x t.params m vs st → colour < 4194304 →
      arguments vs (call_at args colour) ≡ Some ws → OpensWith x task callee ws)

  module _ (k : ℕ) where
    -- what suits a mark may go on at a place
    abbrev pub To : Mark → ℕ → Type 0
    To m to = (to < length t.body) × Into t.params m (g.marks k to)

    -- what suits a mark with a value on the stack may go on there, once the value is in a slot
    abbrev pub ToStored : Mark → ℕ → ℕ → Type 0
    ToStored m s to = (to < length t.body) × Stores t.params m s (g.marks k to)

    -- a mark, without what is known of its stack's top
    abbrev pub at_rest : ℕ → Mark
    at_rest pc = stacked (g.marks k pc) (g.marks k pc).stack

    -- an instruction is sound at a place
    pub data Sound (pc : ℕ) : Instr → Type 0 where
      straight : (i : Instr) (ss : List Shape) → Effect (g.marks k pc) i (g.marks k pc).stack ss →
          To (stacked (g.marks k pc) ss) (suc pc) → Sound pc i
      -- a number, a number in a slot and the point of a pointer in one may be known as colours, and a child by its colour
      colours : (z : ℤ) (s : Shape) → NumberIs s z →
          To (topped (g.marks k pc) (s ∷ (g.marks k pc).stack) (top_colour (the_colour z))) (suc pc) →
          Sound pc (instr.Num z)
      colours_by : (i : ℕ) (s : Shape) → slice_get (g.marks k pc).slots i ≡ Some s → Numeric s →
          To (topped (g.marks k pc) (s ∷ (g.marks k pc).stack) (top_colour (colour_in i))) (suc pc) →
          Sound pc (instr.Load i)
      colours_point : (i : ℕ) (a : Shape) (ss : List Shape) → (g.marks k pc).stack ≡ a ∷ ss → Numeric a →
          Among (g.marks k pc).top (top_colour (colour_in i)) →
          To (topped (g.marks k pc) (index ∷ ss) (top_colour (point_in i))) (suc pc) → Sound pc instr.Point
      takes_child : (i : ℕ) (sp : Option ℕ) (a : Shape) (ss : List Shape) (c : Colour) →
          (g.marks k pc).stack ≡ a ∷ ss → Numeric a → HasPartition (g.marks k pc) sp i →
          Among (g.marks k pc).top (top_colour c) →
          To (topped (g.marks k pc) (region sp unknown ∷ ss) (top_at (child_in i c))) (suc pc) →
          Sound pc (instr.Child i)
      -- the slot may hold a child that is pending
      awaits : (i : ℕ) (s : Shape) → slice_get (g.marks k pc).slots i ≡ Some (awaited s) → Numeric s →
          Each (ColoursStand (g.marks k pc).slots) (g.marks k pc).facts → To (stacked (g.marks k pc) (s ∷ (g.marks k pc).stack)) (suc pc) →
          Sound pc (instr.Load i)
      stored : (s : ℕ) (a : Shape) (ss : List Shape) → (g.marks k pc).stack ≡ a ∷ ss →
          s < length (g.marks k pc).slots → ToStored (g.marks k pc) s (suc pc) →
          Sound pc (instr.Store s)
      jumps : (to : ℕ) → may_jump t.body pc to ≡ true → To (at_rest pc) to →
          Sound pc (instr.Jump to)
      jumps_if_not : (to : ℕ) (a : Shape) (ss : List Shape) → (g.marks k pc).stack ≡ a ∷ ss →
          Numeric a → may_jump t.body pc to ≡ true → To (stacked (g.marks k pc) ss) to →
          To (stacked (g.marks k pc) ss) (suc pc) → Sound pc (instr.JumpIfNot to)
      jumps_and : (to : ℕ) (a : Shape) (ss : List Shape) → (g.marks k pc).stack ≡ a ∷ ss →
          Numeric a → may_jump t.body pc to ≡ true → To (stacked (g.marks k pc) (truth ∷ ss)) to →
          To (stacked (g.marks k pc) ss) (suc pc) → Sound pc (instr.AndJump to)
      jumps_or : (to : ℕ) (a : Shape) (ss : List Shape) → (g.marks k pc).stack ≡ a ∷ ss →
          Numeric a → may_jump t.body pc to ≡ true → To (stacked (g.marks k pc) (truth ∷ ss)) to →
          To (stacked (g.marks k pc) ss) (suc pc) → Sound pc (instr.OrJump to)
      counts_numbers : (c l v to : ℕ) (a b : Shape) → slice_get (g.marks k pc).slots c ≡ Some a →
          Numeric a → slice_get (g.marks k pc).slots l ≡ Some b → Numeric b →
          v < length (g.marks k pc).slots → pc < to → To (at_rest pc) to → suc pc < length t.body →
          RoundNumber c l v (g.marks k pc) (g.marks k (suc pc)) → Sound pc (instr.NextNumber c l v to)
      counts_points : (s c v : ℕ) (ptr : Bool) (to : ℕ) → Among (g.marks k pc).facts (counts c s) →
          v < length (g.marks k pc).slots → pc < to → To (at_rest pc) to → suc pc < length t.body →
          RoundPoint s c v ptr (g.marks k pc) (g.marks k (suc pc)) →
          Sound pc (instr.NextPoint s c v ptr to)
      -- a root is made under a number, of which nothing else is known to be
      makes_root : (sp i : ℕ) (c : SpaceCode) (ss : List Shape) → (g.marks k pc).stack ≡ space ∷ ss →
          slice_get g.code.spaces sp ≡ Some c → length c.fields ≤ 256 → Each (IsOther i) (g.marks k pc).slots →
          Each (IsOther i) ss → To (stacked (g.marks k pc) (region (Some sp) (own_as i) ∷ ss)) (suc pc) →
          Sound pc (instr.NewRoot sp)
      -- the partition that is made lies within the region in a slot
      makes_equal : (s : ℕ) (sp : Option ℕ) (ss : List Shape) → (g.marks k pc).stack ≡ space ∷ ss →
          HasRegion (g.marks k pc) sp s →
          To (topped (g.marks k pc) (partition sp true ∷ ss) (top_parted s)) (suc pc) →
          Sound pc (instr.Equal s)
      makes_by_field : (s f sp : ℕ) (ss : List Shape) → (g.marks k pc).stack ≡ space ∷ ss →
          Allowed (g.marks k pc) sp f mode.Read s →
          To (topped (g.marks k pc) (partition (Some sp) true ∷ ss) (top_parted s)) (suc pc) →
          Sound pc (instr.ByField s f)
      makes_minus : (p q s : ℕ) (sp sq so : Option ℕ) (hp : HasPartition (g.marks k pc) sp p) →
          HasPartition (g.marks k pc) sq q → HasRegion (g.marks k pc) so s →
          Among (g.marks k pc).facts (parted p s) →
          To (topped (g.marks k pc) (partition so hp.disjoint ∷ (g.marks k pc).stack) (top_parted s)) (suc pc) →
          Sound pc (instr.Minus p q s)
      makes_meet : (p q s : ℕ) (sp sq so : Option ℕ) (hp : HasPartition (g.marks k pc) sp p)
          (hq : HasPartition (g.marks k pc) sq q) → HasRegion (g.marks k pc) so s →
          Among (g.marks k pc).facts (parted p s) →
          To (topped (g.marks k pc) (partition so (hp.disjoint || hq.disjoint) ∷ (g.marks k pc).stack)
          (top_parted s)) (suc pc) → Sound pc (instr.Meet p q s)
      makes_join : (p q s : ℕ) (sp sq so : Option ℕ) → HasPartition (g.marks k pc) sp p →
          HasPartition (g.marks k pc) sq q → HasRegion (g.marks k pc) so s →
          Among (g.marks k pc).facts (parted p s) → Among (g.marks k pc).facts (parted q s) →
          To (topped (g.marks k pc) (partition so false ∷ (g.marks k pc).stack) (top_parted s)) (suc pc) →
          Sound pc (instr.Join p q s)
      -- of the region that is read the partition that is looked through is one, and within it lies the
      -- region whose preimage is made
      makes_image : (s p r f sp : ℕ) (sq so : Option ℕ) → HasRegion (g.marks k pc) so s →
          HasPartition (g.marks k pc) sq p → Allowed (g.marks k pc) sp f mode.Read r →
          Among (g.marks k pc).facts (parted p r) →
          To (topped (g.marks k pc) (partition so false ∷ (g.marks k pc).stack) (top_parted s)) (suc pc) →
          Sound pc (instr.Image s p r f)
      makes_preimage : (s p r f sp : ℕ) (sq so : Option ℕ) → HasRegion (g.marks k pc) so s →
          (hp : HasPartition (g.marks k pc) sq p) → Allowed (g.marks k pc) sp f mode.Read r →
          Among (g.marks k pc).facts (lies (in_slot s) (in_slot r)) →
          To (topped (g.marks k pc) (partition so hp.disjoint ∷ (g.marks k pc).stack) (top_parted s)) (suc pc) →
          Sound pc (instr.Preimage s p r f)
      -- the result of a call may be pending
      makes_call : (task n : ℕ) (callee : TaskCode) (args rest : List Shape) →
          slice_get g.code.tasks task ≡ Some callee → callee.params ≡ n → 0 < length callee.body →
          Takes n (g.marks k pc).stack [] args rest → Opens (g.marks k pc) task callee args →
          To (stacked (g.marks k pc) (awaited (g.results task) ∷ rest)) (suc pc) →
          Sound pc (instr.Call task n)
      -- nothing is kept of the results of a launch's calls
      makes_launch : (task s line : ℕ) (args : List LaunchArg) (callee : TaskCode) →
          slice_get g.code.tasks task ≡ Some callee → callee.params ≡ length args → 0 < length callee.body →
          slice_get (g.marks k pc).slots s ≡ Some space → Each (HasArgument (g.marks k pc)) args →
          OpensEach (g.marks k pc) task callee args → To (g.marks k pc) (suc pc) →
          Sound pc (instr.Launch task s line args)
      takes_turn : To (g.marks k pc) (suc pc) → Sound pc instr.Turn
      returns : Sound pc instr.Return
      returns_value : (a : Shape) (ss : List Shape) → (g.marks k pc).stack ≡ a ∷ ss → Numeric a →
          ((z : ℤ) → NumberIs a z → NumberIs (g.results k) z) → Sound pc instr.ReturnValue

    -- code is valid where each of its instructions is sound
    abbrev pub Valid : Type 0
    Valid = (pc : ℕ) (l : Line) → fetch t.body pc ≡ Some l → Sound pc l.instr

-- A task's code is sound: it is there, it is valid and short, and each mark has the task's number of
-- slots.
pub record IsSound (g : Program) (t : TaskCode) (k : ℕ) : Type 0 where
  pub there : slice_get g.code.tasks k ≡ Some t
  pub short : length t.body ≤ 2 ^ 32
  pub valid : Valid g t k
  pub slots : (pc : ℕ) → length (g.marks k pc).slots ≡ t.slots
