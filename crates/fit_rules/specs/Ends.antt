-- How a step or a segment ends well: what it stops for may be waited for, and what goes on then fits.
use Rattle.std.specs.Prelude.{◌≡◌, ℕ, suc, ℤ, ◌<◌, ◌≤◌, ◌^◌, Bool, length, ◌==◌, ◌||◌, cond, List, [], ◌∷◌, ◌++◌, map, true, false, Option, Some, None, slice_get}
use Rattle.partitions.specs.Laws.{ArePartsOf, NoneShared}
use Rattle.plain_values.specs.Points.{points}
use Rattle.region_tree.specs.declared.needs.Need.{Need}
use Rattle.region_tree.specs.declared.piece.Part.{Part}
use Rattle.region_tree.specs.declared.tree.RootId.{RootId}
use Rattle.region_tree.specs.Requirements.{IsWithin}
use Rattle.task_code.specs.declared.code.NeedCode.{NeedCode}
use Rattle.task_code.specs.declared.code.TaskCode.{TaskCode}
use Rattle.machine_terms.specs.declared.frame.Frame.{Frame}
use Rattle.machine_terms.specs.declared.outcome.After.{After}
use Rattle.machine_terms.specs.declared.outcome.CallOut.{CallOut}
use Rattle.machine_terms.specs.declared.outcome.Made.TheVariants as made
use Rattle.machine_terms.specs.declared.outcome.Yield.{Yield}
use Rattle.machine_terms.specs.declared.outcome.Yield.TheVariants as yield
use Rattle.machine_terms.specs.declared.value.PartitionValue.{PartitionValue}
use Rattle.machine_terms.specs.declared.value.RegionValue.{RegionValue}
use Rattle.machine_terms.specs.declared.value.Value.{Value}
use Rattle.machine_terms.specs.declared.value.Value.TheVariants as value
use Rattle.machine_terms.specs.Machine.{Machine, Stepped, goes, prints, stops}
use Rattle.machine_terms.specs.Opening.{opening}
use Rattle.machine_terms.specs.Orders.{settled}
use Rattle.machine_terms.specs.Parts.{is_needed, part_of}
use Rattle.machine_terms.specs.Pointers.{region_in}
use Rattle.machine_terms.specs.Regions.{sets_of}
use Rattle.fit_rules.specs.Shapes.{Among, Each, Shape, NumberIs, World}
use Rattle.fit_rules.specs.Fits.{Program, count_at, AreClaims, root_claims, declared_claims, claims, PartFits, PartsFit, Fits}
pub use Rattle.fit_rules.specs.Fits.{called}

-- the value of an end is of the task's result type
abbrev pub ResultIs : Shape → Option ℤ → Type 0
ResultIs s None = Unit {0}
ResultIs s (Some z) = NumberIs s z

-- a part was brought, a child's value came
abbrev pub with_part : Part → Machine → Machine
with_part q m = record m { parts = m.parts ++ q ∷ [] }

abbrev pub with_result : ℕ → ℤ → Machine → Machine
with_result i z m =
    record m { frame = record m.frame { slots = map (settled i z) m.frame.slots } }

-- ---- calls

-- one more child, whose result has a shape
abbrev pub grown : World → Shape → World
grown x s = record x {
  results = λ i. cond (i == x.children) s (x.results i);
  children = suc x.children;
}

abbrev pub grown_by : Program → World → List CallOut → World
grown_by g x [] = x
grown_by g x (c ∷ cs) = grown_by g (grown x (g.results c.task)) cs

abbrev pub opening_machine : ℕ → ℕ → ℕ → TaskCode → List Value → Machine
opening_machine turns depth k t vs = record { frame = opening turns depth k t vs; parts = [] }

-- a declared need is on a region, of a root that has the field
pub record IsNeeded (g : Program) (x : World) (args : List Value) (n : NeedCode) : Type 0 where
  pub region : RegionValue
  pub argument : region_in (slice_get args n.param) ≡ Some region
  pub there : x.there region.root.0 ≡ true
  pub field : n.field < count_at g (x.spaces region.root.0)

-- A call may be made: the task is there, its opening frame fits, with any number of turns, its declared
-- needs are on regions, and what it needs is within what its caller needs.
pub record CallsWell (g : Program) (x : World) (t : TaskCode) (c : CallOut) : Type 0 where
  pub callee : TaskCode
  pub there : slice_get g.code.tasks c.task ≡ Some callee
  pub opens : (turns depth : ℕ) → turns < 2 ^ 64 →
      Fits g (called x c.args) callee c.task (opening_machine turns depth c.task callee c.args)
  pub needed : Each (IsNeeded g x c.args) callee.needs
  pub within : IsWithin (declared_claims callee.needs c.args) (claims g x t)

-- ---- roots

-- one more root, with a field space and so many points, which the task made under a number
abbrev pub rooted : World → ℕ → ℕ → ℕ → ℕ → World
rooted x i root sp n = record x {
  there = λ r. (r == root) || x.there r;
  spaces = λ r. cond (r == root) sp (x.spaces r);
  points = λ r. cond (r == root) (points n) (x.points r);
  own = x.own ++ root ∷ [];
  last = λ j. cond (j == i) (Some root) (x.last j);
}

-- its region, and its needs, are added
abbrev pub with_root : RegionValue → List Need → RootId → Machine → Machine
with_root r ns i m = record m {
  frame = record m.frame {
    stack = value.Region r ∷ m.frame.stack;
    needs = record { items = m.frame.needs.items ++ ns };
    own = m.frame.own ++ i ∷ [];
  };
}

-- ---- partitions

-- sets are parts of a region's points, and share no point where a flag says so
pub record SetsFit (parent : List ℕ) (flag : Bool) (sets : List (List ℕ)) : Type 0 where
  pub parts : ArePartsOf parent sets
  pub apart : flag ≡ true → NoneShared sets
  pub few : length sets ≤ 4194304

-- a partition that was made of these sets of a root
pub record IsMadeOf (root : ℕ) (flag : Bool) (sets : List (List ℕ)) (q : PartitionValue) : Type 0 where
  pub of_root : q.root.0 ≡ root
  pub flagged : q.disjoint ≡ flag
  pub made : sets_of q ≡ sets
  pub roots : (r : RegionValue) → Among q.children r → r.root.0 ≡ root

abbrev pub with_value : Value → Machine → Machine
with_value v m = record m { frame = record m.frame { stack = v ∷ m.frame.stack } }

abbrev pub without_parts : Machine → Machine
without_parts m = record m { parts = [] }

-- ---- ends

-- What a machine stops for may be waited for, and the machine fits once it has come: a part that is
-- needed and isn't held, and a child's value of its task's result type. After calls it fits beside the new
-- children, and no part is held. A new root is none that was there, and is made under some number. A partition is within its region
-- and keeps its flag. The value of an end is of the task's result type.
abbrev pub IsMet : Program → World → TaskCode → ℕ → Yield → Machine → Type 0
IsMet g x t k (yield.Want root f) m = Fits g x t k m
    × (is_needed m.frame.needs.items root.0 f ≡ true) × (part_of m.parts root.0 f ≡ None)
    × ((q : Part) → q.root.0 ≡ root.0 → q.field ≡ f → PartFits g x t root.0 f q →
    Fits g x t k (with_part q m))
IsMet g x t k (yield.Await i) m = Fits g x t k m × (i < x.children)
    × ((z : ℤ) → NumberIs (x.results i) z → Fits g x t k (with_result i z m))
IsMet g x t k (yield.Calls cs) m =
    Each (CallsWell g x t) cs × Fits g (grown_by g x cs) t k (without_parts m)
IsMet g x t k (yield.Make (made.Root n sp)) m = (n ≤ 4194304)
    × ((i : ℕ) × ((r : RegionValue) (ns : List Need) → x.there r.root.0 ≡ false → r.points ≡ points n →
    AreClaims ns (root_claims g r.root.0 sp (points n)) →
    Fits g (rooted x i r.root.0 sp n) t k (with_root r ns r.root m)))
IsMet g x t k (yield.Make (made.Partition r sets flag)) m = SetsFit r.points flag sets
    × ((q : PartitionValue) → IsMadeOf r.root.0 flag sets q →
    Fits g x t k (with_value (value.Partition q) m))
IsMet g x t k (yield.End v) m = ResultIs (g.results k) v
IsMet g x t k (yield.Fault f) m = Unit {0}
IsMet g x t k _ m = ⊥

-- and the parts that it leaves are still those of the needs, with numbers that fit
abbrev pub StopsWell : Program → World → TaskCode → ℕ → Yield → Machine → Type 0
StopsWell g x t k y m = PartsFit g x t m.parts × IsMet g x t k y m

-- after a step the machine fits, or it stops well
pub data Safe (g : Program) (x : World) (t : TaskCode) (k : ℕ) : Stepped → Type 0 where
  safe_goes : (n : Machine) → Fits g x t k n → Safe g x t k (goes n)
  safe_prints : (text : List ℕ) (n : Machine) → Fits g x t k n → Safe g x t k (prints text n)
  safe_stops : (y : Yield) (n : Machine) → StopsWell g x t k y n → Safe g x t k (stops y n)

-- what a segment left fits: a frame once what it yields has been met; where there is none, the
-- instance ended or faulted
abbrev pub IsLeft : Program → World → TaskCode → ℕ → Yield → Option Frame → List Part → Type 0
IsLeft g x t k y (Some f) parts = IsMet g x t k y (record { frame = f; parts = parts })
IsLeft g x t k (yield.End v) None parts = ResultIs (g.results k) v
IsLeft g x t k (yield.Fault f) None parts = Unit {0}
IsLeft g x t k _ None parts = ⊥

abbrev pub AfterFits : Program → World → TaskCode → ℕ → After → Type 0
AfterFits g x t k a = PartsFit g x t a.parts × IsLeft g x t k a.ends a.frame a.parts
