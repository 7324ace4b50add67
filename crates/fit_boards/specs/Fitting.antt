-- When the state of a board fits: what its roots hold, and each operation whose own work hasn't ended.
use Rattle.std.specs.Prelude.{◌≡◌, ℕ, ◌<◌, List, [], ◌∷◌, true, Option, Some, None, get_or, length, map, pos, slice_get}
use Rattle.lane_kernels.specs.declared.numbers.FieldKind.{FieldKind}
use Rattle.lane_kernels.specs.declared.numbers.Mode.{Mode}
use Rattle.plain_values.specs.Points.{points}
use Rattle.region_tree.specs.Needs.{requirements_of}
use Rattle.region_tree.specs.Pieces.{Held}
use Rattle.region_tree.specs.Requirements.{PartsAreApart}
use Rattle.region_tree.specs.Requirements as required
use Rattle.region_tree.specs.declared.needs.Need.{Need}
use Rattle.region_tree.specs.declared.piece.Part.{Part}
use Rattle.region_tree.specs.declared.tree.OpNumber.{OpNumber}
use Rattle.logical_map.specs.Fills.{Filling as Fill}
use Rattle.logical_map.specs.Maps.{Column, LogicalMap, column_of, columns_of}
use Rattle.task_code.specs.declared.code.TaskCode.{TaskCode}
use Rattle.machine_terms.specs.declared.frame.Before.{Before}
use Rattle.machine_terms.specs.declared.outcome.CallOut.{CallOut}
use Rattle.machine_terms.specs.declared.outcome.Yield.TheVariants as yield
use Rattle.machine_terms.specs.Machine.{Machine}
use Rattle.machine_terms.specs.Parts.{part_of}
use Rattle.board_terms.specs.declared.extent.Extent.{Extent}
use Rattle.board_terms.specs.declared.operation.Activity.{Activity}
use Rattle.board_terms.specs.declared.operation.Activity.TheVariants as activity
use Rattle.board_terms.specs.declared.operation.Ending.TheVariants as ending
use Rattle.board_terms.specs.declared.operation.Operation.{Operation}
use Rattle.board_terms.specs.declared.operation.Wait.{Wait}
use Rattle.board_terms.specs.declared.operation.Wait.TheVariants as wait
use Rattle.board_terms.specs.States.{State, no_extent, operation_at}
use Rattle.fit_rules.specs.Shapes.{Each, NumberIs, Shape, World}
use Rattle.fit_rules.specs.Fits.{BeforeFits, CellNumber, claims, Fits, kind_at, Program, shape_at}
use Rattle.fit_rules.specs.Ends.{IsMet, ResultIs}

-- ---- what the roots hold

abbrev pub space_at : List Extent → ℕ → ℕ
space_at extents r = (get_or extents r no_extent).space

abbrev pub points_at : List Extent → ℕ → List ℕ
points_at extents r = points (get_or extents r no_extent).count

-- a root of a world was made, of its field space and with its points
abbrev pub IsRootOf : List Extent → World → ℕ → Type 0
IsRootOf extents x r = (r < length extents) × (x.spaces r ≡ space_at extents r) × (x.points r ≡ points_at extents r)

-- a column is of its field's kind, and each number of its shape
pub record ColumnFits (g : Program) (sp f : ℕ) (c : Column) : Type 0 where
  pub kind : c.kind ≡ kind_at g sp f
  pub numbers : Each (NumberIs (shape_at g sp f)) c.numbers

-- each field that is there is of a root that was made, and its column fits
abbrev pub MapFits : Program → List Extent → LogicalMap → Type 0
MapFits g extents roots = (r f : ℕ) → f < length (columns_of roots r) →
    (r < length extents) × ColumnFits g (space_at extents r) f (column_of roots r f)

-- ---- parts

abbrev pub held_as : Held → List ℕ × Mode
held_as h = (h.points, h.mode)

-- no field has two parts, and no point of a part two pieces
abbrev pub AreOnce : List Part → Type 0
AreOnce [] = Unit {0}
AreOnce (q ∷ qs) = PartsAreApart (map held_as q.pieces) × (part_of qs q.root.0 q.field ≡ None) × AreOnce qs

-- a number for each point, which fits
abbrev pub PieceFits : FieldKind → Shape → Held → Type 0
PieceFits k s h = (length h.values ≡ length h.points) × Each (CellNumber k s h.mode) h.values

-- a fill is of the pieces that the claims ask for, and their numbers fit, be it that they aren't all moved yet
pub record FillFits (g : Program) (x : World) (t : TaskCode) (root field : ℕ) (f : Fill) : Type 0 where
  pub root_is : f.root ≡ root
  pub field_is : f.field ≡ field
  pub kind : f.kind ≡ kind_at g (x.spaces root) field
  pub asked : map held_as f.pieces ≡ required.part_of (claims g x t) root field
  pub pieces : Each (PieceFits (kind_at g (x.spaces root) field) (shape_at g (x.spaces root) field)) f.pieces

abbrev pub FillsFor : Program → World → TaskCode → Wait → Option Fill → Type 0
FillsFor g x t (wait.Part root field) (Some f) = FillFits g x t root.0 field f
FillsFor g x t (wait.Part root field) None = ⊥
FillsFor g x t w (Some f) = ⊥
FillsFor g x t w None = Unit {0}

-- ---- children

-- What is given by an operation of a task is of a shape; as long as there is no value, it counts as 0.
abbrev pub gives_by : Program → Shape → ℕ → Activity → Type 0
gives_by g s k (activity.Closing (ending.Value v)) = ResultIs s v
gives_by g s k (activity.Closing e) = Unit {0}
gives_by g s k a = s ≡ g.results k

abbrev pub Gives : Program → Shape → Operation → Type 0
Gives g s o = NumberIs s (pos 0) × gives_by g s o.frame.task o.activity

-- what results of a call's task are, of the call by which an operation was issued
abbrev pub IsOfCall : Program → List CallOut → Shape → ℕ → Type 0
IsOfCall g log s n = (c : CallOut) × (slice_get log n ≡ Some c) × (s ≡ g.results c.task)

abbrev pub ChildGives : Program → List CallOut → State → Shape → Option OpNumber → Type 0
ChildGives g log u s None = ⊥
ChildGives g log u s (Some c) = (c.0 < length u.operations) × Gives g s (operation_at u c.0) × IsOfCall g log s c.0

-- ---- operations

-- what it waits for, or waited for last, may come: once it has, its machine fits
abbrev pub MayGoOn : Program → World → TaskCode → ℕ → Wait → Machine → Type 0
MayGoOn g x t k wait.Beginning m = Fits g x t k m
MayGoOn g x t k wait.Nothing m = Fits g x t k m
MayGoOn g x t k (wait.Part root f) m = IsMet g x t k (yield.Want root f) m
MayGoOn g x t k (wait.Child i) m = IsMet g x t k (yield.Await i) m

-- what its segment is run from fits, and has its needs and its roots
pub record OutFits (g : Program) (x : World) (t : TaskCode) (o : Operation) (b : Before) : Type 0 where
  pub fits : BeforeFits g x t o.frame.task b
  pub needs : b.frame.needs ≡ o.frame.needs
  pub own : b.frame.own ≡ o.frame.own
  pub once : AreOnce b.parts

abbrev pub DoesFit : Program → World → TaskCode → Operation → Activity → Type 0
DoesFit g x t o (activity.Filling c fill) = FillsFor g x t o.wait fill
DoesFit g x t o (activity.Out c b) = OutFits g x t o b
DoesFit g x t o a = Unit {0}

-- One whose own work hasn't ended, by its number, with the calls by which operations were issued, beside some world: it is of the task that
-- was called, with these arguments; the roots that it knows were made; what it needs is what its task
-- claims, by the points of the regions; it may go on; its children give what is of their shapes; and what it does fits.
pub record Going (g : Program) (log : List CallOut) (s : State) (k : ℕ) (o : Operation) : Type 0 where
  pub world : World
  pub task : TaskCode
  pub there : slice_get g.code.tasks o.frame.task ≡ Some task
  pub call : CallOut
  pub issued : slice_get log k ≡ Some call
  pub named : o.frame.task ≡ call.task
  pub args : world.args ≡ call.args
  pub roots : (r : ℕ) → world.there r ≡ true → IsRootOf s.roots world r
  pub nodes : Each (λ (n : Need). n.node.0 < length s.tree.nodes) o.frame.needs.items
  pub required : requirements_of s.tree o.frame.needs.items ≡ claims g world task
  pub once : AreOnce o.parts
  pub count : length o.children ≡ world.children
  pub results : (n : ℕ) → n < world.children → ChildGives g log s (world.results n) (slice_get o.children n)
  pub waits : MayGoOn g world task o.frame.task o.wait (record { frame = o.frame; parts = o.parts })
  pub does : DoesFit g world task o o.activity

abbrev pub fits_by : Program → List CallOut → State → ℕ → Operation → Activity → Type 0
fits_by g log s k o (activity.Closing e) = Unit {0}
fits_by g log s k o a = Going g log s k o

abbrev pub OperationFits : Program → List CallOut → State → ℕ → Operation → Type 0
OperationFits g log s k o = fits_by g log s k o o.activity

-- ---- a board

-- with the calls by which its operations were issued, in order
pub record StateFits (g : Program) (log : List CallOut) (s : State) : Type 0 where
  pub issued : length log ≡ length s.operations
  pub counted : s.tree.roots ≡ length s.roots
  pub map : MapFits g s.roots s.map
  pub operations : (k : ℕ) → k < length s.operations → OperationFits g log s k (operation_at s k)
