-- What fits compiled code: a machine between two instructions.
use Rattle.std.specs.Prelude.{◌≡◌, ℕ, ℤ, ◌<◌, ◌+◌, ◌^◌, List, [], ◌∷◌, ◌++◌, map, true, Option, Some, None, slice_get, get_or, length}
use Rattle.lane_kernels.specs.declared.numbers.FieldKind.{FieldKind}
use Rattle.lane_kernels.specs.declared.numbers.FieldKind.TheVariants as kind
use Rattle.lane_kernels.specs.declared.numbers.Mode.{Mode}
use Rattle.lane_kernels.specs.declared.numbers.Mode.TheVariants as mode
use Rattle.lane_kernels.specs.declared.numbers.Op.{Op}
use Rattle.lane_kernels.specs.declared.numbers.Width.TheVariants.{W32, W64}
use Rattle.lane_kernels.specs.Numbers.{FitsWidth, applied, width_of}
use Rattle.plain_values.specs.Points.{has, points}
use Rattle.region_tree.specs.declared.needs.Need.{Need}
use Rattle.region_tree.specs.declared.piece.Part.{Part}
use Rattle.region_tree.specs.Requirements.{Requirement, mode_at}
use Rattle.task_code.specs.declared.code.Code.{Code}
use Rattle.task_code.specs.declared.code.NeedCode.{NeedCode}
use Rattle.task_code.specs.declared.code.TaskCode.{TaskCode}
use Rattle.machine_terms.specs.declared.frame.Before.{Before}
use Rattle.machine_terms.specs.declared.value.RegionValue.{RegionValue}
use Rattle.machine_terms.specs.declared.value.Value.{Value}
use Rattle.machine_terms.specs.Contents.{kinds_of}
use Rattle.machine_terms.specs.Machine.{Machine}
use Rattle.machine_terms.specs.Opening.{opening, with_points}
use Rattle.machine_terms.specs.Parts.{Cell, cell_at, part_of}
use Rattle.machine_terms.specs.Pointers.{region_in}
use Rattle.machine_terms.specs.Segments.{opened}
use Rattle.fit_rules.specs.Shapes.{Among, anything, Shape, integer, truth, index, pointer, NumberIs, World, KnowsRoots}
use Rattle.fit_rules.specs.Marks.{Mark, Suits}

-- Code, with how many regions the type of each pointer field names, the shape of what each task gives, what is known of the
-- arguments with which a frame of each task begins, and the mark at each place of each task.
pub record Program : Type 0 where
  pub code : Code
  pub positions : ℕ → ℕ → ℕ
  pub results : ℕ → Shape
  pub begins : ℕ → Mark
  pub marks : ℕ → ℕ → Mark

-- ---- fields

-- the shape of what a field of a kind keeps
abbrev pub kept_as : FieldKind → ℕ → Shape
kept_as kind.Int32 n = integer W32
kept_as kind.Int64 n = integer W64
kept_as kind.Truth n = truth
kept_as kind.Index n = index
kept_as kind.Pointer n = pointer n

-- the fields of a field space: how many, and the kind and the shape of each
abbrev pub count_at : Program → ℕ → ℕ
count_at g sp = length (kinds_of g.code sp)

abbrev pub kind_at : Program → ℕ → ℕ → FieldKind
kind_at g sp f = get_or (kinds_of g.code sp) f kind.Truth

abbrev pub shape_at : Program → ℕ → ℕ → Shape
shape_at g sp f = kept_as (kind_at g sp f) (g.positions sp f)

-- ---- arguments

-- what stands around a frame that opens with arguments
abbrev pub called : World → List Value → World
called x vs = record x { results = λ i. anything; children = 0; own = []; last = λ i. None; args = vs; held = [] }

-- a frame of a task may begin with these: they are as many as its parameters, and the slots in which it opens are as is known of them
abbrev pub Begins : Program → World → TaskCode → ℕ → List Value → Type 0
Begins g x t k vs = (length vs ≡ t.params) × Suits (called x vs) t.params (g.begins k) (opening 0 0 k t vs).slots []

-- ---- what a task may touch

abbrev pub requires : ℕ → List ℕ → Mode → ℕ → Requirement
requires root xs a f = record { root = root; points = xs; field = f; mode = a }

-- a declared need on an argument; one of no points isn't kept
abbrev pub claim_on : NeedCode → Option RegionValue → List Requirement → List Requirement
claim_on n None rest = rest
claim_on n (Some r) rest =
    with_points r.points (requires r.root.0 r.points n.mode n.field) rest

abbrev pub declared_claims : List NeedCode → List Value → List Requirement
declared_claims [] args = []
declared_claims (n ∷ ns) args =
    claim_on n (region_in (slice_get args n.param)) (declared_claims ns args)

-- and Write on each field of each root that the task made, where it has points
abbrev pub root_claims : Program → ℕ → ℕ → List ℕ → List Requirement
root_claims g root sp [] = []
root_claims g root sp (p ∷ ps) =
    map (requires root (p ∷ ps) mode.Write) (points (count_at g sp))

abbrev pub own_claims : Program → World → List ℕ → List Requirement
own_claims g x [] = []
own_claims g x (r ∷ rs) = root_claims g r (x.spaces r) (x.points r) ++ own_claims g x rs

abbrev pub claims : Program → World → TaskCode → List Requirement
claims g x t = declared_claims t.needs x.args ++ own_claims g x x.own

-- a frame's needs are these
pub data AreClaims : List Need → List Requirement → Type 0 where
  no_claims : AreClaims [] []
  a_claim : (n : Need) (r : Requirement) (ns : List Need) (rs : List Requirement) →
      n.root.0 ≡ r.root → n.field ≡ r.field → n.mode ≡ r.mode → AreClaims ns rs →
      AreClaims (n ∷ ns) (r ∷ rs)

-- ---- cover

-- the task declares an access to a field at a point of a root
pub record Declares (x : World) (t : TaskCode) (root f p : ℕ) (a : Mode) : Type 0 where
  pub need : NeedCode
  pub is_there : Among t.needs need
  pub its_field : need.field ≡ f
  pub its_mode : need.mode ≡ a
  pub region : RegionValue
  pub argument : region_in (slice_get x.args need.param) ≡ Some region
  pub its_root : region.root.0 ≡ root
  pub its_point : has region.points p ≡ true

-- an access is covered where the task made the root, where the task declares it, or, of a reduction,
-- where the task declares to read and to write
pub data Covers (g : Program) (x : World) (t : TaskCode) (root f p : ℕ) : Mode → Type 0 where
  made_it : (a : Mode) → Among x.own root → has (x.points root) p ≡ true →
      f < count_at g (x.spaces root) → Covers g x t root f p a
  declares_it : (a : Mode) → Declares x t root f p a → Covers g x t root f p a
  reads_and_writes : (o : Op) → Declares x t root f p mode.Read → Declares x t root f p mode.Write →
      Covers g x t root f p (mode.Reduce o)

-- ---- parts

-- A number of a reduction fits its field's width, and what it is folded into stays of the field's shape.
abbrev pub Folds : FieldKind → Shape → Op → ℤ → Type 0
Folds k s o z = FitsWidth (width_of k) z × ((y : ℤ) → NumberIs s y → NumberIs s (applied o (width_of k) y z))

-- the number in a cell
abbrev pub CellNumber : FieldKind → Shape → Mode → ℤ → Type 0
CellNumber k s (mode.Reduce o) z = Folds k s o z
CellNumber k s _ z = NumberIs s z

-- a point is held where the field is claimed there, in the mode to which the claims join
abbrev pub CellFits : FieldKind → Shape → Option Cell → Option Mode → Type 0
CellFits k s None None = Unit {0}
CellFits k s (Some c) (Some m) = (c.mode ≡ m) × CellNumber k s m c.value
CellFits k s _ _ = ⊥

pub record PartFits (g : Program) (x : World) (t : TaskCode) (root f : ℕ) (q : Part) : Type 0 where
  pub there : x.there root ≡ true
  pub kind : q.kind ≡ kind_at g (x.spaces root) f
  pub cells : (p : ℕ) → CellFits (kind_at g (x.spaces root) f) (shape_at g (x.spaces root) f)
      (cell_at q.pieces p) (mode_at (claims g x t) root f p)

abbrev pub PartsFit : Program → World → TaskCode → List Part → Type 0
PartsFit g x t parts = (root f : ℕ) (q : Part) → part_of parts root f ≡ Some q →
    PartFits g x t root f q

-- ---- machines

-- What fits beside slots and stack: the frame is of the task, its needs are those claims, the parts are
-- of them, and it knows its children, and the roots of its own and of its arguments, with which it may begin. Each call takes a turn,
-- so that the count of children stays a number of 64 bits.
pub record Beside (g : Program) (x : World) (t : TaskCode) (k : ℕ) (m : Machine) : Type 0 where
  pub task : m.frame.task ≡ k
  pub needs : AreClaims m.frame.needs.items (claims g x t)
  pub parts : PartsFit g x t m.parts
  pub children : m.frame.children ≡ x.children
  pub calls : m.frame.children + m.frame.turns < 2 ^ 64
  pub own : map (λ r. r.0) m.frame.own ≡ x.own
  pub roots : KnowsRoots x
  pub begins : Begins g x t k x.args

-- A machine at a place of a task's code fits beside a world: what stands in slots and on the stack
-- suits the place's mark.
pub record Fits (g : Program) (x : World) (t : TaskCode) (k : ℕ) (m : Machine) : Type 0 where
  pub inside : m.frame.pc < length t.body
  pub suits : Suits x t.params (g.marks k m.frame.pc) m.frame.slots m.frame.stack
  pub beside : Beside g x t k m

-- what a segment of a task runs from fits: it is of this code, and its machine fits
pub record BeforeFits (g : Program) (x : World) (t : TaskCode) (k : ℕ) (b : Before) : Type 0 where
  pub code : b.code ≡ g.code
  pub machine : Fits g x t k (opened b)
