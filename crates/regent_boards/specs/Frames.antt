-- Frames and what stands in them, as the laws of boards see them: regions have points and no node.
use Rattle.std.specs.Prelude.{Bool, List, Option, ℕ, ℤ}
use Rattle.lane_kernels.specs.declared.numbers.FieldKind.{FieldKind}
use Rattle.lane_kernels.specs.declared.numbers.Op.{Op}
use Rattle.lane_kernels.specs.declared.numbers.Width.{Width}
use Rattle.region_tree.specs.Requirements.{Requirement}
use Rattle.regent_tree.specs.declared.outcome.Fault.{Fault}

-- the field spaces of a code: the kinds of the fields of each
abbrev pub Spaces : Type 0
Spaces = List (List FieldKind)

pub record Region : Type 0 where
  pub root : ℕ
  pub points : List ℕ

pub record Partition : Type 0 where
  pub root : ℕ
  pub disjoint : Bool
  pub children : List Region

pub data Value : Type 0 where
  a_number : ℤ → Value
  a_space : ℕ → Value
  a_region : Region → Value
  a_partition : Partition → Value
  pending : ℕ → Value

-- how a run breaks off: at a fault, or broken
pub data Stop : Type 0 where
  faults_at : Fault → Stop
  broken : Stop

pub record Frame : Type 0 where
  pub task : ℕ
  pub pc : ℕ
  pub slots : List Value
  pub stack : List Value
  pub turns : ℕ
  pub depth : ℕ
  pub needs : List Requirement
  pub own : List ℕ
  -- which of the task's makings each of its own roots is
  pub makings : List ℕ
  pub children : ℕ
  pub later : Option Fault

-- a root that a task made, whatever its number: which of the task's makings it is, its field space and its size
pub record OwnRoot : Type 0 where
  pub making : ℕ
  pub space : ℕ
  pub size : ℕ

-- what a task that came to its end answers: its value, and the roots that it made, in order
pub record Answer : Type 0 where
  pub value : Option ℤ
  pub roots : List OwnRoot

pub data Made : Type 0 where
  new_root : ℕ → ℕ → Made
  new_partition : Region → List (List ℕ) → Bool → Made

-- a field of a root
pub record Key : Type 0 where
  pub root : ℕ
  pub field : ℕ

-- a point of a field of a root
pub record Location : Type 0 where
  pub root : ℕ
  pub field : ℕ
  pub point : ℕ

-- an operator at a width
pub record OpAt : Type 0 where
  pub op : Op
  pub width : Width
