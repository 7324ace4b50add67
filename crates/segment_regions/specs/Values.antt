-- The values that a segment leaves and hands over come from those that it had.
use Rattle.std.specs.Prelude.{◌≡◌, ◌++◌, ℕ, ℤ, List, All, Some}
use Rattle.std.specs.List.{Contains}
use Rattle.machine_terms.specs.declared.frame.Before.{Before}
use Rattle.machine_terms.specs.declared.frame.Frame.{Frame}
use Rattle.machine_terms.specs.declared.outcome.After.{After}
use Rattle.machine_terms.specs.declared.outcome.CallOut.{CallOut}
use Rattle.machine_terms.specs.declared.outcome.Made.TheVariants as made
use Rattle.machine_terms.specs.declared.outcome.Yield.{Yield}
use Rattle.machine_terms.specs.declared.outcome.Yield.TheVariants as yield
use Rattle.machine_terms.specs.declared.value.PartitionValue.{PartitionValue}
use Rattle.machine_terms.specs.declared.value.RegionValue.{RegionValue}
use Rattle.machine_terms.specs.declared.value.Value.{Value}
use Rattle.machine_terms.specs.declared.value.Value.TheVariants as value
use Rattle.machine_terms.specs.Segments.{segment}

-- A value that comes from these is one of them, names no region, or is a child of a partition that comes from them.
pub data ComesFrom (vs : List Value) : Value → Type 0 where
  had : (v : Value) → Contains vs v → ComesFrom vs v
  number : (z : ℤ) → ComesFrom vs (value.Number z)
  space : (n : ℕ) → ComesFrom vs (value.Space n)
  pending : (i : ℕ) → ComesFrom vs (value.Pending i)
  child : (p : PartitionValue) (r : RegionValue) → ComesFrom vs (value.Partition p) → Contains p.children r → ComesFrom vs (value.Region r)

module _ (V : Value → Type 0) where
  pub record FrameHas (f : Frame) : Type 0 where
    pub slots : All V f.slots
    pub stack : All V f.stack

  -- what calls are handed, and the region that is to be divided
  abbrev pub YieldHas : Yield → Type 0
  YieldHas (yield.Calls cs) = All (λ (c : CallOut). All V c.args) cs
  YieldHas (yield.Make (made.Partition r sets disjoint)) = V (value.Region r)
  YieldHas _ = Unit {0}

  pub record AfterHas (a : After) : Type 0 where
    pub frame : (f : Frame) → a.frame ≡ Some f → FrameHas f
    pub yields : YieldHas a.ends

-- the values of a frame
abbrev pub values_of : Frame → List Value
values_of f = f.slots ++ f.stack

-- so a segment's frame and calls have only regions that the frame had from which it ran
abbrev pub SegmentsKeepValues : Type 0
SegmentsKeepValues = (b : Before) → AfterHas (ComesFrom (values_of b.frame)) (segment b)
