-- The model of a `MemorySource`.
use Rattle.run_io.specs.Told.{Told}
use Rattle.run_io.specs.Plan.{Plan}

-- the report of the source, and its planned faults
pub record PlannedSource : Type 0 where
  pub told : Told
  pub plan : Plan
