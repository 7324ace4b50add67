-- The model of a `MemorySink`.
use Rattle.std.specs.Prelude.{◌-◌, ◌==◌, ◌&&◌, ℕ, min, List, length, nat_le, if◌then◌else◌}
use Rattle.run_io.specs.Plan.{Plan}

-- the bytes that it holds, the number for which it has room, the most that one write takes, and its
-- planned faults
pub record PlannedSink : Type 0 where
  pub held : List ℕ
  pub room : ℕ
  pub step : ℕ
  pub plan : Plan

-- the number of bytes that a write takes: as many as the step and the rest of the room allow
abbrev pub taken_count : PlannedSink → ℕ → ℕ
taken_count sink len = min (min len sink.step) (sink.room - length sink.held)

-- with no listed call and a step of at least 1, the sink takes all bytes for which it has room
-- without a fault
abbrev pub sure_count : PlannedSink → ℕ
sure_count sink = if (length sink.plan.fails == 0) && nat_le 1 sink.step then sink.room - length sink.held else 0
