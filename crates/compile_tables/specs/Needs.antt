-- The need of a parameter for a field.
use Rattle.std.specs.Prelude.{ℕ}
use Rattle.lane_kernels.specs.declared.numbers.Mode.{Mode}
use Rattle.task_code.specs.declared.code.NeedCode.{NeedCode}

abbrev pub need_at : ℕ → Mode → ℕ → NeedCode
need_at param m f = record { param = param; field = f; mode = m }
