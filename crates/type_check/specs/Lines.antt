-- What is told of a statement is told on its line.
use Rattle.std.specs.Prelude.{Err, Ok, Result, ℕ}
use Rattle.static_types.specs.declared.stop.Stop.{Stop}
use Rattle.check_items.specs.Halting.{halted}
use Rattle.check_items.specs.declared.halt.Halt.{Halt}

abbrev pub on_line : {A : Type 0} → ℕ → Result A Stop → Result A Halt
on_line line (Ok x) = Ok x
on_line line (Err stop) = Err (halted line stop)
