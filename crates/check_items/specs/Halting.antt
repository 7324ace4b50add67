-- What a check of a program answers: the first breach, or what it found where there is none. Want of
-- memory says nothing.
use Rattle.std.specs.Prelude.{Err, None, Ok, Option, Result, Some, ℕ, ◌≡◌}
use Rattle.check_rules.specs.Breaches.{breaks}
use Rattle.check_rules.specs.Breaches as found
use Rattle.check_rules.specs.first.Rules.{number_of}
use Rattle.static_types.specs.declared.stop.Stop.{Stop}
use Rattle.static_types.specs.declared.stop.Stop.TheVariants as stop
use Rattle.check_items.specs.declared.halt.Halt.{Halt}
use Rattle.check_items.specs.declared.halt.Halt.TheVariants.{Breach, Memory}

abbrev pub halted : ℕ → Stop → Halt
halted line (stop.Breach r) = Breach r line
halted line (stop.Memory error) = Memory error

abbrev pub IsToldAt : Halt → Option found.Breach → Type 0
IsToldAt (Breach r line) first = first ≡ Some (breaks (number_of r) line)
IsToldAt (Memory error) first = Unit {0}

abbrev pub TellsAt : {A : Type 0} → (A → Type 0) → Result A Halt → Option found.Breach → Type 0
TellsAt Found (Ok x) first = (first ≡ None) × Found x
TellsAt Found (Err halt) first = IsToldAt halt first
