-- What is on a stack.
use Rattle.std.specs.Prelude.{◌≡◌, ℕ, ℤ, List}
use Rattle.machine_terms.specs.declared.value.Value.{Value}
use Rattle.machine_terms.specs.Machine.{Machine, Stepped, broken, on_number}
use Rattle.machine_terms.specs.Regions.{on_space}

-- no number is on top
abbrev pub LacksNumber : List Value → Type 0
LacksNumber st = (m : Machine) (more : ℤ → List Value → Stepped) → on_number st m more ≡ broken m

-- no index space is on top
abbrev pub LacksSpace : List Value → Type 0
LacksSpace st = (m : Machine) (more : ℕ → List Value → Stepped) → on_space st m more ≡ broken m
