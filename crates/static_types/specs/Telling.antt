-- What a check answers: the first rule that is breached, or what it found where none is. Want of
-- memory says nothing.
use Rattle.std.specs.Prelude.{Err, None, Ok, Option, Result, Some, ◌≡◌}
use Rattle.check_rules.specs.declared.rule.Rule.{Rule}
use Rattle.static_types.specs.declared.stop.Stop.{Stop}
use Rattle.static_types.specs.declared.stop.Stop.TheVariants.{Breach, Memory}

abbrev pub IsTold : Stop → Option Rule → Type 0
IsTold (Breach r) first = first ≡ Some r
IsTold (Memory error) first = Unit {0}

abbrev pub Tells : {A : Type 0} → (A → Type 0) → Result A Stop → Option Rule → Type 0
Tells Found (Ok x) first = (first ≡ None) × Found x
Tells Found (Err stop) first = IsTold stop first

-- where nothing is found but that no rule is breached
abbrev pub Anything : {A : Type 0} → A → Type 0
Anything x = Unit {0}
