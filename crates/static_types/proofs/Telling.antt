-- Checks one after the other.
use Rattle.std.proofs.Common.{◌≡◌, None, Option, Result, refl}
use Rattle.std.specs.Option.{option_or}
use Rattle.check_rules.specs.declared.rule.Rule.{Rule}
use Rattle.static_types.specs.declared.stop.Stop.{Stop}
use Rattle.static_types.specs.declared.stop.Stop.TheVariants.{Breach, Memory}
use Rattle.static_types.specs.Telling.{IsTold, Tells}

-- what is told of the first is told of both
pub told_here : (stop : Stop) (a b : Option Rule) → IsTold stop a → IsTold stop (option_or a b)
told_here (Breach r) a b e = rw e refl
told_here (Memory error) a b e = tt

-- where nothing is told of the first, it is what is told of the second
pub tells_after : {A : Type 0} (Found : A → Type 0) (result : Result A Stop) (a b : Option Rule) →
    a ≡ None → Tells Found result b → Tells Found result (option_or a b)
tells_after Found result a b e h = rw e h
