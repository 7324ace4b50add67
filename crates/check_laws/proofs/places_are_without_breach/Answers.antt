use Rattle.check_laws.proofs.Places.{places_are_without_breach}
use Rattle.check_laws.proofs.places_are_without_breach.Goals as goal

pub returns : goal.returns
returns c = places_are_without_breach
