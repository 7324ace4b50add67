use Rattle.statement_laws.proofs.PlaceExample.{places_are_ready}
use Rattle.statement_laws.proofs.places_are_ready.Goals as goal

pub returns : goal.returns
returns c = places_are_ready
