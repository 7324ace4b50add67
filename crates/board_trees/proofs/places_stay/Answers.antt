use Rattle.board_trees.proofs.Places.{placed_is_here, places_stay}
use Rattle.board_trees.proofs.places_stay.Goals as goal

pub returns-clause-stay : goal.returns-clause-stay
returns-clause-stay c = places_stay

pub returns-clause-here : goal.returns-clause-here
returns-clause-here c = placed_is_here
