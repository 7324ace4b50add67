use Rattle.code_examples.proofs.Images.{preimage_of_colour_0_runs_hold, preimage_of_colour_1_runs_hold, neighbours_runs_hold}
use Rattle.code_examples.proofs.images_run.Goals as goal

pub returns-clause-preimage_of_colour_0 : goal.returns-clause-preimage_of_colour_0
returns-clause-preimage_of_colour_0 c = preimage_of_colour_0_runs_hold

pub returns-clause-preimage_of_colour_1 : goal.returns-clause-preimage_of_colour_1
returns-clause-preimage_of_colour_1 c = preimage_of_colour_1_runs_hold

pub returns-clause-neighbours : goal.returns-clause-neighbours
returns-clause-neighbours c = neighbours_runs_hold
