use Rattle.text_laws.proofs.Example.{example_is_read}
use Rattle.text_laws.proofs.example_is_read.Goals as goal

pub returns : goal.returns
returns c = example_is_read
