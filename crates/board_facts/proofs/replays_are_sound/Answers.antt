use Rattle.board_facts.proofs.Replays.{replays_are_sound}
use Rattle.board_facts.proofs.replays_are_sound.Goals as goal

pub returns : goal.returns
returns c = replays_are_sound
