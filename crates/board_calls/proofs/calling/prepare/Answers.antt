use Rattle.std.proofs.Common.{◌∙◌}
use Rattle.physical_instances.specs.Kept.{map_of}
use Rattle.board_calls.proofs.Frames.{frames_as_needed}
use Rattle.board_calls.proofs.calling.prepare.Goals as goal

pub tell_calls-requires-clause-needs : goal.tell_calls-requires-clause-needs
tell_calls-requires-clause-needs c =
    frames_as_needed c.args.code.now c.args.turns c.args.tree.now (map_of c.args.contents.now) c.args.after.now c.as_slice-issued.result.now
    (c.as_slice-issued.ensures.value ∙ c.in_ok-frames.ensures)
