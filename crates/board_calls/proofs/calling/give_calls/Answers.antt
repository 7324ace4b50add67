use Rattle.std.proofs.Common.{◌≡◌, ℕ, List, ap, arith, length}
use Rattle.machine_terms.specs.declared.outcome.CallOut.{CallOut}
use Rattle.physical_instances.specs.Kept.{map_of}
use Rattle.board_calls.proofs.Frames.{room_for_frames}
use Rattle.board_calls.specs.Calls.{calls_in}
use Rattle.board_calls.proofs.calling.give_calls.Goals as goal

pub add_children-requires : goal.add_children-requires
add_children-requires c =
    let calls : c.calls_of.result.now ≡ calls_in c.args.after.now.ends = c.calls_of.ensures in
    record {
      room = room_for_frames c.args.code.now c.args.turns c.args.tree.now (map_of c.args.contents.now) c.args.after.now
          c.in_ok-frames.frames.items c.reserve.new.self.len c.reserve.new.self.cap c.in_ok-frames.ensures.frames
          (omega (arith, ap {B = ℕ} (λ (cs : List CallOut). length cs) calls, c.in_ok-reserve.ensures.ok));
    }
