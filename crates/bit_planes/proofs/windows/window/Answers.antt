use Rattle.std.proofs.Common.{arith}
use Rattle.bit_planes.proofs.Bits.{are_words}
use Rattle.bit_planes.proofs.Placed.{window_of}
use Rattle.bit_planes.proofs.windows.window.Goals as goal

pub returns : goal.returns
returns c =
    let kept = c.loop-number.invariant in
    window_of c.args.first c.args.words.now (are_words c.args.words.now c.type_inv.words) c.args.from c.args.count c.loop-number.out.items (omega arith) (λ k l. kept.same k (omega arith))
