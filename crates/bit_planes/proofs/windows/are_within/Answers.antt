use Rattle.std.proofs.Common.{arith, ⊎_elim, ◌≡◌}
use Rattle.std.proofs.lemmas.Bool.{cases_lt}
use Rattle.bit_planes.proofs.Bits.{are_words}
use Rattle.bit_planes.proofs.Sharing.{lacking_found, none_lacking, none_lacking_here}
use Rattle.bit_planes.proofs.windows.are_within.Goals as goal

pub returns-then-left-number-ne0-clause-some : goal.returns-then-left-number-ne0-clause-some
returns-then-left-number-ne0-clause-some c _ =
    let left = c.args.left.now in
    let right = c.args.right.now in
    lacking_found c.args.left_first left (are_words left c.type_inv.left) c.args.right_first right (are_words right c.type_inv.right) c.loop-number.number c.word_at.result c.word_at.ensures (omega arith) (omega arith)

pub loop-number-preserved : goal.loop-number-preserved
loop-number-preserved c k i l g =
    let left = c.args.left.now in
    let right = c.args.right.now in
    let n = c.loop-number.number in
    ⊎_elim (λ u. c.loop-number.invariant k i u g) (λ o. let last : k ≡ n = omega arith in rw last (none_lacking_here c.args.left_first left (are_words left c.type_inv.left) c.args.right_first right (are_words right c.type_inv.right) n c.word_at.result i c.word_at.ensures (omega arith) g (omega arith))) (cases_lt k n)

pub returns-clause-all : goal.returns-clause-all
returns-clause-all c _ =
    let left = c.args.left.now in
    let right = c.args.right.now in
    none_lacking c.args.left_first left (are_words left c.type_inv.left) c.args.right_first right (are_words right c.type_inv.right) (λ k i l g. c.loop-number.invariant k i (omega arith) g)
