use Rattle.std.proofs.Common.{arith, drop, length, sym, take, ◌-◌, ◌*◌, ◌+◌, ◌∙◌, inl, inr, ⊎_elim}
use Rattle.std.proofs.lemmas.Bool.{cases_lt}
use Rattle.bit_planes.specs.Words.{placed}
use Rattle.bit_planes.proofs.Bits.{are_words}
use Rattle.bit_planes.proofs.Placed.{between, part_of}
use Rattle.bit_planes.proofs.Sharing.{none_apart, none_shared, shared_found}
use Rattle.bit_planes.proofs.windows.share_a_point.Goals as goal

pub returns-then-end-from-clause-none : goal.returns-then-end-from-clause-none
returns-then-end-from-clause-none c _ z =
    let left = c.args.left.now in
    let right = c.args.right.now in
    ⊎_elim
    (λ u. none_apart _ _ c.args.left_first (c.args.left_first + length left) c.args.right_first (c.args.right_first + length right) (between c.args.left_first left (are_words left c.type_inv.left) c.requires.left) (between c.args.right_first right (are_words right c.type_inv.right) c.requires.right) z (inl (omega arith)))
    (λ o. none_apart _ _ c.args.left_first (c.args.left_first + length left) c.args.right_first (c.args.right_first + length right) (between c.args.left_first left (are_words left c.type_inv.left) c.requires.left) (between c.args.right_first right (are_words right c.type_inv.right) c.requires.right) z (inr (omega arith)))
    (cases_lt z (64 * c.max-from.result))

pub returns-clause-some : goal.returns-clause-some
returns-clause-some c e =
    let left = c.args.left.now in
    let right = c.args.right.now in
    let from = c.max-from.result in
    let end = c.min-end.result in
    let count = end - from in
    let ours = end - c.args.left_first - (from - c.args.left_first) in
    let theirs = end - c.args.right_first - (from - c.args.right_first) in
    shared_found (placed c.args.left_first left) (placed c.args.right_first right) from count (take ours (drop (from - c.args.left_first) left)) (take theirs (drop (from - c.args.right_first) right)) (part_of c.args.left_first left (are_words left c.type_inv.left) from count ours (omega arith) (omega arith) (omega arith)) (part_of c.args.right_first right (are_words right c.type_inv.right) from count theirs (omega arith) (omega arith) (omega arith)) (sym c.any_common.ensures ∙ e)

pub returns-clause-none : goal.returns-clause-none
returns-clause-none c e =
    let left = c.args.left.now in
    let right = c.args.right.now in
    let from = c.max-from.result in
    let end = c.min-end.result in
    let count = end - from in
    let ours = end - c.args.left_first - (from - c.args.left_first) in
    let theirs = end - c.args.right_first - (from - c.args.right_first) in
    let left_between = between c.args.left_first left (are_words left c.type_inv.left) c.requires.left in
    let right_between = between c.args.right_first right (are_words right c.type_inv.right) c.requires.right in
    none_shared (placed c.args.left_first left) (placed c.args.right_first right) from count (take ours (drop (from - c.args.left_first) left)) (take theirs (drop (from - c.args.right_first) right)) (part_of c.args.left_first left (are_words left c.type_inv.left) from count ours (omega arith) (omega arith) (omega arith)) (part_of c.args.right_first right (are_words right c.type_inv.right) from count theirs (omega arith) (omega arith) (omega arith)) (sym c.any_common.ensures ∙ e)
    (λ z l. none_apart _ _ c.args.left_first (c.args.left_first + length left) c.args.right_first (c.args.right_first + length right) left_between right_between z (inl (omega arith)))
    (λ z l. none_apart _ _ c.args.left_first (c.args.left_first + length left) c.args.right_first (c.args.right_first + length right) left_between right_between z (inr (omega arith)))
