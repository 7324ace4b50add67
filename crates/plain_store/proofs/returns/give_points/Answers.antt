use Rattle.std.proofs.Common.{rules, ◌≡◌, ◌<◌, length, get_or, pos, Some, slice_get}
use Rattle.std.proofs.lemmas.List.{drop_more}
use Rattle.plain_store.specs.Columns.{number_given}
use Rattle.plain_store.proofs.Walking.{given_next}
use Rattle.plain_store.proofs.returns.give_points.Goals as goal

pub loop-place-preserved : goal.loop-place-preserved
loop-place-preserved c =
    let held = c.args.piece.now in
    let i = c.loop-place.place in
    let number = get_or held.values i (pos 0) in
    let inside : i < length held.values = search (rules) in
    let is : c.give_number.new.column ≡ number_given c.args.kind held.mode c.in-Some.point number c.loop-place.column = search (rules) in
    let point : Some c.in-Some.point ≡ slice_get held.points i = search (rules) in
    given_next c.args.kind held.mode held.points held.values i c.in-Some.point number
    c.loop-place.column c.give_number.new.column _ point
    (drop_more held.values i (pos 0) inside) is c.loop-place.invariant
