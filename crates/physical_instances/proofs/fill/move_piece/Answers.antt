use Rattle.std.proofs.Common.{rules, ◌≡◌, ◌∙◌, ◌-◌, ◌+◌, ap, length, min, sym}
use Rattle.std.specs.Option.{option_copied}
use Rattle.region_tree.specs.Pieces.{Held}
use Rattle.logical_map.specs.Fills.{moved_beside, number_for}
use Rattle.physical_instances.specs.Fields.{column_if}
use Rattle.physical_instances.proofs.Filling.{piece_moved}
use Rattle.physical_instances.proofs.Marking.{stored}
use Rattle.physical_instances.proofs.Stretches.{length_moved}
use Rattle.physical_instances.proofs.fill.move_piece.Goals as goal

pub returns : goal.returns
returns c =
    let column = column_if (option_copied c.args.field) in
    let i = c.piece.inside in
    let g = c.args.piece.now in
    let first = c.min-first.result in
    let end = c.min-end.result in
    let old = c.as_mut_slice.result.now in
    let whole : length g.points ≡ length g.values = search (rules) in
    let begun : first ≡ min c.args.behind (length g.points) = search (rules) in
    let ended : end ≡ min (c.args.behind + c.args.next) (length g.points) = search (rules) in
    let items : c.into_vec-values.result.items ≡ i.values = search (rules) in
    let same : old ≡ c.into_vec-values.result.items = search (rules) in
    let len : length c.into_vec-values.result.items ≡ c.into_vec-values.result.len = search (rules) in
    let moved : c.move_values.new.values ≡ moved_beside (number_for column i.mode) first (end - first) i.points i.values =
    c.move_values.ensures ∙ ap (moved_beside (number_for column i.mode) first (end - first) i.points) (same ∙ items) in
    let kept = c.from_vec.ensures ∙ stored c.into_vec-values.result.len c.move_values.new.values c.into_vec-values.result.items _ len
    (length_moved (number_for column i.mode) first (end - first) i.points i.values ∙ ap length (sym items)) moved in
    piece_moved column c.args.behind c.args.next first end (record { points = i.points; mode = i.mode; values = c.from_vec.result }) g whole begun ended
    (ap (λ (h : Held). h.points) c.piece.view_is) (ap (λ (h : Held). h.mode) c.piece.view_is)
    (kept ∙ ap (λ (h : Held). moved_beside (number_for column h.mode) first (end - first) h.points h.values) c.piece.view_is)
