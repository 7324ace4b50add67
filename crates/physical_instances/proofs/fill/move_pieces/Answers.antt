use Rattle.std.proofs.Common.{rules, ◌≡◌, ◌∙◌, ◌<◌, ◌-◌, ◌++◌, ap, drop, get_or, length, suc, sym, take, ℕ}
use Rattle.std.specs.Option.{option_copied}
use Rattle.physical_instances.specs.Fields.{column_if}
use Rattle.std.specs.Prelude.{slice_set}
use Rattle.std.proofs.Math.Numerals.{suc-eq-add-one}
use Rattle.region_tree.specs.Pieces.{Held}
use Rattle.logical_map.proofs.Moving.{one_more_piece}
use Rattle.logical_map.specs.Fills.{moved_piece, moved_pieces}
use Rattle.physical_instances.proofs.fill.move_pieces.Goals as goal

pub loop-place-preserved : goal.loop-place-preserved
loop-place-preserved c =
    let column = (column_if (option_copied c.args.field)) in
    let hs = c.loop-place.pieces.items in
    let i = c.loop-place.place in
    let h = c.index_mut-piece.result.now in
    let b = c.loop-place.behind in
    let n = c.loop-place.next in
    let below : i < length hs = search (rules) in
    let here : h ≡ get_or hs i h = search (rules) in
    let new : c.move_piece.new.piece ≡ moved_piece column b n h = c.move_piece.ensures in
    let count : c.len-count.result ≡ length h.points = search (rules) in
    let behind : c.saturating_sub-behind.result ≡ b - length h.points = search (rules) in
    let inner : c.saturating_sub.result ≡ length h.points - b = search (rules) in
    let next : c.saturating_sub-next.result ≡ n - (length h.points - b) = search (rules) in
    record {
      count = search (rules);
      done = ap (λ (k : ℕ). take k (slice_set hs i c.move_piece.new.piece)
          ++ moved_pieces column c.saturating_sub-behind.result c.saturating_sub-next.result (drop k (slice_set hs i c.move_piece.new.piece)))
          (sym (suc-eq-add-one i)) ∙
          ap (λ (x : Held). take (suc i) (slice_set hs i x)
          ++ moved_pieces column c.saturating_sub-behind.result c.saturating_sub-next.result (drop (suc i) (slice_set hs i x))) new ∙
          ap (λ (k : ℕ). take (suc i) (slice_set hs i (moved_piece column b n h))
          ++ moved_pieces column k c.saturating_sub-next.result (drop (suc i) (slice_set hs i (moved_piece column b n h)))) behind ∙
          ap (λ (k : ℕ). take (suc i) (slice_set hs i (moved_piece column b n h))
          ++ moved_pieces column (b - length h.points) k (drop (suc i) (slice_set hs i (moved_piece column b n h)))) next ∙
          one_more_piece column b n hs i h below here ∙ c.loop-place.invariant.done;
    }
