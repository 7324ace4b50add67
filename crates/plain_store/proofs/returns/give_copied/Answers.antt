use Rattle.std.proofs.Common.{rules, ◌≡◌, ◌∙◌, List, ℤ, length}
use Rattle.std.proofs.lemmas.List.{with_items_is}
use Rattle.plain_store.specs.Columns.{column_of, pieces_given}
use Rattle.plain_store.proofs.ColumnLaws.{put_again}
use Rattle.plain_store.proofs.returns.give_copied.Goals as goal

pub returns-clause-contents : goal.returns-clause-contents
returns-clause-contents c =
    let q = c.args.part.now in
    let numbers = c.into_vec-numbers.result in
    let column = c.give_pieces.new.column in
    let all : List ℤ = pieces_given q.kind q.pieces (column_of c.args.kept.now q.root.0 q.field) in
    let is : column ≡ all = search (rules) in
    let count : length column ≡ numbers.len = search (rules) in
    put_again q.root.0 q.field c.args.kept.now c.swap_column.new.contents c.swap_column-2.new.contents _ all _
    c.in_ok-column.ensures.contents c.in_ok-swap_column.ensures.contents
    (c.from_vec.ensures ∙ with_items_is numbers column count ∙ is)
