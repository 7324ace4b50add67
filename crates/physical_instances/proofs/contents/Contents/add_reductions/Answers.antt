use Rattle.std.proofs.Common.{rules, ◌≡◌, ◌∙◌, ◌≤◌, ◌<◌, None, Some, ap, filter, get_or, length, not, subst, sym, List}
use Rattle.std.specs.Prelude.{slice_set}
use Rattle.std.specs.List.{position}
use Rattle.logical_map.specs.Maps.{LiveRoot}
use Rattle.std.proofs.lemmas.Bool.{false≢true}
use Rattle.std.proofs.lemmas.Fn.{filter_same}
use Rattle.region_tree.specs.Pieces.{Held}
use Rattle.logical_map.specs.Gives.{is_reduction, with_pieces}
use Rattle.physical_instances.specs.Fields.{LowersSpare}
use Rattle.physical_instances.specs.Kept.{FieldContents, RootContents, is_kept, map_of, no_field}
use Rattle.physical_instances.proofs.Keeping.{at_place, fields_found, given_at_place, given_nowhere, spare_lowered}
use Rattle.physical_instances.proofs.contents.Contents.add_reductions.Goals as goal

pub returns-in_ok-add_reductions-clause-map : goal.returns-in_ok-add_reductions-clause-map
returns-in_ok-add_reductions-clause-map c =
    let roots = c.args.self.now in
    let place = c.in-Some.place in
    let r = c.index_mut-kept.result.now in
    let x = c.add_reductions.new.self in
    let found : position (is_kept c.args.root.0) roots ≡ Some place = search (rules) in
    let here : r ≡ get_or roots place r = search (rules) in
    let f = with_pieces (filter is_reduction c.args.pieces.now.items) in
    ap (λ (rs : List RootContents). map_of (slice_set rs place x)) c.self.view_is ∙
    given_at_place roots c.args.root.0 c.args.field place f r x found here c.in_ok-add_reductions.ensures.root

pub returns-in_ok-add_reductions-clause-spare : goal.returns-in_ok-add_reductions-clause-spare
returns-in_ok-add_reductions-clause-spare c =
    let roots = c.args.self.now in
    let place = c.in-Some.place in
    let r = c.index_mut-kept.result.now in
    let x = c.add_reductions.new.self in
    let found : position (is_kept c.args.root.0) roots ≡ Some place = search (rules) in
    let here : r ≡ get_or roots place r = search (rules) in
    let below : place < length roots = search (rules) in
    let at = at_place roots c.args.root.0 place r found here in
    let same : x.root ≡ r.root = ap (λ (l : LiveRoot). l.root) c.in_ok-add_reductions.ensures.root in
    subst (λ (rs : List RootContents). LowersSpare c.args.root.0 c.args.field (length (filter is_reduction c.args.pieces.now.items)) roots (slice_set rs place x)) (sym c.self.view_is)
    (spare_lowered roots c.args.root.0 c.args.field place (length (filter is_reduction c.args.pieces.now.items)) r x at same c.add_reductions.ensures.spare)

pub returns-in_err-add_reductions-clause-sure : goal.returns-in_err-add_reductions-clause-sure
returns-in_err-add_reductions-clause-sure c room =
    let roots = c.args.self.now in
    let place = c.in-Some.place in
    let r = c.index_mut-kept.result.now in
    let x = c.add_reductions.new.self in
    let found : position (is_kept c.args.root.0) roots ≡ Some place = search (rules) in
    let here : r ≡ get_or roots place r = search (rules) in
    let fields = fields_found roots c.args.root.0 place r (at_place roots c.args.root.0 place r found here) in
    absurd (false≢true (c.in_err-add_reductions.ensures.sure
    (subst (λ (fs : List FieldContents). length (filter is_reduction c.args.pieces.now.items) ≤ (get_or fs c.args.field no_field).spare) fields room)))

pub returns-in_default-clause-map : goal.returns-in_default-clause-map
returns-in_default-clause-map c =
    let none : position (is_kept c.args.root.0) c.args.self.now ≡ None = search (rules) in
    sym (given_nowhere c.args.self.now c.args.root.0 c.args.field (with_pieces (filter is_reduction c.args.pieces.now.items)) none)

pub returns-in_default-clause-pieces : goal.returns-in_default-clause-pieces
returns-in_default-clause-pieces c =
    filter_same _ (λ (h : Held). not (is_reduction h)) _ (λ x b f' k. search rules) _ _ c.retain.ensures.filtered
