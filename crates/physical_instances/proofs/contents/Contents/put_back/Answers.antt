use Rattle.std.proofs.Common.{rules, ◌≡◌, ◌∙◌, None, Some, ap, filter, get_or, sym, List}
use Rattle.std.specs.Prelude.{slice_set}
use Rattle.std.specs.List.{position}
use Rattle.logical_map.specs.Maps.{LiveRoot}
use Rattle.logical_map.specs.Gives.{is_write, with_pieces}
use Rattle.physical_instances.specs.Fields.{with_field}
use Rattle.physical_instances.specs.Kept.{RootContents, is_kept, live_root, map_of}
use Rattle.physical_instances.proofs.Keeping.{given_at_place, given_nowhere, spare_at_place}
use Rattle.physical_instances.proofs.contents.Contents.put_back.Goals as goal

pub returns-in-Some-clause-map : goal.returns-in-Some-clause-map
returns-in-Some-clause-map c =
    let roots = c.args.self.now in
    let place = c.in-Some.place in
    let r = c.index_mut-kept.result.now in
    let x = c.put_back.new.self in
    let found : position (is_kept c.args.part.root.0) roots ≡ Some place = search (rules) in
    let here : r ≡ get_or roots place r = search (rules) in
    let f = with_pieces (filter is_write c.args.part.pieces) in
    let is : live_root x ≡ with_field c.args.part.field f (live_root r) = search (rules) in
    ap (λ (rs : List RootContents). map_of (slice_set rs place x)) c.self.view_is ∙
    given_at_place roots c.args.part.root.0 c.args.part.field place f r x found here is

pub returns-in-Some-clause-spare : goal.returns-in-Some-clause-spare
returns-in-Some-clause-spare c =
    let roots = c.args.self.now in
    let found : position (is_kept c.args.part.root.0) roots ≡ Some c.in-Some.place = search (rules) in
    let here : c.index_mut-kept.result.now ≡ get_or roots c.in-Some.place c.index_mut-kept.result.now = search (rules) in
    spare_at_place c.self.inside.roots.items roots c.args.part.root.0 c.in-Some.place c.index_mut-kept.result.now c.put_back.new.self c.self.view_is found here
    (ap (λ (l : LiveRoot). l.root) c.put_back.ensures.root) c.put_back.ensures.spare

pub returns-in_default-clause-map : goal.returns-in_default-clause-map
returns-in_default-clause-map c =
    let none : position (is_kept c.args.part.root.0) c.args.self.now ≡ None = search (rules) in
    sym (given_nowhere c.args.self.now c.args.part.root.0 c.args.part.field (with_pieces (filter is_write c.args.part.pieces)) none)
