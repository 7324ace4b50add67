use Rattle.std.proofs.Common.{rules, ◌≡◌, ◌≤◌, None, Some, ap, get_or, subst, sym, List}
use Rattle.std.specs.Prelude.{slice_set}
use Rattle.std.specs.List.{position}
use Rattle.logical_map.specs.Maps.{IsThere, LiveRoot}
use Rattle.physical_instances.specs.Kept.{RootContents, is_kept, map_of, spare_of}
use Rattle.physical_instances.proofs.Keeping.{OnOk_then, map_at_place, room_made, root_missing, spare_at_place}
use Rattle.physical_instances.proofs.contents.Contents.reserve_on.Goals as goal

pub returns-in-Some-clause-map : goal.returns-in-Some-clause-map
returns-in-Some-clause-map c =
    let roots = c.args.self.now in
    let found : position (is_kept c.args.root.0) roots ≡ Some c.in-Some.place = search (rules) in
    let here : c.index_mut-kept.result.now ≡ get_or roots c.in-Some.place c.index_mut-kept.result.now = search (rules) in
    map_at_place c.self.inside.roots.items roots c.args.root.0 c.in-Some.place c.index_mut-kept.result.now c.reserve.new.self c.self.view_is found here c.reserve.ensures.root

pub returns-in-Some-clause-spare : goal.returns-in-Some-clause-spare
returns-in-Some-clause-spare c =
    let roots = c.args.self.now in
    let found : position (is_kept c.args.root.0) roots ≡ Some c.in-Some.place = search (rules) in
    let here : c.index_mut-kept.result.now ≡ get_or roots c.in-Some.place c.index_mut-kept.result.now = search (rules) in
    spare_at_place c.self.inside.roots.items roots c.args.root.0 c.in-Some.place c.index_mut-kept.result.now c.reserve.new.self c.self.view_is found here
    (ap (λ (l : LiveRoot). l.root) c.reserve.ensures.root) c.reserve.ensures.spare

pub returns-in-Some-clause-more : goal.returns-in-Some-clause-more
returns-in-Some-clause-more c =
    let roots = c.args.self.now in
    let place = c.in-Some.place in
    let r = c.index_mut-kept.result.now in
    let x = c.reserve.new.self in
    let found : position (is_kept c.args.root.0) roots ≡ Some place = search (rules) in
    let here : r ≡ get_or roots place r = search (rules) in
    OnOk_then c.reserve.result c.reserve.ensures.more (λ room.
    subst (λ (rs : List RootContents). IsThere (map_of roots) c.args.root.0 c.args.field → c.args.more ≤ spare_of (slice_set rs place x) c.args.root.0 c.args.field)
    (sym c.self.view_is) (room_made roots c.args.root.0 c.args.field place c.args.more r x found here c.reserve.ensures.root room))

pub returns-clause-more : goal.returns-clause-more
returns-clause-more c there =
    let none : position (is_kept c.args.root.0) c.args.self.now ≡ None = search (rules) in
    absurd ((root_missing c.args.self.now c.args.root.0 c.args.field none).0 there)
