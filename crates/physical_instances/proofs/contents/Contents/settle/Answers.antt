use Rattle.std.proofs.Common.{rules, ◌≡◌, Some, ap, get_or}
use Rattle.std.specs.List.{position}
use Rattle.logical_map.specs.Maps.{LiveRoot}
use Rattle.physical_instances.specs.Kept.{is_kept}
use Rattle.physical_instances.proofs.Keeping.{map_at_place, spare_at_place}
use Rattle.physical_instances.proofs.contents.Contents.settle.Goals as goal

pub returns-in-Some-clause-map : goal.returns-in-Some-clause-map
returns-in-Some-clause-map c =
    let roots = c.args.self.now in
    let found : position (is_kept c.args.root.0) roots ≡ Some c.in-Some.place = search (rules) in
    let here : c.index_mut-kept.result.now ≡ get_or roots c.in-Some.place c.index_mut-kept.result.now = search (rules) in
    map_at_place c.self.inside.roots.items roots c.args.root.0 c.in-Some.place c.index_mut-kept.result.now c.settle.new.self c.self.view_is found here c.settle.ensures.root

pub returns-in-Some-clause-spare : goal.returns-in-Some-clause-spare
returns-in-Some-clause-spare c =
    let roots = c.args.self.now in
    let found : position (is_kept c.args.root.0) roots ≡ Some c.in-Some.place = search (rules) in
    let here : c.index_mut-kept.result.now ≡ get_or roots c.in-Some.place c.index_mut-kept.result.now = search (rules) in
    spare_at_place c.self.inside.roots.items roots c.args.root.0 c.in-Some.place c.index_mut-kept.result.now c.settle.new.self c.self.view_is found here
    (ap (λ (l : LiveRoot). l.root) c.settle.ensures.root) c.settle.ensures.spare
