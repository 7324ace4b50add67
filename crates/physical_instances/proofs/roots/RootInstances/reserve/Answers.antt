use Rattle.std.proofs.Common.{rules, ◌≡◌, ◌∙◌, ◌<◌, ap, get_or, length}
use Rattle.logical_map.specs.Maps.{LiveRoot}
use Rattle.physical_instances.specs.Kept.{live_root}
use Rattle.physical_instances.proofs.Keeping.{field_same}
use Rattle.physical_instances.proofs.roots.RootInstances.reserve.Goals as goal

pub returns-then-place-len-clause-root : goal.returns-then-place-len-clause-root
returns-then-place-len-clause-root c =
    let fields = c.self.inside.fields.items in
    let old = c.index_mut-found.result.now in
    let below : c.args.field < length fields = search (rules) in
    let here : old ≡ get_or fields c.args.field old = search (rules) in
    let is = field_same fields c.args.field old c.reserve.new.self below here c.reserve.ensures.column in
    ap (λ cs. let l : LiveRoot = record { root = c.self.inside.root.0; columns = cs } in l) is ∙ ap live_root c.self.view_is
