use Rattle.std.proofs.Common.{rules, ◌≡◌, ◌∙◌, ◌≤◌, ◌<◌, ap, filter, get_or, length, sym}
use Rattle.logical_map.specs.Gives.{is_write, with_pieces}
use Rattle.logical_map.specs.Maps.{LiveRoot}
use Rattle.physical_instances.specs.Fields.{with_field}
use Rattle.physical_instances.specs.Kept.{RootContents, live_root}
use Rattle.physical_instances.proofs.Keeping.{field_given, field_lacked}
use Rattle.physical_instances.proofs.roots.RootInstances.put_back.Goals as goal

pub returns-then-place-len-clause-root : goal.returns-then-place-len-clause-root
returns-then-place-len-clause-root c =
    let f = with_pieces (filter is_write c.args.pieces.items) in
    let fields = c.self.inside.fields.items in
    let old = c.index_mut-found.result.now in
    let below : c.args.field < length fields = search (rules) in
    let here : old ≡ get_or fields c.args.field old = search (rules) in
    let column : c.put_back.new.self.column ≡ f old.column = search (rules) in
    let is = field_given fields c.args.field f old c.put_back.new.self below here column in
    ap (λ cs. let l : LiveRoot = record { root = c.self.inside.root.0; columns = cs } in l) is ∙
    ap (λ (r : RootContents). with_field c.args.field f (live_root r)) c.self.view_is

pub returns-else-place-len-clause-root : goal.returns-else-place-len-clause-root
returns-else-place-len-clause-root c =
    let r = c.args.self.now in
    let f = with_pieces (filter is_write c.args.pieces.items) in
    let past : length r.fields ≤ c.args.field = search (rules) in
    sym (ap (λ cs. let l : LiveRoot = record { root = r.root; columns = cs } in l) (field_lacked r.fields c.args.field f past))
