use Rattle.std.proofs.Common.{◌++◌, ap, sym, ◌∙◌}
use Rattle.std.proofs.lemmas.List.{append-nil, drop_all}
use Rattle.regent_tree.specs.PlainProgram.{tree_of}
use Rattle.regent_tree.specs.Scopes.{bound_params}
use Rattle.static_types.specs.Params.{beside_from}
use Rattle.static_types.proofs.SaidInOrder.{types_beside}
use Rattle.written_types.proofs.type_rules.types_of_params.Goals as goal

pub returns : goal.returns
returns c =
    let tree = tree_of c.args.tables.now in
    let params = c.args.params.now in
    let names = bound_params tree params 0 params in
    sym (append-nil c.loop-place.types.items)
    ∙ ap (λ ps. c.loop-place.types.items ++ beside_from tree names params c.loop-place.place ps)
    (sym (drop_all c.loop-place.place params c.loop-place-test.false))
    ∙ c.loop-place.invariant ∙ sym (types_beside tree params)
