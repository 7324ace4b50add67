use Rattle.std.proofs.Common.{ap, ◌∙◌, List}
use Rattle.region_tree.specs.Needs.{requirements_of}
use Rattle.region_tree.specs.Requirements.{interfere}
use Rattle.region_tree.specs.declared.needs.Need.{Need}
use Rattle.region_tree.proofs.Interfering.{interfere_tells}
use Rattle.region_tree.proofs.interference.interferes.Goals as goal

pub returns-clause-points : goal.returns-clause-points
returns-clause-points c =
    let t = c.args.tree.now in
    interfere_tells c.any_conflicts.result (requirements_of t c.args.a.now.items)
    (requirements_of t c.args.b.now.items) (c.any_conflicts.ensures ∙
    ap (λ (l : List Need). interfere (requirements_of t l)
    (requirements_of t c.as_slice-2.result.now)) c.as_slice.ensures ∙
    ap (λ (l : List Need). interfere (requirements_of t c.args.a.now.items)
    (requirements_of t l)) c.as_slice-2.ensures)
