use Rattle.std.proofs.Common.{ap, sym, ◌∙◌, List}
use Rattle.region_tree.specs.Needs.{requirements_of}
use Rattle.region_tree.specs.Requirements.{is_within}
use Rattle.region_tree.specs.declared.needs.Need.{Need}
use Rattle.region_tree.proofs.Covering.{within_tells}
use Rattle.region_tree.proofs.coverage.within.Goals as goal

pub returns-clause-points : goal.returns-clause-points
returns-clause-points c =
    let t = c.args.tree.now in
    let ours = requirements_of t c.args.a.now.items in
    let theirs = requirements_of t c.args.b.now.items in
    let value = c.are_covered.ensures ∙ ap
    (λ (l : List Need). is_within (requirements_of t l)
    (requirements_of t c.as_slice-2.result.now)) c.as_slice.ensures ∙
    ap (λ (l : List Need). is_within (requirements_of t c.args.a.now.items)
    (requirements_of t l)) c.as_slice-2.ensures in
    (λ h. (within_tells ours theirs).0 (sym value ∙ h), λ w. value ∙ (within_tells ours theirs).1 w)
