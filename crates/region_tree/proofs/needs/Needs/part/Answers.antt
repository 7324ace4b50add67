use Rattle.std.proofs.Common.{rules, ◌≡◌, subst, sym, All}
use Rattle.std.proofs.lemmas.Result.{IfOk-weaker}
use Rattle.region_tree.specs.Needs.{requirements_of}
use Rattle.region_tree.specs.Requirements.{IsPartOf, PartsAreApart, part_of}
use Rattle.region_tree.proofs.PartLaws.{part_apart, parts_exact}
use Rattle.region_tree.proofs.needs.Needs.part.Goals as goal

pub returns-clause-exact : goal.returns-clause-exact
returns-clause-exact c =
    let rs = requirements_of c.args.tree.now c.args.self.now.items in
    IfOk-weaker c.part_of.result (λ v. v.items ≡ part_of rs c.args.root.0 c.args.field)
    (λ v. All (IsPartOf rs c.args.root.0 c.args.field) v.items)
    (λ v e. subst (All (IsPartOf rs c.args.root.0 c.args.field)) (sym e)
    (parts_exact rs c.args.root.0 c.args.field)) (search (rules))

pub returns-clause-apart : goal.returns-clause-apart
returns-clause-apart c =
    let rs = requirements_of c.args.tree.now c.args.self.now.items in
    IfOk-weaker c.part_of.result (λ v. v.items ≡ part_of rs c.args.root.0 c.args.field)
    (λ v. PartsAreApart v.items) (λ v e. subst PartsAreApart (sym e)
    (part_apart rs c.args.root.0 c.args.field)) (search (rules))
