use Rattle.std.proofs.Common.{rules, ◌∙◌, List, ap, filter, subst, sym}
use Rattle.std.proofs.lemmas.Fn.{filter_same}
use Rattle.region_walk.specs.Sides.{AreByKey}
use Rattle.region_walk.specs.Users.{ListedNeed, is_of_another}
use Rattle.region_walk.proofs.Keys.{keyed_filter}
use Rattle.region_walk.proofs.users.Users.remove.Goals as goal

pub invariant_of-self : goal.invariant_of-self
invariant_of-self c =
    subst AreByKey (sym (filter_same _ (is_of_another c.args.op.0) _ (λ x b f' k. search rules) _ _ c.retain.ensures.filtered))
    (keyed_filter (is_of_another c.args.op.0) c.self.inside.users.items c.self.invariant)

pub returns : goal.returns
returns c =
    filter_same _ (is_of_another c.args.op.0) _ (λ x b f' k. search rules) _ _ c.retain.ensures.filtered
    ∙ ap (λ (us : List ListedNeed). filter (is_of_another c.args.op.0) us) c.self.view_is
