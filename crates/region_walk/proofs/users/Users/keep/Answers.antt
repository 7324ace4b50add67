use Rattle.std.proofs.Common.{rules, ◌∙◌, ap, subst, sym}
use Rattle.std.proofs.lemmas.Fn.{filter_same}
use Rattle.region_walk.specs.Keeping.{is_listed, live, live_users}
use Rattle.region_walk.specs.Sides.{AreByKey}
use Rattle.region_walk.proofs.Keys.{keyed_filter}
use Rattle.region_walk.proofs.users.Users.keep.Goals as goal

pub invariant_of-self : goal.invariant_of-self
invariant_of-self c =
    subst AreByKey (sym (filter_same _ (is_listed (live c.args.listed.now)) _ (λ x b f' k. search rules) _ _ c.retain.ensures.filtered))
    (keyed_filter (is_listed (live c.args.listed.now)) c.self.inside.users.items c.self.invariant)

pub returns : goal.returns
returns c =
    filter_same _ (is_listed (live c.args.listed.now)) _ (λ x b f' k. search rules) _ _ c.retain.ensures.filtered
    ∙ ap (live_users (live c.args.listed.now)) c.self.view_is
