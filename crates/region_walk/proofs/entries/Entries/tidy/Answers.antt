use Rattle.std.proofs.Common.{rules, ◌∙◌, List, ap, filter, subst, sym}
use Rattle.std.proofs.lemmas.Fn.{filter_same}
use Rattle.region_walk.specs.Keeping.{entries_of, is_live}
use Rattle.region_walk.specs.Placing.{IsRising}
use Rattle.region_walk.specs.declared.entries.Kept.{Kept}
use Rattle.region_walk.proofs.Keeping.{entries_tidied, rising_live}
use Rattle.region_walk.proofs.entries.Entries.tidy.Goals as goal

pub invariant_of-self : goal.invariant_of-self
invariant_of-self c =
    subst (λ (ks : List Kept). IsRising (entries_of ks)) (sym (filter_same _ is_live _ (λ x b f' k. search rules) _ _ c.retain.ensures.filtered))
    (subst IsRising (sym (entries_tidied c.self.inside.kept.items)) (rising_live c.self.inside.kept.items c.self.invariant))

pub returns : goal.returns
returns c =
    filter_same _ is_live _ (λ x b f' k. search rules) _ _ c.retain.ensures.filtered
    ∙ ap (filter is_live) c.self.view_is
