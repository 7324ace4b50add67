use Rattle.std.proofs.Common.{rules, not}
use Rattle.std.proofs.lemmas.Fn.{filter_same}
use Rattle.region_finder.specs.Listings.{PlacedNeed, is_covered}
use Rattle.region_walk.proofs.entry.drop_covered.Goals as goal

pub returns : goal.returns
returns c = filter_same _ (λ (m : PlacedNeed). not (is_covered c.args.by.now m)) _ (λ x b f' k. search rules) _ _ c.retain.ensures.filtered
