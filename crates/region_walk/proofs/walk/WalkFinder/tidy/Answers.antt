use Rattle.std.proofs.Common.{◌∙◌, ap}
use Rattle.region_walk.specs.Keeping.{live}
use Rattle.region_walk.proofs.Keeping.{live_tidied}
use Rattle.region_walk.proofs.walk.WalkFinder.tidy.Goals as goal

pub returns : goal.returns
returns c = ap live c.tidy.ensures.entries ∙ live_tidied c.self.inside.entries ∙ c.self.view_is
