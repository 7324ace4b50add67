use Rattle.std.proofs.Common.{◌∙◌, List, ap}
use Rattle.region_finder.specs.Forests.{Upward}
use Rattle.region_finder.specs.Listings.{covers}
use Rattle.region_walk.specs.Sides.{way_down}
use Rattle.region_walk.specs.Users.{ListedNeed}
use Rattle.region_walk.proofs.Turning.{covers_turned}
use Rattle.region_walk.proofs.user.User.is_covered_by.Goals as goal

pub returns : goal.returns
returns c =
    c.covers.ensures
    ∙ ap (λ (w : List Upward). covers (record { need = c.self.inside.need; way = w }) c.args.by.now) c.way.ensures
    ∙ ap (λ (u : ListedNeed). covers (record { need = u.placed.need; way = way_down c.args.self.now }) c.args.by.now) c.self.view_is
    ∙ covers_turned c.args.by.now c.args.self.now.placed.need c.args.self.now.placed.way
