use Rattle.std.proofs.Common.{◌∙◌, ◌∷◌, [], ℕ, ap, sym}
use Rattle.std.specs.Prelude.{nat_lt}
use Rattle.region_walk.specs.Sides.{numbers_of, way_down}
use Rattle.region_walk.specs.Users.{ListedNeed}
use Rattle.region_walk.proofs.Leaving.{last_head, same_head}
use Rattle.region_walk.proofs.user.User.is_below.Goals as goal

pub returns-then-self-need-2 : goal.returns-then-self-need-2
returns-then-self-need-2 c =
    let u = c.args.self.now in
    let n = c.args.need.now in
    let way = numbers_of (way_down u) in
    ap (λ (k : ℕ). nat_lt k n.field) (ap (λ (v : ListedNeed). v.placed.need.field) c.self.view_is)
    ∙ sym (same_head u.context.0 c.args.context.0 (u.placed.need.root.0 ∷ u.placed.need.field ∷ way) (n.root.0 ∷ n.field ∷ [])
    (sym (ap (λ (v : ListedNeed). v.context.0) c.self.view_is) ∙ c.if-self-context-2.true)
    ∙ same_head u.placed.need.root.0 n.root.0 (u.placed.need.field ∷ way) (n.field ∷ [])
    (sym (ap (λ (v : ListedNeed). v.placed.need.root.0) c.self.view_is) ∙ c.if-self-need-2.true)
    ∙ last_head u.placed.need.field n.field way)
