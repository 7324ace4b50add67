-- Users that conflict with a need are near it.
use Rattle.std.specs.Prelude.{filter}
use Rattle.std.proofs.Common.{◌≡◌, ◌==◌, ◌&&◌, ◌∷◌, [], ◌∙◌, ℕ, Bool, true, false, cond, not, List, All, ⊎_elim, ap, sym, refl}
use Rattle.std.proofs.lemmas.Bool.{cases_Bool, false≢true}
use Rattle.std.proofs.lemmas.List.Elements.{All-head, All-tail}
use Rattle.lane_kernels.specs.Modes.{in_conflict}
use Rattle.plain_values.specs.Points.{meets}
use Rattle.region_finder.specs.Forests.{IsForest}
use Rattle.region_tree.specs.Needs.{IsNeed}
use Rattle.region_tree.specs.Trees.{RegionTree, is_region, node_at, points_at, points_by, points_of_content, separated, set_at}
use Rattle.region_tree.specs.declared.content.Content.{Content}
use Rattle.region_tree.specs.declared.content.Content.TheVariants.{Region, Partition}
use Rattle.region_tree.specs.declared.needs.Need.{Need}
use Rattle.region_walk.specs.Near.{is_met, is_near}
use Rattle.region_walk.specs.Users.{IsUser, ListedNeed}

points_of_region : (t : RegionTree) (c : Content) → is_region c ≡ true → points_by t c ≡ points_of_content c
points_of_region t (Region xs) h = refl
points_of_region t (Partition region disjoint colours) h = absurd (false≢true h)

-- separated needs share no point
no_point : (t : RegionTree) (n m : Need) → IsForest t → IsNeed t n → IsNeed t m → separated t n.node.0 m.node.0 ≡ true →
    meets (set_at t n.node.0) (set_at t m.node.0) ≡ false
no_point t n m f a b h =
    ap (λ xs. meets xs (set_at t m.node.0)) (sym (points_of_region t (node_at t n.node.0).content a.region.kind))
    ∙ ap (λ xs. meets (points_at t n.node.0) xs) (sym (points_of_region t (node_at t m.node.0).content b.region.kind))
    ∙ f.apart n.node.0 m.node.0 a.region.there b.region.there h

and_no : (a b : Bool) → b ≡ false → (a && b) ≡ false
and_no true b h = h
and_no false b h = refl

-- a user of the context conflicts with a need only where it is near
met_by : (k r d s m p : Bool) → (k && ((r && d) && not s)) ≡ false → (s ≡ true → p ≡ false) →
    (k && (((r && d) && m) && p)) ≡ false
met_by false r d s m p g h = refl
met_by true false d s m p g h = refl
met_by true true false s m p g h = refl
met_by true true true true m p g h = and_no m p (h refl)
met_by true true true false m p g h = absurd (false≢true (sym g))

met_near : (t : RegionTree) (c : ℕ) (n : Need) (u : ListedNeed) → IsForest t → IsNeed t n → IsUser t u →
    is_near t c n u ≡ false → is_met t c n u ≡ false
met_near t c n u f a b h =
    met_by (u.context.0 == c) (n.root.0 == u.placed.need.root.0) (n.field == u.placed.need.field)
    (separated t n.node.0 u.placed.need.node.0) (in_conflict n.mode u.placed.need.mode) _ h
    (no_point t n u.placed.need f a b.there)

-- those that conflict are among those that are near
pub met_among : (t : RegionTree) (c : ℕ) (n : Need) (us : List ListedNeed) → IsForest t → IsNeed t n → All (IsUser t) us →
    filter (is_met t c n) (filter (is_near t c n) us) ≡ filter (is_met t c n) us
met_among t c n [] f a b = refl
met_among t c n (u ∷ us) f a b = ⊎_elim
    (λ h. ap (λ (k : Bool). filter (is_met t c n) (cond k (u ∷ filter (is_near t c n) us) (filter (is_near t c n) us))) h
    ∙ ap (λ (vs : List ListedNeed). cond (is_met t c n u) (u ∷ vs) vs) (met_among t c n us f a (All-tail (IsUser t) u us b)))
    (λ h. ap (λ (k : Bool). filter (is_met t c n) (cond k (u ∷ filter (is_near t c n) us) (filter (is_near t c n) us))) h
    ∙ met_among t c n us f a (All-tail (IsUser t) u us b)
    ∙ ap (λ (k : Bool). cond k (u ∷ filter (is_met t c n) us) (filter (is_met t c n) us)) (sym (met_near t c n u f a (All-head (IsUser t) u us b) h)))
    (cases_Bool (is_near t c n u))
