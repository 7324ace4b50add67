-- The way up from a node, one step at a time.
use Rattle.std.specs.Prelude.{None, Option, Some}
use Rattle.std.proofs.Common.{◌≡◌, ◌<◌, ◌∷◌, [], ◌∙◌, ℕ, suc, zero, List, ap, refl, arith}
use Rattle.region_tree.specs.Trees.{RegionTree, IsNode}
use Rattle.region_finder.specs.Forests.{IsForest, Upward, above, and_on, climbed, way_up}

and_on_alike : (o : Option Upward) (f g : ℕ → List Upward) → ((s : Upward) → o ≡ Some s → f s.0.0 ≡ g s.0.0) →
    and_on o f ≡ and_on o g
and_on_alike None f g h = refl
and_on_alike (Some s) f g h = ap (λ (w : List Upward). s ∷ w) (h s refl)

-- more steps than a node's number are enough
climb_enough : (t : RegionTree) (k m n : ℕ) → IsForest t → IsNode t n → n < k → n < m → climbed k t n ≡ climbed m t n
climb_enough t zero m n f i a b = absurd (omega (arith, a))
climb_enough t (suc k) zero n f i a b = absurd (omega (arith, b))
climb_enough t (suc k) (suc m) n f i a b =
    and_on_alike (above t n) (climbed k t) (climbed m t)
    (λ s e. let up = f.upward n s i e in
    climb_enough t k m s.0.0 f (omega (arith, i, up.smaller)) (omega (arith, a, up.smaller)) (omega (arith, b, up.smaller)))

pub way_step : (t : RegionTree) (n : ℕ) (s : Upward) → IsForest t → IsNode t n → above t n ≡ Some s →
    way_up t n ≡ s ∷ way_up t s.0.0
way_step t n s f i e =
    let up = f.upward n s i e in
    ap (λ (o : Option Upward). and_on o (climbed n t)) e
    ∙ ap (λ (w : List Upward). s ∷ w) (climb_enough t n (suc s.0.0) s.0.0 f (omega (arith, i, up.smaller)) up.smaller (omega arith))

pub way_ends : (t : RegionTree) (n : ℕ) → above t n ≡ None → way_up t n ≡ []
way_ends t n e = ap (λ (o : Option Upward). and_on o (climbed n t)) e
