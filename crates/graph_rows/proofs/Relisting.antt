-- What is listed once an operation was taken out.
use Rattle.std.specs.Prelude.{not}
use Rattle.std.proofs.Common.{◌≡◌, ◌||◌, ◌∷◌, ◌∙◌, [], ℕ, Bool, false, List, ⊎_elim, ap, cond, refl}
use Rattle.std.proofs.lemmas.Bool.{cases_Bool}
use Rattle.std.proofs.lemmas.List.Elements.{All-filter}
use Rattle.region_finder.specs.Listings.{ArePlaced, IsListingOf, Listed, has_op, is_op, without}
use Rattle.region_tree.specs.Trees.{RegionTree}

pub listing_without : (t : RegionTree) (ls : List Listed) (op : ℕ) → IsListingOf t ls → IsListingOf t (without ls op)
listing_without t ls op a = All-filter _ (ArePlaced t) ls a

-- it isn't there any more
pub absent_without : (ls : List Listed) (op : ℕ) → has_op (without ls op) op ≡ false
absent_without [] op = refl
absent_without (l ∷ ls) op = ⊎_elim
    (λ e. ap (λ (b : Bool). has_op (cond (not b) (l ∷ without ls op) (without ls op)) op) e ∙ absent_without ls op)
    (λ e. ap (λ (b : Bool). has_op (cond (not b) (l ∷ without ls op) (without ls op)) op) e
    ∙ ap (λ (b : Bool). b || has_op (without ls op) op) e ∙ absent_without ls op)
    (cases_Bool (is_op op l))
