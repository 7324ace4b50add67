-- What stands in a tree stands in one that has grown from it.
use Rattle.std.specs.Prelude.{◌≡◌, List, ℕ}
use Rattle.region_finder.specs.Forests.{IsForest}
use Rattle.region_finder.specs.Listings.{IsListingOf, Listed, earlier}
use Rattle.region_tree.specs.Kept.{Grows}
use Rattle.region_tree.specs.Needs.{AreNeeds}
use Rattle.region_tree.specs.Trees.{RegionTree}
use Rattle.region_tree.specs.declared.needs.Need.{Need}

-- listed needs have their nodes there, with their ways
abbrev pub ListingsStay : Type 0
ListingsStay =
    (t u : RegionTree) (ls : List Listed) → IsForest t → Grows t u → IsListingOf t ls → IsListingOf u ls

-- and the same operations interfere
abbrev pub AnswersStay : Type 0
AnswersStay =
    (t u : RegionTree) (ls : List Listed) (context : ℕ) (needs : List Need) → Grows t u →
    IsListingOf t ls → AreNeeds t needs → earlier u ls context needs ≡ earlier t ls context needs
