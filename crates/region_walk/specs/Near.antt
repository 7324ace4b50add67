-- Needs whose nodes aren't separated, and how many pairs of them there are.
use Rattle.std.specs.Prelude.{◌∷◌, ◌+◌, ◌++◌, ◌==◌, ◌&&◌, [], Bool, List, cond, filter, length, not, ℕ}
use Rattle.region_finder.specs.Listings.{Listed, needs_in}
use Rattle.region_tree.specs.Needs.{requirement_of}
use Rattle.region_tree.specs.Requirements.{conflict}
use Rattle.region_tree.specs.Trees.{RegionTree, separated}
use Rattle.region_tree.specs.declared.needs.Need.{Need}
use Rattle.region_walk.specs.Users.{ListedNeed}

-- two needs have one root and one field, and their nodes aren't separated
abbrev pub are_near : RegionTree → Need → Need → Bool
are_near t a b = (a.root.0 == b.root.0) && (a.field == b.field) && not (separated t a.node.0 b.node.0)

-- all needs of the listed operations of a context
abbrev pub needs_of_context : List Listed → ℕ → List Need
needs_of_context [] context = []
needs_of_context (l ∷ ls) context =
    cond (l.context.0 == context) (needs_in l ++ needs_of_context ls context) (needs_of_context ls context)

-- how many pairs of a need of the first and one of the second list are so
abbrev pub near_pairs : RegionTree → List Need → List Need → ℕ
near_pairs t [] others = 0
near_pairs t (n ∷ ns) others = length (filter (are_near t n) others) + near_pairs t ns others

-- ---- users

-- a user is of the context and near a need
abbrev pub is_near : RegionTree → ℕ → Need → ListedNeed → Bool
is_near t context n u = (u.context.0 == context) && are_near t n u.placed.need

-- a user is of the context and conflicts with a need
abbrev pub is_met : RegionTree → ℕ → Need → ListedNeed → Bool
is_met t context n u =
    (u.context.0 == context) && conflict (requirement_of t n) (requirement_of t u.placed.need)

-- how many pairs of one of these needs and a user are so
abbrev pub near_users : RegionTree → ℕ → List Need → List ListedNeed → ℕ
near_users t context [] us = 0
near_users t context (n ∷ ns) us = length (filter (is_near t context n) us) + near_users t context ns us
