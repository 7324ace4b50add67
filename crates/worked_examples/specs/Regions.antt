-- Facts about regions, what follows from them, and what doesn't.
use Rattle.std.specs.Prelude.{◌≡◌, pos, [], ◌∷◌, true, false}
use Rattle.regent_tree.specs.declared.facts.Colour.{Colour}
use Rattle.regent_tree.specs.declared.facts.Colour.TheVariants.{Constant, Loop, Unknown}
use Rattle.regent_tree.specs.declared.facts.Known.TheVariants.{Within, Apart, PartOf, Made}
use Rattle.regent_tree.specs.declared.facts.Term.{Term}
use Rattle.regent_tree.specs.declared.facts.Term.TheVariants.{Name, Child}
use Rattle.regent_tree.specs.Facts.{is_subregion, are_disjoint}

-- binding 1 is a partition, and this is its child of a colour
abbrev pub child : Colour → Term
child c = Child 1 c

-- Children of a disjoint partition: p[0] and p[1] share no point. Nothing is known of p[0] with
-- itself, with p[i] and with an unknown child, and nothing of an aliased partition's children.
abbrev pub siblings_means : Type 0
siblings_means =
    are_disjoint (PartOf 1 0 true ∷ []) (child (Constant (pos 0))) (child (Constant (pos 1)))
    ∷ are_disjoint (PartOf 1 0 true ∷ []) (child (Constant (pos 0))) (child (Constant (pos 0)))
    ∷ are_disjoint (PartOf 1 0 true ∷ []) (child (Constant (pos 0))) (child (Loop 4))
    ∷ are_disjoint (PartOf 1 0 true ∷ []) (child (Constant (pos 0))) (child Unknown)
    ∷ are_disjoint (PartOf 1 0 false ∷ []) (child (Constant (pos 0))) (child (Constant (pos 1)))
    ∷ [] ≡ true ∷ false ∷ false ∷ false ∷ false ∷ []

-- Region 2 lies in p[0] before the fact about p is known; p has the parents 0 and 5.
abbrev pub told_late_means : Type 0
told_late_means =
    let facts = Within (Name 2) (child (Constant (pos 0)))
    ∷ PartOf 1 0 true ∷ PartOf 1 5 true ∷ [] in
    is_subregion facts (Name 2) (Name 0)
    ∷ is_subregion facts (Name 2) (Name 5)
    ∷ is_subregion facts (child (Loop 7)) (Name 5)
    ∷ is_subregion facts (Name 0) (Name 5)
    ∷ [] ≡ true ∷ true ∷ true ∷ false ∷ []

-- Region 2 began as p[e]: it lies within p's parent, and p[e] does, but it isn't known to lie
-- within p[e] again, and p[e] isn't the same as itself.
abbrev pub unknown_child_means : Type 0
unknown_child_means =
    let facts = PartOf 1 0 true ∷ Within (Name 2) (child Unknown) ∷ [] in
    is_subregion facts (Name 2) (Name 0)
    ∷ is_subregion facts (child Unknown) (Name 0)
    ∷ is_subregion facts (Name 2) (child Unknown)
    ∷ is_subregion facts (child Unknown) (child Unknown)
    ∷ is_subregion facts (child (Loop 3)) (child (Loop 3))
    ∷ [] ≡ true ∷ true ∷ false ∷ false ∷ true ∷ []

-- 0 <= 1 <= 2 <= 0, one of these facts twice, and 4 besides.
abbrev pub cycle_means : Type 0
cycle_means =
    let facts = Within (Name 0) (Name 1) ∷ Within (Name 1) (Name 2) ∷ Within (Name 0) (Name 1)
    ∷ Within (Name 2) (Name 0) ∷ Within (Name 4) (Name 1) ∷ [] in
    is_subregion facts (Name 1) (Name 0)
    ∷ is_subregion facts (Name 4) (Name 0)
    ∷ is_subregion facts (Name 0) (Name 4)
    ∷ [] ≡ true ∷ true ∷ false ∷ []

-- 3 <= 1, 4 <= 2 and 1 * 2: so 3 * 4 in both orders, but 3 isn't disjoint from 1.
abbrev pub apart_above_means : Type 0
apart_above_means =
    let facts = Within (Name 3) (Name 1)
    ∷ Apart (Name 1) (Name 2) ∷ Within (Name 4) (Name 2) ∷ [] in
    are_disjoint facts (Name 3) (Name 4)
    ∷ are_disjoint facts (Name 4) (Name 3)
    ∷ are_disjoint facts (Name 3) (Name 1)
    ∷ [] ≡ true ∷ true ∷ false ∷ []

-- Region 3 was made when 2 was bound, and before 4 was; p[e] lies in 3.
abbrev pub made_later_means : Type 0
made_later_means =
    let facts = Made 3 ∷ PartOf 1 3 false ∷ [] in
    are_disjoint facts (Name 3) (Name 2)
    ∷ are_disjoint facts (Name 2) (Name 3)
    ∷ are_disjoint facts (child Unknown) (Name 2)
    ∷ are_disjoint facts (Name 3) (Name 4)
    ∷ [] ≡ true ∷ true ∷ true ∷ false ∷ []
