-- Laws of known facts: what follows from them holds of the regions of which they hold.
use Rattle.std.specs.Prelude.{List, pos, length, true, ℕ, ◌≡◌, ◌≢◌, ◌≤◌}
use Rattle.regent_tree.specs.Facts.{are_disjoint, is_subregion}
use Rattle.regent_tree.specs.Values.{Partition, Region}
use Rattle.regent_tree.specs.declared.facts.Known.{Known}
use Rattle.regent_tree.specs.declared.facts.Term.{Term}
use Rattle.constraint_check.specs.Derivations.{IsApart, IsBelow}
use Rattle.fact_laws.specs.Regions.{AllHold, AllLieWithinEach, AllLieWithinSome, AreApart, Interpretation, IsIn, SharesNoPoint, child_at}

-- Each relation that is derivable from facts holds of the regions of which the facts hold. Where a child
-- of an unknown colour stands on the right of `<=`, some colour is meant, and else each.
pub record DerivedHold (m : Interpretation) (facts : List Known) (a b : Term) : Type 0 where
  pub within : IsBelow facts a b → AllLieWithinSome m a b
  pub apart : IsApart facts a b → AreApart m a b

abbrev pub DerivedRelationsHold : Type 0
DerivedRelationsHold = (m : Interpretation) (facts : List Known) → AllHold m facts → (a b : Term) → DerivedHold m facts a b

-- So it is with the answers that are computed. Their right side of `<=` stands for one region.
pub record AnswersHoldOf (m : Interpretation) (facts : List Known) (a b : Term) : Type 0 where
  pub subregion : is_subregion facts a b ≡ true → AllLieWithinEach m a b
  pub disjoint : are_disjoint facts a b ≡ true → AreApart m a b

abbrev pub AnswersHold : Type 0
AnswersHold = (m : Interpretation) (facts : List Known) → AllHold m facts → (a b : Term) → AnswersHoldOf m facts a b

-- Regions of different roots share no point.
abbrev pub OtherRootsShareNoPoint : Type 0
OtherRootsShareNoPoint = (a b : Region) → a.root ≢ b.root → SharesNoPoint a b

-- A colour that a partition lacks has no point.
abbrev pub LackingColoursAreEmpty : Type 0
LackingColoursAreEmpty = (p : Partition) (colour root point : ℕ) → length p.sets ≤ colour →
    IsIn (child_at p (pos colour)) root point → ⊥
