-- What is known of regions, read as claims on regions: on roots and sets of points.
--
-- A binding may be out of scope by now, or may never have been reached: so a claim is on what the numbers
-- of all bindings stand for.
use Rattle.std.specs.Prelude.{Bool, Contains, List, [], get_or, pos, negsuc, true, ℕ, ℤ, ◌<◌, ◌≡◌, ◌≢◌}
use Rattle.plain_values.specs.Points.{has}
use Rattle.regent_tree.specs.Values.{Partition, Region}
use Rattle.regent_tree.specs.declared.facts.Colour.{Colour}
use Rattle.regent_tree.specs.declared.facts.Colour.TheVariants.{Constant, Loop, Unknown}
use Rattle.regent_tree.specs.declared.facts.Known.{Known}
use Rattle.regent_tree.specs.declared.facts.Known.TheVariants.{Within, Apart, PartOf, Made}
use Rattle.regent_tree.specs.declared.facts.Term.{Term}
use Rattle.regent_tree.specs.declared.facts.Term.TheVariants.{Name, Child}

-- what bindings stand for, by their numbers: a region, a partition, the number of a loop's variable
pub record Interpretation : Type 0 where
  pub region : ℕ → Region
  pub partition : ℕ → Partition
  pub number : ℕ → ℤ

-- ---- regions as sets of points, each point with its root

abbrev pub IsIn : Region → ℕ → ℕ → Type 0
IsIn r root point = (r.root ≡ root) × (has r.points point ≡ true)

-- each point of the one is a point of the other
abbrev pub LiesWithin : Region → Region → Type 0
LiesWithin a b = (root point : ℕ) → IsIn a root point → IsIn b root point

abbrev pub SharesNoPoint : Region → Region → Type 0
SharesNoPoint a b = (root point : ℕ) → IsIn a root point → IsIn b root point → ⊥

-- ---- what a term stands for

-- the child of a number; a colour that the partition lacks has no points
abbrev pub child_at : Partition → ℤ → Region
child_at p (pos c) = record { root = p.root; points = get_or p.sets c [] }
child_at p (negsuc c) = record { root = p.root; points = [] }

-- the numbers that a colour stands for: one that is unknown stands for each
abbrev pub IsColour : Interpretation → Colour → ℤ → Type 0
IsColour m (Constant z) c = z ≡ c
IsColour m (Loop i) c = m.number i ≡ c
IsColour m Unknown c = Unit {0}

-- a child of a partition, by a number that its colour stands for
pub record IsChild (m : Interpretation) (p : ℕ) (colour : Colour) (r : Region) : Type 0 where
  pub number : ℤ
  pub is_colour : IsColour m colour number
  pub is_child : child_at (m.partition p) number ≡ r

-- the regions that a term stands for: one, but for a child of an unknown colour
abbrev pub StandsFor : Interpretation → Term → Region → Type 0
StandsFor m (Name i) r = m.region i ≡ r
StandsFor m (Child p c) r = IsChild m p c r

-- ---- relations of terms

-- a region lies within one that the term stands for
pub record LiesWithinSome (m : Interpretation) (r : Region) (b : Term) : Type 0 where
  pub outer : Region
  pub stands : StandsFor m b outer
  pub lies : LiesWithin r outer

-- each region that the first term stands for lies within one that the second stands for
abbrev pub AllLieWithinSome : Interpretation → Term → Term → Type 0
AllLieWithinSome m a b = (r : Region) → StandsFor m a r → LiesWithinSome m r b

-- and within each that the second stands for
abbrev pub AllLieWithinEach : Interpretation → Term → Term → Type 0
AllLieWithinEach m a b = (r outer : Region) → StandsFor m a r → StandsFor m b outer → LiesWithin r outer

-- no region of the one shares a point with one of the other
abbrev pub AreApart : Interpretation → Term → Term → Type 0
AreApart m a b = (r t : Region) → StandsFor m a r → StandsFor m b t → SharesNoPoint r t

-- ---- what is known

-- a partition's children lie within its parent, and share no point where it is disjoint
pub record IsPartitionOf (m : Interpretation) (p r : ℕ) (disjoint : Bool) : Type 0 where
  pub within : (c : ℤ) → LiesWithin (child_at (m.partition p) c) (m.region r)
  pub apart : disjoint ≡ true → (c d : ℤ) → c ≢ d →
      SharesNoPoint (child_at (m.partition p) c) (child_at (m.partition p) d)

-- a region that was made shares no point with those that were bound before it
abbrev pub IsNew : Interpretation → ℕ → Type 0
IsNew m s = (r : ℕ) → r < s → SharesNoPoint (m.region s) (m.region r)

abbrev pub Holds : Interpretation → Known → Type 0
Holds m (Within a b) = AllLieWithinSome m a b
Holds m (Apart a b) = AreApart m a b
Holds m (PartOf p r disjoint) = IsPartitionOf m p r disjoint
Holds m (Made s) = IsNew m s

abbrev pub AllHold : Interpretation → List Known → Type 0
AllHold m facts = (fact : Known) → Contains facts fact → Holds m fact
