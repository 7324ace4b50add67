-- What is derivable of regions from a list of known facts: that one lies within another, and that
-- two share no point. Both hold where they have a finite derivation by the ten rules below.
--
-- In a derivation a term stands as it is written, also a child of an unknown colour: what is
-- derived of it holds for every colour. As an answer it won't do: `p[e]` may be another child each
-- time, so nothing is known to lie within it, not even `p[e]` itself.
use Rattle.std.specs.Prelude.{◌≢◌, ◌<◌, ℕ, ℤ, List, Contains, Bool, true, IsTrue}
use Rattle.regent_tree.specs.Facts.{is_certain}
use Rattle.regent_tree.specs.declared.facts.Colour.{Colour}
use Rattle.regent_tree.specs.declared.facts.Colour.TheVariants.{Constant}
use Rattle.regent_tree.specs.declared.facts.Known.{Known}
use Rattle.regent_tree.specs.declared.facts.Known.TheVariants.{Within, Apart, PartOf, Made}
use Rattle.regent_tree.specs.declared.facts.Term.{Term}
use Rattle.regent_tree.specs.declared.facts.Term.TheVariants.{Name, Child}

-- `a <= b`
pub data IsBelow (facts : List Known) : Term → Term → Type 0 where
  -- a term lies within what is written like it
  same : {a : Term} → IsBelow facts a a
  -- it is declared
  told_within : {a b : Term} → Contains facts (Within a b) → IsBelow facts a b
  -- by way of a third
  through : {a b c : Term} → IsBelow facts a b → IsBelow facts b c → IsBelow facts a c
  -- each child of a partition, of every colour, lies within the partition's parent
  child : {p r : ℕ} {c : Colour} {disjoint : Bool} →
      Contains facts (PartOf p r disjoint) → IsBelow facts (Child p c) (Name r)
  -- a variable that begins as a child lies within it
  variable : {s p : ℕ} {c : Colour} →
      Contains facts (Within (Name s) (Child p c)) → IsBelow facts (Name s) (Child p c)

-- `a * b`
pub data IsApart (facts : List Known) : Term → Term → Type 0 where
  -- it is declared
  told_apart : {a b : Term} → Contains facts (Apart a b) → IsApart facts a b
  -- in the other order
  turned : {a b : Term} → IsApart facts b a → IsApart facts a b
  -- two children of a disjoint partition by different numbers
  children : {p r : ℕ} {i j : ℤ} → Contains facts (PartOf p r true) → i ≢ j →
      IsApart facts (Child p (Constant i)) (Child p (Constant j))
  -- what lies within a term is apart from what the term is apart from
  inside : {a b c : Term} → IsBelow facts a b → IsApart facts b c → IsApart facts a c
  -- a region that was made is apart from each region that was bound before it
  made : {s r : ℕ} → Contains facts (Made s) → r < s → IsApart facts (Name s) (Name r)

-- the answer to `a <= b`: it is derivable, and b stands for one region
pub record IsSubregion (facts : List Known) (a b : Term) : Type 0 where
  pub below : IsBelow facts a b
  pub certain : IsTrue (is_certain b)

-- the answer to `a * b`
abbrev pub IsDisjoint : List Known → Term → Term → Type 0
IsDisjoint facts a b = IsApart facts a b
