-- Which regions began as parts, read from what is told of regions.
use Rattle.std.specs.Prelude.{ℕ, List, [], ◌∷◌, Option, Some, None, cond, ◌==◌}
use Rattle.regent_tree.specs.declared.facts.Colour.{Colour}
use Rattle.regent_tree.specs.declared.facts.Known.{Known}
use Rattle.regent_tree.specs.declared.facts.Known.TheVariants.{Apart, Made, PartOf, Within}
use Rattle.regent_tree.specs.declared.facts.Term.TheVariants as term

abbrev pub or_other : {A : Type 0} → Option A → Option A → Option A
or_other (Some n) o = Some n
or_other None o = o

-- what the first fact tells that tells something
abbrev pub first_told : {A : Type 0} → (Known → Option A) → List Known → Option A
first_told tells [] = None
first_told tells (k ∷ ks) = or_other (tells k) (first_told tells ks)

-- the partition of which a region with a number began as a part
abbrev pub cut_told : ℕ → Known → Option ℕ
cut_told i (Within (term.Name a) (term.Child p c)) = cond (a == i) (Some p) None
cut_told i (Within (term.Name a) (term.Name b)) = None
cut_told i (Within (term.Child q c) b) = None
cut_told i (Apart a b) = None
cut_told i (PartOf p r d) = None
cut_told i (Made s) = None

-- that partition, with the colour
abbrev pub piece_told : ℕ → Known → Option (ℕ × Colour)
piece_told i (Within (term.Name a) (term.Child p c)) = cond (a == i) (Some (p, c)) None
piece_told i (Within (term.Name a) (term.Name b)) = None
piece_told i (Within (term.Child q c) b) = None
piece_told i (Apart a b) = None
piece_told i (PartOf p r d) = None
piece_told i (Made s) = None

abbrev pub piece_in : List Known → ℕ → Option (ℕ × Colour)
piece_in ks i = first_told (piece_told i) ks

-- the region of which a partition with a number is
abbrev pub whole_told : ℕ → Known → Option ℕ
whole_told p (PartOf q r d) = cond (q == p) (Some r) None
whole_told p (Within a b) = None
whole_told p (Apart a b) = None
whole_told p (Made s) = None

-- within which region one with a number began
abbrev pub whole_of : List Known → Option ℕ → Option ℕ
whole_of ks None = None
whole_of ks (Some p) = first_told (whole_told p) ks

abbrev pub above_in : List Known → ℕ → Option ℕ
above_in ks i = whole_of ks (first_told (cut_told i) ks)
