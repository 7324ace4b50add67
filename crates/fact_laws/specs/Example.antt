-- A region of four points, cut into halves; a name for the first half; and a region that was made after
-- these, of another root.
use Rattle.std.specs.Prelude.{List, [], ◌∷◌, pos, suc, true, zero, ℕ, ◌≡◌}
use Rattle.regent_tree.specs.Facts.{are_disjoint, is_subregion}
use Rattle.regent_tree.specs.Values.{Partition, Region, no_region}
use Rattle.regent_tree.specs.declared.facts.Colour.TheVariants.{Constant}
use Rattle.regent_tree.specs.declared.facts.Known.{Known}
use Rattle.regent_tree.specs.declared.facts.Known.TheVariants.{Made, PartOf, Within}
use Rattle.regent_tree.specs.declared.facts.Term.TheVariants.{Child, Name}
use Rattle.fact_laws.specs.Regions.{AllHold, Interpretation}

abbrev pub example_region : ℕ → Region
example_region zero = record { root = 0; points = 0 ∷ 1 ∷ 2 ∷ 3 ∷ [] }
example_region (suc zero) = no_region
example_region (suc (suc zero)) = record { root = 0; points = 0 ∷ 1 ∷ [] }
example_region (suc (suc (suc i))) = record { root = 1; points = 0 ∷ 1 ∷ [] }

abbrev pub halves : Partition
halves = record { root = 0; disjoint = true; sets = (0 ∷ 1 ∷ []) ∷ (2 ∷ 3 ∷ []) ∷ [] }

abbrev pub example_interpretation : Interpretation
example_interpretation = record { region = example_region; partition = λ i. halves; number = λ i. pos 0 }

abbrev pub example_facts : List Known
example_facts = PartOf 1 0 true ∷ Within (Name 2) (Child 1 (Constant (pos 0))) ∷ Made 3 ∷ []

abbrev pub ExampleFactsHold : Type 0
ExampleFactsHold = AllHold example_interpretation example_facts

-- The named half lies within the region and is apart from the other half, and what was made is apart from
-- the region.
pub record ExampleIsAnswered : Type 0 where
  pub half_within : is_subregion example_facts (Name 2) (Name 0) ≡ true
  pub halves_apart : are_disjoint example_facts (Name 2) (Child 1 (Constant (pos 1))) ≡ true
  pub made_apart : are_disjoint example_facts (Name 3) (Name 0) ≡ true
