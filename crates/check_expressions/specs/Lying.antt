-- Regions within regions.
use Rattle.std.specs.Prelude.{Bool, List, ℕ}
use Rattle.regent_tree.specs.Facts.{is_subregion}
use Rattle.regent_tree.specs.declared.facts.Known.{Known}
use Rattle.regent_tree.specs.declared.facts.Term.{Term}
use Rattle.regent_tree.specs.declared.facts.Term.TheVariants as term

-- whether a region lies within the one that is bound with a number
abbrev pub lies_in : List Known → Term → ℕ → Bool
lies_in known t i = is_subregion known t (term.Name i)
