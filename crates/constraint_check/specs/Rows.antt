-- The rows of the table that holds the facts.
use Rattle.std.specs.Prelude.{◌≡◌, List, map}
use Rattle.regent_tree.specs.Facts.{Row, closed}
use Rattle.regent_tree.specs.declared.facts.Known.{Known}

-- the facts in their order
abbrev pub facts_of : List Row → List Known
facts_of rows = map (λ row. row.0) rows

-- the table has all that follows from its facts
abbrev pub IsClosed : List Row → Type 0
IsClosed rows = rows ≡ closed (facts_of rows)
