-- The position that a region of a pointer's list has in another list.
use Rattle.std.specs.Prelude.{ℕ, List, cond}
use Rattle.regent_tree.specs.declared.facts.Known.{Known}
use Rattle.regent_tree.specs.StaticTypes.{Reach}
use Rattle.regent_tree.specs.Typing.{has_wild, position_of}

abbrev pub position_in : List Known → List Reach → Reach → ℕ
position_in known targets region = cond (has_wild targets) 0 (position_of known targets region)
