-- Laws of the trees that texts spell.
use Rattle.std.specs.Prelude.{List, Ok, ℕ}
use Rattle.regent_tree.specs.Limits.{WithinLimits}
use Rattle.regent_tree.specs.Syntax.{Tree}
use Rattle.regent_reader.specs.Texts.{Reads}
use Rattle.expression_laws.specs.WrittenStatements.{AreWrittenTasks}

-- in each tree that is read a prefix has a sign, a chain has a link, and a fill names a field
abbrev pub ReadTreesAreWritten : Type 0
ReadTreesAreWritten = (text : List ℕ) (tree : Tree) → Reads text (Ok tree) → AreWrittenTasks tree

-- each tree that is read is within the limits
abbrev pub ReadTreesAreWithin : Type 0
ReadTreesAreWithin = (text : List ℕ) (tree : Tree) → Reads text (Ok tree) → WithinLimits tree
