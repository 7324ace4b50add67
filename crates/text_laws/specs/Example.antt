-- A text that is read, and of which the premises of the law hold: its main task makes a region and hands it to a
-- task that reads a field of one point and adds the number to that of another.
use Rattle.std.specs.Prelude.{List, Ok, [], codes, length, ℕ, ◌≡◌, ◌∷◌}
use Rattle.lane_kernels.specs.declared.numbers.Op.TheVariants.{Sum}
use Rattle.regent_tree.specs.StaticTypes.{entry_name, task_named}
use Rattle.regent_tree.specs.Syntax.{Tree}
use Rattle.regent_tree.specs.declared.program.Grant.TheVariants.{Reads as reads_grant, Reduces}
use Rattle.check_rules.specs.Breaches.{breaches}
use Rattle.regent_reader.specs.Texts.{Reads}
use Rattle.statement_laws.specs.WatchedExample.{calling_tree}

abbrev pub example_text : List ℕ
example_text = codes "fspace f { x : int64 }\ntask t(r : region(ispace(int1d), f)) where reads reduces+(r.x) do r[0].x += r[1].x end\n\ntask main()\nvar s = region(ispace(int1d, 2), f)\nt(s) end"

abbrev pub example_tree : Tree
example_tree = calling_tree (reads_grant ∷ Reduces Sum ∷ [])

pub record ExampleIsRead : Type 0 where
  pub read : Reads example_text (Ok example_tree)
  pub accepted : breaches example_tree ≡ []
  pub no_inputs : length (task_named example_tree (entry_name example_tree)).params ≡ 0
