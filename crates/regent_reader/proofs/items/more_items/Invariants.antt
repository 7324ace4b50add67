use Rattle.std.proofs.Common.{◌≡◌, length, map}
use Rattle.regent_tree.specs.PlainProgram.{item_tree_of}
use Rattle.regent_grammar.specs.Reading.{reading}
use Rattle.regent_grammar.specs.Rules.{many}
use Rattle.regent_grammar.specs.Items.{item}
use Rattle.regent_grammar.specs.Symbols.{goes_on}
use Rattle.read_terms.specs.Gives.{with_front}
use Rattle.regent_reader.proofs.items.more_items.Given as goal

abbrev pub invariant-loop-rest : goal.invariant-loop-rest
invariant-loop-rest l =
    with_front (map item_tree_of l.items.items) (reading (many goes_on item) l.rest)
    ≡ with_front (map item_tree_of l.fn.front.items) (reading (many goes_on item) l.terminals)

abbrev pub decreases-loop-rest : goal.decreases-loop-rest
decreases-loop-rest l = length l.rest
