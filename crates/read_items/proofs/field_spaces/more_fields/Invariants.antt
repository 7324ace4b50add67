use Rattle.std.proofs.Common.{◌≡◌, [], ◌∷◌, length}
use Rattle.regent_grammar.specs.Reading.{reading}
use Rattle.regent_grammar.specs.Rules.{many, ◌⊳◌}
use Rattle.regent_grammar.specs.Items.{another_field, separator}
use Rattle.regent_grammar.specs.Types.{parameter}
use Rattle.read_terms.specs.Gives.{with_front}
use Rattle.read_items.proofs.field_spaces.more_fields.Given as goal

abbrev pub invariant-loop-alloc : goal.invariant-loop-alloc
invariant-loop-alloc l =
    with_front l.fields (reading (many another_field (separator ⊳ parameter)) l.rest)
    ≡ with_front (l.fn.first ∷ []) (reading (many another_field (separator ⊳ parameter)) l.terminals)

abbrev pub decreases-loop-alloc : goal.decreases-loop-alloc
decreases-loop-alloc l = length l.rest
