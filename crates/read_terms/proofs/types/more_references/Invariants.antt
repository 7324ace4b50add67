use Rattle.std.proofs.Common.{◌≡◌, [], ◌∷◌, length}
use Rattle.regent_grammar.specs.Reading.{reading}
use Rattle.regent_grammar.specs.Rules.{many, ◌⊳◌}
use Rattle.regent_grammar.specs.Singles.{a_mark}
use Rattle.regent_grammar.specs.Symbols.{comes, is_mark}
use Rattle.regent_grammar.specs.Types.{reference}
use Rattle.regent_lex.specs.declared.tables.Mark.TheVariants as mark
use Rattle.read_terms.specs.Gives.{with_front}
use Rattle.read_terms.proofs.types.more_references.Given as goal

abbrev pub invariant-loop-alloc : goal.invariant-loop-alloc
invariant-loop-alloc l =
    with_front l.references (reading (many (comes (is_mark mark.Comma)) (a_mark mark.Comma ⊳ reference)) l.rest)
    ≡ with_front (l.fn.first ∷ []) (reading (many (comes (is_mark mark.Comma)) (a_mark mark.Comma ⊳ reference)) l.terminals)

abbrev pub decreases-loop-alloc : goal.decreases-loop-alloc
decreases-loop-alloc l = length l.rest
