-- A name under which proofs open what reading by a rule is.
use Rattle.regent_grammar.specs.Reading as specs

unfoldable pub reading : Unit {0}
unfolding specs.reading specs.reading_with specs.then_read
reading = tt
