-- The code of the example is sound, so that the laws are laws of something.
use Rattle.std.specs.Prelude.{◌≡◌, None}
use Rattle.machine_terms.specs.declared.outcome.Yield.TheVariants as yield
use Rattle.machine_terms.specs.Segments.{segment}
use Rattle.fit_rules.specs.Example.{before, program, task}
use Rattle.fit_rules.specs.Sound.{IsSound}

-- it makes a root, takes an element of a region that is known to lie within another, and reads and writes
-- there what is declared on the other
abbrev pub ExampleIsSound : Type 0
ExampleIsSound = IsSound program task 0

-- from the state in its middle it writes and ends
abbrev pub ExampleEnds : Type 0
ExampleEnds = (segment before).ends ≡ yield.End None
