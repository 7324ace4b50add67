use Rattle.std.proofs.Common.{◌≡◌, ◌++◌, [], drop}
use Rattle.code_rules.specs.Prints.{parts_of}
use Rattle.compile_tables.specs.Parts.{parts_at}
use Rattle.compile_tables.proofs.parts.parts_of.Given as goal

abbrev pub invariant-loop-byte : goal.invariant-loop-byte
invariant-loop-byte l = l.parts ++ parts_at l.after l.text (drop l.byte-index l.format) ≡ parts_of [] l.format
