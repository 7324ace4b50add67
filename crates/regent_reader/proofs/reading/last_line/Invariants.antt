use Rattle.std.proofs.Common.{◌≡◌, ◌≤◌, ◌+◌, take}
use Rattle.regent_reader.specs.Texts.{last_line}
use Rattle.regent_reader.proofs.reading.last_line.Given as goal

abbrev pub invariant-loop-byte : goal.invariant-loop-byte
invariant-loop-byte l = record {
  bound : l.line ≤ l.byte-index + 1;
  so_far : l.line ≡ last_line (take l.byte-index l.text);
}
