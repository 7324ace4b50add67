use Rattle.std.proofs.Common.{arith}
use Rattle.std.specs.Prelude.{◌==◌}
use Rattle.std.proofs.lemmas.Bool.Decides.{nat_tests}
use Rattle.std.proofs.lemmas.List.Filters.{length-filter_more}
use Rattle.regent_reader.proofs.reading.last_line.Goals.{then-byte-eq10, else-byte-eq10}
use Rattle.regent_reader.proofs.reading.last_line.Goals as goal

pub loop-byte-preserved : goal.loop-byte-preserved
loop-byte-preserved c =
    let more = length-filter_more (λ b. b == 10) c.args.text.now c.loop-byte.byte-index 0 c.loop-byte-test.true in
    let before = c.loop-byte.invariant in
    elim c.if-byte-eq10.branch [
      | then-byte-eq10 w ↦ let e = w.line-is in record {
        bound = omega arith;
        so_far = grind (arith, nat_tests, more, e, before.so_far, w.if-byte-eq10.true);
      }
      | else-byte-eq10 w ↦ let e = w.line-is in record {
        bound = omega arith;
        so_far = grind (arith, nat_tests, more, e, before.so_far, w.if-byte-eq10.false);
      }
    ]
