use Rattle.std.proofs.Common.{arith}
use Rattle.bit_planes.proofs.Bits.{are_words}
use Rattle.bit_planes.proofs.Searches.{found_here, passed_word}
use Rattle.bit_planes.proofs.words.first_bit.Goals as goal

pub loop-place-init : goal.loop-place-init
loop-place-init c = record {
  ahead = omega arith;
  within = c.requires.inside;
  none = λ z a b. absurd (omega arith);
}

pub returns-then-bit-lt64 : goal.returns-then-bit-lt64
returns-then-bit-lt64 c =
    found_here c.args.words.now (are_words c.args.words.now c.type_inv.words) c.args.one c.args.from c.loop-place.place c.turned.result c.first_one-bit.result c.loop-place.invariant c.loop-place-test.true c.turned.ensures c.first_one-bit.ensures c.if-bit-lt64.true

pub loop-place-preserved : goal.loop-place-preserved
loop-place-preserved c =
    passed_word c.args.words.now (are_words c.args.words.now c.type_inv.words) c.args.one c.args.from c.loop-place.place c.turned.result c.first_one-bit.result c.loop-place.invariant c.loop-place-test.true c.turned.ensures c.first_one-bit.ensures c.if-bit-lt64.false

pub returns : goal.returns
returns c =
    let at_end = c.loop-place-test.false in
    record {
      ahead = c.requires.inside;
      within = omega arith;
      none = λ z a b. c.loop-place.invariant.none z a (omega arith);
      found = λ l. absurd (omega arith);
    }
