use Rattle.std.proofs.Common.{◌≡◌, length, drop, arith, ap}
use Rattle.std.proofs.lemmas.List.{length-drop}
use Rattle.regent_lex.proofs.Reading.{trivia_so_far, token_so_far, fault_told, end_told}
use Rattle.regent_lex.proofs.lex.read_all.Goals as goal

pub returns-in_default : goal.returns-in_default
returns-in_default c =
    end_told c.loop-input_element.tokens.items c.args.text.now c.tail-rest.result.now c.loop-input_element.place
    c.loop-input_element.line
    c.tail-rest.ensures c.in_default.ensures.none c.loop-input_element.invariant.so_far

pub returns-in-Fault : goal.returns-in-Fault
returns-in-Fault c =
    let begins = rw c.in-Fault.is at c.in-Some.ensures.some in
    rw c.line_feeds.ensures.same
    (fault_told c.loop-input_element.tokens.items c.args.text.now c.tail-rest.result.now
    c.loop-input_element.place c.loop-input_element.line
    c.in-Fault.n c.in-Fault.kind c.tail-rest.ensures begins c.loop-input_element.invariant.so_far)

pub loop-input_element-preserved-in-Trivia : goal.loop-input_element-preserved-in-Trivia
loop-input_element-preserved-in-Trivia c =
    let begins = rw c.in-Trivia.is at c.in-Some.ensures.some in
    let left : length c.tail-rest.result.now ≡ length (drop c.loop-input_element.place c.args.text.now) =
    ap length c.tail-rest.ensures in
    record {
      within = omega (arith, begins.1, left, length-drop c.loop-input_element.place c.args.text.now);
      lines = omega (arith, c.line_feeds-line.ensures.within);
      so_far = rw c.line_feeds-line.ensures.same
          (trivia_so_far c.loop-input_element.tokens.items c.args.text.now c.tail-rest.result.now
          c.loop-input_element.place c.loop-input_element.line
          c.in-Trivia.n c.tail-rest.ensures begins c.loop-input_element.invariant.so_far);
    }

pub loop-input_element-preserved : goal.loop-input_element-preserved
loop-input_element-preserved c =
    let begins = rw c.in-Token.is at c.in-Some.ensures.some in
    let left : length c.tail-rest.result.now ≡ length (drop c.loop-input_element.place c.args.text.now) =
    ap length c.tail-rest.ensures in
    record {
      within = omega (arith, begins.1, left, length-drop c.loop-input_element.place c.args.text.now);
      lines = omega (arith, c.line_feeds-line-in-Token.ensures.within);
      so_far = rw (c.line_feeds-line-in-Token.ensures.same, c.in_ok-push-in-Token.ensures.items)
          (token_so_far c.loop-input_element.tokens.items c.args.text.now c.tail-rest.result.now
          c.loop-input_element.place c.loop-input_element.line
          c.in-Token.n c.in-Token.kind c.tail-rest.ensures begins c.loop-input_element.invariant.so_far);
    }
