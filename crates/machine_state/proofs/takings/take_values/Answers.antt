use Rattle.std.proofs.Common.{rules, arith, reverse}
use Rattle.std.proofs.lemmas.List.{reverse-append}
use Rattle.machine_state.proofs.Taking.{none_left, one_pends, one_more}
use Rattle.machine_state.proofs.takings.take_values.Goals as goal

pub returns-in_default : goal.returns-in_default
returns-in_default c =
    none_left c.args.count c.loop.counter c.args.stack.now c.loop.stack (reverse c.loop.values.items)
    (search rules) c.loop.invariant.whole (search rules)

pub returns-then-is_pending : goal.returns-then-is_pending
returns-then-is_pending c =
    one_pends c.args.count c.loop.counter c.args.stack.now c.loop.stack (reverse c.loop.values.items)
    (search rules) c.loop.invariant.whole c.in-Some.value c.pop.new.self (search rules) (search rules)

pub loop-preserved : goal.loop-preserved
loop-preserved c = record {
  room = omega arith;
  whole = one_more c.args.count c.loop.counter c.args.stack.now c.loop.stack (reverse c.loop.values.items)
      (search rules) c.loop.invariant.whole c.in-Some.value c.pop.new.self (reverse c.push.new.self.items)
      (search rules) (search rules)
      (search (rules, reverse-append, c.in_ok-push.ensures));
}
