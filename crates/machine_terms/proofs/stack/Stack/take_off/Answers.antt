use Rattle.machine_terms.proofs.Tops.{lowered}
use Rattle.machine_terms.proofs.stack.Stack.take_off.Goals as goal

pub returns : goal.returns
returns c =
    lowered c.self.inside.values.items c.args.self.now c.self.inside.top c.args.count c.self.view_is c.self.invariant c.requires
