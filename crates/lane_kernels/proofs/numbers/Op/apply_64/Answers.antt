use Rattle.std.proofs.Common.{rules}
use Rattle.std.proofs.lemmas.Int.{wraps}
use Rattle.lane_kernels.proofs.numbers.Op.apply_64.Goals as goal

pub returns-in-Sum : goal.returns-in-Sum
returns-in-Sum c = search (rules, wraps)
