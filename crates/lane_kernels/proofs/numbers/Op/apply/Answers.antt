use Rattle.std.proofs.Common.{rules}
use Rattle.std.proofs.lemmas.Int.{to_z-of_z}
use Rattle.lane_kernels.proofs.Operators.{associative, closed, identity, wrapped-applied}
use Rattle.lane_kernels.proofs.numbers.Op.apply.Goals as goal

pub returns-clause-value : goal.returns-clause-value
returns-clause-value c = search (rules, to_z-of_z, wrapped-applied, c.apply_64.ensures, c.wrap.ensures)

pub returns-clause-closed : goal.returns-clause-closed
returns-clause-closed c = closed c.args.self c.args.width

pub returns-clause-associative : goal.returns-clause-associative
returns-clause-associative c = associative c.args.self c.args.width

pub returns-clause-identity : goal.returns-clause-identity
returns-clause-identity c = identity c.args.self c.args.width
