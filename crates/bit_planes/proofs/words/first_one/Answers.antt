use Rattle.std.proofs.Common.{arith}
use Rattle.bit_planes.proofs.Masks.{first_missing, first_found}
use Rattle.bit_planes.proofs.words.first_one.Goals as goal

pub returns-then-rest-eq0 : goal.returns-then-rest-eq0
returns-then-rest-eq0 c = first_missing c.args.word c.args.from (omega arith) c.requires c.if-rest-eq0.true

pub returns-else-rest-eq0 : goal.returns-else-rest-eq0
returns-else-rest-eq0 c = first_found c.args.word c.args.from (omega arith) (omega arith) (omega arith)
