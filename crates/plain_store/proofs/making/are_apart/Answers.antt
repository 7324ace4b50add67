use Rattle.std.proofs.Common.{sym}
use Rattle.machine_terms.proofs.ApartSets.{apart_by, sharing_not_apart}
use Rattle.plain_store.proofs.making.are_apart.Goals as goal

pub returns-in-None : goal.returns-in-None
returns-in-None c =
    sym (apart_by c.args.sets.now (c.in_ok-least_shared.ensures.none c.in-None.is))

pub returns-in-Some : goal.returns-in-Some
returns-in-Some c =
    let shared = rw c.in-Some.is at c.in_ok-least_shared.ensures.some in
    sym (sharing_not_apart c.args.sets.now shared.0 shared.1 c.in-Some.field-0 shared.2)
