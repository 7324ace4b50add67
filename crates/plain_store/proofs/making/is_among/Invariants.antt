use Rattle.std.proofs.Common.{◌≡◌, drop}
use Rattle.machine_terms.specs.Contents.{is_among}
use Rattle.plain_store.proofs.making.is_among.Given as goal

abbrev pub invariant-loop-id : goal.invariant-loop-id
invariant-loop-id l = is_among (drop l.id-index l.ids) l.held ≡ is_among l.ids l.held
