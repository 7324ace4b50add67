use Rattle.std.proofs.Common.{◌≤◌, drop, length}
use Rattle.machine_terms.specs.declared.order.Contents.{Contents}
use Rattle.machine_terms.specs.Copies.{give_parts}
use Rattle.plain_store.specs.Loans.{AreLent}
use Rattle.plain_store.proofs.returns.give_parts.Given as goal

abbrev pub invariant-loop-part : goal.invariant-loop-part
invariant-loop-part l =
    (l.next ≤ length l.loans)
    × ((c : Contents) → AreLent l.loans c l.initial.kept → AreLent (drop l.next l.loans) (give_parts l.yielded c) l.kept)
