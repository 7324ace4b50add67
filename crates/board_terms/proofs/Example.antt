-- The example, computed.
use Rattle.std.proofs.Common.{refl}
use Rattle.board_terms.specs.Example.{FirstFaultDecides, MayNotBegin, NoResultBefore, OthersMayNot, WaitingIsDropped}

pub first_fault_decides : FirstFaultDecides
first_fault_decides = (refl, refl)

pub no_result_before : NoResultBefore
no_result_before = refl

pub others_may_not : OthersMayNot
others_may_not = (refl, refl)

pub may_not_begin : MayNotBegin
may_not_begin = refl

pub waiting_is_dropped : WaitingIsDropped
waiting_is_dropped = refl
