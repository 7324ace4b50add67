-- The examples, computed.
use Rattle.std.proofs.Common.{refl}
use Rattle.std.specs.Fmt.{digits}
use Rattle.std.specs.Int.{int_wrap}
use Rattle.order_boards.specs.Example.{BothAreBroken, FirstRootHolds}

pub first_root_holds : FirstRootHolds
unfolding int_wrap digits
first_root_holds = (refl, refl)

pub both_are_broken : BothAreBroken
unfolding int_wrap digits
both_are_broken = refl
