-- The examples, computed.
use Rattle.std.proofs.Common.{refl}
use Rattle.std.specs.Fmt.{digits}
use Rattle.std.specs.Int.{int_wrap}
use Rattle.code_boards.specs.Example.{BoardPrints, EmptyNeedBreaks, OrderPrints}

pub order_prints : OrderPrints
unfolding int_wrap digits
order_prints = refl

pub board_prints : BoardPrints
unfolding int_wrap digits
board_prints = refl

pub empty_need_breaks : EmptyNeedBreaks
unfolding int_wrap digits
empty_need_breaks = refl
