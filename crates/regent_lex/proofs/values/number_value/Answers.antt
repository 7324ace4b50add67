use Rattle.std.proofs.Common.{◌<◌, ◌^◌, arith, take}
use Rattle.std.proofs.lemmas.Bool.{some_since}
use Rattle.regent_lex.specs.Numbers.{value_of}
use Rattle.regent_lex.proofs.Spelt.{front_digits, number_small}
use Rattle.regent_lex.proofs.values.number_value.Goals as goal

pub value-requires : goal.value-requires
value-requires c = rw c.digits.ensures.run (front_digits c.args.spelling.now)

pub unwrap-requires : goal.unwrap-requires
unwrap-requires c =
    let small : value_of (take c.digits.result c.args.spelling.now) < 2 ^ 63 =
    rw c.digits.ensures.run (number_small c.args.spelling.now c.requires) in
    some_since c.value.result _ _ c.value.ensures (λ large. omega arith)
