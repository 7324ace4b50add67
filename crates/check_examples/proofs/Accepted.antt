use Rattle.std.specs.Prelude.{refl}
use Rattle.check_examples.specs.Accepted.{numbers_accepted, reductions_accepted, partitions_accepted, images_accepted, statements_accepted, calls_accepted, pointers_accepted, limits_accepted}

pub numbers_holds : numbers_accepted
numbers_holds = refl

pub reductions_holds : reductions_accepted
reductions_holds = refl

pub partitions_holds : partitions_accepted
partitions_holds = refl

pub images_holds : images_accepted
images_holds = refl

pub statements_holds : statements_accepted
statements_holds = refl

pub calls_holds : calls_accepted
calls_holds = refl

pub pointers_holds : pointers_accepted
pointers_holds = refl

pub limits_holds : limits_accepted
limits_holds = refl
