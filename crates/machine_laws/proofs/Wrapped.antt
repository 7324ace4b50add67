-- Examples that wrap numbers or print them, by computing.
use Rattle.std.specs.Fmt.{digits}
use Rattle.std.specs.Int.{int_wrap}
use Rattle.std.specs.Prelude.{refl}
use Rattle.machine_laws.specs.Accesses.{great_number_is_wrapped, written_point_is_set}
use Rattle.machine_laws.specs.Faults.{least_quotient_wraps}
use Rattle.machine_laws.specs.Resumptions.{child_is_awaited, reduction_starts_at_identity}

pub written_point_holds : written_point_is_set
unfolding int_wrap
written_point_holds = ((refl, refl), (refl, refl), (refl, refl), (refl, refl))

pub great_number_holds : great_number_is_wrapped
unfolding int_wrap
great_number_holds = ((refl, refl), (refl, refl))

pub least_quotient_holds : least_quotient_wraps
unfolding int_wrap
least_quotient_holds = (refl, refl)

pub child_holds : child_is_awaited
unfolding digits
child_holds = (refl, refl, (refl, refl, (refl, refl)))

pub reduction_holds : reduction_starts_at_identity
unfolding int_wrap
reduction_holds = (refl, refl)
