-- The premises of the law hold of a program whose tasks keep their regions to themselves.
use Rattle.std.proofs.Common.{◌≡◌, Bool, List, [], ◌∷◌, true, false, refl, pos, negsuc, arith}
use Rattle.std.proofs.lemmas.Bool.{leb-true}
use Rattle.std.proofs.lemmas.Int.{ints}
use Rattle.std.proofs.lemmas.List.Sums.{AllPass-from_list_all}
use Rattle.std.specs.Fmt.{digits}
use Rattle.std.specs.Int.{int_wrap}
use Rattle.std.specs.List.{list_all}
use Rattle.std.specs.Prelude.{All, nat_le}
use Rattle.regent_tree.specs.Limits.{KeepsLimit, Part, WithinLimits, counted, greatest_literal, literal, most, node, parts_of_program}
use Rattle.code_laws.specs.LocalExample.{LocalExampleHolds, local_program}
use Rattle.code_laws.specs.AcceptedPrograms.{IsProgramRun}
use Rattle.code_laws.proofs.WrittenForms.{program_written}

-- whether a part keeps its limit, by computing
abbrev keeps : Part → Bool
keeps node = true
keeps (literal (pos n) w) = nat_le n (greatest_literal w)
keeps (literal (negsuc n) w) = false
keeps (counted what n) = nat_le n (most what)

keeps_limit : (p : Part) → keeps p ≡ true → KeepsLimit p
keeps_limit node e = tt
keeps_limit (literal (pos n) w) e = (n, refl, leb-true n (greatest_literal w) e)
keeps_limit (literal (negsuc n) w) e = absurd cc
keeps_limit (counted what n) e = leb-true n (most what) e

pub all_keep : (ps : List Part) → list_all keeps ps ≡ true → All KeepsLimit ps
all_keep ps e k d low = keeps_limit _ (AllPass-from_list_all keeps ps e k d low)

within : WithinLimits local_program
within = record { each = all_keep (parts_of_program local_program) refl; nodes = omega (arith) }

run : IsProgramRun local_program (pos 5 ∷ [])
run = record { within = within; accepted = refl; written = program_written local_program refl; numbers = (omega (arith, ints), tt) }

pub local_example_holds : LocalExampleHolds
unfolding int_wrap digits
local_example_holds = record {
  run = run;
  plain = record { run = run; plain = refl };
  end_is = refl;
  fault_run = record { within = within; accepted = refl; written = program_written local_program refl; numbers = (omega (arith, ints), tt) };
  fault_is = refl;
}
