-- Texts that are known of some programs, computed on the definitions.
use Rattle.std.proofs.Common.{◌≡◌, pos, negsuc, [], ◌∷◌, ◌++◌, codes, refl, false}
use Rattle.std.specs.Fmt.{digits}
use Rattle.lane_kernels.specs.declared.numbers.FieldKind.TheVariants.{Int64, Pointer, Truth}
use Rattle.regent_tree.specs.declared.outcome.FaultKind.TheVariants.{DivideByZero, Turns}
use Rattle.regent_tree.specs.declared.outcome.Ending.TheVariants.{Finished}
use Rattle.task_code.specs.declared.code.Code.{Code}
use Rattle.task_code.specs.declared.code.FieldCode.{FieldCode}
use Rattle.task_code.specs.declared.code.SpaceCode.{SpaceCode}
use Rattle.run_report.specs.Dumps.{dump_text, field_line, fits_spaces}
use Rattle.run_report.specs.FaultLines.{fault_text}

turns : fault_text (record { kind = Turns; line = 2 }) ≡ codes "fault: Turns at line 2" ++ 10 ∷ []
unfolding digits
turns = refl

division : fault_text (record { kind = DivideByZero; line = 6 }) ≡ codes "fault: DivideByZero at line 6" ++ 10 ∷ []
unfolding digits
division = refl

-- a field space with one field, whose only point has the least number of 64 bits
abbrev number : FieldCode
number = record { name = codes "x"; kind = Int64 }

abbrev one_space : SpaceCode
one_space = record { name = codes "f"; fields = number ∷ [] }

abbrev code : Code
code = record { tasks = []; spaces = one_space ∷ []; start = 0 }

least_number : dump_text code (record { text = []; ending = Finished (record { space = 0; count = 1; fields = (negsuc 9223372036854775807 ∷ []) ∷ [] } ∷ []) })
    ≡ codes "region 0 f 1" ++ 10 ∷ codes "x -9223372036854775808" ++ 10 ∷ []
unfolding digits
least_number = refl

-- pointers into the first region of their list
into_nodes : field_line (record { name = codes "a"; kind = Pointer }) (pos 4294967296 ∷ pos 4294967297 ∷ pos 4294967298 ∷ pos 4294967299 ∷ [])
    ≡ codes "a 0@1 1@1 2@1 3@1" ++ 10 ∷ []
unfolding digits
into_nodes = refl

currents : field_line (record { name = codes "i"; kind = Int64 }) (negsuc 9 ∷ negsuc 9 ∷ negsuc 9 ∷ pos 30 ∷ []) ≡ codes "i -10 -10 -10 30" ++ 10 ∷ []
unfolding digits
currents = refl

-- null, a pointer that was converted to a type with `wild`, and truths
odd_pointers : field_line (record { name = codes "p"; kind = Pointer }) (negsuc 0 ∷ pos 6 ∷ []) ≡ codes "p null 6@0" ++ 10 ∷ []
unfolding digits
odd_pointers = refl

truths : field_line (record { name = codes "t"; kind = Truth }) (pos 0 ∷ pos 1 ∷ []) ≡ codes "t false true" ++ 10 ∷ []
truths = refl

-- a root with a number too many doesn't fit
too_many : fits_spaces code (record { text = []; ending = Finished (record { space = 0; count = 1; fields = (pos 1 ∷ pos 2 ∷ []) ∷ [] } ∷ []) }) ≡ false
too_many = refl
