-- The line of a fault.
use Rattle.std.specs.Prelude.{ℕ, List, [], ◌∷◌, ◌++◌, codes}
use Rattle.std.specs.Fmt.{decimal}
use Rattle.regent_tree.specs.declared.outcome.Fault.{Fault}
use Rattle.regent_tree.specs.declared.outcome.FaultKind.{FaultKind}
use Rattle.regent_tree.specs.declared.outcome.FaultKind.TheVariants.{AssertFailed, BadColor, BadSize, Depth, DivideByZero, NullPointer, OutOfRegion, Turns}

abbrev pub name_of : FaultKind → List ℕ
name_of DivideByZero = codes "DivideByZero"
name_of OutOfRegion = codes "OutOfRegion"
name_of NullPointer = codes "NullPointer"
name_of BadColor = codes "BadColor"
name_of AssertFailed = codes "AssertFailed"
name_of Turns = codes "Turns"
name_of Depth = codes "Depth"
name_of BadSize = codes "BadSize"

-- the line ends with a line feed (10)
abbrev pub fault_text : Fault → List ℕ
fault_text f =
    codes "fault: " ++ name_of f.kind ++ codes " at line " ++ decimal f.line ++ 10 ∷ []
