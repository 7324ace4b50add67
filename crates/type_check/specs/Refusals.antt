-- What a check says of a program that it doesn't accept.
use Rattle.std.specs.Prelude.{Contains, Some, ◌≡◌}
use Rattle.regent_tree.specs.PlainProgram.{tree_of}
use Rattle.regent_tree.specs.declared.program.Program.{Program}
use Rattle.check_rules.specs.Breaches.{breaches, breaks}
use Rattle.check_rules.specs.first.FirstInItems.{first_breach}
use Rattle.type_check.specs.declared.check_fault.CheckFault.{CheckFault}
use Rattle.type_check.specs.declared.check_fault.CheckFault.TheVariants.{Memory, Refused}

-- the program is as it was, and the rule is breached on the line, as the first in the order of the
-- checker; want of memory says nothing
abbrev pub Refuses : Program → CheckFault → Type 0
Refuses program (Refused same rule line) = (same ≡ program)
    × (first_breach (tree_of program) ≡ Some (breaks rule line))
    × Contains (breaches (tree_of program)) (breaks rule line)
Refuses program (Memory error) = Unit {0}
