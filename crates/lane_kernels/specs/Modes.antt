-- The modes in which a field is used.
use Rattle.std.specs.Prelude.{◌≡◌, ◌⊎◌, Bool, true, false, cond, not}
use Rattle.lane_kernels.specs.declared.numbers.Mode.{Mode}
use Rattle.lane_kernels.specs.declared.numbers.Mode.TheVariants.{Read, Write, Reduce}
use Rattle.lane_kernels.specs.declared.numbers.Op.{Op}
use Rattle.lane_kernels.specs.declared.numbers.Op.TheVariants.{Sum, Product, Least, Greatest}

abbrev pub same_op : Op → Op → Bool
same_op Sum Sum = true
same_op Product Product = true
same_op Least Least = true
same_op Greatest Greatest = true
same_op _ _ = false

-- the mode that covers both: the same mode for equal modes, and else Write
abbrev pub joined : Mode → Mode → Mode
joined Read Read = Read
joined (Reduce p) (Reduce q) = cond (same_op p q) (Reduce p) Write
joined _ _ = Write

-- uses in these two modes at one place conflict
abbrev pub in_conflict : Mode → Mode → Bool
in_conflict Read Read = false
in_conflict (Reduce p) (Reduce q) = not (same_op p q)
in_conflict _ _ = true

-- both read, or both reduce with the same operator
abbrev pub Commute : Mode → Mode → Type 0
Commute a b = ((a ≡ Read) × (b ≡ Read)) ⊎ ((op : Op) × (a ≡ Reduce op) × (b ≡ Reduce op))
