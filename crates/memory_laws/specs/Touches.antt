-- Touches that needs allow.
use Rattle.std.specs.Prelude.{◌≡◌, ◌⊎◌, ℤ, List, Option, Some}
use Rattle.lane_kernels.specs.declared.numbers.Mode.{Mode}
use Rattle.lane_kernels.specs.declared.numbers.Mode.TheVariants as mode
use Rattle.lane_kernels.specs.declared.numbers.Width.{Width}
use Rattle.lane_kernels.specs.Numbers.{applied, wrapped}
use Rattle.region_tree.specs.Requirements.{Requirement, mode_at}
use Rattle.regent_tree.specs.Store.{Touch}
use Rattle.machine_terms.specs.declared.order.Contents.{Contents}
use Rattle.memory_laws.specs.Places.{number_at}

-- an access may be made where this is the mode that is needed or held
abbrev pub Covers : Mode → Option Mode → Type 0
Covers mode.Read o = (o ≡ Some mode.Read) ⊎ (o ≡ Some mode.Write)
Covers mode.Write o = o ≡ Some mode.Write
Covers (mode.Reduce op) o = (o ≡ Some mode.Write) ⊎ (o ≡ Some (mode.Reduce op))

-- the number behind an access: the new one, or the old one with the new one folded in, at a width
abbrev pub changed : Mode → Width → ℤ → ℤ → ℤ
changed mode.Read w old z = old
changed mode.Write w old z = wrapped w z
changed (mode.Reduce op) w old z = applied op w old (wrapped w z)

-- a touch of a root at a place of the store is covered by needs on the root's number
abbrev pub IsCovered : Contents → List Requirement → Touch → Type 0
IsCovered contents needs t =
    Covers t.access (mode_at needs (number_at contents t.root) t.field t.point)
