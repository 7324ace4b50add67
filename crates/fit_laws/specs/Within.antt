-- When the needs of a call are within those of its caller.
use Rattle.std.specs.Prelude.{◌≡◌, ◌⊎◌, ℕ, List, true, Some, slice_get}
use Rattle.lane_kernels.specs.declared.numbers.Mode.{Mode}
use Rattle.lane_kernels.specs.declared.numbers.Mode.TheVariants as mode
use Rattle.plain_values.specs.Points.{has}
use Rattle.region_tree.specs.Requirements.{IsWithin}
use Rattle.task_code.specs.declared.code.NeedCode.{NeedCode}
use Rattle.task_code.specs.declared.code.TaskCode.{TaskCode}
use Rattle.machine_terms.specs.declared.value.RegionValue.{RegionValue}
use Rattle.machine_terms.specs.declared.value.Value.{Value}
use Rattle.machine_terms.specs.Pointers.{region_in}
use Rattle.fit_rules.specs.Shapes.{Among, World}
use Rattle.fit_rules.specs.Fits.{Program, declared_claims, claims, Covers}

-- an access is covered, or a write there
abbrev pub IsGranted : Program → World → TaskCode → ℕ → ℕ → ℕ → Mode → Type 0
IsGranted g x t root f p a = Covers g x t root f p a ⊎ Covers g x t root f p mode.Write

-- each need on the arguments is covered by the caller's declarations, or of a root that it made, at each point
abbrev pub AreCovered : Program → World → TaskCode → List NeedCode → List Value → Type 0
AreCovered g x t needs args = (n : NeedCode) → Among needs n → (r : RegionValue) → region_in (slice_get args n.param) ≡ Some r →
    (p : ℕ) → has r.points p ≡ true → IsGranted g x t r.root.0 n.field p n.mode

abbrev pub CoveredNeedsAreWithin : Type 0
CoveredNeedsAreWithin = (g : Program) (x : World) (t : TaskCode) (needs : List NeedCode) (args : List Value) →
    AreCovered g x t needs args → IsWithin (declared_claims needs args) (claims g x t)
