-- A segment wants only what its frame needs, and what isn't held.
use Rattle.std.specs.Prelude.{◌≡◌, ℕ, None, Some, true}
use Rattle.region_tree.specs.declared.tree.RootId.{RootId}
use Rattle.machine_terms.specs.declared.frame.Before.{Before}
use Rattle.machine_terms.specs.declared.frame.Frame.{Frame}
use Rattle.machine_terms.specs.declared.outcome.After.{After}
use Rattle.machine_terms.specs.declared.outcome.Yield.TheVariants as yield
use Rattle.machine_terms.specs.Parts.{is_needed, part_of}
use Rattle.machine_terms.specs.Segments.{segment}

-- the frame that is left needs the field of the root, and among the parts that are left there is none of it
pub record IsWanted (a : After) (root field : ℕ) : Type 0 where
  pub needed : (f : Frame) → a.frame ≡ Some f → is_needed f.needs.items root field ≡ true
  pub none : part_of a.parts root field ≡ None

abbrev pub WantsAreNeeded : Type 0
WantsAreNeeded = (b : Before) (root : RootId) (field : ℕ) → (segment b).ends ≡ yield.Want root field → IsWanted (segment b) root.0 field
