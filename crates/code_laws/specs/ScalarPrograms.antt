-- Programs over scalars that are accepted and are given numbers, and the law of them.
use Rattle.std.specs.Prelude.{◌≡◌, ℕ, ℤ, true, List, [], ◌∷◌}
use Rattle.lane_kernels.specs.Numbers.{FitsWidth}
use Rattle.lane_kernels.specs.declared.numbers.Width.{Width}
use Rattle.regent_tree.specs.Limits.{WithinLimits}
use Rattle.regent_tree.specs.Meaning.{meaning}
use Rattle.regent_tree.specs.Syntax.{Tree}
use Rattle.check_rules.specs.Acceptance.{input_widths}
use Rattle.check_rules.specs.Breaches.{breaches}
use Rattle.scalar_form.specs.ScalarForm.{is_scalar_program}
use Rattle.code_laws.specs.Programs.{LeavesNoRoots, RunsAsMeant}

-- a number for each width
abbrev pub AreInputs : List Width → List ℤ → Type 0
AreInputs [] [] = Unit {0}
AreInputs (w ∷ ws) (z ∷ zs) = FitsWidth w z × AreInputs ws zs
AreInputs _ _ = ⊥

-- an accepted program over scalars, and numbers that fit its inputs
pub record IsScalarProgramRun (tree : Tree) (inputs : List ℤ) : Type 0 where
  pub within : WithinLimits tree
  pub accepted : breaches tree ≡ []
  pub scalar : is_scalar_program tree ≡ true
  pub numbers : AreInputs (input_widths tree) inputs

-- The run in order of its code, with any number of turns, is what it means.
abbrev pub ScalarProgramsRunAsMeant : Type 0
ScalarProgramsRunAsMeant = (tree : Tree) (inputs : List ℤ) (turns : ℕ) → IsScalarProgramRun tree inputs → RunsAsMeant tree inputs turns

-- Its meaning has no roots at the end, and is never broken.
abbrev pub ScalarProgramsLeaveNoRoots : Type 0
ScalarProgramsLeaveNoRoots = (tree : Tree) (inputs : List ℤ) (turns : ℕ) → IsScalarProgramRun tree inputs →
    LeavesNoRoots (meaning tree inputs turns).ending
