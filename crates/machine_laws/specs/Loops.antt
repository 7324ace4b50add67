-- Examples: the heads of loops, and the jumps of `and` and `or`.
use Rattle.std.specs.Prelude.{ℕ, ℤ, pos, [], ◌∷◌, Bool, true, false}
use Rattle.lane_kernels.specs.declared.numbers.Width.TheVariants.{W64}
use Rattle.regent_tree.specs.declared.outcome.FaultKind.TheVariants.{Turns}
use Rattle.task_code.specs.declared.instr.Instr.TheVariants as instr
use Rattle.machine_terms.specs.declared.frame.Before.{Before}
use Rattle.machine_terms.specs.declared.value.Value.{Value}
use Rattle.machine_terms.specs.declared.value.Value.TheVariants as value
use Rattle.machine_laws.specs.Words.{num, null, pointer, number, region, alone, breaks, faults, gives}

-- ---- loops

-- the sum of the numbers from one to below another; there are three turns
abbrev pub sum_from : ℕ → ℕ → Before
sum_from from to = alone (number from ∷ number to ∷ number 0 ∷ number 0 ∷ []) [] []
    (instr.NextNumber 0 1 2 6 ∷ instr.Load 3 ∷ instr.Load 2 ∷ instr.Add W64 ∷ instr.Store 3
    ∷ instr.Jump 0 ∷ instr.Load 3 ∷ instr.ReturnValue ∷ [])

abbrev pub numbers_are_counted : Type 0
numbers_are_counted = gives (sum_from 5 8) (pos 18) × gives (sum_from 5 5) (pos 0)
    × gives (sum_from 5 2) (pos 0) × faults (sum_from 5 9) Turns 1

-- The sum of the points of a domain, as indices or as kept pointers, from a place on.
abbrev pub sum_over : Value → ℤ → Bool → Before
sum_over domain place ptr = alone (domain ∷ value.Number place ∷ number 0 ∷ number 0 ∷ []) [] []
    (instr.NextPoint 0 1 2 ptr 6 ∷ instr.Load 3 ∷ instr.Load 2 ∷ instr.Add W64 ∷ instr.Store 3
    ∷ instr.Jump 0 ∷ instr.Load 3 ∷ instr.ReturnValue ∷ [])

abbrev pub points_are_taken : Type 0
points_are_taken = gives (sum_over (region 0 (4 ∷ 7 ∷ [])) (pos 0) false) (pos 11)
    × gives (sum_over (region 0 (4 ∷ 7 ∷ [])) (pos 0) true) (pointer 2 11)
    × gives (sum_over (region 0 (4 ∷ 7 ∷ [])) (pos 2) false) (pos 0)
    × gives (sum_over (value.Space 3) (pos 1) false) (pos 3)
    × faults (sum_over (value.Space 4) (pos 0) false) Turns 1

-- a place past the number of points, or below 0, and a domain that has no points
abbrev pub wrong_domains_break : Type 0
wrong_domains_break = breaks (sum_over (region 0 (4 ∷ 7 ∷ [])) (pos 3) false)
    × breaks (sum_over (value.Space 3) null false)
    × breaks (sum_over (number 3) (pos 0) false)

-- ---- `and` and `or`

-- one or both of two numbers, as compiled code has it
abbrev pub both_of : ℕ → ℕ → Before
both_of a b = alone [] [] [] (num a ∷ instr.AndJump 3 ∷ num b ∷ instr.ReturnValue ∷ [])

abbrev pub one_of : ℕ → ℕ → Before
one_of a b = alone [] [] [] (num a ∷ instr.OrJump 3 ∷ num b ∷ instr.ReturnValue ∷ [])

abbrev pub truths_are_joined : Type 0
truths_are_joined = gives (both_of 0 1) (pos 0) × gives (both_of 1 0) (pos 0)
    × gives (both_of 1 1) (pos 1) × gives (one_of 0 0) (pos 0) × gives (one_of 0 1) (pos 1)
    × gives (one_of 5 0) (pos 1)
