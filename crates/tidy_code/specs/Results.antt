-- Which slots are for results: the first of the three slots of each place, and those of parameters.
use Rattle.std.specs.Prelude.{ℕ, zero, suc, Bool, true, false, ◌-◌}

-- a number that 3 divides
abbrev pub third : ℕ → Bool
third zero = true
third (suc zero) = false
third (suc (suc zero)) = false
third (suc (suc (suc n))) = third n

-- with so many parameters, which have the first slots
abbrev pub is_result : ℕ → ℕ → Bool
is_result params s = third (s - params)
