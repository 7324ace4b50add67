-- How many slots a body uses.
use Rattle.std.specs.Prelude.{ℕ, suc, List, [], ◌∷◌, cond, flat_map, nat_lt}
use Rattle.index_launch.specs.declared.points.LaunchArg.{LaunchArg}
use Rattle.index_launch.specs.declared.points.LaunchArg.TheVariants as launch_arg
use Rattle.task_code.specs.declared.code.Line.{Line}
use Rattle.task_code.specs.declared.instr.Instr.{Instr}
use Rattle.task_code.specs.declared.instr.Instr.TheVariants as instr

abbrev pub greatest : ℕ → ℕ → ℕ
greatest a b = cond (nat_lt a b) b a

abbrev pub above_all : List ℕ → ℕ
above_all [] = 0
above_all (s ∷ ss) = greatest (suc s) (above_all ss)

-- the slots that an argument of a launch names
abbrev pub slots_named : LaunchArg → List ℕ
slots_named (launch_arg.Child s) = s ∷ []
slots_named (launch_arg.Keep s) = s ∷ []
slots_named _ = []

-- a number above those of the slots that an instruction names
abbrev pub slots_used : Instr → ℕ
slots_used (instr.Load s) = suc s
slots_used (instr.Store s) = suc s
slots_used (instr.Cast rs) = above_all rs
slots_used (instr.CastPtr rs) = above_all rs
slots_used (instr.At s) = suc s
slots_used (instr.Read rs f) = above_all rs
slots_used (instr.Write rs f w) = above_all rs
slots_used (instr.Reduce rs f o w) = above_all rs
slots_used (instr.Fill s f w) = suc s
slots_used (instr.Colors s) = suc s
slots_used (instr.Equal s) = suc s
slots_used (instr.ByField s f) = suc s
slots_used (instr.Image s p r f) = above_all (s ∷ p ∷ r ∷ [])
slots_used (instr.Preimage s p r f) = above_all (s ∷ p ∷ r ∷ [])
slots_used (instr.Meet p q s) = above_all (p ∷ q ∷ s ∷ [])
slots_used (instr.Join p q s) = above_all (p ∷ q ∷ s ∷ [])
slots_used (instr.Minus p q s) = above_all (p ∷ q ∷ s ∷ [])
slots_used (instr.Child s) = suc s
slots_used (instr.NextNumber c l v t) = above_all (c ∷ l ∷ v ∷ [])
slots_used (instr.NextPoint s c v ptr t) = above_all (s ∷ c ∷ v ∷ [])
slots_used (instr.Launch task s call_line args) = above_all (s ∷ flat_map slots_named args)
slots_used _ = 0

abbrev pub slots_of_lines : ℕ → List Line → ℕ
slots_of_lines least [] = least
slots_of_lines least (l ∷ ls) = greatest (slots_used l.instr) (slots_of_lines least ls)
