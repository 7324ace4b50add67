-- Pieces of code in which each call is followed by an instruction that puts its result away.
use Rattle.std.specs.Prelude.{ℕ, Bool, List, None}
use Rattle.task_code.specs.declared.instr.Instr.{Instr}
use Rattle.task_code.specs.declared.instr.Instr.TheVariants as instr
use Rattle.code_rules.specs.Pieces.{Piece, empty, op, ◌⨟◌, over, branch, loop, rounds}
use Rattle.eager_laws.specs.Pendings.{IsPut, IsTidyAt}

-- an instruction that is no call, and whose loop counts in slots that are for no results
abbrev pub IsAlone : (ℕ → Bool) → Instr → Type 0
IsAlone for_results i = IsTidyAt for_results i None

-- a piece begins by putting a result away
abbrev pub PutsFirst : (ℕ → Bool) → Piece → Type 0
PutsFirst for_results (op i line) = IsPut for_results i
PutsFirst for_results (a ⨟ b) = PutsFirst for_results a
PutsFirst for_results _ = ⊥

pub data Tidy (for_results : ℕ → Bool) : Piece → Type 0 where
  tidy_empty : Tidy for_results empty
  tidy_op : (i : Instr) (line : ℕ) → IsAlone for_results i → Tidy for_results (op i line)
  tidy_both : (a b : Piece) → Tidy for_results a → Tidy for_results b → Tidy for_results (a ⨟ b)
  tidy_call : (task n line : ℕ) (b : Piece) → PutsFirst for_results b → Tidy for_results b →
      Tidy for_results (op (instr.Call task n) line ⨟ b)
  tidy_over : (k : ℕ → Instr) (line : ℕ) (a : Piece) → ((to : ℕ) → IsAlone for_results (k to)) → Tidy for_results a →
      Tidy for_results (over k line a)
  tidy_branch : (line : ℕ) (a b : Piece) → Tidy for_results a → Tidy for_results b → Tidy for_results (branch line a b)
  tidy_loop : (line : ℕ) (test a : Piece) → Tidy for_results test → Tidy for_results a → Tidy for_results (loop line test a)
  tidy_rounds : (k : ℕ → Instr) (line : ℕ) (a : Piece) → ((to : ℕ) → IsAlone for_results (k to)) → Tidy for_results a →
      Tidy for_results (rounds k line a)
