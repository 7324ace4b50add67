-- Reading terminals from the left by a rule: what is read and the terminals behind it, or the terminals
-- at
-- which it stops. The laws say that this is what the rule spells, both ways.
use Rattle.std.specs.Prelude.{ℕ, zero, suc, cond, List, [], ◌∷◌, Option, Some, None, length}
use Rattle.regent_grammar.specs.declared.symbol.Terminal.{Terminal}
use Rattle.regent_grammar.specs.declared.symbol.Symbol.{Symbol}
use Rattle.regent_grammar.specs.Symbols.{Test, line_of}
use Rattle.regent_grammar.specs.Rules.{Sort, Value, Nonterminal, spelt_by, Rule, gives, here, one, both, when◌then◌else◌, many, use'}
use Rattle.regent_grammar.specs.Grammar.{rule_of}

pub data Read (A : Type 0) : Type 0 where
  stuck : List Terminal → Read A
  read : A → List Terminal → Read A

-- what is read next, behind what was read
unfoldable pub then_read : {A B : Type 0} → Read A → (A → List Terminal → Read B) → Read B
then_read (stuck at) more = stuck at
then_read (read x ts) more = more x ts

infixl 10 ◌>>=◌
abbrev pub ◌>>=◌ : {A B : Type 0} → Read A → (A → List Terminal → Read B) → Read B
r >>= more = then_read r more

-- what the table has for the next symbol
abbrev pub read_as : {A : Type 0} → Option A → List Terminal → List Terminal → Read A
read_as None ts all = stuck all
read_as (Some x) ts all = read x ts

abbrev pub taking : {A : Type 0} → (Symbol → Option A) → List Terminal → Read A
taking table [] = stuck []
taking table (t ∷ ts) = read_as (table t.symbol) ts (t ∷ ts)

-- so many items at most, as long as the test passes
unfoldable pub many_upto : {A : Type 0} → Test → (List Terminal → Read A) → ℕ → List Terminal →
    Read (List A)
many_upto test item zero ts = stuck ts
many_upto test item (suc n) ts =
    cond (test ts)
    (item ts >>= λ x mid. many_upto test item n mid >>= λ xs rest. read (x ∷ xs) rest) (read [] ts)

-- what the productions read that lead back to themselves
abbrev pub Later : Type 0
Later = (n : Nonterminal) → List Terminal → Read (Value (spelt_by n))

unfoldable pub reading_with : {s : Sort} → Later → Rule s → List Terminal → Read (Value s)
reading_with later (gives x) ts = read x ts
reading_with later here ts = read (line_of ts) ts
reading_with later (one table) ts = taking table ts
reading_with later (both f r q) ts =
    reading_with later r ts >>= λ x mid. reading_with later q mid >>= λ y rest. read (f x y) rest
reading_with later (when test then r else q) ts =
    cond (test ts) (reading_with later r ts) (reading_with later q ts)
reading_with later (many test r) ts = many_upto test (reading_with later r) (suc (length ts)) ts
reading_with later (use' n) ts = later n ts

-- these productions within so many terminals
unfoldable pub later_upto : ℕ → Later
later_upto zero n ts = stuck ts
later_upto (suc k) n ts = reading_with (later_upto k) (rule_of n) ts

-- as many as there are are enough
unfoldable pub now : Later
now n ts = later_upto (suc (length ts)) n ts

-- what a rule reads
unfoldable pub reading : {s : Sort} → Rule s → List Terminal → Read (Value s)
reading r ts = reading_with now r ts
