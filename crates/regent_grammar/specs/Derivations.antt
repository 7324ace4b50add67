-- What a rule spells, and where a text stops that it doesn't spell.
use Rattle.std.specs.Prelude.{◌≡◌, true, false, List, [], ◌∷◌, Option, Some, None}
use Rattle.regent_tree.specs.Syntax.{Tree}
use Rattle.regent_grammar.specs.declared.symbol.Terminal.{Terminal}
use Rattle.regent_grammar.specs.declared.symbol.Symbol.{Symbol}
use Rattle.regent_grammar.specs.Symbols.{Test, line_of}
use Rattle.regent_grammar.specs.Rules.{Sort, Value, Nonterminal, spelt_by, Rule, gives, here, one, both, when◌then◌else◌, many, use'}
use Rattle.regent_grammar.specs.Grammar.{rule_of}
use Rattle.regent_grammar.specs.Items.{program}

mutual
  -- The rule spells the value with the first of the terminals, and leaves the rest.
  pub data Spells : (s : Sort) → Rule s → List Terminal → Value s → List Terminal → Type 0 where
    is_given : {s : Sort} {x : Value s} {ts : List Terminal} → Spells s (gives x) ts x ts
    is_here : {ts : List Terminal} → Spells Sort.line here ts (line_of ts) ts
    is_one : {s : Sort} {table : Symbol → Option (Value s)} {t : Terminal} {ts : List Terminal}
        {x : Value s} → table t.symbol ≡ Some x → Spells s (one table) (t ∷ ts) x ts
    is_both : {a b s : Sort} {f : Value a → Value b → Value s} {r : Rule a} {q : Rule b}
        {ts mid rest : List Terminal} {x : Value a} {y : Value b} →
        Spells a r ts x mid → Spells b q mid y rest → Spells s (both f r q) ts (f x y) rest
    is_first : {s : Sort} {test : Test} {r q : Rule s} {ts rest : List Terminal} {x : Value s} →
        test ts ≡ true → Spells s r ts x rest → Spells s (when test then r else q) ts x rest
    is_second : {s : Sort} {test : Test} {r q : Rule s} {ts rest : List Terminal} {x : Value s} →
        test ts ≡ false → Spells s q ts x rest → Spells s (when test then r else q) ts x rest
    is_many : {s : Sort} {test : Test} {r : Rule s} {ts rest : List Terminal} {xs : List (Value s)} →
        SpellsMany s test r ts xs rest → Spells (Sort.listed s) (many test r) ts xs rest
    is_used : {n : Nonterminal} {ts rest : List Terminal} {x : Value (spelt_by n)} →
        Spells (spelt_by n) (rule_of n) ts x rest → Spells (spelt_by n) (use' n) ts x rest

  -- The rule spells these values one after the other, as often as the test passes.
  pub data SpellsMany : (s : Sort) → Test → Rule s → List Terminal → List (Value s) →
      List Terminal → Type 0 where
    no_more : {s : Sort} {test : Test} {r : Rule s} {ts : List Terminal} →
        test ts ≡ false → SpellsMany s test r ts [] ts
    one_more : {s : Sort} {test : Test} {r : Rule s} {ts mid rest : List Terminal} {x : Value s}
        {xs : List (Value s)} → test ts ≡ true → Spells s r ts x mid →
        SpellsMany s test r mid xs rest → SpellsMany s test r ts (x ∷ xs) rest

mutual
  -- The rule takes the terminals before `at`, and can't take the next.
  pub data Stops : (s : Sort) → Rule s → List Terminal → List Terminal → Type 0 where
    stops_at_end : {s : Sort} {table : Symbol → Option (Value s)} → Stops s (one table) [] []
    stops_at : {s : Sort} {table : Symbol → Option (Value s)} {t : Terminal} {ts : List Terminal} →
        table t.symbol ≡ None → Stops s (one table) (t ∷ ts) (t ∷ ts)
    stops_before : {a b s : Sort} {f : Value a → Value b → Value s} {r : Rule a} {q : Rule b}
        {ts at : List Terminal} → Stops a r ts at → Stops s (both f r q) ts at
    stops_behind : {a b s : Sort} {f : Value a → Value b → Value s} {r : Rule a} {q : Rule b}
        {ts mid at : List Terminal} {x : Value a} →
        Spells a r ts x mid → Stops b q mid at → Stops s (both f r q) ts at
    stops_in_first : {s : Sort} {test : Test} {r q : Rule s} {ts at : List Terminal} →
        test ts ≡ true → Stops s r ts at → Stops s (when test then r else q) ts at
    stops_in_second : {s : Sort} {test : Test} {r q : Rule s} {ts at : List Terminal} →
        test ts ≡ false → Stops s q ts at → Stops s (when test then r else q) ts at
    stops_in_many : {s : Sort} {test : Test} {r : Rule s} {ts at : List Terminal} →
        ManyStop s test r ts at → Stops (Sort.listed s) (many test r) ts at
    stops_in_use : {n : Nonterminal} {ts at : List Terminal} →
        Stops (spelt_by n) (rule_of n) ts at → Stops (spelt_by n) (use' n) ts at

  pub data ManyStop : (s : Sort) → Test → Rule s → List Terminal → List Terminal → Type 0 where
    this_stops : {s : Sort} {test : Test} {r : Rule s} {ts at : List Terminal} →
        test ts ≡ true → Stops s r ts at → ManyStop s test r ts at
    later_stops : {s : Sort} {test : Test} {r : Rule s} {ts mid at : List Terminal} {x : Value s} →
        test ts ≡ true → Spells s r ts x mid → ManyStop s test r mid at →
        ManyStop s test r ts at

-- The terminals are this program; or they are none, and `at` are the first that no production takes
-- and those behind it.
abbrev pub IsProgram : List Terminal → Tree → Type 0
IsProgram ts tree = Spells (Sort.listed Sort.item) program ts tree []

abbrev pub IsNoProgram : List Terminal → List Terminal → Type 0
IsNoProgram ts at = Stops (Sort.listed Sort.item) program ts at
