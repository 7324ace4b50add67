-- A rule is priced where what it spells costs no more than its terminals pay; and each rule that is
-- made of priced rules by a function that costs nothing itself.
use Rattle.std.proofs.Common.{◌≡◌, ℕ, ◌+◌, ◌*◌, ◌-◌, ◌≤◌, List, [], ◌∷◌, Option, Some, length, arith}
use Rattle.regent_lex.specs.contracts.tables.Mark as mark_contract
use Rattle.regent_lex.specs.contracts.tables.Word as word_contract
use Rattle.regent_grammar.specs.declared.symbol.Terminal.{Terminal}
use Rattle.regent_lex.specs.declared.tables.Mark.TheVariants as mark
use Rattle.regent_grammar.specs.declared.symbol.Symbol.{Symbol}
use Rattle.regent_grammar.specs.Symbols.{Test}
use Rattle.regent_grammar.specs.Rules.{Sort, ◌⇒◌, Value, Nonterminal, spelt_by, Rule, gives, here, one, both, when◌then◌else◌, many, use', ◌⊛◌, ◌⊳◌, ◌⊲◌, maybe}
use Rattle.regent_grammar.specs.Singles.{a_mark, a_word, named, the_text, name, text, separated, in_parentheses, maybe_listed, arguments}
use Rattle.regent_grammar.specs.Grammar.{rule_of}
use Rattle.regent_grammar.specs.Guards.{takes}
use Rattle.regent_grammar.specs.Derivations.{Spells, is_given, is_here, is_one, is_both, is_first, is_second, is_many, is_used, SpellsMany, no_more, one_more}
use Rattle.regent_grammar.specs.Laws.{NumberFits}
use Rattle.regent_grammar.proofs.Lengths.{at_most, shrinks, many_shrinks}
use Rattle.regent_grammar.proofs.Sizes.{Size, more}

pub data Priced : (s : Sort) → Rule s → Type 0 where
  price_gives : {s : Sort} {x : Value s} → Size s x 0 → Priced s (gives x)
  price_here : Priced Sort.line here
  price_one : {s : Sort} {table : Symbol → Option (Value s)} →
      ((u : Symbol) (x : Value s) → table u ≡ Some x → NumberFits u → Size s x 2) → Priced s (one table)
  price_both : {a b s : Sort} {f : Value a → Value b → Value s} {r : Rule a} {q : Rule b} →
      ((x : Value a) (n : ℕ) (y : Value b) (m : ℕ) → Size a x n → Size b y m → Size s (f x y) (n + m)) →
      Priced a r → Priced b q → Priced s (both f r q)
  price_when : {s : Sort} {test : Test} {r q : Rule s} → Priced s r → Priced s q → Priced s (when test then r else q)
  price_many : {s : Sort} {test : Test} {r : Rule s} → Priced s r → Priced (Sort.listed s) (many test r)
  price_use : {n : Nonterminal} → Priced (spelt_by n) (use' n)

-- ---- the parts of a priced rule

abbrev Parts : {s : Sort} → Rule s → Type 0
Parts {s} (gives x) = Size s x 0
Parts here = Unit {0}
Parts {s} (one table) = (u : Symbol) (x : Value s) → table u ≡ Some x → NumberFits u → Size s x 2
Parts {s} (both {r = a} {s = b} f r q) =
    ((x : Value a) (n : ℕ) (y : Value b) (m : ℕ) → Size a x n → Size b y m → Size s (f x y) (n + m))
    × Priced a r × Priced b q
Parts {s} (when test then r else q) = Priced s r × Priced s q
Parts (many {s = a} test r) = Priced a r
Parts (use' n) = Unit {0}

parts : {s : Sort} {r : Rule s} → Priced s r → Parts r
parts (price_gives h) = h
parts price_here = tt
parts (price_one h) = h
parts (price_both h p q) = (h, p, q)
parts (price_when p q) = (p, q)
parts (price_many p) = p
parts price_use = tt

-- ---- what is spelt by priced rules

abbrev pub NamedPriced : Type 0
NamedPriced = (n : Nonterminal) → Priced (spelt_by n) (rule_of n)

abbrev pub AllNumbersFit : List Terminal → Type 0
AllNumbersFit [] = Unit {0}
AllNumbersFit (t ∷ ts) = NumberFits t.symbol × AllNumbersFit ts

mutual
  fit_behind : {s : Sort} {r : Rule s} {ts : List Terminal} {x : Value s} {rest : List Terminal} → Spells s r ts x rest → AllNumbersFit ts → AllNumbersFit rest
  fit_behind is_given h = h
  fit_behind is_here h = h
  fit_behind (is_one e) h = h.1
  fit_behind (is_both p q) h = fit_behind q (fit_behind p h)
  fit_behind (is_first e p) h = fit_behind p h
  fit_behind (is_second e p) h = fit_behind p h
  fit_behind (is_many p) h = many_fit_behind p h
  fit_behind (is_used p) h = fit_behind p h

  many_fit_behind : {s : Sort} {test : Test} {r : Rule s} {ts : List Terminal} {xs : List (Value s)} {rest : List Terminal} → SpellsMany s test r ts xs rest → AllNumbersFit ts → AllNumbersFit rest
  many_fit_behind (no_more e) h = h
  many_fit_behind (one_more e p q) h = many_fit_behind q (fit_behind p h)

mutual
  pub sized : {s : Sort} {r : Rule s} {ts : List Terminal} {x : Value s} {rest : List Terminal} → Spells s r ts x rest →
      NamedPriced → AllNumbersFit ts → Priced s r → (n : ℕ) → 2 * length ts ≤ n + 2 * length rest → Size s x n
  sized (is_given {s = s} {x = x}) all h p n l = more s x 0 n (parts p) (omega arith)
  sized is_here all h p n l = tt
  sized (is_one {s = s} {t = t} {ts = ts} {x = x} e) all h p n l = more s x 2 n (parts p t.symbol x e h.0) (omega arith)
  sized (is_both {s = s} {f = f} {r = r} {q = q} {ts = ts} {mid = mid} {rest = rest} {x = x} {y = y} d k) all h p n l =
      let a : length mid ≤ length ts = at_most (takes r) mid ts (shrinks d) in
      let b : length rest ≤ length mid = at_most (takes q) rest mid (shrinks k) in
      let c = parts p in
      let first = sized d all h c.1 (2 * length ts - 2 * length mid) (omega arith) in
      let second = sized k all (fit_behind d h) c.2 (2 * length mid - 2 * length rest) (omega arith) in
      more s (f x y) (2 * length ts - 2 * length mid + (2 * length mid - 2 * length rest)) n (c.0 x (2 * length ts - 2 * length mid) y (2 * length mid - 2 * length rest) first second)
      (omega arith)
  sized (is_first e d) all h p n l = sized d all h (parts p).0 n l
  sized (is_second e d) all h p n l = sized d all h (parts p).1 n l
  sized (is_many d) all h p n l = many_sized d all h (parts p) n l
  sized (is_used {n = m} d) all h p n l = sized d all h (all m) n l

  pub many_sized : {s : Sort} {test : Test} {r : Rule s} {ts : List Terminal} {xs : List (Value s)} {rest : List Terminal} → SpellsMany s test r ts xs rest →
      NamedPriced → AllNumbersFit ts → Priced s r → (n : ℕ) → 2 * length ts ≤ n + 2 * length rest → Size (Sort.listed s) xs n
  many_sized (no_more e) all h p n l = tt
  many_sized (one_more {r = r} {ts = ts} {mid = mid} {rest = rest} e d k) all h p n l =
      let a : length mid ≤ length ts = at_most (takes r) mid ts (shrinks d) in
      let b : length rest ≤ length mid = many_shrinks k in
      let first = sized d all h p (2 * length ts - 2 * length mid) (omega arith) in
      let second = many_sized k all (fit_behind d h) p (2 * length mid - 2 * length rest) (omega arith) in
      (2 * length ts - 2 * length mid, 2 * length mid - 2 * length rest, first, second, omega arith)

-- ---- rules that are made of others

infixl 12 ◌⊛'◌
infixl 14 ◌⊳'◌ ◌⊲'◌
pub ◌⊛'◌ : {s t : Sort} {f : Rule (s ⇒ t)} {r : Rule s} → Priced (s ⇒ t) f → Priced s r → Priced t (f ⊛ r)
f ⊛' r = price_both (λ g n x m hg hx. hg x m hx) f r

pub ◌⊳'◌ : {s t : Sort} {r : Rule s} {q : Rule t} → Priced s r → Priced t q → Priced t (r ⊳ q)
◌⊳'◌ {t = t} r q = price_both (λ x n y m hx hy. more t y m (n + m) hy (omega arith)) r q

pub ◌⊲'◌ : {s t : Sort} {r : Rule s} {q : Rule t} → Priced s r → Priced t q → Priced s (r ⊲ q)
◌⊲'◌ {s = s} r q = price_both (λ x n y m hx hy. more s x n (n + m) hx (omega arith)) r q

pub maybe' : {s : Sort} {test : Test} {r : Rule s} → Priced s r → Priced (Sort.optional s) (maybe test r)
maybe' {s} r = price_when (price_both (λ g n x m hg hx. hg x m hx) (price_gives (λ x m h. more s x m (0 + m) h (omega arith))) r) (price_gives tt)

pub mark' : (m : mark_contract.the_type.D) → Priced Sort.unit (a_mark m)
unfolding a_mark
mark' m = price_one (λ u x e h. omega arith)

pub word' : (w : word_contract.the_type.D) → Priced Sort.unit (a_word w)
unfolding a_word
word' w = price_one (λ u x e h. omega arith)

pub named' : (bytes : List ℕ) → Priced Sort.unit (named bytes)
unfolding named
named' bytes = price_one (λ u x e h. omega arith)

pub the_text' : (bytes : List ℕ) → Priced Sort.unit (the_text bytes)
unfolding the_text
the_text' bytes = price_one (λ u x e h. omega arith)

pub name' : Priced Sort.bytes name
unfolding name
name' = price_one (λ u x e h. omega arith)

pub text' : Priced Sort.bytes text
unfolding text
text' = price_one (λ u x e h. omega arith)

pub cons' : {s : Sort} → Priced (s ⇒ Sort.listed s ⇒ Sort.listed s) (gives (λ x xs. x ∷ xs))
cons' = price_gives (λ x n h xs m k. (n, m, h, k, omega arith))

pub separated' : {s : Sort} {r : Rule s} → Priced s r → Priced (Sort.listed s) (separated r)
unfolding separated
separated' r = cons' ⊛' r ⊛' price_many (mark' mark.Comma ⊳' r)

pub in_parentheses' : {s : Sort} {r : Rule s} → Priced s r → Priced s (in_parentheses r)
unfolding in_parentheses
in_parentheses' r = mark' mark.Open ⊳' r ⊲' mark' mark.Close

pub maybe_listed' : {s : Sort} {r : Rule s} → Priced s r → Priced (Sort.listed s) (maybe_listed r)
unfolding maybe_listed
maybe_listed' r = price_when (in_parentheses' (separated' r)) (price_gives tt)

pub arguments' : {s : Sort} {r : Rule s} → Priced s r → Priced (Sort.listed s) (arguments r)
unfolding arguments
arguments' r = mark' mark.Open ⊳' price_when (price_gives tt) (separated' r) ⊲' mark' mark.Close
