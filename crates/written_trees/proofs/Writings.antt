-- A rule writes where what it spells is as the reader gives it; and each rule writes that is made of rules that write.
use Rattle.std.proofs.Common.{◌≡◌, ℕ, true, List, [], ◌∷◌, Option, Some, None}
use Rattle.regent_tree.specs.Syntax.{ItemForm, Statement, a_statement, task_item}
use Rattle.regent_lex.specs.contracts.tables.Mark as mark_contract
use Rattle.regent_lex.specs.contracts.tables.Word as word_contract
use Rattle.regent_lex.specs.declared.tables.Mark.TheVariants as mark
use Rattle.regent_grammar.specs.declared.symbol.Symbol.{Symbol}
use Rattle.regent_grammar.specs.declared.symbol.Terminal.{Terminal}
use Rattle.regent_grammar.specs.Derivations.{Spells, SpellsMany, is_both, is_first, is_given, is_here, is_many, is_one, is_second, is_used, no_more, one_more}
use Rattle.regent_grammar.specs.Grammar.{rule_of}
use Rattle.regent_grammar.specs.Nodes.{Stepped, by_field, by_place}
use Rattle.regent_grammar.specs.Rules.{Nonterminal, Rule, Sort, Value, both, gives, here, many, maybe, one, spelt_by, use', when◌then◌else◌, ◌⇒◌, ◌⊛◌, ◌⊲◌, ◌⊳◌}
use Rattle.regent_grammar.specs.Singles.{a_mark, a_word, arguments, in_parentheses, maybe_listed, name, named, separated, text, the_text}
use Rattle.regent_grammar.specs.Symbols.{Test}
use Rattle.expression_laws.specs.Writing.{AreStepped, IsWritten}
use Rattle.expression_laws.specs.WrittenStatements.{IsWrittenBlock, IsWrittenForm, IsWrittenInitializer, names_field}

abbrev pub IsWrittenStep : Stepped → Type 0
IsWrittenStep (by_field n) = Unit {0}
IsWrittenStep (by_place e) = IsWritten e

abbrev pub IsWrittenStatement : Statement → Type 0
IsWrittenStatement (a_statement line form) = IsWrittenForm form

abbrev pub IsWrittenItem : ItemForm → Type 0
IsWrittenItem (task_item t) = IsWrittenBlock t.body
IsWrittenItem form = Unit {0}

-- what is written as it should be, of each sort
abbrev pub Written : (s : Sort) → Value s → Type 0
Written Sort.names x = names_field x ≡ true
Written Sort.joined x = IsWritten x.operand
Written Sort.step x = IsWrittenStep x
Written Sort.accessed x = AreStepped x.steps
Written Sort.expression x = IsWritten x
Written Sort.initializer x = IsWrittenInitializer x
Written Sort.arm x = IsWritten x.test × IsWrittenBlock x.body
Written Sort.form x = IsWrittenForm x
Written Sort.statement x = IsWrittenStatement x
Written Sort.block x = IsWrittenBlock x
Written Sort.item_form x = IsWrittenItem x
Written Sort.item x = IsWrittenItem x.form
Written (Sort.optional s) None = Unit {0}
Written (Sort.optional s) (Some x) = Written s x
Written (Sort.listed s) [] = Unit {0}
Written (Sort.listed s) (x ∷ xs) = Written s x × Written (Sort.listed s) xs
Written (s ⇒ t) f = (x : Value s) → Written s x → Written t (f x)
Written s x = Unit {0}

pub data Writes : (s : Sort) → Rule s → Type 0 where
  write_gives : {s : Sort} {x : Value s} → Written s x → Writes s (gives x)
  write_here : Writes Sort.line here
  write_one : {s : Sort} {table : Symbol → Option (Value s)} → ((u : Symbol) (x : Value s) → table u ≡ Some x → Written s x) → Writes s (one table)
  write_both : {a b s : Sort} {f : Value a → Value b → Value s} {r : Rule a} {q : Rule b} →
      ((x : Value a) (y : Value b) → Written a x → Written b y → Written s (f x y)) → Writes a r → Writes b q → Writes s (both f r q)
  write_when : {s : Sort} {test : Test} {r q : Rule s} → Writes s r → Writes s q → Writes s (when test then r else q)
  write_many : {s : Sort} {test : Test} {r : Rule s} → Writes s r → Writes (Sort.listed s) (many test r)
  write_use : {n : Nonterminal} → Writes (spelt_by n) (use' n)

-- ---- the parts of a rule that writes

abbrev Parts : {s : Sort} → Rule s → Type 0
Parts {s} (gives x) = Written s x
Parts here = Unit {0}
Parts {s} (one table) = (u : Symbol) (x : Value s) → table u ≡ Some x → Written s x
Parts {s} (both {r = a} {s = b} f r q) = ((x : Value a) (y : Value b) → Written a x → Written b y → Written s (f x y)) × Writes a r × Writes b q
Parts {s} (when test then r else q) = Writes s r × Writes s q
Parts (many {s = a} test r) = Writes a r
Parts (use' n) = Unit {0}

parts : {s : Sort} {r : Rule s} → Writes s r → Parts r
parts (write_gives h) = h
parts write_here = tt
parts (write_one h) = h
parts (write_both h p q) = (h, p, q)
parts (write_when p q) = (p, q)
parts (write_many p) = p
parts write_use = tt

-- ---- what is spelt by rules that write

abbrev pub AllWrite : Type 0
AllWrite = (n : Nonterminal) → Writes (spelt_by n) (rule_of n)

mutual
  pub written : {s : Sort} {r : Rule s} {ts : List Terminal} {x : Value s} {rest : List Terminal} → Spells s r ts x rest → AllWrite → Writes s r → Written s x
  written is_given all p = parts p
  written is_here all p = tt
  written (is_one {t = t} {x = x} e) all p = parts p t.symbol x e
  written (is_both {x = x} {y = y} d k) all p =
      let c = parts p in
      c.0 x y (written d all c.1) (written k all c.2)
  written (is_first e d) all p = written d all (parts p).0
  written (is_second e d) all p = written d all (parts p).1
  written (is_many d) all p = many_written d all (parts p)
  written (is_used {n = m} d) all p = written d all (all m)

  many_written : {s : Sort} {test : Test} {r : Rule s} {ts : List Terminal} {xs : List (Value s)} {rest : List Terminal} → SpellsMany s test r ts xs rest → AllWrite → Writes s r →
      Written (Sort.listed s) xs
  many_written (no_more e) all p = tt
  many_written (one_more e d k) all p = (written d all p, many_written k all p)

-- ---- rules that are made of others

infixl 12 ◌⊛'◌
infixl 14 ◌⊳'◌ ◌⊲'◌
pub ◌⊛'◌ : {s t : Sort} {f : Rule (s ⇒ t)} {r : Rule s} → Writes (s ⇒ t) f → Writes s r → Writes t (f ⊛ r)
f ⊛' r = write_both (λ g x hg hx. hg x hx) f r

pub ◌⊳'◌ : {s t : Sort} {r : Rule s} {q : Rule t} → Writes s r → Writes t q → Writes t (r ⊳ q)
r ⊳' q = write_both (λ x y hx hy. hy) r q

pub ◌⊲'◌ : {s t : Sort} {r : Rule s} {q : Rule t} → Writes s r → Writes t q → Writes s (r ⊲ q)
r ⊲' q = write_both (λ x y hx hy. hx) r q

pub maybe' : {s : Sort} {test : Test} {r : Rule s} → Writes s r → Writes (Sort.optional s) (maybe test r)
maybe' {s} r = write_when (write_both (λ g x hg hx. hg x hx) (write_gives (λ x h. h)) r) (write_gives tt)

pub mark' : (m : mark_contract.the_type.D) → Writes Sort.unit (a_mark m)
unfolding a_mark
mark' m = write_one (λ u x e. tt)

pub word' : (w : word_contract.the_type.D) → Writes Sort.unit (a_word w)
unfolding a_word
word' w = write_one (λ u x e. tt)

pub named' : (bytes : List ℕ) → Writes Sort.unit (named bytes)
unfolding named
named' bytes = write_one (λ u x e. tt)

pub the_text' : (bytes : List ℕ) → Writes Sort.unit (the_text bytes)
unfolding the_text
the_text' bytes = write_one (λ u x e. tt)

pub name' : Writes Sort.bytes name
unfolding name
name' = write_one (λ u x e. tt)

pub text' : Writes Sort.bytes text
unfolding text
text' = write_one (λ u x e. tt)

pub cons' : {s : Sort} → Writes (s ⇒ Sort.listed s ⇒ Sort.listed s) (gives (λ x xs. x ∷ xs))
cons' = write_gives (λ x h xs k. (h, k))

pub separated' : {s : Sort} {r : Rule s} → Writes s r → Writes (Sort.listed s) (separated r)
unfolding separated
separated' r = cons' ⊛' r ⊛' write_many (mark' mark.Comma ⊳' r)

pub in_parentheses' : {s : Sort} {r : Rule s} → Writes s r → Writes s (in_parentheses r)
unfolding in_parentheses
in_parentheses' r = mark' mark.Open ⊳' r ⊲' mark' mark.Close

pub maybe_listed' : {s : Sort} {r : Rule s} → Writes s r → Writes (Sort.listed s) (maybe_listed r)
unfolding maybe_listed
maybe_listed' r = write_when (in_parentheses' (separated' r)) (write_gives tt)

pub arguments' : {s : Sort} {r : Rule s} → Writes s r → Writes (Sort.listed s) (arguments r)
unfolding arguments
arguments' r = mark' mark.Open ⊳' write_when (write_gives tt) (separated' r) ⊲' mark' mark.Close
