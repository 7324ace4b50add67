-- Laws of the grammar.
use Rattle.std.specs.Prelude.{◌≡◌, ◌≢◌, ◌↔◌, ℕ, ◌≤◌, ◌*◌, List, [], ◌++◌, true, All, length, Ok, None, Some}
use Rattle.regent_lex.specs.Places as place
use Rattle.regent_lex.specs.declared.token.Token.{Token}
use Rattle.regent_lex.specs.Places.{spelling}
use Rattle.regent_lex.specs.Texts.{Lexes}
use Rattle.regent_tree.specs.Limits.{Part, literal, KeepsLimit, number_of_nodes, parts_of_program, first_excess, WithinLimits}
use Rattle.regent_tree.specs.declared.limits.Excess.{Excess}
use Rattle.regent_tree.specs.Syntax.{Tree}
use Rattle.regent_grammar.specs.declared.symbol.Terminal.{Terminal}
use Rattle.regent_grammar.specs.declared.symbol.Symbol.{Symbol}
use Rattle.regent_grammar.specs.declared.symbol.Symbol.TheVariants as symbol
use Rattle.regent_grammar.specs.Terminals.{terminals}
use Rattle.regent_grammar.specs.Rules.{Sort, Value, Rule}
use Rattle.regent_grammar.specs.Items.{program}
use Rattle.regent_grammar.specs.Guards.{is_sound}
use Rattle.regent_grammar.specs.Derivations.{Spells, Stops, IsProgram, IsNoProgram}
use Rattle.regent_grammar.specs.Reading.{stuck, read, reading}

-- terminals are one program at most
abbrev pub OneTree : Type 0
OneTree =
    (ts : List Terminal) (tree other : Tree) → IsProgram ts tree → IsProgram ts other → tree ≡ other

-- they are a program, or stop somewhere
pub data Decided (ts : List Terminal) : Type 0 where
  a_program : (tree : Tree) → IsProgram ts tree → Decided ts
  no_program : (at : List Terminal) → IsNoProgram ts at → Decided ts

abbrev pub AllDecided : Type 0
AllDecided = (ts : List Terminal) → Decided ts

-- but not both
abbrev pub NeverBoth : Type 0
NeverBoth = (ts at : List Terminal) (tree : Tree) → IsProgram ts tree → IsNoProgram ts at → ⊥

-- and they stop at one place, which is in the text
abbrev pub OnePlace : Type 0
OnePlace = (ts at other : List Terminal) → IsNoProgram ts at → IsNoProgram ts other → at ≡ other

abbrev pub PlaceInText : Type 0
PlaceInText = (ts at : List Terminal) → IsNoProgram ts at → (front : List Terminal) × (ts ≡ front ++ at)

-- a program is a whole text
abbrev pub NoneBehind : Type 0
NoneBehind =
    (ts rest : List Terminal) (tree : Tree) → Spells (Sort.listed Sort.item) program ts tree rest →
    rest ≡ []

-- Reading by a rule reads what the rule spells, and stops where the rule does.
abbrev pub ReadsExactly : {s : Sort} → Rule s → Type 0
ReadsExactly {s} r =
    (ts : List Terminal)
    → ((x : Value s) (rest : List Terminal) → reading r ts ≡ read x rest ↔ Spells s r ts x rest)
    × ((at : List Terminal) → reading r ts ≡ stuck at ↔ Stops s r ts at)

abbrev pub ReadingIsExact : Type 0
ReadingIsExact = (s : Sort) (r : Rule s) → is_sound r ≡ true → ReadsExactly r

-- ---- limits

-- a number is from 0 to the greatest of its width
abbrev pub NumberFits : Symbol → Type 0
NumberFits (symbol.Number value width) = KeepsLimit (literal value width)
NumberFits _ = Unit {0}

abbrev pub LiteralFits : Part → Type 0
LiteralFits (literal value width) = KeepsLimit (literal value width)
LiteralFits _ = Unit {0}

-- A program has two nodes at most for each of its terminals, and its literals fit where its numbers do.
abbrev pub NodesByTerminals : Type 0
NodesByTerminals =
    (ts : List Terminal) (tree : Tree) → All (λ t. NumberFits t.symbol) ts → IsProgram ts tree →
    number_of_nodes (parts_of_program tree) ≤ 2 * length ts

abbrev pub LiteralsFit : Type 0
LiteralsFit =
    (ts : List Terminal) (tree : Tree) → All (λ t. NumberFits t.symbol) ts → IsProgram ts tree →
    All LiteralFits (parts_of_program tree)

-- the numbers of a text do
abbrev pub NumbersOfText : Type 0
NumbersOfText =
    (text : List ℕ) (tokens : List Token) → All
    (λ t. place.Spells t.kind (spelling text t)) tokens →
    All (λ t. NumberFits t.symbol) (terminals text tokens)

-- what the tokens of a text stand for is known
abbrev pub AllKnown : Type 0
AllKnown =
    (text : List ℕ) (tokens : List Token) → All
    (λ t. place.Spells t.kind (spelling text t)) tokens →
    All (λ t. t.symbol ≢ symbol.Unknown) (terminals text tokens)

-- a text has no more tokens than bytes
abbrev pub TokensByBytes : Type 0
TokensByBytes =
    (text : List ℕ) (tokens : List Token) → Lexes text 0 1 (Ok tokens) → length tokens ≤ length text

-- A program of a text that isn't too long is within the limits, but for what it may have too many of.
abbrev pub LimitsButCounts : Type 0
LimitsButCounts =
    (ts : List Terminal) (tree : Tree) → IsProgram ts tree → All (λ t. NumberFits t.symbol) ts →
    length ts ≤ 1048576 → first_excess (parts_of_program tree) ≡ None → WithinLimits tree

-- What a program has too many of is counted by its terminals: two at most for each.
abbrev pub ExcessByTerminals : Type 0
ExcessByTerminals =
    (ts : List Terminal) (tree : Tree) (e : Excess) → All (λ t. NumberFits t.symbol) ts →
    IsProgram ts tree → first_excess (parts_of_program tree) ≡ Some e → e.count ≤ 2 * length ts
