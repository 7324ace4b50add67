-- The outcome of a text: the tree of the program that it spells, or the first reason why it isn't
-- one.
use Rattle.std.specs.Prelude.{◌≡◌, ◌==◌, ◌^◌, ℕ, suc, ◌<◌, ◌≤◌, List, [], ◌∷◌, Option, Some, None, Result, Ok, Err, All, MatchOption, filter, length}
use Rattle.regent_lex.specs.declared.token.Token.{Token}
use Rattle.regent_lex.specs.Texts.{Lexed, Lexes}
use Rattle.regent_tree.specs.declared.limits.Excess.{Excess}
use Rattle.regent_tree.specs.declared.program.Program.{Program}
use Rattle.regent_tree.specs.Limits.{first_excess, parts_of_program}
use Rattle.regent_tree.specs.PlainProgram.{tree_of}
use Rattle.regent_tree.specs.Syntax.{Tree}
use Rattle.regent_grammar.specs.declared.symbol.Terminal.{Terminal}
use Rattle.regent_grammar.specs.Laws.{NumberFits}
use Rattle.regent_grammar.specs.Derivations.{IsProgram, IsNoProgram}
use Rattle.regent_grammar.specs.Terminals.{terminals}
use Rattle.regent_grammar.specs.Nesting.{too_deep}
use Rattle.regent_reader.specs.declared.fault.ReadFault.{ReadFault}
use Rattle.regent_reader.specs.declared.fault.ReadFault.TheVariants.{TooLong, Lex, TooDeep, NoProgram, TooMany, Memory}

abbrev pub Outcome : Type 0
Outcome = Result Tree ReadFault

-- the most bytes of a text
abbrev pub text_limit : ℕ
text_limit = 1048576

-- the line on which a text ends: the number of its line feeds (10) plus one
abbrev pub last_line : List ℕ → ℕ
last_line text = suc (length (filter (λ b. b == 10) text))

-- the line of the first of these terminals, or of the text's end if there are none
abbrev pub line_at : List ℕ → List Terminal → ℕ
line_at text [] = last_line text
line_at text (t ∷ ts) = t.line

-- a tree, unless it has too many of something
abbrev pub counted : Tree → Option Excess → Outcome
counted tree None = Ok tree
counted tree (Some e) = Err (TooMany e.what e.count)

abbrev pub counted_program : Tree → Outcome
counted_program tree = counted tree (first_excess (parts_of_program tree))

-- the outcome of terminals: their tree, or the line of the first that no production takes
pub data Parses (text : List ℕ) (ls : List Terminal) : Outcome → Type 0 where
  is_tree : {tree : Tree} → IsProgram ls tree → Parses text ls (counted_program tree)
  is_none : {at : List Terminal} → IsNoProgram ls at →
      Parses text ls (Err (NoProgram (line_at text at)))

-- the same after a test of the nesting over all of them
abbrev pub Nests : List ℕ → List Terminal → Outcome → Type 0
Nests text ls outcome =
    MatchOption (too_deep ls) (Parses text ls outcome) (λ line. outcome ≡ Err (TooDeep line))

-- the outcome of tokens, or of the first fault in their place
abbrev pub OfTokens : List ℕ → Lexed → Outcome → Type 0
OfTokens text (Ok tokens) outcome = Nests text (terminals text tokens) outcome
OfTokens text (Err fault) outcome = outcome ≡ Err (Lex fault.0 fault.1)

-- the outcome of a text
pub data Reads (text : List ℕ) : Outcome → Type 0 where
  is_long : text_limit < length text → Reads text (Err TooLong)
  has_tokens : {lexed : Lexed} {outcome : Outcome} → length text ≤ text_limit →
      Lexes text 0 1 lexed → OfTokens text lexed outcome → Reads text outcome

-- ---- the result of a call

-- P holds for the outcome, or memory ran out
abbrev pub Answers : (Outcome → Type 0) → Result Program ReadFault → Type 0
Answers P (Ok program) = P (Ok (tree_of program))
Answers P (Err (Memory error)) = Unit {0}
Answers P (Err fault) = P (Err fault)

-- this outcome, or memory ran out
abbrev pub Has : Outcome → Result Program ReadFault → Type 0
Has outcome result = Answers (λ other. other ≡ outcome) result

-- ---- intermediate results

-- these are the terminals of the text
pub record IsLexed (text : List ℕ) (ls : List Terminal) : Type 0 where
  pub tokens : List Token
  pub lexed : Lexes text 0 1 (Ok tokens)
  pub same : ls ≡ terminals text tokens

-- the number of terminals is within the text's limit, and their numbers fit their widths
pub record AreWithin (ls : List Terminal) : Type 0 where
  pub numbers : All (λ (t : Terminal). NumberFits t.symbol) ls
  pub short : length ls ≤ text_limit

-- a count of the tree that is over its limit fits in 32 bits
abbrev pub HasSmallCounts : Tree → Type 0
HasSmallCounts tree =
    (e : Excess) → first_excess (parts_of_program tree) ≡ Some e → e.count < 2 ^ 32

-- the text has no tokens, or memory ran out
abbrev pub RefusesTokens : List ℕ → ReadFault → Type 0
RefusesTokens text (Lex kind line) = Lexes text 0 1 (Err (kind, line))
RefusesTokens text (Memory error) = Unit {0}
RefusesTokens text fault = ⊥
