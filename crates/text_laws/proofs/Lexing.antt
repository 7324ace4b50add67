-- What the scanner finds in turn in a text, up to so many input elements, is what the text comes to.
use Rattle.std.proofs.Common.{◌≡◌, ◌+◌, List, None, Ok, Option, Some, [], drop, length, refl, subst, sym, take, zero, suc, ◌∷◌, ℕ, ◌≤◌}
use Rattle.std.proofs.lemmas.List.{length-take-le, take-append-drop}
use Rattle.regent_lex.specs.Begins.{Begins}
use Rattle.regent_lex.specs.Bytes.{feeds}
use Rattle.regent_lex.specs.Scan.{element_at}
use Rattle.regent_lex.specs.Texts.{Lexed, Lexes, ends, skips, takes, with_token}
use Rattle.regent_lex.specs.Tokens.{IsToken}
use Rattle.regent_lex.specs.declared.input_element.InputElement.{InputElement}
use Rattle.regent_lex.specs.declared.input_element.InputElement.TheVariants.{Fault, Token, Trivia}
use Rattle.regent_lex.specs.declared.token.TokenKind.{TokenKind}
use Rattle.regent_lex.proofs.Sound.{element_begins}
use Rattle.written_trees.proofs.Expressions.{some_is}

abbrev behind : TokenKind → ℕ → ℕ → ℕ → Option Lexed → Option Lexed
behind kind place line n None = None
behind kind place line n (Some later) = Some (with_token (record { kind = kind; start = place; end = place + n; line = line }) later)

-- what scans the rest of a text, from a place and a line on
abbrev Scan : Type 0
Scan = List ℕ → ℕ → ℕ → Option Lexed

abbrev element_scanned : Scan → InputElement → Scan
element_scanned rest (Trivia n) text place line = rest (drop n text) (place + n) (line + feeds (take n text))
element_scanned rest (Token kind n) text place line = behind kind place line n (rest (drop n text) (place + n) (line + feeds (take n text)))
element_scanned rest (Fault kind n) text place line = None

-- what is found by so many; nothing is told of faults here
abbrev pub scanned : ℕ → Scan
scanned zero text place line = None
scanned (suc count) [] place line = Some (Ok [])
scanned (suc count) (b ∷ bytes) place line = element_scanned (scanned count) (element_at b bytes) (b ∷ bytes) place line

-- a token and what is lexed behind it
taken : (kind : TokenKind) (text : List ℕ) (place line n : ℕ) (out : Lexed) → n ≤ length text → IsToken kind (take n text) (drop n text) →
    Lexes (drop n text) (place + n) (line + feeds (take n text)) out →
    Lexes text place line (with_token (record { kind = kind; start = place; end = place + n; line = line }) out)
taken kind text place line n out fits is later =
    subst (λ m. Lexes (drop n text) (place + m) (line + feeds (take n text)) out →
    Lexes text place line (with_token (record { kind = kind; start = place; end = place + m; line = line }) out))
    (length-take-le n text fits)
    (λ d. subst (λ t. Lexes t place line (with_token (record { kind = kind; start = place; end = place + length (take n text); line = line }) out))
    (take-append-drop n text) (takes is d))
    later

-- what a scan finds the text comes to
abbrev IsLexing : Scan → Type 0
IsLexing scan = (text : List ℕ) (place line : ℕ) (out : Lexed) → scan text place line ≡ Some out → Lexes text place line out

token_lexes : (kind : TokenKind) (n : ℕ) (text : List ℕ) (place line : ℕ) (out : Lexed) → Begins (Token kind n) text → (found : Option Lexed) →
    ((later : Lexed) → found ≡ Some later → Lexes (drop n text) (place + n) (line + feeds (take n text)) later) →
    behind kind place line n found ≡ Some out → Lexes text place line out
token_lexes kind n text place line out begins None lexes e = absurd cc
token_lexes kind n text place line out begins (Some later) lexes e =
    subst (Lexes text place line) (some_is e) (taken kind text place line n later begins.1 begins.2 (lexes later refl))

element_lexes : (rest : Scan) → IsLexing rest → (found : InputElement) (text : List ℕ) (place line : ℕ) (out : Lexed) → Begins found text →
    element_scanned rest found text place line ≡ Some out → Lexes text place line out
element_lexes rest lexing (Trivia n) text place line out begins e =
    subst (λ t. Lexes t place line out) (take-append-drop n text) (skips begins.2
    (subst (λ m. Lexes (drop n text) (place + m) (line + feeds (take n text)) out) (sym (length-take-le n text begins.1))
    (lexing (drop n text) (place + n) (line + feeds (take n text)) out e)))
element_lexes rest lexing (Token kind n) text place line out begins e =
    token_lexes kind n text place line out begins (rest (drop n text) (place + n) (line + feeds (take n text)))
    (lexing (drop n text) (place + n) (line + feeds (take n text))) e
element_lexes rest lexing (Fault kind n) text place line out begins e = absurd cc

pub scanned_lexes : (count : ℕ) → IsLexing (scanned count)
scanned_lexes zero text place line out e = absurd cc
scanned_lexes (suc count) [] place line out e = subst (Lexes [] place line) (some_is e) ends
scanned_lexes (suc count) (b ∷ bytes) place line out e =
    element_lexes (scanned count) (scanned_lexes count) (element_at b bytes) (b ∷ bytes) place line out (element_begins b bytes) e
