-- A text is read input element after input element, and in one way.
use Rattle.std.proofs.Common.{◌≡◌, ℕ, ◌+◌, ◌≤◌, List, [], ◌∷◌, ◌++◌, length, take, drop}
use Rattle.std.proofs.Common.{Option, Some, None, Result, Ok, Err, refl, sym, ap, subst, ◌∙◌}
use Rattle.std.proofs.Common.{append_assoc, drop-drop}
use Rattle.std.proofs.lemmas.List.{take-append-drop, take_at, drop_at, append-nil, length-take-le}
use Rattle.std.specs.Global.{Vec}
use Rattle.regent_lex.specs.declared.token.Token.{Token}
use Rattle.regent_lex.specs.declared.token.TokenKind.{TokenKind}
use Rattle.regent_lex.specs.declared.input_element.InputElement.{InputElement}
use Rattle.regent_lex.specs.declared.input_element.InputElement.TheVariants as input_element
use Rattle.regent_lex.specs.declared.fault.LexKind.{LexKind}
use Rattle.regent_lex.specs.declared.fault.LexFault.{LexFault}
use Rattle.regent_lex.specs.declared.fault.LexFault.TheVariants.{At, Memory}
use Rattle.regent_lex.specs.Bytes.{feeds}
use Rattle.regent_lex.specs.Begins.{Begins}
use Rattle.regent_lex.specs.Scan.{first_element}
use Rattle.regent_lex.specs.Texts.{Lexed, with_token, Lexes, ends, skips, takes, fails}
use Rattle.regent_lex.specs.Told.{Told}
use Rattle.regent_lex.proofs.Complete.{trivia_found, token_found, fault_found}

-- ---- a text has one outcome

-- what the first input element of a text leaves to be told
abbrev After : Option InputElement → List ℕ → ℕ → ℕ → Lexed → Type 0
After None text place line out = out ≡ Ok []
After (Some (input_element.Trivia n)) text place line out =
    Lexes (drop n text) (place + n) (line + feeds (take n text)) out
After (Some (input_element.Token kind n)) text place line out =
    (later : Lexed) × Lexes (drop n text) (place + n) (line + feeds (take n text)) later
    × (out ≡ with_token (record { kind = kind; start = place; end = place + n; line = line }) later)
After (Some (input_element.Fault kind n)) text place line out =
    out ≡ Err (kind, line + feeds (take n text))

-- an outcome of a text is what its first input element leaves
after_first : {text : List ℕ} {place line : ℕ} {out : Lexed} → Lexes text place line out →
    After (first_element text) text place line out
after_first ends = refl
after_first (skips {bytes} {after} is d) =
    rw (
      trivia_found bytes after is,
      take_at bytes after (length bytes) refl,
      drop_at bytes after (length bytes) refl,
    ) d
after_first (takes {kind} {bytes} {after} {out = out} is d) =
    rw (
      token_found kind bytes after is,
      take_at bytes after (length bytes) refl,
      drop_at bytes after (length bytes) refl,
    ) (out, d, refl)
after_first (fails {kind} {bytes} {after} is) =
    rw (fault_found kind bytes after is, take_at bytes after (length bytes) refl) refl

-- a text has one outcome at most
pub one_outcome : {text : List ℕ} {place line : ℕ} {a b : Lexed} →
    Lexes text place line a → Lexes text place line b → a ≡ b
one_outcome ends e = sym (after_first e)
one_outcome (skips {bytes} {after} is d) e =
    let h =
    rw (
      trivia_found bytes after is,
      take_at bytes after (length bytes) refl,
      drop_at bytes after (length bytes) refl,
    ) at (after_first e) in
    one_outcome d h
one_outcome (takes {kind} {bytes} {after} is d) e =
    let h =
    rw (
      token_found kind bytes after is,
      take_at bytes after (length bytes) refl,
      drop_at bytes after (length bytes) refl,
    ) at (after_first e) in
    ap (with_token _) (one_outcome d h.1) ∙ sym h.2
one_outcome (fails {kind} {bytes} {after} is) e =
    let h =
    rw (fault_found kind bytes after is, take_at bytes after (length bytes) refl) at (after_first e)
    in
    sym h

-- what is told is the one outcome
pub told_only : (text : List ℕ) (r : Result (Vec Token) LexFault) (out : Lexed) →
    Lexes text 0 1 out →
    Told (λ t. Lexes text 0 1 t) r → Told (λ t. t ≡ out) r
told_only text (Ok v) out d h = one_outcome h d
told_only text (Err (At kind line)) out d h = one_outcome h d
told_only text (Err (Memory e)) out d h = tt

-- ---- the loop over a text

abbrev pub with_tokens : List Token → Lexed → Lexed
with_tokens ts (Ok us) = Ok (ts ++ us)
with_tokens ts (Err fault) = Err fault

-- so many tokens are told, and what is told from the place and the line on is told behind them
abbrev pub SoFar : List Token → List ℕ → ℕ → ℕ → Type 0
SoFar ts text place line =
    (out : Lexed) → Lexes (drop place text) place line out → Lexes text 0 1 (with_tokens ts out)

-- at the text's begin nothing is told
pub begins_so_far : (text : List ℕ) → SoFar [] text 0 1
begins_so_far text (Ok ts) d = d
begins_so_far text (Err e) d = d

-- a token before the rest is one behind those before it
regroup : (ts : List Token) (t : Token) (out : Lexed) →
    with_tokens ts (with_token t out) ≡ with_tokens (ts ++ t ∷ []) out
regroup ts t (Ok us) = ap (λ vs. Ok vs) (sym (append_assoc ts (t ∷ []) us))
regroup ts t (Err e) = refl

-- what is told behind n more bytes, as the constructors of Lexes take it
behind : (text : List ℕ) (place line n : ℕ) (out : Lexed) → n ≤ length (drop place text) →
    Lexes (drop (place + n) text) (place + n) (line + feeds (take n (drop place text))) out →
    Lexes (drop n (drop place text)) (place + length (take n (drop place text)))
    (line + feeds (take n (drop place text))) out
behind text place line n out le d =
    rw (length-take-le n (drop place text) le, drop-drop n place text) d

trivia_on : (ts : List Token) (text : List ℕ) (place line n : ℕ) →
    Begins (input_element.Trivia n) (drop place text) →
    SoFar ts text place line → SoFar ts text (place + n) (line + feeds (take n (drop place text)))
trivia_on ts text place line n is so_far = λ out d.
    so_far out
    (subst (λ (rest : List ℕ). Lexes rest place line out) (take-append-drop n (drop place text))
    (skips is.2 (behind text place line n out is.1 d)))

-- one more blank or comment
pub trivia_so_far : (ts : List Token) (text here : List ℕ) (place line n : ℕ) →
    here ≡ drop place text →
    Begins (input_element.Trivia n) here → SoFar ts text place line →
    SoFar ts text (place + n) (line + feeds (take n here))
trivia_so_far ts text here place line n is begins so_far =
    rw is (trivia_on ts text place line n (rw is at begins) so_far)

token_on : (ts : List Token) (text : List ℕ) (place line n : ℕ) (kind : TokenKind) →
    Begins (input_element.Token kind n) (drop place text) → SoFar ts text place line →
    SoFar (ts ++ record { kind = kind; start = place; end = place + n; line = line } ∷ []) text
    (place + n)
    (line + feeds (take n (drop place text)))
token_on ts text place line n kind is so_far = λ out d.
    let here : List ℕ = drop place text in
    let t : Token = record { kind = kind; start = place; end = place + n; line = line } in
    let whole : Lexes here place line
    (with_token
    (record { kind = kind; start = place; end = place + length (take n here); line = line }) out) =
    subst (λ (rest : List ℕ). Lexes rest place line
    (with_token
    (record { kind = kind; start = place; end = place + length (take n here); line = line }) out))
    (take-append-drop n here)
    (takes is.2 (behind text place line n out is.1 d)) in
    let told : Lexes here place line (with_token t out) =
    subst (λ (m : ℕ). Lexes here place line
    (with_token (record { kind = kind; start = place; end = place + m; line = line }) out))
    (length-take-le n here is.1) whole in
    subst (λ (o : Lexed). Lexes text 0 1 o) (regroup ts t out) (so_far _ told)

-- one more token
pub token_so_far : (ts : List Token) (text here : List ℕ) (place line n : ℕ) (kind : TokenKind) →
    here ≡ drop place text → Begins (input_element.Token kind n) here → SoFar ts text place line →
    SoFar (ts ++ record { kind = kind; start = place; end = place + n; line = line } ∷ []) text
    (place + n)
    (line + feeds (take n here))
token_so_far ts text here place line n kind is begins so_far =
    rw is (token_on ts text place line n kind (rw is at begins) so_far)

-- a fault ends the text
pub fault_told : (ts : List Token) (text here : List ℕ) (place line n : ℕ) (kind : LexKind) →
    here ≡ drop place text → Begins (input_element.Fault kind n) here → SoFar ts text place line →
    Lexes text 0 1 (Err (kind, line + feeds (take n here)))
fault_told ts text here place line n kind is begins so_far =
    so_far (Err (kind, line + feeds (take n here)))
    (subst (λ (rest : List ℕ). Lexes rest place line (Err (kind, line + feeds (take n here))))
    (take-append-drop n here ∙ is) (fails begins.1))

-- the end of the text ends it
pub end_told : (ts : List Token) (text here : List ℕ) (place line : ℕ) → here ≡ drop place text →
    here ≡ [] → SoFar ts text place line → Lexes text 0 1 (Ok ts)
end_told ts text here place line is empty so_far =
    let nothing : drop place text ≡ [] = sym is ∙ empty in
    subst (λ (us : List Token). Lexes text 0 1 (Ok us)) (append-nil ts)
    (so_far (Ok []) (rw nothing ends))
