-- Each token stands in the text where it says, on the line and of the kind that it says.
use Rattle.std.proofs.Common.{◌≡◌, ℕ, true, Bool, cond, ◌+◌, ◌-◌, ◌≤◌, ◌<◌, List, [], ◌∷◌}
use Rattle.std.proofs.Common.{◌++◌, length, take, drop, Result, Ok, Err, refl, sym, ap, ◌∙◌}
use Rattle.std.proofs.Common.{arith, drop-drop}
use Rattle.std.specs.Prelude.{All, IfOk, ◌==◌}
use Rattle.std.proofs.lemmas.List.{take_at, drop_at, length-append, length-drop}
use Rattle.std.proofs.lemmas.List.Elements.{All-nil, All-cons}
use Rattle.std.proofs.lemmas.List.Sums.{sum_by-append}
use Rattle.std.proofs.Math.Seq.{take-add}
use Rattle.std.specs.Global.{Vec}
use Rattle.regent_lex.specs.declared.token.Token.{Token}
use Rattle.regent_lex.specs.declared.token.TokenKind.{TokenKind}
use Rattle.regent_lex.specs.declared.fault.LexFault.{LexFault}
use Rattle.regent_lex.specs.Bytes.{feeds, next_is}
use Rattle.regent_lex.specs.Tokens.{IsToken, name, word, number, quoted, sign, two_byte_sign}
use Rattle.regent_lex.specs.Places.{spelling, Spells, IsWithin, IsOnLine}
use Rattle.regent_lex.specs.Texts.{Lexed, with_token, Lexes, ends, skips, takes, fails}
use Rattle.regent_lex.specs.Told.{Told}

record IsPlaced (text : List ℕ) (t : Token) : Type 0 where
  within : IsWithin text t
  line : IsOnLine text t
  kind : Spells t.kind (spelling text t)

abbrev ArePlaced : List ℕ → Lexed → Type 0
ArePlaced text (Ok ts) = All (IsPlaced text) ts
ArePlaced text (Err fault) = Unit {0}

-- the bytes before a place end on its line
record StandsAt (text here : List ℕ) (place line : ℕ) : Type 0 where
  rest : here ≡ drop place text
  within : place ≤ length text
  lines : line ≡ 1 + feeds (take place text)

-- one more token
one_more : (text : List ℕ) (t : Token) (out : Lexed) → IsPlaced text t → ArePlaced text out →
    ArePlaced text (with_token t out)
one_more text t (Ok ts) is all = All-cons (IsPlaced text) t ts is all
one_more text t (Err fault) is all = tt

-- a first byte is a byte
some_bytes : (p : ℕ → Bool) (bytes : List ℕ) → next_is p bytes ≡ true → 0 < length bytes
some_bytes p [] h = absurd cc
some_bytes p (b ∷ bytes) h = omega arith

-- a token has a byte or more
token_some : (kind : TokenKind) (bytes after : List ℕ) → IsToken kind bytes after → 0 < length bytes
token_some kind bytes after (name is r len) = some_bytes _ bytes is.first
token_some kind bytes after (word is r) = some_bytes _ bytes is.first
token_some kind bytes after (number {digits} {suffix} is small l f) =
    let some : 0 < length digits = some_bytes _ digits is.first in
    omega (arith, length-append digits suffix)
token_some kind bytes after (quoted is) = omega arith
token_some kind bytes after (sign h no_comment lone) = omega arith
token_some kind bytes after (two_byte_sign h) = omega arith

-- line feeds add up
feeds_append : (xs ys : List ℕ) → feeds (xs ++ ys) ≡ feeds xs + feeds ys
feeds_append xs ys = sum_by-append (λ b. cond (b == 10) 1 0) xs ys

-- from a place to the place behind more bytes
moves : (text bytes after : List ℕ) (place line : ℕ) → StandsAt text (bytes ++ after) place line →
    StandsAt text after (place + length bytes) (line + feeds bytes)
moves text bytes after place line at_place =
    let front : take (length bytes) (drop place text) ≡ bytes =
    rw (← at_place.rest) (take_at bytes after (length bytes) refl) in
    let behind : drop (length bytes) (drop place text) ≡ after =
    rw (← at_place.rest) (drop_at bytes after (length bytes) refl) in
    record {
      rest = sym behind ∙ drop-drop (length bytes) place text;
      within =
          omega (arith, ap length at_place.rest, length-append bytes after, length-drop place text);
      lines =
          rw (
            at_place.lines,
            take-add place (length bytes) text,
            front,
            feeds_append (take place text) bytes,
          ) (omega arith);
    }

-- all tokens that are read from a place are placed
placed : (text here : List ℕ) (place line : ℕ) (out : Lexed) → Lexes here place line out →
    StandsAt text here place line → ArePlaced text out
placed text here place line out ends at_place = All-nil (IsPlaced text)
placed text here place line out (skips {bytes} {after} is d) at_place =
    placed text after (place + length bytes) (line + feeds bytes) out d
    (moves text bytes after place line at_place)
placed text here place line all (takes {kind} {bytes} {after} {out = out} is d) at_place =
    let next = moves text bytes after place line at_place in
    let some = token_some kind bytes after is in
    let spelt : take (place + length bytes - place) (drop place text) ≡ bytes =
    rw (← at_place.rest) (take_at bytes after (place + length bytes - place) (omega arith)) in
    one_more text
    (record { kind = kind; start = place; end = place + length bytes; line = line }) out
    (record {
      within = (omega arith, next.within);
      line = at_place.lines;
      kind = (after, rw spelt is);
    })
    (placed text after (place + length bytes) (line + feeds bytes) out d next)
placed text here place line out (fails is) at_place = tt

all_placed : (text : List ℕ) (out : Lexed) → Lexes text 0 1 out → ArePlaced text out
all_placed text out d =
    placed text text 0 1 out d (record { rest = refl; within = omega arith; lines = refl })

-- the clause within of the call
pub all_within : (text : List ℕ) (r : Result (Vec Token) LexFault) →
    Told (λ out. Lexes text 0 1 out) r →
    IfOk r (λ ts. All (IsWithin text) ts.items)
all_within text (Ok v) d = let all = all_placed text (Ok v.items) d in λ k t lt. (all k t lt).within
all_within text (Err fault) d = tt

-- the clause lines of the call
pub all_on_line : (text : List ℕ) (r : Result (Vec Token) LexFault) →
    Told (λ out. Lexes text 0 1 out) r →
    IfOk r (λ ts. All (IsOnLine text) ts.items)
all_on_line text (Ok v) d = let all = all_placed text (Ok v.items) d in λ k t lt. (all k t lt).line
all_on_line text (Err fault) d = tt

-- the clause kinds of the call
pub all_spelt : (text : List ℕ) (r : Result (Vec Token) LexFault) →
    Told (λ out. Lexes text 0 1 out) r →
    IfOk r (λ ts. All (λ t. Spells t.kind (spelling text t)) ts.items)
all_spelt text (Ok v) d = let all = all_placed text (Ok v.items) d in λ k t lt. (all k t lt).kind
all_spelt text (Err fault) d = tt
