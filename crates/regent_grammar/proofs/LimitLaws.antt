-- A program has two nodes at most for each terminal, and its literals are those of its terminals.
use Rattle.std.proofs.Common.{◌≡◌, ℕ, ◌*◌, ◌^◌, ◌<◌, ◌≤◌, Bool, true, false}
use Rattle.std.proofs.Common.{nat_le, if◌then◌else◌, List, [], ◌∷◌, Option, Some, None, All, length}
use Rattle.std.proofs.Common.{refl, arith, ◌+◌, ◌++◌, Ok, Err}
use Rattle.std.proofs.lemmas.List.{length-append}
use Rattle.std.proofs.lemmas.Bool.{leb-true, leb-false}
use Rattle.std.proofs.Common.{suc, cond, nat_lt, ap}
use Rattle.regent_tree.specs.declared.limits.Counted.{Counted}
use Rattle.regent_tree.specs.declared.limits.Excess.{Excess}
use Rattle.regent_tree.specs.Limits.{node, literal, counted, most, first_excess, KeepsLimit}
use Rattle.std.proofs.lemmas.List.Elements.{All-nil, All-cons, All-head, All-tail}
use Rattle.lane_kernels.specs.declared.numbers.Width.TheVariants.{W32, W64}
use Rattle.regent_lex.specs.declared.token.Token.{Token}
use Rattle.regent_lex.specs.declared.token.TokenKind.{TokenKind}
use Rattle.regent_lex.specs.declared.token.TokenKind.TheVariants as kind
use Rattle.regent_lex.specs.Bytes.{is_letter, is_digit, next_is}
use Rattle.regent_lex.specs.Places as place
use Rattle.regent_lex.specs.Texts as text
use Rattle.regent_lex.specs.Texts.{Lexes, Lexed, with_token}
use Rattle.regent_lex.specs.Tokens as token
use Rattle.regent_lex.specs.Tokens.{IsToken}
use Rattle.regent_lex.specs.Places.{spelling}
use Rattle.regent_lex.specs.Values.{number_value, has_suffix}
use Rattle.regent_lex.proofs.Spelt.{number_small}
use Rattle.regent_tree.specs.Syntax.{Tree}
use Rattle.regent_tree.specs.Limits.{Part, parts_of_items}
use Rattle.regent_tree.specs.Limits.{parts_of_program, greatest_literal}
use Rattle.regent_grammar.specs.declared.symbol.Terminal.{Terminal}
use Rattle.regent_lex.specs.declared.tables.Mark.{Mark}
use Rattle.regent_lex.specs.declared.tables.Word.{Word}
use Rattle.regent_grammar.specs.Terminals.{terminals, terminal_of, symbol_of, word_symbol, mark_symbol}
use Rattle.regent_lex.specs.Tables.{mark_of, word_of}
use Rattle.regent_grammar.specs.Terminals.{number_width}
use Rattle.regent_grammar.specs.Derivations.{IsProgram}
use Rattle.regent_grammar.specs.Laws as law
use Rattle.regent_grammar.specs.Laws.{NumberFits, LiteralFits}
use Rattle.regent_grammar.proofs.Sizes.{Counts, tasks_counted, spaces_counted, Keeps, AllFit, items_kept}
use Rattle.regent_grammar.proofs.Prices.{AllNumbersFit, sized}
use Rattle.regent_grammar.proofs.PricedStatements.{named_priced, program'}

numbers_fit : (ts : List Terminal) → All (λ t. NumberFits t.symbol) ts → AllNumbersFit ts
numbers_fit [] h = tt
numbers_fit (t ∷ ts)
    h = (
      All-head (λ (u : Terminal). NumberFits u.symbol) t ts h,
      numbers_fit ts
          (All-tail (λ (u : Terminal). NumberFits u.symbol) t ts h),
    )

all_fit : (ps : List Part) → AllFit ps → All LiteralFits ps
all_fit [] h = All-nil LiteralFits
all_fit (p ∷ ps) h = All-cons LiteralFits p ps h.0 (all_fit ps h.1)

program_kept : (ts : List Terminal) (tree : Tree) → AllNumbersFit ts → IsProgram ts tree →
    Keeps 0 (parts_of_items tree) (2 * length ts)
program_kept ts tree h p = items_kept tree (2 * length ts)
    (sized p named_priced h program' (2 * length ts) (omega arith))

pub literals_fit : law.LiteralsFit
literals_fit ts tree h p = all_fit (parts_of_program tree)
    (tt, (tt, (program_kept ts tree (numbers_fit ts h) p).1))

pub nodes_by_terminals : law.NodesByTerminals
nodes_by_terminals ts tree h p =
    let k = (program_kept ts tree (numbers_fit ts h) p).0 in omega arith

-- ---- within the limits

kept_on : (what : Counted) (n : ℕ) (later : Option Excess) (b : Bool) → nat_lt (most what) n ≡ b →
    cond b (Some (record { what = what; count = n })) later ≡ None → (n ≤ most what) × (later ≡ None)
kept_on what n later true e h = absurd cc
kept_on what n later false e h =
    let k : n < suc (most what) = leb-false (suc (most what)) n e in (omega arith, h)

all_kept : (ps : List Part) → AllFit ps → first_excess ps ≡ None → All KeepsLimit ps
all_kept [] h e = All-nil KeepsLimit
all_kept (node ∷ ps) h e = All-cons KeepsLimit node ps tt (all_kept ps h.1 e)
all_kept (literal v w ∷ ps) h e = All-cons KeepsLimit (literal v w) ps h.0 (all_kept ps h.1 e)
all_kept (counted what n ∷ ps) h e =
    let k = kept_on what n (first_excess ps) (nat_lt (most what) n) refl e in
    All-cons KeepsLimit (counted what n) ps k.0 (all_kept ps h.1 k.1)

pub limits_but_counts : law.LimitsButCounts
limits_but_counts ts tree p h short e =
    let k = program_kept ts tree (numbers_fit ts h) p in
    let n = k.0 in
    record {
      each = all_kept (parts_of_program tree) (tt, (tt, k.1)) e;
      nodes = omega arith;
    }

-- ---- what there is too much of

some_count : (e d : Excess) → Some e ≡ Some d → e.count ≡ d.count
some_count e d h = ap count_in h
  where
    count_in : Option Excess → ℕ
    count_in None = e.count
    count_in (Some x) = x.count

excess_on : (what : Counted) (c n : ℕ) (later : Option Excess) (e : Excess) (b : Bool) → c ≤ n →
    (later ≡ Some e → e.count ≤ n) →
    cond b (Some (record { what = what; count = c })) later ≡ Some e → e.count ≤ n
excess_on what c n later e true l f h =
    let k : c ≡ e.count = some_count (record { what = what; count = c }) e h in omega arith
excess_on what c n later e false l f h = f h

excess_counted : (ps : List Part) (n : ℕ) (e : Excess) → Counts ps n → first_excess ps ≡ Some e →
    e.count ≤ n
excess_counted [] n e k h = absurd cc
excess_counted (node ∷ ps) n e k h = excess_counted ps n e k h
excess_counted (literal v w ∷ ps) n e k h = excess_counted ps n e k h
excess_counted (counted what c ∷ ps) n e k h =
    excess_on what c n (first_excess ps) e (nat_lt (most what) c) k.0
    (λ g. excess_counted ps n e k.1 g) h

pub excess_by_terminals : law.ExcessByTerminals
excess_by_terminals ts tree e h p x =
    let size = sized p named_priced (numbers_fit ts h) program' (2 * length ts) (omega arith) in
    let kept = items_kept tree (2 * length ts) size in
    excess_counted (parts_of_program tree) (2 * length ts) e
    (tasks_counted tree (2 * length ts) size, (spaces_counted tree (2 * length ts) size, kept.2)) x

-- ---- the numbers of a text

narrow_or_wide : (n : ℕ) → n < 2 ^ 63 → (b : Bool) → nat_le n 2147483647 ≡ b →
    n ≤ greatest_literal (if b then W32 else W64)
narrow_or_wide n h true e = let k : n ≤ 2147483647 = leb-true n 2147483647 e in omega arith
narrow_or_wide n h false e = omega arith

width_fits : (n : ℕ) → n < 2 ^ 63 → (suffix : Bool) → n ≤ greatest_literal (number_width n suffix)
width_fits n h true = omega arith
width_fits n h false = narrow_or_wide n h (nat_le n 2147483647) refl

word_fits : (o : Option Word) → NumberFits (word_symbol o)
word_fits None = tt
word_fits (Some w) = tt

mark_fits : (o : Option Mark) → NumberFits (mark_symbol o)
mark_fits None = tt
mark_fits (Some m) = tt

symbol_fits : (k : TokenKind) (bytes : List ℕ) → place.Spells k bytes →
    NumberFits (symbol_of k bytes)
symbol_fits kind.Name bytes h = tt
symbol_fits kind.Word bytes h = word_fits (word_of bytes)
symbol_fits kind.Number bytes h = (
  number_value bytes,
  refl,
  width_fits (number_value bytes) (number_small bytes h)
      (has_suffix bytes),
)
symbol_fits kind.Quoted bytes h = tt
symbol_fits kind.Sign bytes h = mark_fits (mark_of bytes)

pub numbers_of_text : law.NumbersOfText
numbers_of_text text [] h = All-nil (λ (t : Terminal). NumberFits t.symbol)
numbers_of_text text (t ∷ ts) h =
    All-cons (λ (u : Terminal). NumberFits u.symbol) (terminal_of text t) (terminals text ts)
    (symbol_fits t.kind (spelling text t) (All-head
    (λ (u : Token). place.Spells u.kind (spelling text u)) t ts h))
    (numbers_of_text text
    ts (All-tail (λ (u : Token). place.Spells u.kind (spelling text u)) t ts h))

-- ---- tokens and bytes

identifier_has_a_byte : (bytes : List ℕ) → next_is is_letter bytes ≡ true → 1 ≤ length bytes
identifier_has_a_byte [] h = absurd cc
identifier_has_a_byte (b ∷ bs) h = omega arith

digits_have_a_byte : (bytes : List ℕ) → next_is is_digit bytes ≡ true → 1 ≤ length bytes
digits_have_a_byte [] h = absurd cc
digits_have_a_byte (b ∷ bs) h = omega arith

token_has_a_byte : {k : TokenKind} {bytes after : List ℕ} → IsToken k bytes after → 1 ≤ length bytes
token_has_a_byte (token.name {bytes = bytes} h r l) = identifier_has_a_byte bytes h.first
token_has_a_byte (token.word {bytes = bytes} h r) = identifier_has_a_byte bytes h.first
token_has_a_byte (token.number {digits = digits} {suffix = suffix} h v l f) =
    let d : 1 ≤ length digits = digits_have_a_byte digits h.first in
    let e : length (digits ++ suffix) ≡ length digits + length suffix = length-append digits suffix in
    omega arith
token_has_a_byte (token.quoted h) = omega arith
token_has_a_byte (token.sign s d e) = omega arith
token_has_a_byte (token.two_byte_sign e) = omega arith

-- tokens of a text, if it has some, are no more than so many
abbrev AtMost : Lexed → ℕ → Type 0
AtMost (Ok ts) n = length ts ≤ n
AtMost (Err fault) n = Unit {0}

at_most_more : (out : Lexed) (n m : ℕ) → AtMost out n → n ≤ m → AtMost out m
at_most_more (Ok ts) n m h k = omega arith
at_most_more (Err fault) n m h k = tt

one_more : (t : Token) (out : Lexed) (n m : ℕ) → AtMost out n → n + 1 ≤ m → AtMost (with_token t out) m
one_more t (Ok ts) n m h k = omega arith
one_more t (Err fault) n m h k = tt

tokens_at_most : {text : List ℕ} {place line : ℕ} {out : Lexed} → Lexes text place line out → AtMost out (length text)
tokens_at_most text.ends = omega arith
tokens_at_most (text.skips {bytes = bytes} {after = after} {out = out} h p) =
    let e : length (bytes ++ after) ≡ length bytes + length after = length-append bytes after in
    at_most_more out (length after) (length (bytes ++ after)) (tokens_at_most p) (omega arith)
tokens_at_most (text.takes {bytes = bytes} {after = after} {out = out} h p) =
    let e : length (bytes ++ after) ≡ length bytes + length after = length-append bytes after in
    let b : 1 ≤ length bytes = token_has_a_byte h in
    one_more _ out (length after) (length (bytes ++ after)) (tokens_at_most p) (omega arith)
tokens_at_most (text.fails h) = tt

pub tokens_by_bytes : law.TokensByBytes
tokens_by_bytes text tokens h = tokens_at_most h
