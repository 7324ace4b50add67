-- A text comes to one thing alone.
use Rattle.std.proofs.Common.{◌≡◌, ℕ, List, [], Result, Ok, Err, Option, Some, None, refl, sym, ap, subst, length, ◌≤◌, ◌∙◌, arith}
use Rattle.std.specs.Prelude.{MatchOption}
use Rattle.regent_lex.specs.Texts.{Lexed}
use Rattle.regent_lex.proofs.Reading as lex
use Rattle.regent_tree.specs.declared.program.Program.{Program}
use Rattle.regent_tree.specs.Syntax.{Tree}
use Rattle.regent_grammar.specs.declared.symbol.Terminal.{Terminal}
use Rattle.regent_grammar.specs.Derivations.{IsProgram, IsNoProgram}
use Rattle.regent_grammar.specs.Items as item
use Rattle.regent_grammar.specs.Terminals.{terminals}
use Rattle.regent_grammar.specs.Reading.{read, reading, stuck}
use Rattle.regent_grammar.proofs.Facts.{program_sound}
use Rattle.regent_grammar.proofs.Laws as grammar
use Rattle.regent_reader.specs.declared.fault.ReadFault.{ReadFault}
use Rattle.regent_reader.specs.declared.fault.ReadFault.TheVariants.{TooLong, Lex, TooDeep, NoProgram, TooMany, Memory}
use Rattle.regent_grammar.specs.Nesting.{too_deep}
use Rattle.regent_reader.specs.Laws.{OneOutcome}
use Rattle.regent_reader.specs.Texts.{Outcome, Answers, Has, IsLexed, RefusesTokens, Parses, is_tree, is_none, Nests, OfTokens, Reads, is_long, has_tokens, line_at, counted_program}

one_parse : (text : List ℕ) (ls : List Terminal) (a b : Outcome) → Parses text ls a → Parses text ls b → a ≡ b
one_parse text ls a b (is_tree {tree = t} p) (is_tree {tree = u} q) = ap counted_program (grammar.one_tree ls t u p q)
one_parse text ls a b (is_tree {tree = t} p) (is_none {at = at} q) = absurd (grammar.never_both ls at t p q)
one_parse text ls a b (is_none {at = at} p) (is_tree {tree = u} q) = absurd (grammar.never_both ls at u q p)
one_parse text ls a b (is_none {at = at} p) (is_none {at = other} q) =
    ap (λ (o : List Terminal). Err (NoProgram (line_at text o))) (grammar.one_place_each ls at other p q)

one_nesting : (text : List ℕ) (ls : List Terminal) (deep : Option ℕ) (a b : Outcome) →
    MatchOption deep (Parses text ls a) (λ line. a ≡ Err (TooDeep line)) → MatchOption deep (Parses text ls b) (λ line. b ≡ Err (TooDeep line)) → a ≡ b
one_nesting text ls None a b p q = one_parse text ls a b p q
one_nesting text ls (Some line) a b p q = p ∙ sym q

of_tokens : (text : List ℕ) (lexed : Lexed) (a b : Outcome) → OfTokens text lexed a → OfTokens text lexed b → a ≡ b
of_tokens text (Ok tokens) a b p q = one_nesting text (terminals text tokens) (too_deep (terminals text tokens)) a b p q
of_tokens text (Err fault) a b p q = p ∙ sym q

pub one_outcome : OneOutcome
one_outcome text a b (is_long p) (is_long q) = refl
one_outcome text a b (is_long p) (has_tokens q r s) = absurd (omega arith)
one_outcome text a b (has_tokens q r s) (is_long p) = absurd (omega arith)
one_outcome text a b (has_tokens {lexed = lexed} p l h) (has_tokens {lexed = other} q m k) =
    let same : other ≡ lexed = lex.one_outcome m l in
    of_tokens text lexed a b h (subst (λ (x : Lexed). OfTokens text x b) same k)

-- so the answer is what the text comes to
pub answers_only : (text : List ℕ) (r : Result Program ReadFault) → Answers (Reads text) r → (outcome : Outcome) → Reads text outcome → Has outcome r
answers_only text (Ok program) h outcome q = one_outcome text _ outcome h q
answers_only text (Err TooLong) h outcome q = one_outcome text _ outcome h q
answers_only text (Err (Lex kind line)) h outcome q = one_outcome text _ outcome h q
answers_only text (Err (TooDeep line)) h outcome q = one_outcome text _ outcome h q
answers_only text (Err (NoProgram line)) h outcome q = one_outcome text _ outcome h q
answers_only text (Err (TooMany what count)) h outcome q = one_outcome text _ outcome h q
answers_only text (Err (Memory error)) h outcome q = tt

-- ---- the outcome on the way there

pub answers_by : {P Q : Outcome → Type 0} (r : Result Program ReadFault) → ((outcome : Outcome) → P outcome → Q outcome) → Answers P r → Answers Q r
answers_by (Ok program) by h = by _ h
answers_by (Err TooLong) by h = by _ h
answers_by (Err (Lex kind line)) by h = by _ h
answers_by (Err (TooDeep line)) by h = by _ h
answers_by (Err (NoProgram line)) by h = by _ h
answers_by (Err (TooMany what count)) by h = by _ h
answers_by (Err (Memory error)) by h = tt

pub parses_tree : (text : List ℕ) (ls : List Terminal) (tree : Tree) (r : Result Program ReadFault) → IsProgram ls tree →
    Answers (λ outcome. outcome ≡ counted_program tree) r → Answers (Parses text ls) r
parses_tree text ls tree r is h = answers_by r (λ (outcome : Outcome) e. subst (λ (o : Outcome). Parses text ls o) {y = outcome} (sym e) (is_tree is)) h

pub reads_nested : (text : List ℕ) (ls : List Terminal) (r : Result Program ReadFault) → length text ≤ 1048576 → IsLexed text ls →
    Answers (Nests text ls) r → Answers (Reads text) r
reads_nested text ls r fits of h =
    answers_by r (λ outcome n. has_tokens fits of.lexed (subst (λ (ms : List Terminal). Nests text ms outcome) of.same n)) h

pub reads_no_tokens : (text : List ℕ) (fault : ReadFault) → length text ≤ 1048576 → RefusesTokens text fault → Answers (Reads text) (Err fault)
reads_no_tokens text TooLong fits h = absurd h
reads_no_tokens text (Lex kind line) fits h = has_tokens fits h refl
reads_no_tokens text (TooDeep line) fits h = absurd h
reads_no_tokens text (NoProgram line) fits h = absurd h
reads_no_tokens text (TooMany what count) fits h = absurd h
reads_no_tokens text (Memory error) fits h = tt

-- reading gives the program, or the place at which the terminals stop
pub read_is_program : (ls : List Terminal) (tree : Tree) → reading item.program ls ≡ read tree [] → IsProgram ls tree
read_is_program ls tree h = ((grammar.reading_is_exact _ item.program program_sound ls).0 tree []).0 h

pub stuck_is_none : (ls at : List Terminal) → reading item.program ls ≡ stuck at → IsNoProgram ls at
stuck_is_none ls at h = ((grammar.reading_is_exact _ item.program program_sound ls).1 at).0 h
