-- The trees that texts spell are within the limits.
use Rattle.std.specs.Prelude.{MatchOption}
use Rattle.std.proofs.Common.{◌≡◌, ◌≤◌, ◌+◌, ◌-◌, ◌++◌, ◌∙◌, All, Err, List, None, Ok, Option, Some, arith, drop, drop-drop, length, refl, subst, sym, take, ℕ}
use Rattle.std.proofs.lemmas.List.{drop_at, take_at}
use Rattle.std.proofs.lemmas.List.Elements.{All-cons, All-nil}
use Rattle.regent_tree.specs.Limits.{WithinLimits, first_excess, parts_of_program}
use Rattle.regent_tree.specs.Syntax.{Tree}
use Rattle.regent_tree.specs.declared.limits.Excess.{Excess}
use Rattle.regent_lex.specs.Places.{Spells, spelling}
use Rattle.regent_lex.specs.Texts.{Lexed, Lexes, ends, fails, skips, takes, with_token}
use Rattle.regent_lex.specs.declared.token.Token.{Token}
use Rattle.regent_grammar.specs.declared.symbol.Terminal.{Terminal}
use Rattle.regent_grammar.specs.Nesting.{too_deep}
use Rattle.regent_grammar.specs.Terminals.{terminals}
use Rattle.regent_reader.specs.declared.fault.ReadFault.TheVariants.{TooDeep}
use Rattle.regent_reader.specs.Texts.{AreWithin, Nests, OfTokens, Outcome, Parses, Reads, counted, has_tokens, is_long, is_none, is_tree}
use Rattle.regent_reader.proofs.LimitLaws.{terminals_within, within_limits}
use Rattle.written_trees.specs.Laws.{ReadTreesAreWithin}

-- ---- each token is spelt by its bytes

abbrev AreSpelt : List ℕ → Lexed → Type 0
AreSpelt text (Ok ts) = All (λ t. Spells t.kind (spelling text t)) ts
AreSpelt text (Err fault) = Unit {0}

one_more : (text : List ℕ) (t : Token) (out : Lexed) → Spells t.kind (spelling text t) → AreSpelt text out → AreSpelt text (with_token t out)
one_more text t (Ok ts) is all = All-cons (λ u. Spells u.kind (spelling text u)) t ts is all
one_more text t (Err fault) is all = tt

behind : (text bytes after : List ℕ) (place : ℕ) → bytes ++ after ≡ drop place text → after ≡ drop (place + length bytes) text
behind text bytes after place at_place =
    let here : drop (length bytes) (drop place text) ≡ after = rw (← at_place) (drop_at bytes after (length bytes) refl) in
    sym here ∙ drop-drop (length bytes) place text

spelt : (text here : List ℕ) (place line : ℕ) (out : Lexed) → Lexes here place line out → here ≡ drop place text → AreSpelt text out
spelt text here place line out ends at_place = All-nil (λ t. Spells t.kind (spelling text t))
spelt text here place line out (skips {bytes} {after} is d) at_place = spelt text after _ _ out d (behind text bytes after place at_place)
spelt text here place line all (takes {kind} {bytes} {after} {out = out} is d) at_place =
    let bytes_are : take (place + length bytes - place) (drop place text) ≡ bytes =
    rw (← at_place) (take_at bytes after (place + length bytes - place) (omega arith)) in
    one_more text (record { kind = kind; start = place; end = place + length bytes; line = line }) out (after, rw bytes_are is)
    (spelt text after _ _ out d (behind text bytes after place at_place))
spelt text here place line out (fails is) at_place = tt

-- ---- the tree that a text spells

-- where the outcome is a tree, that tree is within the limits
abbrev IsWithinOutcome : Outcome → Type 0
IsWithinOutcome (Ok tree) = WithinLimits tree
IsWithinOutcome (Err fault) = Unit {0}

counted_within : (tree : Tree) (e : Option Excess) → (e ≡ None → WithinLimits tree) → IsWithinOutcome (counted tree e)
counted_within tree None h = h refl
counted_within tree (Some e) h = tt

parsed_within : (text : List ℕ) (ts : List Terminal) (outcome : Outcome) → AreWithin ts → Parses text ts outcome → IsWithinOutcome outcome
parsed_within text ts _ few (is_tree {tree = tree} spelt) =
    counted_within tree (first_excess (parts_of_program tree)) (λ none. within_limits ts tree few spelt none)
parsed_within text ts _ few (is_none stops) = tt

nested_within : (text : List ℕ) (ts : List Terminal) (outcome : Outcome) → AreWithin ts → Nests text ts outcome → IsWithinOutcome outcome
nested_within text ts outcome few = by (too_deep ts)
  where
    by : (deep : Option ℕ) → MatchOption deep (Parses text ts outcome) (λ line. outcome ≡ Err (TooDeep line)) → IsWithinOutcome outcome
    by None parses = parsed_within text ts outcome few parses
    by (Some line) e = subst IsWithinOutcome (sym e) tt

tokens_within : (text : List ℕ) (lexed : Lexed) (outcome : Outcome) → length text ≤ 1048576 → Lexes text 0 1 lexed →
    OfTokens text lexed outcome → IsWithinOutcome outcome
tokens_within text (Ok tokens) outcome short lexes nests = nested_within text (terminals text tokens) outcome
    (terminals_within text tokens (terminals text tokens) refl short lexes (spelt text text 0 1 (Ok tokens) lexes refl)) nests
tokens_within text (Err fault) outcome short lexes e = subst IsWithinOutcome (sym e) tt

outcome_within : (text : List ℕ) (outcome : Outcome) → Reads text outcome → IsWithinOutcome outcome
outcome_within text _ (is_long long) = tt
outcome_within text _ (has_tokens {lexed = lexed} {outcome = outcome} short lexes of) = tokens_within text lexed outcome short lexes of

pub read_trees_are_within : ReadTreesAreWithin
read_trees_are_within text tree reads = outcome_within text (Ok tree) reads
