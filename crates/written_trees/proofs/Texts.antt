-- The trees that texts spell are written.
use Rattle.std.specs.Prelude.{MatchOption}
use Rattle.regent_reader.specs.declared.fault.ReadFault.TheVariants.{TooDeep}
use Rattle.std.proofs.Common.{◌≡◌, Err, List, None, Ok, Option, Some, [], inl, inr, map, subst, sym, ◌∷◌, ℕ}
use Rattle.regent_tree.proofs.Members.{Has, Has-from_Contains}
use Rattle.regent_tree.specs.Limits.{first_excess, parts_of_program}
use Rattle.regent_tree.specs.Syntax.{ItemForm, ItemTree, Tree, task_item}
use Rattle.regent_tree.specs.declared.limits.Excess.{Excess}
use Rattle.regent_lex.specs.Texts.{Lexed}
use Rattle.regent_grammar.specs.declared.symbol.Terminal.{Terminal}
use Rattle.regent_grammar.specs.Derivations.{IsProgram}
use Rattle.regent_grammar.specs.Nesting.{too_deep}
use Rattle.regent_grammar.specs.Rules.{Sort}
use Rattle.regent_grammar.specs.Terminals.{terminals}
use Rattle.regent_reader.specs.Texts.{Nests, OfTokens, Outcome, Parses, Reads, counted, has_tokens, is_long, is_none, is_tree}
use Rattle.expression_laws.specs.WrittenStatements.{AreWrittenTasks}
use Rattle.written_trees.specs.Laws.{ReadTreesAreWritten}
use Rattle.written_trees.proofs.Statements.{all_write, program'}
use Rattle.written_trees.proofs.Writings.{IsWrittenItem, Written, written}

-- ---- the tree that terminals spell

each_written : (tree : Tree) → Written (Sort.listed Sort.item) tree → (form : ItemForm) → Has (map (λ (i : ItemTree). i.form) tree) form → IsWrittenItem form
each_written [] h form has = absurd has
each_written (i ∷ tree) h form (inl e) = subst IsWrittenItem e h.0
each_written (i ∷ tree) h form (inr has) = each_written tree h.1 form has

program_written : (ts : List Terminal) (tree : Tree) → IsProgram ts tree → AreWrittenTasks tree
program_written ts tree spelt t stands =
    each_written tree (written spelt all_write program') (task_item t) (Has-from_Contains (map (λ (i : ItemTree). i.form) tree) (task_item t) stands)

-- ---- the tree that a text spells

-- where the outcome is a tree, that tree has written tasks
abbrev IsWrittenOutcome : Outcome → Type 0
IsWrittenOutcome (Ok tree) = AreWrittenTasks tree
IsWrittenOutcome (Err fault) = Unit {0}

counted_written : (tree : Tree) (e : Option Excess) → AreWrittenTasks tree → IsWrittenOutcome (counted tree e)
counted_written tree None h = h
counted_written tree (Some e) h = tt

parsed_written : (text : List ℕ) (ts : List Terminal) (outcome : Outcome) → Parses text ts outcome → IsWrittenOutcome outcome
parsed_written text ts _ (is_tree {tree = tree} spelt) = counted_written tree (first_excess (parts_of_program tree)) (program_written ts tree spelt)
parsed_written text ts _ (is_none stops) = tt

nested_written : (text : List ℕ) (ts : List Terminal) (outcome : Outcome) → Nests text ts outcome → IsWrittenOutcome outcome
nested_written text ts outcome = by (too_deep ts)
  where
    by : (deep : Option ℕ) → MatchOption deep (Parses text ts outcome) (λ line. outcome ≡ Err (TooDeep line)) → IsWrittenOutcome outcome
    by None parses = parsed_written text ts outcome parses
    by (Some line) e = subst IsWrittenOutcome (sym e) tt

tokens_written : (text : List ℕ) (lexed : Lexed) (outcome : Outcome) → OfTokens text lexed outcome → IsWrittenOutcome outcome
tokens_written text (Ok tokens) outcome nests = nested_written text (terminals text tokens) outcome nests
tokens_written text (Err fault) outcome e = subst IsWrittenOutcome (sym e) tt

outcome_written : (text : List ℕ) (outcome : Outcome) → Reads text outcome → IsWrittenOutcome outcome
outcome_written text _ (is_long long) = tt
outcome_written text _ (has_tokens {lexed = lexed} {outcome = outcome} short lexes of) = tokens_written text lexed outcome of

pub read_trees_are_written : ReadTreesAreWritten
read_trees_are_written text tree reads = outcome_written text (Ok tree) reads
