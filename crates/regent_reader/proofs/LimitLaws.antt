-- What is read is within the limits.
use Rattle.std.proofs.Common.{◌≡◌, ℕ, ◌*◌, ◌≤◌, List, None, All, length, Result, Ok, Err, IfOk, subst, sym, arith}
use Rattle.std.proofs.lemmas.List.{length-map}
use Rattle.regent_lex.specs.declared.token.Token.{Token}
use Rattle.regent_lex.specs.Places as place
use Rattle.regent_lex.specs.Places.{spelling}
use Rattle.regent_lex.specs.Texts.{Lexes}
use Rattle.regent_tree.specs.declared.program.Program.{Program}
use Rattle.regent_tree.specs.Limits.{WithinLimits, first_excess, parts_of_program}
use Rattle.regent_tree.specs.PlainProgram.{tree_of}
use Rattle.regent_tree.specs.Syntax.{Tree}
use Rattle.regent_grammar.specs.declared.symbol.Terminal.{Terminal}
use Rattle.regent_grammar.specs.Derivations.{IsProgram}
use Rattle.regent_grammar.specs.Terminals.{terminals}
use Rattle.regent_grammar.proofs.LimitLaws as grammar
use Rattle.regent_reader.specs.declared.fault.ReadFault.{ReadFault}
use Rattle.regent_reader.specs.Texts.{AreWithin, HasSmallCounts}

pub within_limits : (ls : List Terminal) (tree : Tree) → AreWithin ls → IsProgram ls tree → first_excess (parts_of_program tree) ≡ None → WithinLimits tree
within_limits ls tree within p none = grammar.limits_but_counts ls tree p within.numbers within.short none

pub small_counts : (ls : List Terminal) (tree : Tree) → AreWithin ls → IsProgram ls tree → HasSmallCounts tree
small_counts ls tree within p = λ e is.
    let few : e.count ≤ 2 * length ls = grammar.excess_by_terminals ls tree e within.numbers p is in
    let short : length ls ≤ 1048576 = within.short in
    omega arith

-- the terminals of a text are few, and their numbers fit
pub terminals_within : (text : List ℕ) (tokens : List Token) (ls : List Terminal) → ls ≡ terminals text tokens → length text ≤ 1048576 → Lexes text 0 1 (Ok tokens) →
    All (λ t. place.Spells t.kind (spelling text t)) tokens → AreWithin ls
terminals_within text tokens ls is short lexes spells = rw is record {
  numbers = grammar.numbers_of_text text tokens spells;
  short = let few : length tokens ≤ length text = grammar.tokens_by_bytes text tokens lexes in rw length-map (omega arith);
}

-- a program that was counted is within the limits
pub counted_within : (ls : List Terminal) (tree : Tree) (r : Result Program ReadFault) → AreWithin ls → IsProgram ls tree →
    IfOk r (λ p. (tree_of p ≡ tree) × (first_excess (parts_of_program tree) ≡ None)) → IfOk r (λ p. WithinLimits (tree_of p))
counted_within ls tree (Ok p) within is h = subst (λ (t : Tree). WithinLimits t) (sym h.0) (within_limits ls tree within is h.1)
counted_within ls tree (Err fault) within is h = tt
