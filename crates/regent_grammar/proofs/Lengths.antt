-- What is left is no longer than the text, and shorter where the rule takes a terminal.
use Rattle.std.proofs.Common.{◌≤◌, ◌<◌, Bool, true, false, ◌&&◌, ◌||◌, List, length, subst, arith}
use Rattle.regent_grammar.specs.declared.symbol.Terminal.{Terminal}
use Rattle.regent_grammar.specs.Symbols.{Test}
use Rattle.regent_grammar.specs.Rules.{Sort, Value, Rule}
use Rattle.regent_grammar.specs.Guards.{takes}
use Rattle.regent_grammar.specs.Derivations.{Spells, is_given, is_here, is_one, is_both, is_first, is_second, is_many, is_used, SpellsMany, no_more, one_more}
use Rattle.regent_grammar.proofs.Rulings.{named_takes}

abbrev pub Less : Bool → List Terminal → List Terminal → Type 0
Less true rest ts = length rest < length ts
Less false rest ts = length rest ≤ length ts

pub at_most : (b : Bool) (rest ts : List Terminal) → Less b rest ts → length rest ≤ length ts
at_most true rest ts h = omega arith
at_most false rest ts h = h

less_both : (a b : Bool) (ts mid rest : List Terminal) → Less a mid ts → Less b rest mid →
    Less (a || b) rest ts
less_both true true ts mid rest h k = omega arith
less_both true false ts mid rest h k = omega arith
less_both false true ts mid rest h k = omega arith
less_both false false ts mid rest h k = omega arith

less_first : (a b : Bool) (ts rest : List Terminal) → Less a rest ts → Less (a && b) rest ts
less_first true true ts rest h = h
less_first true false ts rest h = omega arith
less_first false b ts rest h = h

less_second : (a b : Bool) (ts rest : List Terminal) → Less b rest ts → Less (a && b) rest ts
less_second true b ts rest h = h
less_second false true ts rest h = omega arith
less_second false false ts rest h = h

mutual
  unfolding takes

  pub shrinks : {s : Sort} {r : Rule s} {ts : List Terminal} {x : Value s} {rest : List Terminal} →
      Spells s r ts x rest → Less (takes r) rest ts
  shrinks is_given = omega arith
  shrinks is_here = omega arith
  shrinks (is_one h) = omega arith
  shrinks (is_both {r =
      r} {q = q} {ts = ts} {mid = mid} {rest = rest} p k) = less_both (takes r) (takes q) ts mid rest (shrinks p) (shrinks k)
  shrinks (is_first {r =
      r} {q = q} {ts = ts} {rest = rest} h p) = less_first (takes r) (takes q) ts rest (shrinks p)
  shrinks (is_second {r =
      r} {q = q} {ts = ts} {rest = rest} h p) = less_second (takes r) (takes q) ts rest (shrinks p)
  shrinks (is_many p) = many_shrinks p
  shrinks (is_used {n =
      n} {ts = ts} {rest = rest} p) = subst (λ b. Less b rest ts) (named_takes n) (shrinks p)

  pub many_shrinks : {s : Sort} {test : Test} {r : Rule s} {ts : List Terminal} {xs : List (Value s)} {rest : List Terminal} → SpellsMany s test r ts xs rest → length rest ≤ length ts
  many_shrinks (no_more h) = omega arith
  many_shrinks (one_more {r = r} {ts = ts} {mid = mid} {rest = rest} h p k) =
      let a : length mid ≤ length ts = at_most (takes r) mid ts (shrinks p) in let b : length rest ≤ length mid = many_shrinks k in omega arith
