-- The graph lists each operation once.
use Rattle.std.proofs.Common.{◌≡◌, ◌∷◌, ◌∙◌, ℕ, List, [], ap, arith, filter, map, refl, subst, suc, sym, zero}
use Rattle.std.specs.Prelude.{Bool, true}
use Rattle.std.specs.List.{Contains}
use Rattle.std.specs.List.Sorted.{IsStrictlyIncreasing}
use Rattle.plain_values.specs.Points.{counted_from, has}
use Rattle.point_sets.proofs.Rising.{has_head, has_tail, rising-counted_from, rising-filter, rising_head, rising_tail}
use Rattle.region_finder.specs.Listings.{AreRising, Listed, listed_ops}
use Rattle.region_tree.specs.declared.tree.OpNumber.{OpNumber}
use Rattle.dependence_graph.specs.Knots.{number}

abbrev pub numbers_in : List OpNumber → List ℕ
numbers_in ks = map (λ (k : OpNumber). k.0) ks

pub op_there : (ls : List Listed) (x : Listed) → Contains ls x → has (numbers_in (listed_ops ls)) x.op.0 ≡ true
op_there [] x c = absurd (omega (arith, c.1))
op_there (l ∷ ls) x (zero, b, e) = ap (λ (y : Listed). has (numbers_in (listed_ops (l ∷ ls))) y.op.0) (sym e) ∙ has_head l.op.0 (numbers_in (listed_ops ls))
op_there (l ∷ ls) x (suc i, b, e) = has_tail x.op.0 l.op.0 (numbers_in (listed_ops ls)) (op_there ls x (i, omega (arith, b), e))

pub number_there : (ks : List OpNumber) (k : OpNumber) → Contains ks k → has (numbers_in ks) k.0 ≡ true
number_there [] k c = absurd (omega (arith, c.1))
number_there (x ∷ ks) k (zero, b, e) = ap (λ (y : OpNumber). has (numbers_in (x ∷ ks)) y.0) (sym e) ∙ has_head x.0 (numbers_in ks)
number_there (x ∷ ks) k (suc i, b, e) = has_tail k.0 x.0 (numbers_in ks) (number_there ks k (i, omega (arith, b), e))

by_number : (ls : List Listed) → AreRising (listed_ops ls) → (x y : Listed) → Contains ls x → Contains ls y → x.op.0 ≡ y.op.0 → x ≡ y
by_number [] r x y c d e = absurd (omega (arith, c.1))
by_number (l ∷ ls) r x y (zero, b, p) (zero, k, q) e = sym p ∙ q
by_number (l ∷ ls) r x y (zero, b, p) (suc j, k, q) e =
    let less = rising_head l.op.0 (numbers_in (listed_ops ls)) r y.op.0 (op_there ls y (j, omega (arith, k), q)) in
    let same = ap (λ (z : Listed). z.op.0) p in
    absurd (omega (arith, less, same, e))
by_number (l ∷ ls) r x y (suc i, b, p) (zero, k, q) e =
    let less = rising_head l.op.0 (numbers_in (listed_ops ls)) r x.op.0 (op_there ls x (i, omega (arith, b), p)) in
    let same = ap (λ (z : Listed). z.op.0) q in
    absurd (omega (arith, less, same, e))
by_number (l ∷ ls) r x y (suc i, b, p) (suc j, k, q) e =
    by_number ls (rising_tail l.op.0 (numbers_in (listed_ops ls)) r) x y (i, omega (arith, b), p) (j, omega (arith, k), q) e

pub of_numbers : (zs : List ℕ) → numbers_in (map number zs) ≡ zs
of_numbers [] = refl
of_numbers (z ∷ zs) = ap (λ ys. z ∷ ys) (of_numbers zs)

-- where these are some from 1 on, an operation has one entry
pub one_entry : (ls : List Listed) (p : ℕ → Bool) (n : ℕ) → listed_ops ls ≡ map number (filter p (counted_from 1 n)) →
    (x y : Listed) → Contains ls x → Contains ls y → x.op.0 ≡ y.op.0 → x ≡ y
one_entry ls p n e = by_number ls (subst AreRising (sym e)
    (subst IsStrictlyIncreasing (sym (of_numbers (filter p (counted_from 1 n)))) (rising-filter p (counted_from 1 n) (rising-counted_from 1 n))))
