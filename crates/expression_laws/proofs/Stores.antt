-- Regions without points lie in every store.
use Rattle.std.proofs.Common.{arith, [], false, ℕ, ℤ, zero, suc, pos, negsuc}
use Rattle.std.specs.List.Sorted.{IsStrictlyIncreasing}
use Rattle.regent_tree.specs.Values.{no_region}
use Rattle.fact_laws.specs.Regions.{IsIn, child_at}
use Rattle.expression_laws.specs.Sound.{IsInStore, no_partition}

pub nothing_in : (root p : ℕ) → IsIn no_region root p → ⊥
nothing_in root p is = absurd cc

pub no_child : (c : ℤ) (root p : ℕ) → IsIn (child_at (record { root = 0; disjoint = false; sets = [] }) c) root p → ⊥
no_child (pos c) root p is = absurd cc
no_child (negsuc c) root p is = absurd cc

pub none_in_store : (count : ℕ) → IsInStore count no_region
none_in_store count = record { below = λ root p is. absurd (nothing_in root p is); rising = λ k l. absurd (omega (arith, l)) }

pub child_in_store : (count : ℕ) (c : ℤ) → IsInStore count (child_at no_partition c)
child_in_store count c = record { below = λ root p is. absurd (no_child c root p is); rising = rising c }
  where
    rising : (c : ℤ) → IsStrictlyIncreasing (child_at no_partition c).points
    rising (pos zero) = λ k l. absurd (omega (arith, l))
    rising (pos (suc c)) = λ k l. absurd (omega (arith, l))
    rising (negsuc c) = λ k l. absurd (omega (arith, l))
