-- Children of a partition whose sets share no point, by different colours, share none.
use Rattle.std.proofs.Common.{◌≡◌, ◌≢◌, ◌⊎◌, inl, inr, ⊎_elim, ℕ, zero, suc, ◌<◌, ℤ, pos, negsuc, List, [], ◌∷◌, map, Bool, true, false, ◌&&◌, Some, refl, sym, ap, ◌∙◌, subst, arith}
use Rattle.std.specs.Prelude.{length, slice_get, slice_index_or}
use Rattle.std.proofs.lemmas.Bool.{false≢true}
use Rattle.std.proofs.lemmas.Option.{none-some, same_Some}
use Rattle.partitions.specs.Laws.{NoneShared}
use Rattle.plain_values.specs.Points.{has, meets}
use Rattle.point_sets.proofs.Rising.{meets_at}
use Rattle.machine_terms.specs.declared.value.PartitionValue.{PartitionValue}
use Rattle.machine_terms.specs.declared.value.RegionValue.{RegionValue}
use Rattle.machine_terms.specs.Regions.{coloured, sets_of}

points_of : (rs : List RegionValue) (c : ℕ) (r : RegionValue) → slice_get rs c ≡ Some r →
    (slice_index_or (map (λ (q : RegionValue). q.points) rs) c [] ≡ r.points) × (c < length (map (λ (q : RegionValue). q.points) rs))
points_of [] c r e = absurd (none-some r e)
points_of (q ∷ rs) zero r e = (ap (λ (o : RegionValue). o.points) (same_Some q r e), omega arith)
points_of (q ∷ rs) (suc c) r e = let more = points_of rs c r e in (more.0, let l = more.1 in omega (arith, l))

other_way : (a b : ℕ) → a ≢ b → (a < b) ⊎ (b < a)
other_way zero zero n = absurd (n refl)
other_way zero (suc b) n = inl (omega arith)
other_way (suc a) zero n = inr (omega arith)
other_way (suc a) (suc b) n = ⊎_elim (λ l. inl (omega (arith, l))) (λ l. inr (omega (arith, l))) (other_way a b (λ e. n (ap suc e)))

both_have : (a b : Bool) → a ≡ true → b ≡ true → (a && b) ≡ true
both_have a b e f = subst (λ y. (y && b) ≡ true) (sym e) f

pub children_apart : (q : PartitionValue) → NoneShared (sets_of q) → (i j : ℤ) → i ≢ j → (r s : RegionValue) → coloured q.children i ≡ Some r →
    coloured q.children j ≡ Some s → (p : ℕ) → has r.points p ≡ true → has s.points p ≡ true → ⊥
children_apart q none (negsuc c) j n r s er es p hr hs = none-some r er
children_apart q none (pos c) (negsuc d) n r s er es p hr hs = none-some s es
children_apart q none (pos c) (pos d) n r s er es p hr hs =
    let a = points_of q.children c r er in
    let b = points_of q.children d s es in
    ⊎_elim
    (λ l. false≢true (sym (subst (λ xs. meets xs s.points ≡ false) a.0 (subst (λ ys. meets (slice_index_or (sets_of q) c []) ys ≡ false) b.0 (none c d l b.1)))
    ∙ meets_at r.points s.points p (both_have _ _ hr hs)))
    (λ l. false≢true (sym (subst (λ xs. meets xs r.points ≡ false) b.0 (subst (λ ys. meets (slice_index_or (sets_of q) d []) ys ≡ false) a.0 (none d c l a.1)))
    ∙ meets_at s.points r.points p (both_have _ _ hs hr)))
    (other_way c d (λ e. n (ap pos e)))
