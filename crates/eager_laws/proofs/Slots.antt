-- Which slots children are pending in, when a slot is filled.
use Rattle.std.proofs.Common.{◌≡◌, ℕ, zero, suc, ◌<◌, ◌≤◌, ℤ, List, [], ◌∷◌, Bool, true, false, Option, Some, None, refl, sym, ap, ◌∙◌, subst, map, option_map, arith}
use Rattle.std.specs.Prelude.{slice_get, slice_set, length}
use Rattle.std.proofs.lemmas.Bool.{false≢true}
use Rattle.machine_terms.specs.declared.value.Value.{Value}
use Rattle.machine_terms.specs.declared.value.Value.TheVariants.{Number, Space, Region, Partition, Pending}
use Rattle.machine_terms.specs.Calls.{is_pending}
use Rattle.eager_laws.specs.Steps.{known}
use Rattle.eager_laws.specs.Pendings.{ArePutAway}
use Rattle.eager_laws.proofs.Seeing.{known_settled, slot_known}

abbrev pub waits : Option Value → Bool
waits None = false
waits (Some v) = is_pending v

abbrev pub child : Option Value → ℕ
child (Some (Pending n)) = n
child _ = 0

-- by a value that isn't pending
pub settled_put : (for_results : ℕ → Bool) (k : ℕ) (xs : List Value) (s : ℕ) (v : Value) → is_pending v ≡ false →
    ArePutAway for_results k xs → ArePutAway for_results k (slice_set xs s v)
settled_put for_results k [] s v q h = h
settled_put for_results k (x ∷ xs) zero v q h = by
  where
    by : ArePutAway for_results k (v ∷ xs)
    by zero n e = absurd (false≢true (sym q ∙ ap waits e))
    by (suc j) n e = h (suc j) n e
settled_put for_results k (x ∷ xs) (suc s) v q h =
    by (settled_put (λ i. for_results (suc i)) k xs s v q (λ i m d. h (suc i) m d))
  where
    by : ArePutAway (λ i. for_results (suc i)) k (slice_set xs s v) → ArePutAway for_results k (x ∷ slice_set xs s v)
    by r zero n e = h zero n e
    by r (suc j) n e = r j n e

-- by a child, where the slot is for results
pub child_put : (for_results : ℕ → Bool) (k : ℕ) (xs : List Value) (s n : ℕ) → for_results s ≡ true → n < k →
    ArePutAway for_results k xs → ArePutAway for_results k (slice_set xs s (Pending n))
child_put for_results k [] s n p l h = h
child_put for_results k (x ∷ xs) zero n p l h = by
  where
    by : ArePutAway for_results k (Pending n ∷ xs)
    by zero m e = (p, subst (λ i. i < k) (ap child e) l)
    by (suc j) m e = h (suc j) m e
child_put for_results k (x ∷ xs) (suc s) n p l h =
    by (child_put (λ i. for_results (suc i)) k xs s n p l (λ i m d. h (suc i) m d))
  where
    by : ArePutAway (λ i. for_results (suc i)) k (slice_set xs s (Pending n)) →
        ArePutAway for_results k (x ∷ slice_set xs s (Pending n))
    by r zero m e = h zero m e
    by r (suc j) m e = r j m e

-- a slot that isn't for results is seen as it is
pub apart_slot : (rs : List ℤ) (for_results : ℕ → Bool) (k : ℕ) (xs : List Value) (s : ℕ) → for_results s ≡ false →
    ArePutAway for_results k xs → slice_get (map (known rs) xs) s ≡ slice_get xs s
apart_slot rs for_results k xs s p h = slot_known rs xs s ∙ by (slice_get xs s) refl
  where
    by : (o : Option Value) → slice_get xs s ≡ o → option_map (known rs) o ≡ o
    by None e = refl
    by (Some (Number z)) e = refl
    by (Some (Space n)) e = refl
    by (Some (Region r)) e = refl
    by (Some (Partition q)) e = refl
    by (Some (Pending n)) e = absurd (false≢true (sym p ∙ (h s n e).0))
