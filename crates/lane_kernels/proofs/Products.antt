-- The product of integers is associative.
use Rattle.std.proofs.Common.{◌≡◌, ℕ, ◌*◌, zero, suc, ℤ, pos, negsuc, neg_ℤ, ◌*ℤ◌, Bool, true, false, ap, refl, sym, ◌∙◌, arith}
use Rattle.std.proofs.Math.Nat.{mul_assoc}

-- a number by its sign and size
abbrev signed : Bool → ℕ → ℤ
signed false n = pos n
signed true n = neg_ℤ (pos n)

abbrev differ : Bool → Bool → Bool
differ false b = b
differ true false = true
differ true true = false

signed-* : (s t : Bool) (m n : ℕ) → signed s m *ℤ signed t n ≡ signed (differ s t) (m * n)
signed-* false false m n = refl
signed-* false true m zero = let e : m * 0 ≡ 0 = omega arith in rw e refl
signed-* false true m (suc n) = refl
signed-* true false zero n = let e : 0 * n ≡ 0 = omega arith in rw e refl
signed-* true false (suc m) n = refl
signed-* true true zero zero = refl
signed-* true true zero (suc n) = let e : 0 * suc n ≡ 0 = omega arith in rw e refl
signed-* true true (suc m) zero = let e : suc m * 0 ≡ 0 = omega arith in rw e refl
signed-* true true (suc m) (suc n) = refl

differ_assoc : (r s t : Bool) → differ (differ r s) t ≡ differ r (differ s t)
differ_assoc false s t = refl
differ_assoc true false t = refl
differ_assoc true true false = refl
differ_assoc true true true = refl

signed_assoc : (r s t : Bool) (l m n : ℕ) → (signed r l *ℤ signed s m) *ℤ signed t n ≡ signed r l *ℤ (signed s m *ℤ signed t n)
signed_assoc r s t l m n =
    ap (λ z. z *ℤ signed t n) (signed-* r s l m) ∙ signed-* (differ r s) t (l * m) n ∙ ap (λ q. signed q (l * m * n)) (differ_assoc r s t)
    ∙ ap (signed (differ r (differ s t))) (mul_assoc l m n) ∙ sym (ap (λ z. signed r l *ℤ z) (signed-* s t m n) ∙ signed-* r (differ s t) l (m * n))

abbrev sign : ℤ → Bool
sign (pos n) = false
sign (negsuc n) = true

abbrev size : ℤ → ℕ
size (pos n) = n
size (negsuc n) = suc n

signed_is : (z : ℤ) → signed (sign z) (size z) ≡ z
signed_is (pos n) = refl
signed_is (negsuc n) = refl

pub *ℤ_assoc : (a b c : ℤ) → (a *ℤ b) *ℤ c ≡ a *ℤ (b *ℤ c)
*ℤ_assoc a b c =
    rw (← signed_is a, ← signed_is b, ← signed_is c) (signed_assoc (sign a) (sign b) (sign c) (size a) (size b) (size c))
